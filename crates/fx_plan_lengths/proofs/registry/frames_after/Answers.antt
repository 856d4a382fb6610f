-- Written by scripts/effects from effects/*.toml. Do not edit.
-- How many frames the effect of each variant makes.
use Rattle.std.proofs.Common.{◌≡◌, ◌-◌, length, arith}
use Rattle.fx_plan_effects.specs.Effects.{act}
use Rattle.fx_plan_lengths.proofs.Made.{rest_unchanged}
use Rattle.fx_plan_lengths.proofs.registry.frames_after.Goals as goal
use Rattle.fx_cut.specs.TrimState.{kept_count}
use Rattle.fx_tap_delays.proofs.MaxDelay.{largest-filled}

pub returns-in-Trim : goal.returns-in-Trim
returns-in-Trim c =
    let kept : c.kept.result ≡ kept_count c.in-Trim.positions.items c.args.frames c.args.frames = rw c.deref.ensures at c.kept.ensures in
    rest_unchanged (act c.args.effect.now) c.args.frames c.kept.result (rw c.in-Trim.is (omega (arith, kept)))

pub returns-in-Pad : goal.returns-in-Pad
returns-in-Pad c =
    let silent = rw c.deref-in-Pad.ensures at c.silence.ensures in
    rest_unchanged (act c.args.effect.now) c.args.frames c.saturating_add.result (rw c.in-Pad.is (omega (arith, silent)))

pub returns-in-Delay : goal.returns-in-Delay
returns-in-Delay c =
    let line = rw c.in-Delay.is at c.requires.lined in
    let same = largest-filled c.in-Delay.field-0.items (1 - length c.in-Delay.field-0.items) in
    rest_unchanged (act c.args.effect.now) c.args.frames c.saturating_add-in-Delay.result (rw c.in-Delay.is (omega (arith, line, same)))

pub returns-in-Echo : goal.returns-in-Echo
returns-in-Echo c =
    let line = rw c.in-Echo.is at c.requires.lined in
    rest_unchanged (act c.args.effect.now) c.args.frames c.saturating_add-in-Echo.result (rw c.in-Echo.is (omega (arith, line)))

pub returns-in-Echos : goal.returns-in-Echos
returns-in-Echos c =
    let line = rw c.in-Echos.is at c.requires.lined in
    rest_unchanged (act c.args.effect.now) c.args.frames c.saturating_add-in-Echos.result (rw c.in-Echos.is (omega (arith, line)))

pub returns-in-Fade : goal.returns-in-Fade
returns-in-Fade c =
    rest_unchanged (act c.args.effect.now) c.args.frames c.before_stop.result (rw c.in-Fade.is (omega arith))

pub returns-in-Vol : goal.returns-in-Vol
returns-in-Vol c = rest_unchanged (act c.args.effect.now) c.args.frames c.args.frames (rw c.in-Vol.is (omega arith))

pub returns-in-DcShift : goal.returns-in-DcShift
returns-in-DcShift c = rest_unchanged (act c.args.effect.now) c.args.frames c.args.frames (rw c.in-DcShift.is (omega arith))

pub returns-in-Fir : goal.returns-in-Fir
returns-in-Fir c = rest_unchanged (act c.args.effect.now) c.args.frames c.args.frames (rw c.in-Fir.is (omega arith))

pub returns-in-Remix : goal.returns-in-Remix
returns-in-Remix c = rest_unchanged (act c.args.effect.now) c.args.frames c.args.frames (rw c.in-Remix.is (omega arith))

pub returns-in-Upsample : goal.returns-in-Upsample
returns-in-Upsample c =
    let product = rw c.from.ensures at c.saturating_mul.ensures in
    rest_unchanged (act c.args.effect.now) c.args.frames c.saturating_mul.result (rw c.in-Upsample.is (omega (arith, product)))

pub returns-in-Downsample : goal.returns-in-Downsample
returns-in-Downsample c =
    let quotient = rw c.from-in-Downsample.ensures at c.div_ceil.ensures in
    rest_unchanged (act c.args.effect.now) c.args.frames c.div_ceil.result (rw c.in-Downsample.is (omega (arith, quotient)))
