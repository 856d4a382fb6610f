use Rattle.std.proofs.Common.{rules, ◌≡◌, ◌+◌, ◌-◌, ◌*◌, ◌≤◌, ℕ, List, length, take, drop, ap, ◌∙◌, arith, map, ℤ}
use Rattle.std.proofs.Math.Nat.{mul-le-mul_left}
use Rattle.std.proofs.lemmas.Grind.{common_steps}
use Rattle.fx_fixed.specs.Extents.{largest}
use Rattle.fx_tap_delays.specs.DelayExtents.{tap_delay}
use Rattle.fx_frame_base.specs.Lists.{pieces}
use Rattle.fx_frame_line.specs.Line.{Frames, pushed_all}
use Rattle.fx_tap_delays.specs.Echo.{EchoArguments, echo_with}
use Rattle.fx_tap_delays.specs.EchoState.{echo_taps}
use Rattle.fx_tap_delays.specs.Near.{taps-near}
use Rattle.fx_tap_delays.proofs.Groups.{counted-more, group-end, group-put, group-read, group-rest, made-more, same-line}
use Rattle.fx_tap_delays.proofs.echo.PreparedEchoTapsMany.tap_many.Goals as goal

pub slice_bounds-frames-end : goal.slice_bounds-frames-end
slice_bounds-frames-end c =
    let free = rw (← c.self.view_is) at c.requires.input in
    group-end c.self.inside.channels c.pieces.done c.min-now.result c.args.count _ (omega arith) free

pub slice_bounds-tap_piece-end : goal.slice_bounds-tap_piece-end
slice_bounds-tap_piece-end c =
    let free = rw (← c.self.view_is) at c.requires.output in
    group-end c.self.inside.channels c.pieces.done c.min-now.result c.args.count _ (omega arith) (omega (arith, free, c.pieces.auto.output))

pub pieces-preserved : goal.pieces-preserved
pieces-preserved c =
    let a : EchoArguments = echo_with c.self.inside.channels c.self.inside.gain_in c.self.inside.gain_out c.self.inside.taps.items in
    let ch : ℕ = c.self.inside.channels in
    let done : ℕ = c.pieces.done in
    let n : ℕ = c.min-now.result in
    let out : List ℤ = c.pieces.output in
    let made : List ℤ = c.tap_piece-clips.new.out in
    let start = c.args.line.now in
    let line = c.pieces.line in
    let old = rw (← c.self.view_is) at c.pieces.invariant in
    let asked = rw (← c.self.view_is) at c.requires in
    let within : done + n ≤ c.args.count = omega arith in
    let width : done * ch + n * ch - done * ch ≡ n * ch = omega arith in
    let free : c.args.count * ch ≤ length out = omega (arith, asked.output, c.pieces.auto.output) in
    let long : largest (map tap_delay a.echo.taps) ≤ start.capacity = let e = asked.line.capacity in omega arith in
    let part : List ℤ = take (n * ch) (drop (done * ch) c.args.input.now) in
    let more = group-read ch done n c.args.count within c.args.input.now asked.input in
    let ensured = rw (← c.self.view_is, width) at c.tap_piece-clips.ensures in
    let kept = rw width at c.tap_piece-clips.auto.out in
    let pushes = rw width at c.push_frames.ensures.items in
    let lined : line.channels ≡ ch = ap (λ (l : Frames ℤ). l.channels) old.made.line ∙ asked.line.channels in
    let held = c.len-held.ensures.line.within in
    let bound : n * ch ≤ n * 16 = mul-le-mul_left n c.self.invariant.0.channels.1 in
    rw (← c.self.view_is, width)
    record {
      within = within;
      made = made-more echo_taps taps-near a start line done (done + n) c.args.input.now c.args.output.now out (pieces ch n part) held long more old.made _ _ (pieces ch n made) (group-put ch done n c.args.count within out made free kept) (group-rest ch done n c.args.count within out made free kept c.args.output.now old.made.rest_unchanged) ensured.frames (same-line _ line _ (pushes ∙ ap (λ k. pushed_all line (pieces k n part)) lined) c.push_frames.ensures.capacity c.push_frames.ensures.channels);
      counted = counted-more echo_taps taps-near a start line done (done + n) c.args.input.now c.args.output.now out (pieces ch n part) held long more old.made c.pieces.clips c.tap_piece-clips.result old.counted ensured.clips;
      bound = omega (arith, old.bound, ensured.bound, bound);
    }

pub returns-clause-clips : goal.returns-clause-clips
returns-clause-clips c = record { counted = first_of (search rules, grind (arith, common_steps)); bound = first_of (search rules, grind (arith, common_steps)); small = first_of (search rules, grind (arith, common_steps)) }
