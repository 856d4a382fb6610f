use Rattle.std.proofs.Common.{◌≡◌, ◌+◌, ◌-◌, ◌*◌, ◌≤◌, ℕ, List, length, take, drop, refl, arith, ℤ}
use Rattle.fx_frame_base.specs.Frame.{Samples}
use Rattle.fx_frame_base.specs.Lists.{pieces}
use Rattle.fx_tap_delays.proofs.Groups.{clips-more, group-end, group-put, group-read, group-rest, made-more}
use Rattle.fx_tap_delays.proofs.tapped.tap_groups.Goals as goal

pub groups-preserved : goal.groups-preserved
groups-preserved g c =
    let taps = g.T.Tapping.taps in
    let near = g.met.T.Tapping.near in
    let m = c.args.tapping.now in
    let ch : ℕ = taps.channels m in
    let is_ch : c.channels-channels.result ≡ ch = c.channels-channels.ensures.value in
    let done : ℕ = c.groups.done in
    let n : ℕ = c.min-now.result in
    let input : List ℤ = c.args.samples.now in
    let out : List ℤ = c.groups.samples in
    let made : List ℤ = c.tap_frames-clips.new.samples in
    let start = c.args.line.now in
    let line = c.groups.line in
    let old = c.groups.invariant in
    let within : done + n ≤ c.args.count = omega arith in
    let width : done * ch + n * ch - done * ch ≡ n * ch = omega arith in
    let free : c.args.count * ch ≤ length out = omega (arith, c.requires.samples, c.groups.auto.samples) in
    let held = c.len-held.ensures.line.within in
    let long : taps.reach m ≤ start.capacity = let e = c.requires.line.capacity in omega arith in
    let ys : List Samples = pieces ch n (take (n * ch) (drop (done * ch) input)) in
    let more = group-read ch done n c.args.count within input (omega (arith, c.requires.samples)) in
    let ensured = rw (is_ch, width, old.made.rest_unchanged) at c.tap_frames-clips.ensures in
    let kept = rw (is_ch, width) at c.tap_frames-clips.auto.samples in
    rw (is_ch, width)
    record {
      within = within;
      made = made-more taps near m start line done (done + n) input input out ys held long more old.made _ _ (pieces ch n made) (group-put ch done n c.args.count within out made free kept) (group-rest ch done n c.args.count within out made free kept input old.made.rest_unchanged) ensured.frames ensured.line;
      clips = clips-more taps near m start line done (done + n) input input out ys held long more old.made c.groups.clips c.tap_frames-clips.result n refl old.clips ensured.clips.counted ensured.clips.bound ensured.clips.small;
    }

pub slice_bounds-tap_frames-end : goal.slice_bounds-tap_frames-end
slice_bounds-tap_frames-end g c =
    let size = rw (← c.channels-channels.ensures.value) at c.requires.samples in
    group-end c.channels-channels.result c.groups.done c.min-now.result c.args.count _ (omega arith) (omega (arith, size, c.groups.auto.samples))
