use Rattle.std.proofs.Common.{rules, refl, add-zero, ◌≡◌, ◌+◌, ◌-◌, ◌*◌, ◌≤◌, ℕ, List, [], ◌∷◌, length, take, drop, sym, ap, ◌∙◌, arith, add-one, suc, ℤ}
use Rattle.std.proofs.Math.Nat.{suc-mul, mul-le-mul_right}
use Rattle.fx_frame_base.specs.Frame.{Samples}
use Rattle.fx_frame_base.proofs.Puts.{pieces-more}
use Rattle.fx_tap_delays.proofs.Groups.{clips-more, frame-put, frame-rest, made-more}
use Rattle.fx_tap_delays.proofs.tapped.tap_by_frames.Goals as goal

pub frames-preserved : goal.frames-preserved
frames-preserved g c =
    let taps = g.T.Tapping.taps in
    let near = g.met.T.Tapping.near in
    let m = c.args.tapping.now in
    let size : ℕ = taps.channels m in
    let turn : ℕ = c.frames._turn in
    let at : ℕ = c.frames.at in
    let old = c.frames.invariant in
    let input : List ℤ = c.args.input.now in
    let out : List ℤ = c.frames.output in
    let start = c.args.line.now in
    let line = c.frames.line in
    let held = c.len-held.ensures.line.within in
    let long : taps.reach m ≤ start.capacity = let e = c.requires.line.capacity in omega arith in
    let x : Samples = take size (drop at input) in
    let made : Samples = c.tap_into-clips.new.out in
    let is_size : c.channels-channels.result ≡ size = c.channels-channels.ensures.value in
    let width : at + size - at ≡ size = omega arith in
    let next : suc turn * size ≤ c.args.count * size = mul-le-mul_right size (omega arith) in
    let fits : at + size ≤ length out = omega (arith, next, suc-mul turn size, old.at_is, c.requires.output, c.frames.auto.output) in
    let sides : length made ≡ size = search (rules, is_size, fits) in
    let rest : drop at out ≡ drop at c.args.output.now = rw (← old.at_is) at old.made.rest_unchanged in
    let ensured = rw (is_size, width) at c.tap_into-clips.ensures in
    let pushes = rw (is_size, width) at c.push_samples.ensures in
    let more = pieces-more size turn at input old.at_is in
    let one : (turn + 1) * size ≡ at + size = omega (arith, old.at_is, suc-mul turn size, add-one turn) in
    let bound16 : taps.max_clips m ≤ 16 = g.met.T.Tapping.clips_max m in
    rw (is_size, width)
    record {
      at_is = sym one;
      made = made-more taps near m start line turn (turn + 1) input c.args.output.now out (x ∷ []) held long more old.made _ _ (made ∷ []) (frame-put size turn at out made old.at_is sides fits) (rw one (frame-rest size turn at out made old.at_is sides fits c.args.output.now rest)) (ap (λ y. y ∷ []) ensured.frame) pushes;
      clips = clips-more taps near m start line turn (turn + 1) input c.args.output.now out (x ∷ []) held long more old.made c.frames.clips c.tap_into-clips.result 1 refl old.clips (ensured.clips ∙ sym (add-zero _)) (omega (arith, c.tap_into-clips.ensures.bound)) (omega (arith, c.tap_into-clips.ensures.bound, bound16));
    }
