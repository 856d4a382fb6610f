use Rattle.std.proofs.Common.{rules, arith, ◌≡◌, ◌<◌, ◌+◌, ◌∙◌, refl, cond, get_or, length, ℕ, ℤ, Bool, List, pos, to_z, of_z, w32}
use Rattle.fx_fixed.specs.Rounding.{rounding}
use Rattle.fx_frame_base.proofs.Rounds.{samples_of-more, clips_of-more, byte_is, byte-le}
use Rattle.fx_tap_delays.proofs.sums.round_sums.Goals as goal

pub sums-preserved : goal.sums-preserved
sums-preserved c =
    let k : ℕ = c.sums.place in
    let xs : List ℤ = c.args.sums.now in
    let f : ℤ → ℤ × Bool = λ z. rounding z c.args.denominator.now in
    let h : k < length xs = omega (arith, c.sums-test.true) in
    let long : k < length c.sums.out = omega (arith, h, c.sums.auto.out, c.requires.places) in
    let y : ℤ = c.round_and_count.result in
    let r : ℤ × Bool = f (get_or xs k (pos 0)) in
    let held : to_z w32 (of_z w32 y) ≡ y = search rules in
    let sample : y ≡ r.0 = search rules in
    let counted : c.round_and_count.new.clips ≡ c.sums.clips + cond r.1 1 0 = search rules in
    record {
      done = rw held (samples_of-more f xs (pos 0) c.sums.out k y h long c.sums.invariant.done sample);
      counted = counted ∙ clips_of-more f xs (pos 0) k c.sums.clips r.1 h c.sums.invariant.counted refl;
      bound = omega (arith, counted, byte-le r.1, byte_is r.1, c.sums.invariant.bound);
    }
