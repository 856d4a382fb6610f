use Rattle.std.proofs.Common.{rules, arith, ◌≡◌, ◌<◌, ◌+◌, ◌∙◌, ap, refl, cond, get_or, length, ℕ, Bool, to_z, of_z, List, ℤ, pos}
use Rattle.std.specs.Int.{w32}
use Rattle.fx_fixed.specs.Rounding.{clip_count}
use Rattle.fx_frame_base.proofs.Rounds.{samples_of-more, clips_of-more, byte_is, byte-le}
use Rattle.fx_tap_pointwise.proofs.per_sample.rounded_samples.Goals as goal

pub samples-preserved : goal.samples-preserved
samples-preserved g c =
    let k : ℕ = c.samples.place in
    let xs : List ℤ = c.args.input.now in
    let f : ℤ → ℤ × Bool = g.S.Sampling.rounded c.args.sampling.now in
    let h : k < length xs = omega (arith, c.samples-test.true) in
    let long : k < length c.samples.output = omega (arith, h, c.samples.auto.output) in
    let y : ℤ = c.round_and_count.result in
    let r : ℤ × Bool = f (get_or xs k (pos 0)) in
    let read : to_z w32 (of_z w32 (get_or xs k (pos 0))) ≡ get_or xs k (pos 0) = search rules in
    let written : to_z w32 (of_z w32 y) ≡ y = search rules in
    let sample : y ≡ r.0 = c.round_and_count.ensures.sample ∙ ap (λ z. (f z).0) read in
    let counted : c.round_and_count.new.clips ≡ c.samples.clips + cond r.1 1 0 = c.round_and_count.ensures.clips ∙ ap (λ z. c.samples.clips + clip_count (f z)) read in
    record {
      done = rw written (samples_of-more f xs (pos 0) c.samples.output k y h long c.samples.invariant.done sample);
      counted = counted ∙ clips_of-more f xs (pos 0) k c.samples.clips r.1 h c.samples.invariant.counted refl;
      bound = omega (arith, counted, byte-le r.1, byte_is r.1, c.samples.invariant.bound);
    }
