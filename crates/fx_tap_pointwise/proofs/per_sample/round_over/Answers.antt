use Rattle.std.proofs.Common.{rules, arith, ◌≡◌, ◌<◌, ◌+◌, ◌∙◌, ap, refl, cond, sym, get_or, drop, length, ℕ, Bool, to_z, of_z, List, ◌∷◌, ℤ, pos}
use Rattle.std.specs.Int.{w32}
use Rattle.std.proofs.lemmas.List.{drop-set-lt, drop_more}
use Rattle.fx_fixed.specs.Rounding.{clip_count}
use Rattle.fx_frame_base.proofs.Rounds.{samples_of-more, clips_of-more, byte_is, byte-le}
use Rattle.fx_tap_pointwise.proofs.per_sample.round_over.Goals as goal

pub samples-preserved : goal.samples-preserved
samples-preserved g c =
    let k : ℕ = c.samples.place in
    let xs : List ℤ = c.args.samples.now in
    let now : List ℤ = c.samples.samples in
    let f : ℤ → ℤ × Bool = g.S.Sampling.rounded c.args.sampling.now in
    let h : k < length xs = omega (arith, c.samples-test.true) in
    let long : k < length now = omega (arith, h, c.samples.auto.samples) in
    let both : get_or now k (pos 0) ∷ drop (k + 1) now ≡ get_or xs k (pos 0) ∷ drop (k + 1) xs = sym (drop_more now k (pos 0) long) ∙ c.samples.invariant.rest ∙ drop_more xs k (pos 0) h in
    let place : get_or now k (pos 0) ≡ get_or xs k (pos 0) = cc (both) in
    let next : drop (k + 1) now ≡ drop (k + 1) xs = cc (both) in
    let sample : to_z w32 (of_z w32 (get_or now k (pos 0))) ≡ get_or now k (pos 0) = search rules in
    let y : ℤ = c.round_and_count.result in
    let r : ℤ × Bool = f (get_or xs k (pos 0)) in
    let out : to_z w32 (of_z w32 y) ≡ y = search rules in
    let same : f (to_z w32 (of_z w32 (get_or now k (pos 0)))) ≡ r = ap f (sample ∙ place) in
    let made : y ≡ r.0 = c.round_and_count.ensures.sample ∙ ap (λ q. q.0) same in
    let counted : c.round_and_count.new.clips ≡ c.samples.clips + cond r.1 1 0 = c.round_and_count.ensures.clips ∙ ap (λ q. c.samples.clips + clip_count q) same in
    record {
      done = rw out (samples_of-more f xs (pos 0) now k y h long c.samples.invariant.done made);
      rest = drop-set-lt (k + 1) now k _ (omega arith) ∙ next;
      counted = counted ∙ clips_of-more f xs (pos 0) k c.samples.clips r.1 h c.samples.invariant.counted refl;
      bound = omega (arith, counted, byte-le r.1, byte_is r.1, c.samples.invariant.bound);
    }
