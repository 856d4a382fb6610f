use Rattle.std.proofs.Common.{rules, arith, ◌≡◌, ◌<◌, ◌+◌, ◌∙◌, ap, sym, get_or, drop, length, ℕ, Bool, false, to_z, of_z, List, ◌∷◌, ℤ, pos}
use Rattle.std.specs.Int.{w32, w64}
use Rattle.std.proofs.lemmas.List.{drop-set-lt, drop_more}
use Rattle.fx_frame_base.proofs.Rounds.{samples_of-more, clips_of-more}
use Rattle.fx_tap_pointwise.specs.Fractions.{fraction_sample}
use Rattle.fx_tap_pointwise.proofs.proper.ProperFraction.round_over.Goals as goal

pub samples-preserved : goal.samples-preserved
samples-preserved c =
    let k : ℕ = c.samples.place in
    let xs : List ℤ = c.args.samples.now in
    let now : List ℤ = c.samples.samples in
    let f : ℤ → ℤ × Bool = fraction_sample c.args.self.now in
    let h : k < length xs = omega (arith, c.samples-test.true) in
    let long : k < length now = omega (arith, h, c.samples.auto.samples) in
    let both : get_or now k (pos 0) ∷ drop (k + 1) now ≡ get_or xs k (pos 0) ∷ drop (k + 1) xs = sym (drop_more now k (pos 0) long) ∙ c.samples.invariant.rest ∙ drop_more xs k (pos 0) h in
    let place : get_or now k (pos 0) ≡ get_or xs k (pos 0) = cc (both) in
    let next : drop (k + 1) now ≡ drop (k + 1) xs = cc (both) in
    let sample : to_z w32 (of_z w32 (get_or now k (pos 0))) ≡ get_or now k (pos 0) = search rules in
    let out : to_z w32 (of_z w32 (to_z w64 (of_z w64 c.nearest.result))) ≡ c.nearest.result = search rules in
    let made : (c.nearest.result, false) ≡ f (to_z w32 (of_z w32 (get_or now k (pos 0)))) = search rules in
    let v : (c.nearest.result, false) ≡ f (get_or xs k (pos 0)) = made ∙ ap f (sample ∙ place) in
    record {
      done = rw out (samples_of-more f xs (pos 0) now k c.nearest.result h long c.samples.invariant.done (ap (λ r. r.0) v));
      rest = drop-set-lt (k + 1) now k _ (omega arith) ∙ next;
      unclipped = sym (clips_of-more f xs (pos 0) k 0 false h (sym c.samples.invariant.unclipped) (ap (λ r. r.1) v));
    }
