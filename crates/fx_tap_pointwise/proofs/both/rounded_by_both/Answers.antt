use Rattle.std.proofs.Common.{rules, arith, ◌≡◌, ◌+◌, ◌<◌, ◌∙◌, FitsSigned, ap, refl, cond, get_or, length, ℕ, Bool, to_z, of_z, List, ℤ, pos}
use Rattle.std.proofs.lemmas.Grind.{common_steps}
use Rattle.std.specs.Int.{w32}
use Rattle.std.proofs.lemmas.List.Elements.{All-more}
use Rattle.fx_fixed.specs.Rounding.{clip_count}
use Rattle.fx_frame_base.proofs.Rounds.{samples_of-more, clips_of-more, byte_is, byte-le}
use Rattle.fx_tap_pointwise.proofs.both.rounded_by_both.Goals as goal

pub samples-preserved : goal.samples-preserved
samples-preserved g c =
    let k : ℕ = c.samples.place in
    let xs : List ℤ = c.args.input.now in
    let out : List ℤ = c.samples.output in
    let f : ℤ → ℤ × Bool = g.A.Sampling.rounded c.args.first.now in
    let both : ℤ → ℤ × Bool = λ x. g.B.Sampling.rounded c.args.second.now (f x).0 in
    let h : k < length xs = omega (arith, c.samples-test.true) in
    let long : k < length out = omega (arith, h, c.samples.auto.output) in
    let fits : FitsSigned w32 (get_or xs k (pos 0)) = search rules in
    let sample : to_z w32 (of_z w32 (get_or xs k (pos 0))) ≡ get_or xs k (pos 0) = search rules in
    let between : ℤ = c.round_and_count-between.result in
    let y : ℤ = c.round_and_count.result in
    let r : ℤ × Bool = f (get_or xs k (pos 0)) in
    let q : ℤ × Bool = both (get_or xs k (pos 0)) in
    let mid : to_z w32 (of_z w32 between) ≡ between = search rules in
    let end : to_z w32 (of_z w32 y) ≡ y = search rules in
    let first : f (to_z w32 (of_z w32 (get_or xs k (pos 0)))) ≡ r = ap f sample in
    let made : between ≡ r.0 = c.round_and_count-between.ensures.sample ∙ ap (λ p. p.0) first in
    let second : g.B.Sampling.rounded c.args.second.now (to_z w32 (of_z w32 between)) ≡ q = ap (g.B.Sampling.rounded c.args.second.now) (mid ∙ made) in
    let first_counted : c.round_and_count-between.new.clips ≡ c.samples.first_clips + cond r.1 1 0 = c.round_and_count-between.ensures.clips ∙ ap (λ p. c.samples.first_clips + clip_count p) first in
    let second_counted : c.round_and_count.new.clips ≡ c.samples.second_clips + cond q.1 1 0 = c.round_and_count.ensures.clips ∙ ap (λ p. c.samples.second_clips + clip_count p) second in
    record {
      done = rw end (samples_of-more both xs (pos 0) out k y h long c.samples.invariant.done (c.round_and_count.ensures.sample ∙ ap (λ p. p.0) second));
      first_counted = first_counted ∙ clips_of-more f xs (pos 0) k c.samples.first_clips r.1 h c.samples.invariant.first_counted refl;
      second_counted = second_counted ∙ clips_of-more both xs (pos 0) k c.samples.second_clips q.1 h c.samples.invariant.second_counted refl;
      first_bound = omega (arith, first_counted, byte-le r.1, byte_is r.1, c.samples.invariant.first_bound);
      second_bound = omega (arith, second_counted, byte-le q.1, byte_is q.1, c.samples.invariant.second_bound);
      fits = All-more (FitsSigned w32) xs k (pos 0) h c.samples.invariant.fits fits;
    }

pub returns-clause-samples : goal.returns-clause-samples
returns-clause-samples g c = grind (arith, common_steps)

pub returns-clause-first : goal.returns-clause-first
returns-clause-first g c = grind (arith, common_steps)

pub returns-clause-second : goal.returns-clause-second
returns-clause-second g c = grind (arith, common_steps)

pub returns-clause-fits : goal.returns-clause-fits
returns-clause-fits g c = grind (arith, common_steps)
