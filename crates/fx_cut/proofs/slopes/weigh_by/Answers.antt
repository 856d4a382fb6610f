use Rattle.std.proofs.Common.{◌≡◌, ◌<◌, ◌∙◌, ◌∷◌, ◌+◌, ℕ, sym, rules, arith, drop, get_or, length, pos, to_z, of_z, w32, FitsSigned, List, ℤ}
use Rattle.std.proofs.lemmas.List.Elements.{All-set}
use Rattle.std.proofs.lemmas.List.{drop-set-lt, drop_more}
use Rattle.fx_cut.specs.Fade.{weighted}
use Rattle.fx_frame_base.specs.Rounded.{unclipped}
use Rattle.fx_cut.proofs.Weighing.{weighted-more}
use Rattle.fx_cut.proofs.slopes.weigh_by.Goals as goal

pub samples-preserved : goal.samples-preserved
samples-preserved c =
    let k : ℕ = c.samples.place in
    let xs : List ℤ = c.args.samples.now in
    let now : List ℤ = c.samples.samples in
    let h : k < length xs = omega (arith, c.samples-test.true) in
    let long : k < length now = omega (arith, h, c.samples.auto.samples) in
    let both : get_or now k (pos 0) ∷ drop (k + 1) now ≡ get_or xs k (pos 0) ∷ drop (k + 1) xs = sym (drop_more now k (pos 0) long) ∙ c.samples.invariant.rest ∙ drop_more xs k (pos 0) h in
    let place : get_or now k (pos 0) ≡ get_or xs k (pos 0) = cc (both) in
    let next : drop (k + 1) now ≡ drop (k + 1) xs = cc (both) in
    let sample : to_z w32 (of_z w32 (get_or now k (pos 0))) ≡ get_or now k (pos 0) = search rules in
    let out : to_z w32 (of_z w32 c.weighted_sample.result) ≡ c.weighted_sample.result = search rules in
    let v : weighted (c.args.over, c.args.under) (get_or xs k (pos 0)) ≡ unclipped c.weighted_sample.result = rw (sample, place) at c.weighted_sample.ensures in
    let fits : FitsSigned w32 c.weighted_sample.result = search rules in
    record {
      done = rw out (weighted-more (c.args.over, c.args.under) xs now k c.weighted_sample.result h long c.samples.invariant.done v);
      fit = rw out (All-set (FitsSigned w32) now k c.weighted_sample.result fits c.samples.invariant.fit);
      rest = drop-set-lt (k + 1) now k _ (omega arith) ∙ next;
    }
