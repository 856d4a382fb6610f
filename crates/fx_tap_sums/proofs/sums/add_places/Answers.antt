use Rattle.std.proofs.Common.{rules, ◌≡◌, ◌≤◌, ◌^◌, ◌∙◌, refl, List, ℕ, ℤ, pos, ◌+ℤ◌, ◌*ℤ◌, arith, slice_index_or, unsigned_abs, to_z, of_z, FitsSigned}
use Rattle.std.proofs.lemmas.Int.{fits_signed_from_abs}
use Rattle.std.proofs.lemmas.List.{get_or-set_other}
use Rattle.std.proofs.Math.ListN.{length-set}
use Rattle.fx_tap_sums.proofs.Magnitudes.{scaled-bound, added-bound}
use Rattle.fx_tap_sums.proofs.SumLaws.{held, plain-sum, added-more}
use Rattle.fx_tap_sums.proofs.sums.add_places.Goals as goal
use mir.Syntax.{w128}

-- a product, widened, is added
sum-is : (s p x f y : ℤ) → f ≡ p → y ≡ x → unsigned_abs p ≤ 2 ^ 50 → unsigned_abs x ≤ 2 ^ 34 → unsigned_abs s ≤ 2 ^ 101 →
    let z : ℤ = to_z w128 (of_z w128 s) +ℤ to_z w128 (of_z w128 (to_z w128 (of_z w128 f) *ℤ to_z w128 (of_z w128 y))) in FitsSigned w128 z × (to_z w128 (of_z w128 z) ≡ s +ℤ (p *ℤ x))
sum-is s p x f y f_is y_is small sample free =
    let maximum = added-bound s (p *ℤ x) _ _ free (scaled-bound p x (2 ^ 50) (2 ^ 34) small sample) in
    rw (plain-sum s p x f y f_is y_is small sample free) (fits_signed_from_abs w128 (s +ℤ (p *ℤ x)) (omega (arith, maximum)), held (s +ℤ (p *ℤ x)) (omega (arith, maximum)))

pub overflow_add-sums : goal.overflow_add-sums
overflow_add-sums g c =
    let i : ℕ = c.loop-channel.channel in
    let s : ℤ = slice_index_or c.loop-channel.sums i (pos 0) in
    let first : s ≡ slice_index_or c.args.sums.now i (pos 0) = c.loop-channel.invariant.left i (omega arith) in
    (sum-is s c.args.gain c.at.result c.from-factor.result c.from.result (c.from-factor.ensures ∙ search rules ∙ c.trillionths.ensures.value) (c.from.ensures ∙ search rules) (omega (arith, c.requires.gain)) (rw c.at.ensures (c.requires.small i)) (rw first (omega (arith, c.requires.free i)))).0

pub loop-channel-preserved : goal.loop-channel-preserved
loop-channel-preserved g c =
    let i : ℕ = c.loop-channel.channel in
    let old : List ℤ = c.args.sums.now in
    let sums : List ℤ = c.loop-channel.sums in
    let s : ℤ = slice_index_or sums i (pos 0) in
    let first : s ≡ slice_index_or old i (pos 0) = c.loop-channel.invariant.left i (omega arith) in
    let z : ℤ = s +ℤ (c.args.gain *ℤ c.at.result) in
    let next = sum-is s c.args.gain c.at.result c.from-factor.result c.from.result (c.from-factor.ensures ∙ search rules ∙ c.trillionths.ensures.value) (c.from.ensures ∙ search rules) (omega (arith, c.requires.gain)) (rw c.at.ensures (c.requires.small i)) (rw first (omega (arith, c.requires.free i))) in
    let size = c.loop-channel.invariant.size in
    rw next.1
    record {
      size = simp length-set size;
      added = added-more old sums (λ k. c.args.gain *ℤ slice_index_or (g.P.Places.list c.args.samples.now) k (pos 0)) i z (omega arith) (rw (first, c.at.ensures) refl) c.loop-channel.invariant.added;
      left = λ k l. get_or-set_other sums i k z (pos 0) (λ e. omega arith) ∙ c.loop-channel.invariant.left k (omega arith);
    }
