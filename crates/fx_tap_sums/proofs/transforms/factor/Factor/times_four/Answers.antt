use Rattle.std.proofs.Common.{arith, ◌≡◌, ◌<◌, ◌-◌, ◌*◌, ◌/◌, ◌^◌, ◌∙◌, ℕ, ap, slice_index_or}
use Rattle.fx_tap_sums.proofs.Factors.{product_low, product_high}
use Rattle.fx_tap_sums.proofs.Residues.{same_less}
use Rattle.fx_tap_sums.proofs.Vectors.{splat_at}
use Rattle.fx_tap_sums.proofs.transforms.factor.Factor.times_four.Given as given
use Rattle.fx_tap_sums.proofs.transforms.factor.Factor.times_four.Goals.{After-narrow}
use Rattle.fx_tap_sums.proofs.transforms.factor.Factor.times_four.Goals as goal

-- the quotient of each product
quotient : (g : given.Over) (c : After-narrow g) (k : ℕ) → k < 4 → slice_index_or c.narrow.result k 0 ≡ (c.self.inside.quotient * slice_index_or c.args.numbers k 0) / 2 ^ 32
quotient g c k l = c.narrow.ensures.value k l ∙ c.upper_bits-quotients.ensures.value k l ∙ ap (λ z. z / 2 ^ 32) (c.multiply_wide.ensures.value k l ∙ ap (λ z. z * slice_index_or c.args.numbers k 0) (splat_at c.self.inside.quotient k l))

pub difference-requires-clause-less : goal.difference-requires-clause-less
difference-requires-clause-less g c = λ k l.
    rw (quotient g (goal.at.difference-requires-clause-less g c).After-narrow k l) (omega (arith, product_low g.row.P c.self.inside.value (slice_index_or c.args.numbers k 0) c.self.inside.quotient c.self.invariant.1))

pub difference-requires-clause-fits : goal.difference-requires-clause-fits
difference-requires-clause-fits g c = λ k l.
    let n = slice_index_or c.args.numbers k 0 in
    let low = product_low g.row.P c.self.inside.value n c.self.inside.quotient c.self.invariant.1 in
    let high = product_high g.row.P c.self.inside.value n c.self.inside.quotient (omega (arith, c.requires.modulus)) c.self.invariant.1 (c.requires.numbers.less k l) in
    rw (quotient g (goal.at.difference-requires-clause-fits g c).After-narrow k l) (omega (arith, high, c.requires.modulus))

pub returns-clause-less : goal.returns-clause-less
returns-clause-less g c = record {
  four = c.difference.ensures.four;
  less = λ k l.
      let n = slice_index_or c.args.numbers k 0 in
      let low = product_low g.row.P c.self.inside.value n c.self.inside.quotient c.self.invariant.1 in
      let high = product_high g.row.P c.self.inside.value n c.self.inside.quotient (omega (arith, c.requires.modulus)) c.self.invariant.1 (c.requires.numbers.less k l) in
      rw (c.difference.ensures.value k l, quotient g (goal.at.returns-clause-less g c).After-narrow k l) (omega (arith, low, high));
}

pub returns-clause-same : goal.returns-clause-same
returns-clause-same g c = λ k l.
    let v = c.self.inside.value in
    let n = slice_index_or c.args.numbers k 0 in
    let t = (c.self.inside.quotient * n) / 2 ^ 32 in
    rw (← c.self.view_is, c.difference.ensures.value k l, quotient g (goal.at.returns-clause-same g c).After-narrow k l) (same_less g.row.P (v * n - g.row.P * t) (v * n) t (omega (arith, product_low g.row.P v n c.self.inside.quotient c.self.invariant.1)))
