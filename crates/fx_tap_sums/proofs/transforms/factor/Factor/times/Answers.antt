use Rattle.std.proofs.Common.{arith, ◌-◌, ◌*◌, ◌/◌, ◌^◌, ℕ, pos}
use Rattle.fx_tap_sums.specs.Residues.{Same}
use Rattle.fx_tap_sums.proofs.Factors.{product_low, product_high}
use Rattle.fx_tap_sums.proofs.Residues.{same_less, same_on}
use Rattle.fx_tap_sums.proofs.transforms.factor.Factor.times.Goals as goal

pub overflow_sub-product : goal.overflow_sub-product
overflow_sub-product g c =
    let low = product_low g.row.P c.self.inside.value c.args.number c.self.inside.quotient c.self.invariant.1 in
    rw (c.from.ensures, c.from-2.ensures, c.from-3.ensures, c.from-4.ensures, c.from-5.ensures) low

pub overflow_cast-product : goal.overflow_cast-product
overflow_cast-product g c =
    let high = product_high g.row.P c.self.inside.value c.args.number c.self.inside.quotient (omega (arith, c.requires)) c.self.invariant.1 (omega arith) in
    rw (c.from.ensures, c.from-2.ensures, c.from-3.ensures, c.from-4.ensures, c.from-5.ensures) (omega (arith, high))

pub reduced-requires : goal.reduced-requires
reduced-requires g c =
    let high = product_high g.row.P c.self.inside.value c.args.number c.self.inside.quotient (omega (arith, c.requires)) c.self.invariant.1 (omega arith) in
    rw (c.from.ensures, c.from-2.ensures, c.from-3.ensures, c.from-4.ensures, c.from-5.ensures) (omega (arith, high))

pub returns-clause-same : goal.returns-clause-same
returns-clause-same g c =
    let v : ℕ = c.self.inside.value in
    let n : ℕ = c.args.number in
    let t : ℕ = (c.self.inside.quotient * n) / 2 ^ 32 in
    let rest : Same (pos g.row.P) (pos c.reduced.result) (pos (v * n - t * g.row.P)) = rw (c.from.ensures, c.from-2.ensures, c.from-3.ensures, c.from-4.ensures, c.from-5.ensures) at c.reduced.ensures.same in
    rw (← c.self.view_is)
    (same_on (pos g.row.P) (pos c.reduced.result) (pos (v * n - t * g.row.P)) (pos (v * n)) rest (same_less g.row.P (v * n - t * g.row.P) (v * n) t (omega (arith, product_low g.row.P v n c.self.inside.quotient c.self.invariant.1))))
