use Rattle.std.proofs.Common.{rules, arith, unsigned_abs, ◌≡◌, ◌≤◌, ◌<◌, ◌∙◌, ◌^◌, ℤ, pos, ◌+ℤ◌, w32, FitsSigned}
use Rattle.std.proofs.lemmas.Int.{ints}
use Rattle.fx_tap_sums.proofs.Residues.{raised_same}
use Rattle.fx_tap_sums.proofs.SmallSums.{held-in-64}
use Rattle.fx_tap_sums.proofs.transforms.remainders.remainder.Goals as goal

pub returns-clause-same : goal.returns-clause-same
returns-clause-same g c =
    let x : ℤ = c.args.weight in
    let f : c.from.result ≡ x = c.from.ensures ∙ search rules in
    let fits : FitsSigned w32 x = search rules in
    let bound : unsigned_abs x ≤ 2 ^ 31 = search rules in
    let sum : unsigned_abs (x +ℤ pos (2 ^ 31)) < 2 ^ 63 = omega (arith, ints, bound) in
    rw (f, held-in-64 x (omega (arith, bound)), held-in-64 (x +ℤ pos (2 ^ 31)) sum) (raised_same g.row.P x (omega (arith, c.requires)) fits)
