use Rattle.std.proofs.Common.{arith, ◌≡◌, ◌+◌, ◌*◌, ◌≤◌, ℕ, length}
use Rattle.std.proofs.lemmas.Nat.{mul-le}
use Rattle.fx_tap_sums.proofs.Quarters.{quartered}
use Rattle.fx_tap_sums.proofs.transforms.transform.is_quarter.Goals as goal

pub returns-clause-power : goal.returns-clause-power
returns-clause-power g c =
    let n : ℕ = 4 * length c.args.quarter.now in
    let sizes = quartered c.args.levels n c.requires.power (omega (arith, c.requires.levels)) in
    omega (arith, sizes.first.twice, sizes.second.twice, sizes.second.power)

pub returns-clause-place : goal.returns-clause-place
returns-clause-place g c =
    let q : ℕ = length c.args.quarter.now in
    let self : q ≤ q = omega arith in
    let less = mul-le (c.args.next + 1) q (4 * (c.args.place + 1)) q (omega (arith, c.requires.next)) self in
    let order : (4 * (c.args.place + 1)) * q ≡ (c.args.place + 1) * (4 * q) = omega arith in
    omega (arith, less, order, c.requires.place)
