use Rattle.std.proofs.Common.{◌≡◌, ◌<◌, ◌^◌, rules}
use Rattle.fx_tap_pointwise.proofs.ProperRounding.{prepared}
use Rattle.fx_tap_pointwise.proofs.proper.ProperFraction.of.Goals as goal

pub invariant_of-result : goal.invariant_of-result
invariant_of-result c =
    let weight : c.from.result ≡ c.in-Ok.weight = search rules in
    let denominator : c.from-2.result ≡ c.in-Ok-try_from.denominator = search rules in
    let below : c.in-Ok.weight < c.in-Ok-try_from.denominator = search rules in
    let bound : c.in-Ok-try_from.denominator < 2 ^ 30 = search rules in
    rw (weight, denominator) (prepared c.in-Ok.weight c.in-Ok-try_from.denominator below bound)
