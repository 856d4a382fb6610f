use Rattle.std.proofs.Common.{◌≡◌, rules, pos, get_or, to_z, of_z}
use Rattle.std.specs.Int.{w32, w64}
use Rattle.fx_tap_pointwise.specs.Fractions.{Ratio, Rounds}
use Rattle.fx_tap_pointwise.proofs.Fractions.{held-32, reduced-rounds, some-rounds}
use Rattle.fx_tap_pointwise.proofs.vol.Scale.of.Goals as goal

pub invariant_of-result-3 : goal.invariant_of-result-3
invariant_of-result-3 c =
    let gain : to_z w64 (of_z w64 c.trillionths.result) ≡ c.args.gain = search rules in
    let fraction : Ratio = record { weight = to_z w32 (of_z w32 (get_or c.reduce-reduced.new.weights 0 (pos 0))); denominator = c.in-Some.denominator } in
    let rounds : Rounds c.args.gain fraction =
    reduced-rounds c.args.gain _ c.from.result c.reduce-reduced.new.weights fraction gain c.from.ensures (held-32 c.reduce-reduced.new.weights 0 c.in-Some.ensures.reduced.small) c.in-Some.ensures.reduced in
    (rounds, some-rounds c.args.gain c.of-proper.result fraction (rw c.value.ensures at c.of-proper.ensures.exact) rounds)
