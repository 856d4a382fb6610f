use Rattle.std.proofs.Common.{◌≡◌, length, rules, to_z, of_z, w64}
use Rattle.std.proofs.lemmas.Int.{to_z-of_z}
use Rattle.fx_tap_sums.proofs.WeightLaws.{reduced-sounds}
use Rattle.fx_tap_sums.proofs.weights.small_of.Goals as goal

pub returns-clause-sounds : goal.returns-clause-sounds
returns-clause-sounds c =
    let gain : to_z w64 (of_z w64 c.trillionths.result) ≡ c.args.gain_out = search (rules, to_z-of_z) in
    let count : length c.coefficients_of-coefficients.result ≡ 8 = search rules in
    let long : length c.reduce.new.weights ≡ 8 = search rules in
    reduced-sounds c.args.gain_in c.args.gain_out _ c.args.taps.now c.coefficients_of-coefficients.result (record { weights = c.reduce.new.weights; denominator = c.in_ok-denominator.denominator }) gain c.requires.taps count long c.coefficients_of-coefficients.ensures.gain_in c.coefficients_of-coefficients.ensures.decays c.in_ok-denominator.ensures.reduced
