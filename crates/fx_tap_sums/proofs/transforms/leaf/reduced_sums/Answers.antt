use Rattle.std.proofs.Common.{◌+◌, ◌*◌, ◌/◌, ◌-◌, ◌%◌, ◌^◌, ◌≡◌, ◌∙◌, refl, get_or}
use Rattle.fx_tap_sums.proofs.Vectors.{splat_at}
use Rattle.fx_tap_sums.proofs.Words.{word_same, word_turns}
use Rattle.fx_tap_sums.proofs.transforms.leaf.reduced_sums.Goals as goal

pub returns-clause-same : goal.returns-clause-same
returns-clause-same g c = λ k l.
    let p = g.row.P in
    let s = get_or c.args.sums k 0 in
    let low : get_or c.narrow-low.result k 0 ≡ s % 2 ^ 32 = c.narrow-low.ensures.value k l ∙ c.lower_bits.ensures.value k l in
    let product : get_or c.multiply_wide.result k 0 ≡ (s % 2 ^ 32) * (p - 2) = c.multiply_wide.ensures.value k l ∙ rw (low, splat_at (p - 2) k l) refl in
    let turns : get_or c.narrow-turns.result k 0 ≡ word_turns p s = c.narrow-turns.ensures.value k l ∙ c.lower_bits-2.ensures.value k l ∙ rw product refl in
    let added : get_or c.multiply_wide-2.result k 0 ≡ word_turns p s * p = c.multiply_wide-2.ensures.value k l ∙ rw (turns, splat_at p k l) refl in
    let whole : get_or c.add_wide-whole.result k 0 ≡ s + word_turns p s * p = c.add_wide-whole.ensures.value k l ∙ rw added refl in
    let result : get_or c.narrow.result k 0 ≡ (s + word_turns p s * p) / 2 ^ 32 = c.narrow.ensures.value k l ∙ c.upper_bits.ensures.value k l ∙ rw whole refl in
    rw result (word_same p s c.requires.modulus)
