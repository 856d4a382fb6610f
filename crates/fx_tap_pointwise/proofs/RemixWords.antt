-- Sums of channels that are there.
use Rattle.std.proofs.Common.{◌≡◌, ℕ, zero, suc, ◌+◌, ◌-◌, ◌≤◌, true, nat_lt, List, ◌++◌, length, map, refl, ap, ◌∙◌, arith}
use Rattle.std.specs.List.{list_all, list_any, range_with_len}
use Rattle.std.proofs.lemmas.Bool.{and_from, le-leb, lt-ltb}
use Rattle.std.proofs.lemmas.List.{length-map}
use Rattle.std.proofs.lemmas.List.Folds.{list_all-append, list_all-map}
use Rattle.fx_tap_pointwise.specs.declared.remix.words.in_spec.SumContribution.{SumContribution}
use Rattle.fx_tap_pointwise.specs.declared.remix.words.in_spec.InSpec.{InSpec}
use Rattle.fx_tap_pointwise.specs.declared.remix.words.Mixing.{Mixing}
use Rattle.fx_tap_pointwise.specs.InSpecs.{channels_from, contribution}
use Rattle.fx_tap_pointwise.specs.RemixWords.{default_weight, has_gain, is_mix, is_there, weighed_words, weight_of}

-- the channels of a range are there
range_within : (channels start count : ℕ) → start + count ≤ channels → list_all (λ n. nat_lt n channels) (range_with_len start count) ≡ true
range_within channels start zero h = refl
range_within channels start (suc count) h = and_from _ _ (lt-ltb start channels (omega arith)) (range_within channels (start + 1) count (omega arith))

pub channels_within : (channels : ℕ) (found : InSpec) → 1 ≤ found.low → found.low ≤ found.high → found.high ≤ channels → list_all (is_there channels) (channels_from found) ≡ true
channels_within channels found minimum order maximum =
    let start = found.low - 1 in
    let count = found.high + 1 - found.low in
    list_all-map (is_there channels) (contribution found.gain) (range_with_len start count) ∙ range_within channels start count (omega arith)

pub channels_join : (channels : ℕ) (front back all : List SumContribution) → all ≡ front ++ back → list_all (is_there channels) front ≡ true → list_all (is_there channels) back ≡ true → list_all (is_there channels) all ≡ true
channels_join channels front back all e h k = ap (list_all (is_there channels)) e ∙ list_all-append (is_there channels) front back ∙ and_from _ _ h k

-- a sum of few channels that are there, weighed
pub mix_fits : (channels : ℕ) (mixing : Mixing) (sum : List SumContribution) → length sum ≤ 64 → list_all (is_there channels) sum ≡ true → is_mix channels (weighed_words mixing sum) ≡ true
mix_fits channels mixing sum bound there =
    let weigh = weight_of (default_weight mixing (list_any has_gain sum)) in
    let count : length (map weigh sum) ≡ length sum = length-map sum weigh in
    and_from _ _ (le-leb (length (map weigh sum)) 64 (omega arith)) (list_all-map (λ c. nat_lt c.0 channels) weigh sum ∙ there)
