use Rattle.std.proofs.Common.{◌≡◌, ◌∷◌, ◌+◌, suc, take, drop, string_bytes, sym, ap, ◌∙◌, arith, add-one}
use Rattle.std.proofs.lemmas.List.{take-map, drop-map}
use Rattle.fx_plan_words.specs.Faults.{word_texts}
use Rattle.fx_plan.specs.Groups.{effects_of}
use Rattle.fx_plan.proofs.Grouping.{effects_cut}
use Rattle.fx_plan.proofs.groups.next_effect.Goals as goal

pub returns-clause-effects : goal.returns-clause-effects
returns-clause-effects c =
    let k = c.words_before_name.result in
    let name = c.in_ok-others.field-0-0.now in
    let others = c.in_ok-others.others.now in
    let whole = c.in_ok-others.ensures.cases.0 in
    let next : k + 1 ≡ suc k = omega (arith, add-one) in
    let front = c.split_at.ensures.front ∙ ap (take (k + 1)) whole ∙ ap (λ n. take n (name ∷ others)) next in
    let back = c.split_at.ensures.back ∙ ap (drop (k + 1)) whole ∙ ap (λ n. drop n (name ∷ others)) next in
    ap (λ words. effects_of (word_texts words)) whole
    ∙ effects_cut (string_bytes name) (word_texts others) k c.words_before_name.ensures.value
    ∙ ap (λ words. (string_bytes name ∷ words) ∷ effects_of (drop k (word_texts others))) (take-map string_bytes k others)
    ∙ ap (λ words. word_texts (name ∷ take k others) ∷ effects_of words) (drop-map string_bytes k others)
    ∙ ap (λ words. word_texts words ∷ effects_of (word_texts (drop k others))) (sym front)
    ∙ ap (λ words. word_texts c.split_at.result.0.now ∷ effects_of (word_texts words)) (sym back)
