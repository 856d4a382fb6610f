use Rattle.std.proofs.Common.{◌≡◌, ◌∙◌, ◌+◌, ◌-◌, ◌*◌, ◌∷◌, [], ℕ, List, ap, arith, length, subst, Option, cond, option_to_list}
use Rattle.std.specs.Int.{from_bool}
use Rattle.fx_chain_flow.specs.Frozen.{inlet_numbers, numbers_all, stored_all}
use Rattle.fx_frame_base.specs.Frame.{Samples}
use Rattle.soxchain_stream.specs.Appended.{AppendsFrames, AppendsWords}
use Rattle.soxchain_stream.proofs.Appending.{ended-of, frozen-by-parts, head_words, held-of}
use Rattle.soxchain_stream.proofs.frozen.append_flow.Goals as goal

pub returns-clause-frozen : goal.returns-clause-frozen
returns-clause-frozen g c =
    let acts = g.S.Stage.acts in
    let flow = c.args.flow.now in
    let before : List ℕ = c.args.bytes.now.items in
    let reserved : List ℕ = c.reserve_exact.new.self.items in
    let a : List ℕ = c.append_words.new.bytes.items in
    let b : List ℕ = c.append_words-2.new.bytes.items in
    let d : List ℕ = c.append_numbers.new.bytes.items in
    let e : List ℕ = c.append_inlet.new.bytes.items in
    let f : List ℕ = c.append_frames.new.bytes.items in
    let same : c.stages-stages.result.now ≡ flow.stages = c.stages-stages.ensures.value in
    let inlet : c.inlet-inlet.result ≡ flow.inlet = c.inlet-inlet.ensures in
    let count : c.in-Some.count ≡ 8 * (length flow.stages + 1) = c.in-Some.ensures ∙ ap (λ l. 8 * (length l + 1)) same in
    let head : AppendsWords before a (head_words (8 * (length flow.stages + 1))) = subst (λ (l : List ℕ). AppendsWords l a (head_words (8 * (length flow.stages + 1)))) c.in_ok-reserve_exact.ensures.items
    (subst (λ (n : ℕ). AppendsWords reserved a (head_words n)) count c.in_ok-append_words.ensures) in
    let held : c.from-held.result ≡ length (option_to_list flow.inlet) = c.from-held.ensures ∙ ap from_bool c.is_some.ensures ∙ held-of c.inlet-inlet.result ∙ ap (λ (o : Option Samples). length (option_to_list o)) inlet in
    let taken : c.taken-taken.result ≡ flow.left + length (option_to_list flow.inlet) = c.taken-taken.ensures.value in
    let left : c.taken-taken.result - c.from-held.result ≡ flow.left = omega (arith, held, taken) in
    let ended : c.from.result ≡ cond flow.ended 1 0 = c.from.ensures ∙ ap from_bool c.is_ended.ensures ∙ ended-of flow.ended in
    let numbers : c.taken-taken.result ∷ (c.taken-taken.result - c.from-held.result) ∷ c.from.result ∷ 0 ∷ c.from-held.result ∷ 0 ∷ 0 ∷ 0 ∷ [] ≡ inlet_numbers flow.left flow.inlet flow.ended = cc in
    let own : AppendsWords a b (inlet_numbers flow.left flow.inlet flow.ended) = subst (λ (l : List ℕ). AppendsWords a b l) numbers c.in_ok-append_words-2.ensures in
    let stages : AppendsWords b d (numbers_all acts flow.stages) = subst (λ l. AppendsWords b d (numbers_all acts l)) same c.in_ok-append_numbers.ensures.words in
    let first : AppendsFrames d e (option_to_list flow.inlet) = subst (λ (o : Option Samples). AppendsFrames d e (option_to_list o)) inlet c.in_ok-append_inlet.ensures in
    let others : AppendsFrames e f (stored_all acts flow.stages) = subst (λ l. AppendsFrames e f (stored_all acts l)) same c.in_ok-append_frames.ensures in
    frozen-by-parts acts flow before a b d e f head own stages first others
