use Rattle.std.proofs.Common.{◌≡◌, ◌∙◌, ◌+◌, ◌<◌, ◌≤◌, ℕ, List, [], ◌∷◌, ◌++◌, ap, append_assoc, drop, length, refl, rules, subst, sym, slice_index_or}
use Rattle.std.proofs.lemmas.List.{append-nil, drop_all}
use Rattle.fx_chain_flow.specs.Frozen.{AllSound, numbers_all}
use Rattle.fx_chain_flow.proofs.Thawing.{drop-next}
use Rattle.fx_frame_base.specs.Stage.{numbers_of}
use Rattle.soxchain_stream.specs.Appended.{AppendsWords}
use Rattle.soxchain_stream.proofs.Appending.{no-words, words-then}
use Rattle.soxchain_stream.proofs.frozen.append_numbers.Goals as goal

pub stages-init : goal.stages-init
stages-init g c = record { words = ([], no-words c.args.bytes.now.items, refl); sound = λ all. all }

pub stages-preserved : goal.stages-preserved
stages-preserved g c =
    let acts = g.S.Stage.acts in
    let stages = c.args.stages.now in
    let place : ℕ = c.stages.stage-index in
    let some : place < length stages = search rules in
    let item : slice_index_or stages place c.stage-item.result ≡ c.stage-item.result = search rules in
    let j = drop-next stages place c.stage-item.result some in
    let next : drop place stages ≡ c.stage-item.result ∷ drop (place + 1) stages = search rules in
    let was = c.stages.invariant.words in
    let done : List ℕ = was.0 in
    let own : List ℕ = numbers_of acts c.stage-item.result in
    let last : AppendsWords c.stages.bytes.items c.append_words.new.bytes.items own = subst (λ (l : List ℕ). AppendsWords c.stages.bytes.items c.append_words.new.bytes.items l) c.counters.ensures.value c.in_ok-append_words.ensures in
    record {
      words = (
        done ++ own,
        words-then c.args.bytes.now.items c.stages.bytes.items c.append_words.new.bytes.items done own was.1 last,
        append_assoc done own (numbers_all acts (drop (place + 1) stages)) ∙ ap (λ l. done ++ numbers_all acts l) (sym next) ∙ was.2,
      );
      sound = λ all. c.stages.invariant.sound (rw next (c.counters.ensures.sound, all));
    }

pub returns-clause-words : goal.returns-clause-words
returns-clause-words g c =
    let acts = g.S.Stage.acts in
    let stages = c.args.stages.now in
    let was = c.stages.invariant.words in
    let done : List ℕ = was.0 in
    let end : length stages ≤ c.stages.stage-index = search rules in
    let all : done ≡ numbers_all acts stages = sym (append-nil done) ∙ ap (λ l. done ++ numbers_all acts l) (sym (drop_all c.stages.stage-index stages end)) ∙ was.2 in
    subst (λ (l : List ℕ). AppendsWords c.args.bytes.now.items c.stages.bytes.items l) all was.1

pub returns-clause-sound : goal.returns-clause-sound
returns-clause-sound g c =
    let stages = c.args.stages.now in
    let end : length stages ≤ c.stages.stage-index = search rules in
    c.stages.invariant.sound (rw (drop_all c.stages.stage-index stages end) tt)
