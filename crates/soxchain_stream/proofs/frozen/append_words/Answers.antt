use Rattle.std.proofs.Common.{ℕ, List, [], ◌∷◌, get_or, take}
use Rattle.std.proofs.lemmas.List.{take_more}
use Rattle.soxchain_stream.proofs.Appending.{words-then}
use Rattle.soxchain_stream.proofs.frozen.append_words.Goals as goal

pub words-preserved : goal.words-preserved
words-preserved c =
    let words : List ℕ = c.args.words.now in
    let place : ℕ = c.words.word-index in
    rw (take_more words place 0 c.words-test.true)
    (words-then c.args.bytes.now.items c.words.bytes.items c.append_word.new.bytes.items (take place words) (get_or words place 0 ∷ []) c.words.invariant c.in_ok-append_word.ensures)
