use Rattle.std.proofs.Common.{◌≡◌, ◌-◌, ◌<◌, arith, refl, take, drop, length, length-drop}
use Rattle.std.proofs.lemmas.List.{take_all}
use Rattle.fx_fixed.proofs.coefficient_files.next_word.Goals as goal
use Rattle.fx_fixed.proofs.Wording.{word_found}

pub returns-clause-words : goal.returns-clause-words
returns-clause-words c =
    let text = c.args.text.now in
    let start = c.word_start-start.result in
    let end = c.word_end-end.result in
    let rest = take (length text - start) (drop start text) in
    let rest_is : rest ≡ drop start text = take_all (length text - start) (drop start text) (rw length-drop (omega arith)) in
    let after_is : take (length rest - end) (drop end rest) ≡ drop end rest = take_all (length rest - end) (drop end rest) (rw length-drop (omega arith)) in
    let within = c.word_start-start.ensures.within in
    let differs = c.if-start-text.false in
    let some : 0 < length rest = rw (rest_is, length-drop) (omega arith) in
    word_found text rest (take end rest) _ start end rest_is refl after_is c.word_start-start.ensures.same c.word_start-start.ensures.begins some c.word_end-end.ensures.word c.word_end-end.ensures.ends c.word_end-end.ensures.within
