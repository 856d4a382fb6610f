use Rattle.std.proofs.Common.{ap, sym}
use Rattle.soxchain.proofs.Converting.{line-read}
use Rattle.soxchain_plan.specs.Answering.{BadWords, Shown, Worked}
use Rattle.soxchain_plan.proofs.Advised.{read-refused}
use Rattle.soxchain_plan.proofs.answer_words.Goals as goal

pub returns-in-Some : goal.returns-in-Some
returns-in-Some g c = Shown c.in-Some.text.now (sym c.in-Some.ensures) (rw (c.as_bytes.ensures.value) at c.show.ensures)

pub returns-in-Ok : goal.returns-in-Ok
returns-in-Ok g c =
    let style = ap (λ p. p.0) c.split-style.ensures in
    let more = ap (λ p. p.1) c.split-style.ensures in
    Worked c.in-Ok.line (sym c.in_default.ensures) (rw more at (line-read _ c.in-Ok.line c.in-Ok.ensures)) (rw style at c.answer_line.ensures)

pub refuse_words-requires : goal.refuse_words-requires
refuse_words-requires g c = read-refused _ c.in-Err.fault c.in-Err.ensures

pub returns-in-Err : goal.returns-in-Err
returns-in-Err g c =
    let style = ap (λ p. p.0) c.split-style.ensures in
    let more = ap (λ p. p.1) c.split-style.ensures in
    BadWords c.in-Err.fault (sym c.in_default.ensures) (rw more at c.in-Err.ensures) (rw (style, more) at c.refuse_words.ensures)
