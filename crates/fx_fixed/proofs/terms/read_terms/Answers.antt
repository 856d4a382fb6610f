use Rattle.std.proofs.Common.{◌≡◌, ◌-◌, ◌∙◌, arith, sym, refl, take, drop, length, length-drop}
use Rattle.std.proofs.lemmas.List.{take_all}
use Rattle.std.proofs.lemmas.Result.{err_from_is_err_and}
use Rattle.fx_fixed.specs.Times.{later_terms}
use Rattle.fx_fixed.proofs.terms.read_terms.Goals as goal
use Rattle.fx_fixed.proofs.Splitting.{bad_first, bad_later, good_first, terms_split}

pub returns-in_default : goal.returns-in_default
returns-in_default c =
    let text = c.args.text.now in
    let end = c.term_end-end.result in
    let after = take (length text - end) (drop end text) in
    let rest : after ≡ drop end text = take_all (length text - end) (drop end text) (rw length-drop (omega arith)) in
    sym (terms_split c.args.rate text (take end text) after end c.if-text-gt-TIME_BYTES.false c.term_end-end.ensures.value refl rest
    ∙ bad_later c.args.rate (take end text) (later_terms after) c.in_default.ensures)

pub returns-in_err-frames : goal.returns-in_err-frames
returns-in_err-frames c =
    let text = c.args.text.now in
    let end = c.term_end-end.result in
    let after = take (length text - end) (drop end text) in
    let rest : after ≡ drop end text = take_all (length text - end) (drop end text) (rw length-drop (omega arith)) in
    let fault = err_from_is_err_and c.from_residual.result c.from_residual.ensures.1 in
    rw (fault.1, fault.2) (sym (terms_split c.args.rate text (take end text) after end c.if-text-gt-TIME_BYTES.false c.term_end-end.ensures.value refl rest
    ∙ bad_first c.args.rate (take end text) (later_terms after) c.in_err-frames.field-0.0 c.in-Some.ensures.form (sym c.in_err-frames.ensures.value)))

pub returns-in-Some-fault : goal.returns-in-Some-fault
returns-in-Some-fault c =
    let text = c.args.text.now in
    let end = c.term_end-end.result in
    let after = take (length text - end) (drop end text) in
    let rest : after ≡ drop end text = take_all (length text - end) (drop end text) (rw length-drop (omega arith)) in
    sym (terms_split c.args.rate text (take end text) after end c.if-text-gt-TIME_BYTES.false c.term_end-end.ensures.value refl rest
    ∙ good_first c.args.rate (take end text) (later_terms after) c.in_ok-frames.frames c.in-Some.later c.in-Some.ensures (sym c.in_ok-frames.ensures.value)
    ∙ rw c.in-Some-fault.is refl)

pub returns : goal.returns
returns c =
    let text = c.args.text.now in
    let end = c.term_end-end.result in
    let after = take (length text - end) (drop end text) in
    let rest : after ≡ drop end text = take_all (length text - end) (drop end text) (rw length-drop (omega arith)) in
    sym (terms_split c.args.rate text (take end text) after end c.if-text-gt-TIME_BYTES.false c.term_end-end.ensures.value refl rest
    ∙ good_first c.args.rate (take end text) (later_terms after) c.in_ok-frames.frames c.in-Some.later c.in-Some.ensures (sym c.in_ok-frames.ensures.value)
    ∙ rw c.in_default-fault.is refl)
