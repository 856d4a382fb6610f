use Rattle.std.proofs.Common.{◌≡◌, ◌∙◌, ap, sym, refl, take, Some, None, Ok, Err}
use Rattle.std.specs.List.{before_first, position_or_len}
use Rattle.std.proofs.lemmas.Result.{err_from_is_err_and}
use Rattle.fx_tap_pointwise.specs.InSpecs.{is_letter, vol_spec}
use Rattle.fx_tap_pointwise.proofs.InSpecs.{front-cut, in_spec-read}
use Rattle.fx_tap_pointwise.proofs.remix.words.in_spec.read_in_spec.Goals as goal

pub returns-in_default-clause-value : goal.returns-in_default-clause-value
returns-in_default-clause-value c =
    let place = c.letter_place-place.ensures.value ∙ ap (λ xs. position_or_len is_letter xs) c.as_bytes.ensures.value in
    let front : c.range.result.now ≡ before_first is_letter c.args.text.now = c.range.ensures.value ∙ front-cut c.letter_place-place.result c.args.text.now ∙ ap (λ n. take n c.args.text.now) place in
    let ends = sym c.in_default.is ∙ c.read_ends.ensures.value in
    in_spec-read c.args.channels c.args.text.now c.range.result.now None (vol_spec c.args.text.now) c.requires.maximum front ends refl

pub returns-clause-value : goal.returns-clause-value
returns-clause-value c =
    let place = c.letter_place-place.ensures.value ∙ ap (λ xs. position_or_len is_letter xs) c.as_bytes.ensures.value in
    let front : c.range.result.now ≡ before_first is_letter c.args.text.now = c.range.ensures.value ∙ front-cut c.letter_place-place.result c.args.text.now ∙ ap (λ n. take n c.args.text.now) place in
    c.in_order.ensures.value
    ∙ in_spec-read c.args.channels c.args.text.now c.range.result.now (Some (c.in-Some.first, c.in-Some.second)) (Ok c.in_ok-gain.gain) c.requires.maximum front c.in-Some.ensures.value c.in_ok-gain.ensures

pub returns-in_err-gain-clause-value : goal.returns-in_err-gain-clause-value
returns-in_err-gain-clause-value c =
    let place = c.letter_place-place.ensures.value ∙ ap (λ xs. position_or_len is_letter xs) c.as_bytes.ensures.value in
    let front : c.range.result.now ≡ before_first is_letter c.args.text.now = c.range.ensures.value ∙ front-cut c.letter_place-place.result c.args.text.now ∙ ap (λ n. take n c.args.text.now) place in
    let fault = err_from_is_err_and c.from_residual.result c.from_residual.ensures.1 in
    rw (fault.1, fault.2)
    (in_spec-read c.args.channels c.args.text.now c.range.result.now (Some (c.in-Some.first, c.in-Some.second)) (Err c.in_err-gain.field-0.0) c.requires.maximum front c.in-Some.ensures.value c.in_err-gain.ensures)
