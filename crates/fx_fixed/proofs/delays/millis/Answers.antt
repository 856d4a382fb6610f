use Rattle.std.proofs.Common.{◌+◌, ◌*◌, ◌^◌, ◌<◌, ◌∙◌, ap, arith, sym, refl, inr}
use Rattle.std.proofs.lemmas.Grind.{common_steps}
use Rattle.fx_fixed.specs.Decimals.{is_negative, parts_of, unsigned}
use Rattle.fx_fixed.specs.Clock.{within_reach}
use Rattle.fx_fixed.specs.Delays.{delay_of}
use Rattle.fx_fixed.proofs.delays.millis.Goals as goal
use Rattle.fx_fixed.proofs.Delaying.{millis_plain, too_far}

pub returns-in_default-nearest_parts : goal.returns-in_default-nearest_parts
returns-in_default-nearest_parts c =
    let bytes = c.as_bytes.ensures.value in
    let sign = c.split_sign-is_negative.ensures.sign ∙ ap is_negative bytes in
    let body = c.split_sign-is_negative.ensures.rest ∙ ap unsigned bytes in
    let over = c.in_default-nearest_parts.ensures c.split_sign-is_negative.result.1.now c.in-Some.ensures.value in
    let many : (2 ^ 40 + 1) * 10 ^ 12 < parts_of (10 ^ 9) c.split_sign-is_negative.result.1.now = grind (arith, over, c.from-maximum.ensures) in
    sym (millis_plain c.args.rate c.args.text.now c.split_sign-is_negative.result.1.now c.split_sign-is_negative.result.0 c.in-Some.number sign body c.if-text-gt-NUMBER_BYTES.false (c.in-Some.ensures.form.0 refl) c.in-Some.ensures.value c.if-number-gt-MAX_EXPONENT.false c.if-number-gt-MAX_EXPONENT-2.false (inr c.if-is_negative.false)
    ∙ too_far c.args.rate (parts_of (10 ^ 9) c.split_sign-is_negative.result.1.now) c.requires many)

pub returns : goal.returns
returns c =
    let bytes = c.as_bytes.ensures.value in
    let sign = c.split_sign-is_negative.ensures.sign ∙ ap is_negative bytes in
    let body = c.split_sign-is_negative.ensures.rest ∙ ap unsigned bytes in
    let parts = (c.in-Some-nearest_parts.ensures c.split_sign-is_negative.result.1.now c.in-Some.ensures.value).1 in
    let cases = rw parts at c.else-is_negative-2.either in
    c.delay_frames.ensures
    ∙ ap (λ n. within_reach (delay_of c.args.rate n)) parts
    ∙ sym (millis_plain c.args.rate c.args.text.now c.split_sign-is_negative.result.1.now c.split_sign-is_negative.result.0 c.in-Some.number sign body c.if-text-gt-NUMBER_BYTES.false (c.in-Some.ensures.form.0 refl) c.in-Some.ensures.value c.if-number-gt-MAX_EXPONENT.false c.if-number-gt-MAX_EXPONENT-2.false cases)

-- The prover finds these too, but searches long.
pub returns-then-is_negative : goal.returns-then-is_negative
returns-then-is_negative c = grind (arith, common_steps)

pub returns-then-billionths-gt0 : goal.returns-then-billionths-gt0
returns-then-billionths-gt0 c = grind (arith, common_steps)
