use Rattle.std.proofs.Common.{◌∙◌, sym, refl}
use Rattle.fx_fixed.proofs.decimals.read_decimal.Goals as goal
use Rattle.fx_fixed.proofs.Cutting.{shows_whole, shows_fraction}

pub returns-in-None : goal.returns-in-None
returns-in-None c =
    let keeps = c.read.ensures.keeps _ c.none.ensures in
    let read = shows_whole c.args.body.now c.read.result.1.now _ c.read.result.0 c.with_exponent-in-None.result c.read.ensures.rest c.in-None.ensures refl keeps c.with_exponent-in-None.ensures.form c.with_exponent-in-None.ensures.value in
    record { form = read.0; value = read.1 }

pub returns-in-Some : goal.returns-in-Some
returns-in-Some c =
    let rest_is = sym c.in-Some.ensures ∙ c.read.ensures.rest in
    let keeps = c.read-in-Some.ensures.keeps _ (c.read.ensures.keeps _ c.none.ensures) in
    let read = shows_fraction c.args.body.now c.in-Some.text.now c.read-in-Some.result.1.now _ _ c.read-in-Some.result.0 c.with_exponent.result rest_is c.read-in-Some.ensures.rest (rw c.in-Some.ensures refl) refl keeps c.with_exponent.ensures.form c.with_exponent.ensures.value in
    record { form = read.0; value = read.1 }
