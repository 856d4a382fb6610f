use Rattle.std.proofs.Common.{refl}
use Rattle.std.proofs.lemmas.Result.{err_from_is_err_and}
use Rattle.fx_plan_words.specs.Faults.{word_texts}
use Rattle.fx_plan.specs.Groups.{effects_of}
use Rattle.fx_plan.specs.Plans.{acts_of, plan_bytes, effects_faults, end_faults}
use Rattle.fx_plan.proofs.Refusing.{refuses_front}
use Rattle.fx_plan.proofs.planned.read_plan.Goals as goal

pub returns-in_err-planned-clause-read : goal.returns-in_err-planned-clause-read
returns-in_err-planned-clause-read c =
    let files = plan_bytes c.args.files.now in
    let effects = effects_of (word_texts c.args.words.now) in
    let ends = end_faults (acts_of c.args.layout files effects) in
    let fault = err_from_is_err_and c.from_residual.result c.from_residual.ensures.1 in
    rw (fault.1, fault.2)
    (refuses_front c.in_err-planned.field-0.0 (effects_faults 1 c.args.layout files effects) ends _ refl c.in_err-planned.ensures.read)
