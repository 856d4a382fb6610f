use Rattle.std.proofs.Common.{◌∷◌, rules, string_bytes}
use Rattle.fx_plan_words.specs.Faults.{word_texts}
use Rattle.fx_plan.proofs.Refusing.{refuses_step}
use Rattle.fx_plan.proofs.planned.read_step.Goals as goal

pub returns-clause-read : goal.returns-clause-read
returns-clause-read c =
    let words = string_bytes c.args.name.now ∷ word_texts c.args.words.now in
    search (rules, refuses_step c.args.number c.args.layout c.args.file.now words)
