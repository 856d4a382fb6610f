use Rattle.std.specs.Prelude.{IfErr, IfNone, Result, Ok, Err}
use Rattle.std.specs.Result.{result_ok}
use Rattle.soxchain_cli.specs.SameFile.{Same, Unmade}
use Rattle.soxchain_cli.proofs.same_file.create_beside.Goals as goal

-- what follows of a refusal holds where there is no file
refused : {X E P Q : Type 0} (result : Result X E) → (P → Q) → IfErr result (λ _. P) → IfNone (result_ok result) Q
refused (Ok file) follows h = tt
refused (Err error) follows h = follows h

pub returns-then-is_input-clause-unmade : goal.returns-then-is_input-clause-unmade
returns-then-is_input-clause-unmade g c = Same (c.is_input.ensures.same c.if-is_input.true)

pub returns-clause-unmade : goal.returns-clause-unmade
returns-clause-unmade g c =
    rw c.ok.ensures.value
    (refused c.make.result
    (Unmade c.is_input.new.host (c.is_input.ensures.other c.if-is_input.false))
    c.make.ensures.refused)
