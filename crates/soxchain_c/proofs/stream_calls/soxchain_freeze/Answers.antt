use Rattle.std.proofs.Common.{◌∙◌}
use Rattle.std.proofs.lemmas.Int.{to_z-of_z}
use Rattle.std.specs.Int.{w32}
use Rattle.soxchain_c.proofs.stream_calls.soxchain_freeze.Goals as goal

pub returns-clause-frozen : goal.returns-clause-frozen
returns-clause-frozen c =
    let answers = rw c.deref.ensures at c.freeze_stream-status.ensures in
    let number = to_z-of_z w32 c.number_of-2.result (record { sfits = c.number_of-2.type_inv }) ∙ c.number_of-2.ensures in
    rw c.in-Some.ensures.taken (c.freeze_stream-status.result, number, answers)
