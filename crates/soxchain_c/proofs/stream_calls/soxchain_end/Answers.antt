use Rattle.std.proofs.Common.{◌∙◌}
use Rattle.std.proofs.lemmas.Int.{to_z-of_z}
use Rattle.std.specs.Int.{w32}
use Rattle.soxchain_c.proofs.stream_calls.soxchain_end.Goals as goal

pub returns-clause-ended : goal.returns-clause-ended
returns-clause-ended c =
    let answers = rw c.deref_mut.ensures.value at c.end_stream-status.ensures in
    let number = to_z-of_z w32 c.number_of-2.result (record { sfits = c.number_of-2.type_inv }) ∙ c.number_of-2.ensures in
    rw c.in-Some.ensures.taken (c.end_stream-status.new.stream, c.end_stream-status.result, c.put_back.ensures, number, answers)
