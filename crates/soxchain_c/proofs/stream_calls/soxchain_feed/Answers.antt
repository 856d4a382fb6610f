use Rattle.std.proofs.Common.{◌∙◌}
use Rattle.std.proofs.lemmas.Int.{to_z-of_z}
use Rattle.std.specs.Int.{w32}
use Rattle.soxchain_c.proofs.stream_calls.soxchain_feed.Goals as goal

pub returns-clause-fed : goal.returns-clause-fed
returns-clause-fed c =
    let answers = rw c.deref_mut.ensures.value at c.feed_stream-status.ensures in
    let number = to_z-of_z w32 c.number_of-2.result (record { sfits = c.number_of-2.type_inv }) ∙ c.number_of-2.ensures in
    rw c.in-Some.ensures.taken (c.feed_stream-status.new.stream, c.feed_stream-status.result, c.put_back.ensures, number, answers)
