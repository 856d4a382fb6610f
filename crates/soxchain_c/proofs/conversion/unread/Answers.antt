use Rattle.std.proofs.Common.{◌≡◌, [], ap, sym, ◌∙◌}
use Rattle.std.proofs.lemmas.Int.{to_z-of_z}
use Rattle.std.specs.Int.{w32}
use Rattle.soxchain_c.proofs.Faults.{fault-more}
use Rattle.soxchain_c.proofs.MessageWriter.{delivered-bytes}
use Rattle.soxchain_c.proofs.conversion.unread.Goals as goal

pub returns-clause-answers : goal.returns-clause-answers
returns-clause-answers c =
    let number = to_z-of_z w32 c.number_of-status.result (record { sfits = c.number_of-status.type_inv }) ∙ c.number_of-status.ensures in
    let before : c.new-delivered.result.bytes ≡ [] = c.new-delivered.ensures.bytes in
    let after : c.refuse.new.messages.bytes ≡ c.into_text.result.items = sym c.into_text.ensures.bytes in (
      c.refuse.result,
      number,
      fault-more _ _
          (λ text delivered. delivered-bytes c.refuse.new.messages.failures _ text c.into_text.ensures.long (rw (before, after, c.new-delivered.ensures.failures) at delivered))
          (λ same. sym after ∙ ap (λ m. m.bytes) same ∙ before)
          c.refuse.ensures.answers,
    )
