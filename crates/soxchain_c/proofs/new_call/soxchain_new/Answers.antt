use Rattle.std.proofs.Common.{◌≡◌, [], ap, length, sym, ◌∙◌}
use Rattle.std.proofs.lemmas.Int.{to_z-of_z}
use Rattle.std.specs.Int.{w32}
use Rattle.soxchain_c.proofs.Faults.{new-answers}
use Rattle.soxchain_c.proofs.MessageWriter.{delivered-bytes}
use Rattle.soxchain_c.proofs.new_call.soxchain_new.Goals as goal

pub returns : goal.returns
returns c =
    let number = to_z-of_z w32 c.number_of-2.result (record { sfits = c.number_of-2.type_inv }) ∙ c.number_of-2.ensures in
    let before : c.new-delivered.result.bytes ≡ [] = c.new-delivered.ensures.bytes in
    let after : c.make-status.new.messages.bytes ≡ c.into_text-delivered.result.items = sym c.into_text-delivered.ensures.bytes in
    let read = c.read_asked-asked.ensures in (
      c.make-status.result,
      c.into_text-delivered.result.items,
      number,
      ap length c.as_slice.ensures,
      rw c.as_slice-2.ensures at c.put.ensures,
      new-answers c.read_asked-asked.result _ _ _ _ _ _ c.in-Ok.head _ _ _ _ read.words read.files read.ends read.texts read.fault c.in-Ok.ensures.head c.in-Ok.ensures.right
          (λ text delivered. delivered-bytes c.make-status.new.messages.failures _ text c.into_text-delivered.ensures.long (rw (before, after, c.new-delivered.ensures.failures) at delivered))
          (λ same. sym after ∙ ap (λ m. m.bytes) same ∙ before)
          c.make-status.ensures,
    )
