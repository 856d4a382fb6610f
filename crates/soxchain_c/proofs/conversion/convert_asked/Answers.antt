use Rattle.std.proofs.Common.{◌≡◌, [], ap, refl, sym, ◌∙◌, Some}
use Rattle.std.proofs.lemmas.Int.{to_z-of_z}
use Rattle.std.specs.Int.{w32}
use Rattle.soxchain_c.proofs.Conversions.{concludes-more, converted-bytes}
use Rattle.soxchain_c.proofs.MessageWriter.{delivered-bytes}
use Rattle.soxchain_c.proofs.conversion.convert_asked.Goals as goal

pub returns : goal.returns
returns c =
    let e = c.convert-status.ensures in
    let before : c.new-output.result.inner.items ≡ [] = ap (λ v. v.items) c.new-output.ensures.inner ∙ c.new.ensures.items in
    let after : c.convert-status.new.output.inner.items ≡ c.into_inner.result.items = sym (ap (λ v. v.items) c.into_inner.ensures) in
    let silent : c.new-messages.result.bytes ≡ [] = c.new-messages.ensures.bytes in
    let said : c.convert-status.new.messages.bytes ≡ c.into_text.result.items = sym c.into_text.ensures.bytes in
    record {
      number = c.convert-status.result.0;
      status_is = to_z-of_z w32 c.from.result (record { sfits = c.from.type_inv }) ∙ c.from.ensures;
      found = e.0;
      reads = rw c.deref.ensures.value at e.1;
      concludes = rw (sym c.deref-2.ensures.value) (concludes-more _ _ e.0
          (λ line outcome converted. converted-bytes _ _ line _ _ _ _ _ outcome c.args.input.now c.into_inner.result.items (λ r. refl) (ap Some c.new-2.ensures.left) (ap Some before) (ap Some after) converted)
          (λ untouched. sym after ∙ ap (λ o. o.inner.items) untouched.1 ∙ before)
          (λ text delivered. delivered-bytes c.convert-status.new.messages.failures _ text c.into_text.ensures.long (rw (silent, said, c.new-messages.ensures.failures) at delivered))
          e.2);
    }
