use Rattle.std.proofs.Common.{◌≡◌, ◌∙◌, ◌++◌, ◌||◌, leb, length, refl, ap, sym}
use Rattle.soxchain_xxh64.proofs.Updating.{IsHashOf_edge}
use Rattle.soxchain_xxh64.proofs.state.Xxh64.take_from_edge.Goals as goal
use Rattle.soxchain_xxh64.proofs.state.Xxh64.take_from_edge.Goals.{then-self, else-self}
use borrow.Rule.Slice.PartMut.{post_of}
use Rattle.std.specs.List.{fold}
use Rattle.soxchain_xxh64.specs.Xxh64.{take_stripe}

pub returns : goal.returns
returns c = λ before held.
    let old = c.args.self.now in
    let bytes = c.args.bytes.now in
    let some : c.if-self.self ≡ (old.has_stripe || leb 32 (length bytes)) =
    elim c.if-self.branch [
      | then-self w ↦ w.self-is ∙ w.if-self.true ∙ ap (λ b. b || leb 32 (length bytes)) (sym w.if-self.true)
      | else-self w ↦ w.self-is ∙ ap (λ b. b || leb 32 (length bytes)) (sym w.if-self.false)
    ] in
    IsHashOf_edge old _ before bytes c.as_chunks.result.1.now (post_of 0 (length c.as_chunks.result.1.now) old.pending) held c.requires
    c.as_chunks.ensures.back (ap (λ xs. xs ++ post_of 0 (length c.as_chunks.result.1.now) old.pending) c.copy_from_slice.ensures.after)
    (c.take_stripes-self.ensures ∙ ap (fold take_stripe old.accumulators) c.as_chunks.ensures.front) refl some
