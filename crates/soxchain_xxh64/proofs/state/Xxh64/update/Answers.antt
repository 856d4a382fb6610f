use Rattle.std.proofs.Common.{◌++◌, ◌∙◌, ◌-◌, ◌%◌, ap, subst}
use Rattle.std.proofs.lemmas.List.{append_assoc}
use Rattle.soxchain_xxh64.specs.IsHashOf.{IsHashOf}
use Rattle.soxchain_xxh64.proofs.Stripes.{parts_joined}
use Rattle.soxchain_xxh64.proofs.state.Xxh64.update.Goals as goal

pub returns-in-Some : goal.returns-in-Some
returns-in-Some c = λ before held.
    let cases = c.in-Some.ensures.cases in
    let front = c.in-Some.front.now in
    let rest = c.in-Some.rest.now in
    let whole = parts_joined ((32 - c.pending_size.result) % 32) c.args.bytes.now front rest cases.1 cases.2 in
    subst (λ xs. IsHashOf xs c.take_from_edge.new.self) (append_assoc before front rest ∙ ap (λ xs. before ++ xs) whole)
    (c.take_from_edge.ensures (before ++ front) (c.fill.ensures.hash before held))
