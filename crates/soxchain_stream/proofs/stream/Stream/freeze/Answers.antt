use Rattle.std.proofs.Common.{rules, ◌≡◌, List, ℕ, [], sym, subst}
use Rattle.soxchain_stream.specs.Snapshots.{IsFrozenAs}
use Rattle.soxchain_stream.proofs.stream.Stream.freeze.Goals as goal

pub returns-clause-frozen : goal.returns-clause-frozen
returns-clause-frozen c =
    let appended = c.in_ok-append_to.ensures.frozen in
    let empty : c.new-bytes.result.items ≡ [] = search rules in
    let whole = rw empty at appended.appended in
    subst (λ (l : List ℕ). IsFrozenAs c.args.self.now.chain l) (sym whole) appended.freezes
