use Rattle.std.proofs.Common.{◌≡◌, ◌++◌, take}
use Rattle.fx_chain_flow.proofs.frozen.append_stored.Given as goal

abbrev pub invariant-places : goal.invariant-places
invariant-places g l = l.out.items ≡ l.initial.out.items ++ take l.j (g.S.Stage.acts.stored l.stage)
