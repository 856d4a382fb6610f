use Rattle.std.proofs.Common.{◌≡◌, ◌++◌, drop}
use Rattle.fx_chain_flow.specs.Frozen.{numbers_all, AllSound}
use Rattle.fx_chain_flow.proofs.frozen.append_numbers.Given as goal

abbrev pub invariant-stages : goal.invariant-stages
invariant-stages g l =
    record {
      numbers : l.out.items ++ numbers_all g.S.Stage.acts (drop l.stage-index l.stages) ≡ l.initial.out.items ++ numbers_all g.S.Stage.acts l.stages;
      sound : AllSound g.S.Stage.sound (drop l.stage-index l.stages) → AllSound g.S.Stage.sound l.stages;
    }
