use Rattle.std.proofs.Common.{◌≡◌, ◌++◌, take, drop}
use Rattle.fx_chain_flow.specs.Frozen.{stored_all, numbers_all, AllMade}
use Rattle.fx_chain_flow.proofs.frozen.thaw_all.Given as goal
use Rattle.fx_chain_flow.proofs.Thawing.{ThawsOn}

abbrev pub invariant-arguments : goal.invariant-arguments
invariant-arguments g l =
    record {
      made : AllMade g.S.Thaws.made (take l.argument-index l.arguments) l.out.items;
      stored : l.frames ≡ stored_all g.S.Stage.acts l.out.items ++ l.later;
      counted : l.numbers ≡ numbers_all g.S.Stage.acts l.out.items ++ l.rest;
      thaws : ThawsOn g.S.Stage.acts g.S.Stage.sound g.S.Thaws.made l.arguments l.frames l.numbers l.out.items (drop l.argument-index l.arguments) l.later l.rest;
    }
