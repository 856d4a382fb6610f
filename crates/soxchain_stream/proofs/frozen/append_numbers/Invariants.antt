use Rattle.std.proofs.Common.{◌≡◌, ◌++◌, ℕ, List, drop}
use Rattle.fx_chain_flow.specs.Frozen.{AllSound, numbers_all}
use Rattle.soxchain_stream.specs.Appended.{AppendsWords}
use Rattle.soxchain_stream.proofs.frozen.append_numbers.Given as goal

abbrev pub invariant-stages : goal.invariant-stages
invariant-stages g l = record {
  words : (done : List ℕ) × AppendsWords l.initial.bytes.items l.bytes.items done
      × (done ++ numbers_all g.S.Stage.acts (drop l.stage-index l.stages) ≡ numbers_all g.S.Stage.acts l.stages);
  sound : AllSound g.S.Stage.sound (drop l.stage-index l.stages) → AllSound g.S.Stage.sound l.stages;
}
