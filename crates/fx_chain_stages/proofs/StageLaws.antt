-- What holds of stages of any effects: the frames that they store have 32 bits.
use Rattle.std.proofs.Common.{List, [], ◌∷◌}
use Rattle.std.specs.List.{All}
use Rattle.std.proofs.lemmas.List.Elements.{All-cons, All-nil}
use Rattle.fx_chain_flow.specs.Frozen.{AllSound}
use Rattle.fx_chain_stages.specs.declared.registry.EffectStage.{EffectStage}
use Rattle.fx_chain_stages.specs.Stages.{sound_of_stages}
use Rattle.fx_chain_stages.specs.Narrow.{IsNarrow}
use Rattle.fx_chain_stages.proofs.Registered.{is-member}
pub use Rattle.fx_chain_stages.proofs.Joining.{narrow-pending}

pub narrow-stages : (all : List EffectStage) → AllSound sound_of_stages all → All IsNarrow all
narrow-stages [] h = All-nil IsNarrow
narrow-stages (s ∷ all) h = All-cons IsNarrow s all ((is-member s).narrow h.0) (narrow-stages all h.1)
