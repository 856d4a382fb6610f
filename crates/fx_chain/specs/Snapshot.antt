-- What a chain stores and counts (this project's profile).
use Rattle.std.specs.Prelude.{◌≡◌, MatchResult, Result}
use Rattle.fx_chain.specs.Chain.{ChainParts, IsChain}
use Rattle.fx_chain.specs.declared.snapshot.Snapshot.{Snapshot}
use Rattle.fx_chain_flow.specs.Frozen.{AllSound, FreezesFlow}
use Rattle.fx_chain_flow.specs.Sound.{IsSound}
use Rattle.fx_frame_base.specs.declared.stage.ThawFault.{ThawFault}
use Rattle.fx_frame_base.specs.declared.stage.ThawFault.TheVariants.{Memory}
use Rattle.fx_plan.specs.Planning.{Planning, planning}
use Rattle.fx_chain_stages.specs.Stages.{effect_acts, sound_of_stages}

-- the invariant of a chain, of its flow and of each of its stages
pub record IsSoundChain (c : ChainParts) : Type 0 where
  pub chain : IsChain c
  pub flow : IsSound effect_acts c.flow
  pub stages : AllSound sound_of_stages c.flow.stages

-- a snapshot of a chain: its plan, the frames that it stores, and the numbers that it counts
pub record IsSnapshotOf (c : ChainParts) (s : Snapshot) : Type 0 where
  pub plan : planning s.plan ≡ c.plan
  pub flow : FreezesFlow effect_acts c.flow s.frames.items s.numbers.items

-- the chain of this plan that was frozen to the snapshot, whichever that was, is restored, unless memory is refused
abbrev pub RestoresChain : Planning → Snapshot → Result ChainParts ThawFault → Type 0
RestoresChain p s result = (c : ChainParts) → IsSoundChain c → c.plan ≡ p → IsSnapshotOf c s → MatchResult result (λ t. t ≡ c) (λ e. e ≡ Memory)
