-- A chain as bytes (docs/library.md, "A frozen stream").
use Rattle.std.specs.Prelude.{ℕ, List, ◌++◌, ◌≡◌}
use Rattle.fx_chain.specs.Chain.{ChainParts}
use Rattle.fx_chain_flow.specs.Frozen.{FreezesFlow}
use Rattle.fx_frame_base.specs.Frame.{Samples}
use Rattle.fx_chain_stages.specs.Stages.{effect_acts}
use Rattle.soxchain_stream.specs.Frozen.{AreStored, snapshot_bytes}

-- these are the bytes of the frames that a chain stores and the numbers that it counts
pub record IsFrozenAs (c : ChainParts) (bytes : List ℕ) : Type 0 where
  pub numbers : List ℕ
  pub frames : List Samples
  pub freezes : FreezesFlow effect_acts c.flow frames numbers
  pub stored : AreStored numbers frames
  pub bytes_are : bytes ≡ snapshot_bytes numbers frames

-- Bytes to which a chain may be frozen were appended.
pub record AppendsChain (c : ChainParts) (old new : List ℕ) : Type 0 where
  pub frozen : List ℕ
  pub freezes : IsFrozenAs c frozen
  pub appended : new ≡ old ++ frozen
