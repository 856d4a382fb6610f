-- Which samples of stored frames have 32 bits (this project's profile).
use Rattle.std.specs.Prelude.{List, FitsSigned}
use Rattle.std.specs.Int.{w32}
use Rattle.std.specs.List.{All}
use Rattle.fx_frame_base.specs.Frame.{Samples}
use Rattle.fx_frame_base.specs.StageCore.{pending_frames}
use Rattle.fx_chain_stages.specs.declared.registry.EffectStage.{EffectStage}
use Rattle.fx_chain_stages.specs.declared.registry.EffectStage.TheVariants as stages
use Rattle.fx_chain_stages.specs.Stages.{stored_of}

-- every sample of the frames has 32 bits
abbrev pub AreNarrow : List Samples → Type 0
AreNarrow frames = All (λ frame. All (FitsSigned w32) frame) frames

-- those of the frames that a stage stores, but for the lines of `echos`, which may hold sums
abbrev pub IsNarrow : EffectStage → Type 0
IsNarrow (stages.Echos s) = AreNarrow (pending_frames s.core)
IsNarrow s = AreNarrow (stored_of s)
