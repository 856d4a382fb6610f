-- Effects that round each sample alone, the same in every channel (this project's profile).
use Rattle.std.specs.Prelude.{ℕ}
use Rattle.fx_frame_base.specs.Stage.{StageKind}
use Rattle.fx_frame.specs.Kinds.{map_kind}

-- what such an effect is made with
pub record SampleArguments (S : Type 0) : Type 0 where
  pub channels : ℕ
  pub sampling : S

-- what it takes and gives, and when each frame is due
abbrev pub sample_kind : {S : Type 0} → SampleArguments S → StageKind
sample_kind a = map_kind a.channels a.channels
