-- The stage of `downsample`: what it stores, its invariant, and what it is still to give (this project's profile).
use Rattle.std.specs.Prelude.{ℕ, ◌+◌, ◌*◌, ◌<◌, ◌≡◌, ◌++◌, drop, length, is_none}
use Rattle.std.specs.Int.{div_ceil}
use Rattle.fx_frame_base.specs.Stage.{Acts, coming}
use Rattle.fx_frame_base.specs.StageCore.{IsCore, core_counts, pending_frames, pending_given}
use Rattle.fx_frame_base.specs.declared.stage_core.StageCore.{StageCore}
use Rattle.fx_cut.specs.Factor.{FactorArguments, IsFactor}
use Rattle.fx_cut.specs.Downsample.{downsampled, downsample_kind, downsample_meaning}

-- what a `Downsample` stores
pub record DownsampleState : Type 0 where
  pub core : StageCore
  pub recipe : FactorArguments
  -- how many frames are still to be left out
  pub skip : ℕ

-- the invariant of the stage
pub record IsDownsample (s : DownsampleState) : Type 0 where
  -- what holds of each core; no sample is clipped
  pub core : IsCore s.recipe.channels 0 s.core
  pub arguments : IsFactor s.recipe
  pub counted : s.core.given + length (pending_frames s.core) ≡ div_ceil s.core.taken s.recipe.factor
  pub skipped : s.core.taken + s.skip ≡ div_ceil s.core.taken s.recipe.factor * s.recipe.factor
  -- a frame is pending only before the frames that are left out
  pub pending_place : 0 < length (pending_frames s.core) → s.skip + 1 ≡ s.recipe.factor

-- how the stages of `downsample` behave
abbrev pub downsample_acts : Acts DownsampleState FactorArguments
downsample_acts = record {
  recipe = λ s. s.recipe;
  kind_of = downsample_kind;
  meaning = downsample_meaning;
  rest = λ s z. pending_given s.core ++ downsampled s.recipe.factor (drop s.skip (coming s.core.ended z));
  counts = λ s. core_counts s.core;
  dry = λ s. is_none s.core.pending;
  stored = λ s. pending_frames s.core;
  capacity = λ s. 0;
  state_counters = λ s. record { first = s.skip; second = 0; third = 0 };
}
