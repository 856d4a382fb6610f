-- The stage of `upsample`: what it stores, its invariant, and what it is still to give (this project's profile).
use Rattle.std.specs.Prelude.{ℕ, ◌+◌, ◌*◌, ◌/◌, ◌^◌, ◌<◌, ◌≤◌, ◌≡◌, true, ◌&&◌, ◌++◌, length, replicate, is_none, nat_eq}
use Rattle.fx_frame_base.specs.Frame.{silence}
use Rattle.fx_frame_base.specs.Stage.{Acts, coming}
use Rattle.fx_frame_base.specs.StageCore.{IsCore, core_counts, pending_frames, pending_given}
use Rattle.fx_frame_base.specs.declared.stage_core.StageCore.{StageCore}
use Rattle.fx_frame_base.specs.Given.{plain}
use Rattle.fx_cut.specs.Factor.{FactorArguments, IsFactor}
use Rattle.fx_cut.specs.Upsample.{upsampled, upsample_kind, upsample_meaning}

-- what an `Upsample` stores
pub record UpsampleState : Type 0 where
  pub core : StageCore
  pub recipe : FactorArguments
  -- how many silent frames are to be given after the pending frame
  pub silent : ℕ

-- the invariant of the stage
pub record IsUpsample (s : UpsampleState) : Type 0 where
  -- what holds of each core; no sample is clipped
  pub core : IsCore s.recipe.channels 0 s.core
  pub arguments : IsFactor s.recipe
  pub counted : s.core.given + length (pending_frames s.core) + s.silent ≡ s.core.taken * s.recipe.factor
  -- all silent frames are left after a pending frame, and none after the end
  pub fewer : s.silent < s.recipe.factor
  pub pending_place : 0 < length (pending_frames s.core) → s.silent + 1 ≡ s.recipe.factor
  pub over : s.core.ended ≡ true → s.silent ≡ 0
  -- it takes fewer frames than each core may, so that it gives no more than that
  pub limit : s.core.taken ≤ 2 ^ 56 / s.recipe.factor

-- how the stages of `upsample` behave
abbrev pub upsample_acts : Acts UpsampleState FactorArguments
upsample_acts = record {
  recipe = λ s. s.recipe;
  kind_of = upsample_kind;
  meaning = upsample_meaning;
  rest = λ s z. pending_given s.core ++ (replicate s.silent (plain (silence s.recipe.channels)) ++ upsampled s.recipe.channels s.recipe.factor (coming s.core.ended z));
  counts = λ s. core_counts s.core;
  dry = λ s. is_none s.core.pending && nat_eq s.silent 0;
  stored = λ s. pending_frames s.core;
  capacity = λ s. 0;
  state_counters = λ s. record { first = s.silent; second = 0; third = 0 };
}
