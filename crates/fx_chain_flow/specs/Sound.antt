use Rattle.std.specs.Prelude.{ℕ, ◌+◌, ◌<◌, ◌≤◌, ◌^◌, true, List, ◌≡◌, None}
use Rattle.fx_frame_base.specs.PendingFrame.{IsPending}
use Rattle.fx_frame_base.specs.Stage.{Acts, StageKind}
use Rattle.fx_frame_base.specs.Holds.{kinds, hold_sum}
use Rattle.fx_chain_flow.specs.Parts.{Parts, taken_of, Matching, Within, work, Joined}

-- the maximum number of frames that a flow takes
abbrev pub max_frames : ℕ
max_frames = 2 ^ 40

-- stages of these kinds may form a pipeline that takes frames of these channels
pub record IsPlanned (ks : List StageKind) (channels : ℕ) : Type 0 where
  pub matching : Matching channels ks
  pub within : Within ks max_frames
  pub work : work ks max_frames + 1 < 2 ^ 64
  pub hold : 1 + hold_sum ks < 2 ^ 64

module _ {S R : Type 0} (acts : Acts S R) where
  -- the invariant of a flow
  pub record IsSound (f : Parts S) : Type 0 where
    pub planned : IsPlanned (kinds acts f.stages) f.channels
    pub joined : Joined acts f.left f.ended f.stages
    pub bound : taken_of f ≤ max_frames
    pub inlet : IsPending f.channels f.inlet
    pub closed : f.ended ≡ true → f.inlet ≡ None
