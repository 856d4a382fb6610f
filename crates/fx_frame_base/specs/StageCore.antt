-- The state that most stages have in common (this project's profile).
use Rattle.std.specs.Prelude.{ℕ, ◌+◌, ◌*◌, ◌≤◌, ◌≡◌, true, false, List, Option, Some, None, length, map, option_to_list}
use Rattle.fx_frame_base.specs.declared.stage.Counters.{Counters}
use Rattle.fx_frame_base.specs.declared.stage_core.StageCore.{StageCore}
use Rattle.fx_frame_base.specs.Frame.{Samples}
use Rattle.fx_frame_base.specs.PendingFrame.{IsPending}
use Rattle.fx_frame_base.specs.Stage.{Counts, Given, max_taken}

-- that of a new stage
abbrev pub new_core : StageCore
new_core = record { pending = None; pending_clips = 0; taken = 0; given = 0; clips = 0; ended = false }

-- that of a stage which counted these, and has this pending frame with so many clips
abbrev pub restored_core : Option Samples → ℕ → Counters → StageCore
restored_core pending clips n = record { pending = pending; pending_clips = clips; taken = n.taken; given = n.given; clips = n.clips; ended = n.ended }

-- what it counted
abbrev pub core_counts : StageCore → Counts
core_counts c = record { taken = c.taken; given = c.given; clips = c.clips; ended = c.ended }

-- the same, as a stage tells it
abbrev pub core_counters : StageCore → Counters
core_counters c = record { taken = c.taken; given = c.given; clips = c.clips; ended = c.ended }

-- its pending frame, if there is one, as a list
abbrev pub pending_frames : StageCore → List Samples
pending_frames c = option_to_list c.pending

-- the same with its clips
abbrev pub pending_given : StageCore → List Given
pending_given c = map (λ x. record { samples = x; clips = c.pending_clips }) (pending_frames c)

-- the core after a frame was taken, and this one made of it, with so many clips
abbrev pub after_offering : Samples → ℕ → StageCore → StageCore
after_offering frame clips c = record c { pending = Some frame; pending_clips = clips; taken = c.taken + 1 }

-- the core after its pending frame was given
abbrev pub after_pending : StageCore → StageCore
after_pending c = record c { pending = None; pending_clips = 0; given = c.given + 1; clips = c.clips + c.pending_clips }

-- the core after `count` frames were taken and given in one call, with so many clips
abbrev pub after_passing : ℕ → ℕ → StageCore → StageCore
after_passing count clips c = record c { taken = c.taken + count; given = c.given + count; clips = c.clips + clips }

-- the invariant of the core of a stage that gives frames of `channels` channels with at most `max_clips` clips each
pub record IsCore (channels max_clips : ℕ) (c : StageCore) : Type 0 where
  pub bound : c.taken ≤ max_taken
  pub clips_max : c.clips ≤ c.given * max_clips
  pub pending_max : c.pending_clips ≤ max_clips
  -- no clips without a pending frame, and no pending frame after the end
  pub idle : length (pending_frames c) ≡ 0 → c.pending_clips ≡ 0
  pub over : c.ended ≡ true → length (pending_frames c) ≡ 0
  pub fits : IsPending channels c.pending

-- the invariant of the core of a stage that clips no sample, and whose pending frame may be one that it took earlier
pub record IsUnclippedCore (channels : ℕ) (c : StageCore) : Type 0 where
  pub bound : c.taken ≤ max_taken
  pub no_clips : c.clips ≡ 0
  pub no_pending_clips : c.pending_clips ≡ 0
  pub fits : IsPending channels c.pending
