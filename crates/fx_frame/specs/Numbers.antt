-- The numbers of a stage in a snapshot, by name: those of a core, and all eight of a stage with a tail (this project's profile).
use Rattle.std.specs.Prelude.{ℕ, ◌*◌, ◌≤◌, ◌≡◌, List, Option, slice_index_or, nat_eq}
use Rattle.fx_frame_base.specs.Frame.{Samples}
use Rattle.fx_frame_base.specs.Stage.{max_taken}
use Rattle.fx_frame_base.specs.StageCore.{restored_core}
use Rattle.fx_frame_base.specs.declared.stage_core.StageCore.{StageCore}
use Rattle.fx_frame.specs.declared.numbers.CoreNumbers.{CoreNumbers}
use Rattle.fx_frame.specs.declared.numbers.TailNumbers.{TailNumbers}

-- the numbers of a core whose frames have at most `max_clips` clipped samples each
pub record AreCoreNumbers (max_clips : ℕ) (n : CoreNumbers) : Type 0 where
  -- the flag of the end is 0 or 1
  pub flag : n.ended ≤ 1
  -- no more frames than a stage may take
  pub bound : n.taken ≤ max_taken
  -- no clips without a pending frame, and no pending frame after the end
  pub idle : n.pending_count ≡ 0 → n.pending_clips ≡ 0
  pub over : 1 ≤ n.ended → n.pending_count ≡ 0
  -- no more clips than the frames given, and the pending one, can have
  pub clips_max : n.clips ≤ n.given * max_clips
  pub pending_max : n.pending_clips ≤ max_clips

-- the core that has these numbers and this pending frame
abbrev pub core_of : CoreNumbers → Option Samples → StageCore
core_of n pending = restored_core pending n.pending_clips (record { taken = n.taken; given = n.given; clips = n.clips; ended = nat_eq n.ended 1 })

-- the eight numbers of a stage with a tail by name
abbrev pub by_name : List ℕ → TailNumbers
by_name ns = record {
  core = record {
    taken = slice_index_or ns 0 0;
    given = slice_index_or ns 1 0;
    ended = slice_index_or ns 2 0;
    clips = slice_index_or ns 3 0;
    pending_count = slice_index_or ns 6 0;
    pending_clips = slice_index_or ns 7 0;
  };
  stored = slice_index_or ns 4 0;
  tail = slice_index_or ns 5 0;
}
