-- The core of a stage and the numbers of it in a snapshot.
use Rattle.std.proofs.Common.{ℕ, ◌≤◌, ◌≡◌, Option, length, option_to_list, cond, refl, arith}
use Rattle.std.proofs.lemmas.Bool.Decides.{nat_tests}
use Rattle.fx_frame_base.specs.Frame.{Samples}
use Rattle.fx_frame_base.specs.PendingFrame.{IsPending}
use Rattle.fx_frame_base.specs.StageCore.{IsCore, pending_frames}
use Rattle.fx_frame_base.specs.declared.stage_core.StageCore.{StageCore}
use Rattle.fx_frame_base.proofs.Flags.{flag-le}
use Rattle.fx_frame.specs.Numbers.{AreCoreNumbers, core_of}
use Rattle.fx_frame.specs.declared.numbers.CoreNumbers.{CoreNumbers}
use Rattle.fx_frame.proofs.Counts.{flag-of, flag-true}

-- the numbers of a core
abbrev pub core_numbers : StageCore → CoreNumbers
core_numbers c = record { taken = c.taken; given = c.given; ended = cond c.ended 1 0; clips = c.clips; pending_count = length (pending_frames c); pending_clips = c.pending_clips }

-- valid numbers and a pending frame that fits make a core
pub IsCore-restored : (channels max_clips : ℕ) (n : CoreNumbers) (pending : Option Samples) → AreCoreNumbers max_clips n → IsPending channels pending → length (option_to_list pending) ≡ n.pending_count
    → IsCore channels max_clips (core_of n pending)
IsCore-restored channels max_clips n pending valid fits count = record {
  bound = valid.bound;
  clips_max = valid.clips_max;
  pending_max = valid.pending_max;
  idle = λ none. valid.idle (omega (arith, none, count));
  over = λ ended. let some : 1 ≤ n.ended = grind (arith, nat_tests) in omega (arith, count, valid.over some);
  fits = fits;
}

-- the numbers of a core are valid
pub AreCoreNumbers-of : (channels max_clips : ℕ) (c : StageCore) → IsCore channels max_clips c → AreCoreNumbers max_clips (core_numbers c)
AreCoreNumbers-of channels max_clips c is = record {
  flag = flag-le c.ended;
  bound = is.bound;
  idle = is.idle;
  over = λ some. is.over (flag-true c.ended some);
  clips_max = is.clips_max;
  pending_max = is.pending_max;
}

-- and with its pending frame they make it
pub core_of-numbers : (c : StageCore) → core_of (core_numbers c) c.pending ≡ c
core_of-numbers c = rw (flag-of c.ended) refl
