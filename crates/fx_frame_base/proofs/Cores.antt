-- The cores of stages after their calls.
use Rattle.std.proofs.Common.{ℕ, ◌+◌, ◌*◌, ◌<◌, ◌≤◌, ◌≡◌, ◌^◌, false, length, arith, refl, None}
use Rattle.std.proofs.Math.Nat.{add-mul}
use Rattle.fx_frame_base.specs.declared.stage_core.StageCore.{StageCore}
use Rattle.fx_frame_base.specs.Frame.{IsFrame, Samples}
use Rattle.fx_frame_base.specs.StageCore.{IsCore, after_offering, after_passing, new_core}

-- the core of a stage that took and gave `count` frames, and has no pending frame
abbrev pub passed_core : ℕ → ℕ → StageCore
passed_core count clips = record new_core { taken = count; given = count; clips = clips }

-- a core is that of such a stage
abbrev pub IsPassedCore : StageCore → Type 0
IsPassedCore c = c ≡ passed_core c.taken c.clips

pub is-passed-core : (c : StageCore) → c.pending ≡ None → c.pending_clips ≡ 0 → c.ended ≡ false → c.given ≡ c.taken → IsPassedCore c
is-passed-core c none zero running same =
    let whole : ◌≡◌ {A = StageCore} (record { pending = c.pending; pending_clips = c.pending_clips; taken = c.taken; given = c.given; clips = c.clips; ended = c.ended }) (passed_core c.taken c.clips) = rw (none, zero, running, same) refl in
    whole

pub IsCore-offered : (channels max_clips : ℕ) (c : StageCore) (out : Samples) (clips : ℕ) → IsCore channels max_clips c → c.ended ≡ false → c.taken < 2 ^ 56 → IsFrame out → length out ≡ channels → clips ≤ max_clips → IsCore channels max_clips (after_offering out clips c)
IsCore-offered channels max_clips c out clips is running bound framed len little = record {
  bound = omega arith;
  clips_max = is.clips_max;
  pending_max = little;
  idle = λ none. absurd (omega arith);
  over = λ ended. absurd (cc (running, ended));
  fits = λ x q. let same : out ≡ x = cc in (rw (← same) framed, rw (← same) len);
}

pub IsCore-passed : (channels max_clips count clips : ℕ) (c : StageCore) → IsCore channels max_clips c → c.taken + count ≤ 2 ^ 56 → clips ≤ count * max_clips → IsCore channels max_clips (after_passing count clips c)
IsCore-passed channels max_clips count clips c is bound little = record {
  bound = bound;
  clips_max = omega (arith, is.clips_max, little, add-mul c.given count max_clips);
  pending_max = is.pending_max;
  idle = is.idle;
  over = is.over;
  fits = is.fits;
}
