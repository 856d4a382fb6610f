-- What a run has taken from a sound, and what it sends (this project's profile).
use Rattle.std.specs.Prelude.{◌≡◌, ℕ, ◌*◌, ◌/◌, ◌%◌, ◌<◌, Bool, true, false, cond, List, ◌++◌, drop, length, Option, Result, Ok, Err}
use Rattle.fx_frame_base.specs.declared.coding.Coding.{Coding}
use Rattle.fx_frame_base.specs.Frame.{Samples}
use Rattle.fx_frame_base.specs.Stage.{Acts, StageKind}
use Rattle.fx_chain_flow.specs.Parts.{Parts}
use Rattle.fx_chain_flow.specs.Composed.{enough_for}
use Rattle.fx_sound.specs.Container.{first_frames}
use Rattle.fx_sound.specs.Output.{Pending, Sent}
use Rattle.fx_sound.specs.Sound.{Reading, lacking, size_of, within_sound}
use Rattle.fx_chain_run.specs.declared.pump.Cause.{Cause}
use Rattle.fx_chain_run.specs.declared.pump.Cause.TheVariants.{ReadFailed, WriteFailed, TooLong}
use Rattle.fx_chain_run.specs.FrameWriter.{WroteFront, coded, coded_clips}
use Rattle.fx_chain_run.specs.Through.{Through}

-- whether a read failed
abbrev pub run_read_failed : {X : Type 0} → Result X Cause → Bool
run_read_failed (Ok x) = false
run_read_failed (Err ReadFailed) = true
run_read_failed (Err WriteFailed) = false
run_read_failed (Err TooLong) = false

-- whether a write failed
abbrev pub is_write_failed : {X : Type 0} → Result X Cause → Bool
is_write_failed (Ok x) = false
is_write_failed (Err ReadFailed) = false
is_write_failed (Err WriteFailed) = true
is_write_failed (Err TooLong) = false

-- the first n frames of a sound
abbrev pub sound_frames : Reading → ℕ → List ℕ → List Samples
sound_frames p n bytes = first_frames p.coding p.channels n bytes

-- all frames of the sound were taken, and these are the numbers of missing and stray bytes
pub record RanToEnd (start : Reading) (bytes : List ℕ) (n missing stray : ℕ) : Type 0 where
  pub count : n ≡ length (within_sound start.left bytes) / size_of start
  pub strays : stray ≡ length (within_sound start.left bytes) % size_of start
  pub lacks : missing ≡ lacking start.left (length (within_sound start.left bytes))

-- the bytes after what was read of a sound: n frames, where these were enough for some effect, and else all of it
abbrev pub unread_after : Reading → Bool → ℕ → List ℕ → List ℕ
unread_after start enough n bytes = drop (cond enough (n * size_of start) (length (within_sound start.left bytes))) bytes

-- fewer than n frames were not enough for any effect
abbrev pub WantsMore : List StageKind → ℕ → Type 0
WantsMore ks n = (m : ℕ) → m < n → enough_for ks m ≡ false

module _ {S R : Type 0} (acts : Acts S R) where
  -- A flow took these frames, and what it gave for them was sent after the head.
  pub record Flowed (start at : Parts S) (coding : Coding) (frames : List Samples) (clips : ℕ) (first now : Option (List ℕ)) (out : Pending) (head : List ℕ) : Type 0 where
    pub given : List Samples
    pub through : Through acts start at frames given
    pub clipped : clips ≡ coded_clips coding given
    pub sent : Sent first now out (head ++ coded coding given)

  -- A flow took these frames, and the writer took a prefix of the head and of what the flow gave for them.
  pub record FlowedFront (start at : Parts S) (coding : Coding) (frames : List Samples) (clips : ℕ) (first now : Option (List ℕ)) (out : Pending) (head : List ℕ) : Type 0 where
    pub given : List Samples
    pub through : Through acts start at frames given
    pub clipped : clips ≡ coded_clips coding given
    pub front : WroteFront first now out.written (head ++ coded coding given)
