-- A sound in a list of bytes, on the whole list (RIFF WAVE, Sun AU, this project's profile).
use Rattle.std.specs.Prelude.{◌≡◌, ℕ, ◌+◌, ◌-◌, ◌*◌, ◌/◌, ◌%◌, ◌^◌, ◌<◌, ◌≤◌, false, true, List, length, drop, map, Option, Some, Result, Ok, Err}
use Rattle.fx_frame_base.specs.declared.coding.Coding.{Coding}
use Rattle.fx_frame_base.specs.Frame.{Samples}
use Rattle.fx_sound.specs.FrameCoding.{frame_size, coded_samples}
use Rattle.fx_frame_base.specs.Lists.{pieces}
use Rattle.fx_sound.specs.declared.head.Head.{Head}
use Rattle.fx_sound.specs.declared.head.Kind.{Kind}
use Rattle.fx_sound.specs.declared.head.HeadFault.{HeadFault}
use Rattle.fx_sound.specs.declared.fields.Format.{Format}
use Rattle.fx_sound.specs.Head.{Spelt, head_of}
use Rattle.fx_sound.specs.Sound.{Reading, size_of, within_sound, at_most_announced, beyond, lacking}
use Rattle.fx_sound.specs.Source.{Held}

-- the first n frames
abbrev pub first_frames : Coding → ℕ → ℕ → List ℕ → List Samples
first_frames coding channels n sound = map (coded_samples coding channels) (pieces (frame_size coding channels) n sound)

-- these samples are the frames that the bytes are, for any number of channels that divides their count
abbrev pub DecodesFrames : Coding → ℕ → List ℕ → Samples → Type 0
DecodesFrames coding count bytes samples = (channels n : ℕ) → count ≡ n * channels → pieces channels n samples ≡ first_frames coding channels n bytes

-- the whole frames of a sound
abbrev pub frames_of_sound : Coding → ℕ → List ℕ → List Samples
frames_of_sound coding channels sound = first_frames coding channels (length sound / frame_size coding channels) sound

-- the content of a head, the frames of the sound after it, the missing announced bytes, and the bytes after the last
-- whole frame
pub record Outcome : Type 0 where
  pub kind : Kind
  pub format : Format
  pub announced : Option ℕ
  pub frames : List Samples
  pub missing : ℕ
  pub stray : ℕ

-- what follows a head, up to the announced size or the end of the input
abbrev pub outcome_of : Spelt → List ℕ → Outcome
outcome_of s sound = record {
  kind = s.kind;
  format = s.fields.format;
  announced = s.fields.announced;
  frames = frames_of_sound s.fields.format.coding s.fields.format.channels sound;
  missing = lacking s.fields.announced (length sound);
  stray = length sound % frame_size s.fields.format.coding s.fields.format.channels;
}

abbrev pub with_frames : List ℕ → Result Spelt HeadFault → Result Outcome HeadFault
with_frames bytes (Err e) = Err e
with_frames bytes (Ok s) = Ok (outcome_of s (within_sound s.fields.announced (drop s.fields.offset bytes)))

-- the sound in these bytes, or the first fault of its head
abbrev pub container : Option Kind → List ℕ → Result Outcome HeadFault
container expected bytes = with_frames bytes (head_of expected bytes)

-- nothing of the sound after a head was read yet
abbrev pub start_of : Head → Reading
start_of h = record { coding = h.coding; channels = h.channels; left = h.announced; frames = 0; missing = 0; stray = 0; over = false }

-- the progress after n more frames
abbrev pub after_frames : Reading → ℕ → Reading
after_frames p n = record p { left = beyond p.left (n * size_of p); frames = p.frames + n }

-- the progress at the end of a sound of which these bytes were there
abbrev pub at_end : Reading → List ℕ → Reading
at_end p sound = record p {
  left = beyond p.left (length sound / size_of p * size_of p);
  frames = p.frames + length sound / size_of p;
  missing = lacking p.left (length sound);
  stray = length sound % size_of p;
  over = true;
}

-- The reader failed: all whole frames among the bytes that it had delivered, by its own count, were read. This is stated only
-- for counts below the maximum u64.
pub record ReadAllDelivered {R : Type 0} (delivered : R → ℕ) (old : Held R) (new : R) (first : Reading) (n : ℕ) : Type 0 where
  pub count : delivered new < 2 ^ 64 - 1 → n ≡ at_most_announced first.left (length old.bytes + (delivered new - delivered old.reader)) / size_of first
  pub later : delivered new < 2 ^ 64 - 1 → delivered old.reader ≤ delivered new
  -- fewer bytes had come than were announced
  pub short : delivered new < 2 ^ 64 - 1 → (left : ℕ) → first.left ≡ Some left → length old.bytes + (delivered new - delivered old.reader) < left
