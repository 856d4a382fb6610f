-- What a writer had taken each time that a run asked its reader for more (this project's profile).
use Rattle.std.specs.Prelude.{◌≡◌, ℕ, ◌+◌, ◌/◌, ◌<◌, Bool, true, List, ◌++◌, length, take, Option}
use Rattle.std.specs.Io.KnownBytes.{Appends}
use Rattle.fx_frame_base.specs.Moments.{Moment, came_short}
use Rattle.fx_frame_base.specs.declared.coding.Coding.{Coding}
use Rattle.fx_frame_base.specs.Holds.{kinds}
use Rattle.fx_frame_base.specs.Stage.{Acts}
use Rattle.fx_chain_flow.specs.Composed.{due_of}
use Rattle.fx_chain_flow.specs.Parts.{Parts}
use Rattle.fx_chain_flow.specs.Steps.{rest_of}
use Rattle.fx_sound.specs.Source.{Held}
use Rattle.fx_sound.specs.Output.{Pending, Sent}
use Rattle.fx_sound.specs.Sound.{Reading, at_most_announced, size_of}
use Rattle.fx_chain_run.specs.FrameWriter.{coded}
use Rattle.fx_chain_run.specs.Run.{sound_frames}

-- the whole frames of a sound in `came` bytes, as far as they are announced
abbrev pub frames_waiting : Reading → ℕ → ℕ
frames_waiting sound came = at_most_announced sound.left came / size_of sound

module _ {R : Type 0} (asked : R → R → Moment → Type 0) (due : ℕ → List ℕ) (first : Option (List ℕ)) (start : Held R) where
  -- A reader was asked one time after another, when the writer had taken `first` before. A number of bytes came: those that the
  -- source held, and all that were delivered since. The last read was short, or it was not. Where one was short, the next read
  -- may have to wait: then the writer had taken exactly what was due for the bytes that had come.
  pub data Waited : ℕ → Bool → R → Type 0 where
    begun : Waited (length start.bytes) start.short start.reader
    asked_again : (came : ℕ) (short : Bool) (r r' : R) (m : Moment) → Waited came short r → asked r r' m
        → (short ≡ true → Appends first m.taken (due came)) → Waited (came + length m.delivered) (came_short m) r'

  -- the reads go on so until the present state of the reader
  pub record WaitedUntil (reader : R) : Type 0 where
    pub came : ℕ
    pub short : Bool
    pub waited : Waited came short reader

-- Reads that took a source from the old state to the new one, while fewer than `want` bytes were held: as long as exactly the
-- same bytes are due, the run of reads continues, by as many bytes as fit.
abbrev pub AsksOn : {R : Type 0} → (R → R → Moment → Type 0) → Held R → Held R → ℕ → Option (List ℕ) → Pending → (ℕ → Type 0) → Type 0
AsksOn {R} asked old new want now out Fits =
    (due : ℕ → List ℕ) (first : Option (List ℕ)) (start : Held R) (came : ℕ) (all : List ℕ) → Sent first now out all
    → ((more : ℕ) → length old.bytes + more < want → due (came + more) ≡ all) → Waited asked due first start came old.short old.reader
    → (more : ℕ) × Waited asked due first start (came + more) new.short new.reader × Fits more

module _ {S R : Type 0} (acts : Acts S R) where
  -- the head, and of what a flow gives for the whole frames that came, all that is due then
  abbrev pub due_bytes : Parts S → Coding → List ℕ → Reading → List ℕ → ℕ → List ℕ
  due_bytes start coding head sound bytes came =
      head ++ coded coding (take (due_of (kinds acts start.stages) (frames_waiting sound came)) (rest_of acts start (sound_frames sound (frames_waiting sound came) bytes)))
