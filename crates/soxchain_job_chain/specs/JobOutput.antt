-- What a conversion of a whole file writes (this project's profile).
use Rattle.std.specs.Prelude.{ℕ, ◌+◌, ◌*◌, ◌/◌, ◌≡◌, Bool, true, if◌then◌else◌, List, [], ◌++◌, length, drop, Option, Some}
use Rattle.fx_chain.specs.Chain.{chain_gives}
use Rattle.fx_chain.specs.Theorem.{sound_in}
use Rattle.fx_chain_run.specs.FrameWriter.{coded}
use Rattle.fx_chain_run.specs.Report.{pad}
use Rattle.fx_plan.specs.Planning.{Planning}
use Rattle.fx_sound.specs.Container.{frames_of_sound}
use Rattle.fx_sound.specs.FrameCoding.{frame_size}
use Rattle.fx_sound.specs.Sound.{within_sound}
use Rattle.fx_sound.specs.Writing.{written_head}
use Rattle.soxchain_job_chain.specs.CodedChain.{CodedParts, Passes, sound_to_come}

-- the head of an output of so many frames
abbrev pub sized_head : Planning → ℕ → List ℕ
sized_head p frames = written_head p.kind p.layout.rate p.layout.channels p.coding (Some frames)

-- the last part of a sound, of which `before` bytes precede it, and the zero byte that a WAVE file of odd size has
abbrev pub padded_after : Planning → ℕ → List ℕ → List ℕ
padded_after p before sound = sound ++ pad p.kind true (before + length sound)

-- the whole output for a whole file, in which the sound begins at `head_size`: a head of so many frames, what the chain gives for
-- the sound, and the zero byte
abbrev pub job_output : Planning → ℕ → ℕ → List ℕ → List ℕ
job_output p head_size frames input =
    sized_head p frames ++ padded_after p 0 (coded p.coding (chain_gives p (sound_in p.head (drop head_size input))))

-- a conversion, as its callers see it: its chain; whether the head of the output was written; of the input, how many bytes of the
-- head are still to be skipped, how many announced ones of the sound are still to come, and the first bytes of a frame
pub record ConversionParts : Type 0 where
  pub coded : CodedParts
  pub has_head : Bool
  pub skip : ℕ
  pub left : Option ℕ
  pub pending : List ℕ

-- the head, where it is still to be written
abbrev pub head_to_come : ConversionParts → List ℕ
head_to_come c = if c.has_head then [] else sized_head c.coded.chain.plan c.coded.announced

-- the rest of the sound, where these bytes are the rest of the input
abbrev pub sound_left : ConversionParts → List ℕ → List ℕ
sound_left c input = c.pending ++ within_sound c.left (drop c.skip input)

-- all that is still to be written, where these bytes are the rest of the input
abbrev pub output_to_come : ConversionParts → List ℕ → List ℕ
output_to_come c input = head_to_come c ++ padded_after c.coded.chain.plan c.coded.sound_bytes (sound_to_come c.coded (sound_left c input))

-- the parts of a plan's conversion that never change
pub record JobPlan : Type 0 where
  pub planning : Planning
  pub announced : ℕ

abbrev pub job_plan : ConversionParts → JobPlan
job_plan c = record { planning = c.coded.chain.plan; announced = c.coded.announced }

-- how many bytes a frame of the input takes
abbrev pub input_frame : ConversionParts → ℕ
input_frame c = frame_size c.coded.chain.plan.head.coding c.coded.chain.plan.head.channels

-- More bytes of the sound came. All whole frames went through the chain, and the first bytes of the next frame are kept.
pub record PassesSound (old new : ConversionParts) (sound before after : List ℕ) : Type 0 where
  pub passes : Passes old.coded new.coded (frames_of_sound old.coded.chain.plan.head.coding old.coded.chain.plan.head.channels (old.pending ++ sound)) before after
  pub pending : new.pending ≡ drop (length (old.pending ++ sound) / input_frame old * input_frame old) (old.pending ++ sound)
  pub others : new ≡ record old { coded = new.coded; pending = new.pending }
