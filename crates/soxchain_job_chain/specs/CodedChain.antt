-- A chain that takes and gives the bytes of frames (this project's profile).
use Rattle.std.specs.Prelude.{ℕ, ℤ, ◌+◌, ◌*◌, ◌^◌, ◌≤◌, ◌≡◌, true, List, [], ◌++◌, drop, length}
use Rattle.fx_chain.specs.Chain.{ChainParts}
use Rattle.fx_chain_flow.specs.Parts.{Parts}
use Rattle.fx_chain_flow.specs.Steps.{rest_of}
use Rattle.fx_chain_run.specs.FrameWriter.{coded, coded_clips}
use Rattle.fx_chain_stages.specs.Stages.{effect_acts}
use Rattle.fx_chain_stages.specs.declared.registry.EffectStage.{EffectStage}
use Rattle.fx_frame_base.specs.Frame.{Samples}
use Rattle.fx_frame_base.specs.Lists.{pieces}
use Rattle.fx_sound.specs.Container.{frames_of_sound}

-- a chain; how many frames are to come out of it in all; and of those that came out, how many there are, how many bytes they
-- take, and how many samples were clipped when they were encoded
pub record CodedParts : Type 0 where
  pub chain : ChainParts
  pub announced : ℕ
  pub frames_out : ℕ
  pub sound_bytes : ℕ
  pub out_clips : ℕ

-- no more came out than was announced, and no count overflows
pub record IsCounted (c : CodedParts) : Type 0 where
  pub announced : c.frames_out ≤ c.announced
  pub maximum : c.frames_out ≤ 2 ^ 56
  pub bytes : c.sound_bytes ≤ 64 * c.frames_out
  pub clips : c.out_clips ≤ 16 * c.frames_out

-- what a call leaves, whatever it returns
pub record KeepsPlan (old new : CodedParts) : Type 0 where
  pub plan : new.chain.plan ≡ old.chain.plan
  pub announced : new.announced ≡ old.announced

-- whatever frames come, a flow gives the same
abbrev pub NeedsNoMore : Parts EffectStage → Type 0
NeedsNoMore flow = (z : List Samples) → rest_of effect_acts flow z ≡ rest_of effect_acts flow []

-- Frames went in, and the bytes of those that came out were appended: these, and then what is still to come out, are what was
-- to come out. After the end no frames go in.
pub record Passes (old new : CodedParts) (frames : List Samples) (before after : List ℕ) : Type 0 where
  pub given : List Samples
  pub rest : (z : List Samples) → (old.chain.flow.ended ≡ true → z ≡ []) → rest_of effect_acts old.chain.flow (frames ++ z) ≡ given ++ rest_of effect_acts new.chain.flow z
  pub appended : after ≡ before ++ coded old.chain.plan.coding given
  pub frames_out : new.frames_out ≡ old.frames_out + length given
  pub sound_bytes : new.sound_bytes ≡ old.sound_bytes + length (coded old.chain.plan.coding given)
  pub out_clips : new.out_clips ≡ old.out_clips + coded_clips old.chain.plan.coding given
  pub ended : new.chain.flow.ended ≡ old.chain.flow.ended
  pub stays : KeepsPlan old new

-- The same of samples: some frames at the front of them went in, and these are left.
pub record PassesFront (old new : CodedParts) (input left : List ℤ) (before after : List ℕ) : Type 0 where
  pub taken : ℕ
  pub within : taken * old.chain.plan.head.channels ≤ length input
  pub left_is : left ≡ drop (taken * old.chain.plan.head.channels) input
  pub passes : Passes old new (pieces old.chain.plan.head.channels taken input) before after

-- The end was given, and the bytes of all that was to come out were appended: as many frames in all as were announced.
pub record Finishes (old new : CodedParts) (before after : List ℕ) : Type 0 where
  pub appended : after ≡ before ++ coded old.chain.plan.coding (rest_of effect_acts old.chain.flow [])
  pub sound_bytes : new.sound_bytes ≡ old.sound_bytes + length (coded old.chain.plan.coding (rest_of effect_acts old.chain.flow []))
  pub announced : old.frames_out + length (rest_of effect_acts old.chain.flow []) ≡ old.announced

-- the bytes that are still to come out where these are the rest of the sound
abbrev pub sound_to_come : CodedParts → List ℕ → List ℕ
sound_to_come c sound = coded c.chain.plan.coding (rest_of effect_acts c.chain.flow (frames_of_sound c.chain.plan.head.coding c.chain.plan.head.channels sound))
