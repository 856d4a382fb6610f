-- The result of a run for a plan and the bytes after the head that was read, to be read from top to bottom (this project's
-- profile). Each definition is a function of the plan and the bytes, so an example can be computed by hand.
use Rattle.std.specs.Prelude.{◌≡◌, ◌⊎◌, ℕ, ◌+◌, ◌%◌, ◌^◌, ◌<◌, ◌≤◌, cond, false, true, MatchBool, sum, List, [], ◌∷◌, ◌++◌, length, map, take, Option, Result, Ok, Err}
use Rattle.std.specs.Io.KnownBytes.{Appends}
use Rattle.fx_chain_run.specs.declared.report.Report.{Report}
use Rattle.fx_chain_run.specs.declared.report.RunFault.{RunFault}
use Rattle.fx_chain_run.specs.declared.report.RunFault.TheVariants.{ReadFailed, WriteFailed, TooLong}
use Rattle.fx_chain.specs.Chain.{chain_gives, chain_wholes, planned, target_for}
use Rattle.fx_chain_run.specs.Due.{clips_due, dues}
use Rattle.fx_chain_run.specs.FrameWriter.{WroteFront, coded, coded_clips}
use Rattle.fx_chain_run.specs.Report.{clips_now, head_for, met_end, output_of, clip_counts_of, start_of}
use Rattle.fx_chain_run.specs.Through.{Reached}
use Rattle.fx_chain_flow.specs.Parts.{AllNew, Parts, moves_of, taken_of}
use Rattle.fx_chain_flow.specs.Composed.{Whole, due_of, enough_for}
use Rattle.fx_chain_flow.specs.Steps.{IsDone, IsHungry, rest_of, wholes_of}
use Rattle.fx_frame_base.specs.Frame.{Samples}
use Rattle.fx_sound.specs.FrameCoding.{frame_size}
use Rattle.fx_frame_base.specs.Holds.{recipes, total}
use Rattle.fx_frame_base.specs.Stage.{StageKind}
use Rattle.fx_plan.specs.Planning.{Planning}
use Rattle.fx_sound.specs.declared.head.Head.{Head}
use Rattle.fx_sound.specs.Container.{frames_of_sound, ReadAllDelivered}
use Rattle.fx_sound.specs.Sound.{lacking, within_sound}
use Rattle.fx_sound.specs.Source.{Held}
use Rattle.fx_chain_stages.specs.declared.registry.EffectStage.{EffectStage}
use Rattle.fx_plan_effects.specs.Meanings.{kind_at, meaning_at}
use Rattle.fx_chain_stages.specs.Stages.{effect_acts}

-- the kinds of a plan's effects, which say how many frames each gives, and how many are enough for it
abbrev pub kinds_of : Planning → List StageKind
kinds_of p = map kind_at (planned p)

-- frames are read until some effect has enough
abbrev pub until_enough : List StageKind → ℕ → List Samples → List Samples
until_enough ks n [] = []
until_enough ks n (f ∷ fs) = cond (enough_for ks n) [] (f ∷ until_enough ks (n + 1) fs)

-- all whole frames of the sound in these bytes
abbrev pub sound_in : Head → List ℕ → List Samples
sound_in h bytes = frames_of_sound h.coding h.channels (within_sound h.announced bytes)

-- the frames that are read of it
abbrev pub frames_read : Planning → List ℕ → List Samples
frames_read p bytes = until_enough (kinds_of p) 0 (sound_in p.head bytes)

-- WITHOUT A FAULT: the bytes that are written
abbrev pub written : Planning → List ℕ → List ℕ
written p bytes = output_of (target_for p) (chain_gives p (frames_read p bytes))

-- the missing announced bytes, and those after the last whole frame; not counted where some effect had enough
abbrev pub lacks : Planning → List ℕ → ℕ
lacks p bytes = cond (enough_for (kinds_of p) (length (frames_read p bytes))) 0 (lacking p.head.announced (length (within_sound p.head.announced bytes)))

abbrev pub strays : Planning → List ℕ → ℕ
strays p bytes = cond (enough_for (kinds_of p) (length (frames_read p bytes))) 0 (length (within_sound p.head.announced bytes) % frame_size p.head.coding p.head.channels)

-- the report
abbrev pub reported : Planning → List ℕ → Report
reported p bytes = record {
  frames_in = length (frames_read p bytes);
  frames_out = length (chain_gives p (frames_read p bytes));
  bytes_out = length (written p bytes);
  moves = length (frames_read p bytes) + total (λ (w : Whole). w.given) (chain_wholes p (frames_read p bytes));
  clips = clip_counts_of (map (λ (w : Whole). w.clips) (chain_wholes p (frames_read p bytes)));
  out_clips = coded_clips p.coding (chain_gives p (frames_read p bytes));
  missing = lacks p bytes;
  stray = strays p bytes;
}

-- a run to the end: the output is that of the whole sound, even where reading stopped since some effect needs no more input
pub record Complete (p : Planning) (bytes : List ℕ) (first now : Option (List ℕ)) (r : Report) : Type 0 where
  pub wrote : Appends first now (written p bytes)
  pub reports : r ≡ reported p bytes
  pub whole_sound : chain_gives p (frames_read p bytes) ≡ chain_gives p (sound_in p.head bytes)
  pub whatever : enough_for (kinds_of p) r.frames_in ≡ true → (z : List Samples) → chain_gives p (frames_read p bytes ++ z) ≡ chain_gives p (frames_read p bytes)

-- AFTER A FAILED READ, and where the sound is too long, with the frames x that had come whole: the frames then due
abbrev pub given_due : Planning → List Samples → List Samples
given_due p x = take (due_of (kinds_of p) (length x)) (chain_gives p x)

-- the bytes that are written
abbrev pub written_due : Planning → List Samples → List ℕ
written_due p x = head_for (target_for p) ++ coded p.coding (given_due p x)

-- the report: each effect has given exactly what was due
abbrev pub reported_due : Planning → List Samples → Report
reported_due p x = record {
  frames_in = length x;
  frames_out = due_of (kinds_of p) (length x);
  bytes_out = length (written_due p x);
  moves = length x + sum (dues (kinds_of p) (length x));
  clips = clip_counts_of (clips_due meaning_at (dues (kinds_of p) (length x)) (planned p) x);
  out_clips = coded_clips p.coding (given_due p x);
  missing = 0;
  stray = 0;
}

-- A run that stopped after the first frames of the sound, of which no effect had enough: what was due was written and
-- reported. What follows them would not have changed that.
pub record Due (p : Planning) (bytes : List ℕ) (first now : Option (List ℕ)) (r : Report) : Type 0 where
  pub part : r.frames_in ≤ length (sound_in p.head bytes)
  pub not_enough : (n : ℕ) → n ≤ r.frames_in → enough_for (kinds_of p) n ≡ false
  pub wrote : Appends first now (written_due p (take r.frames_in (sound_in p.head bytes)))
  pub reports : r ≡ reported_due p (take r.frames_in (sound_in p.head bytes))
  pub whatever : (z : List Samples) → take r.frames_out (chain_gives p (take r.frames_in (sound_in p.head bytes) ++ z)) ≡ given_due p (take r.frames_in (sound_in p.head bytes))

-- AFTER A FAILED WRITE: the writer has a prefix. The counts are those of a new chain of the plan after some of
-- its calls, which took the first frames of the sound; only how far it had come is not determined.
pub record Broken (p : Planning) (bytes : List ℕ) (first now : Option (List ℕ)) (r : Report) : Type 0 where
  pub part : r.frames_in ≤ length (sound_in p.head bytes)
  pub wants : (n : ℕ) → n < r.frames_in → enough_for (kinds_of p) n ≡ false
  -- the new chain
  pub start : Parts EffectStage
  pub made : recipes effect_acts start.stages ≡ planned p
  pub fresh : AllNew effect_acts start.stages
  pub hungry : IsHungry effect_acts start
  pub nothing : taken_of start ≡ 0
  -- the frames that it gave, and its state then
  pub given : List Samples
  pub at : Parts EffectStage
  pub reached : Reached effect_acts start (take r.frames_in (sound_in p.head bytes)) given at
  pub front : given ≡ take r.frames_out (chain_gives p (take r.frames_in (sound_in p.head bytes)))
  -- it is still to give what the definitions give after that, and each effect what its own definition gives
  pub gave : chain_gives p (take r.frames_in (sound_in p.head bytes)) ≡ given ++ rest_of effect_acts at []
  pub wholes : wholes_of effect_acts at [] ≡ chain_wholes p (take r.frames_in (sound_in p.head bytes))
  pub frames_out : r.frames_out ≡ length given
  pub moves : r.moves ≡ moves_of effect_acts at
  pub clips : r.clips ≡ clips_now effect_acts at.stages
  -- these are the clips of the first frames that each effect's definition gives, as many as it gave
  pub counted : r.clips ≡ clip_counts_of (clips_due meaning_at (map (λ s. (effect_acts.counts s).given) at.stages) (planned p) (take r.frames_in (sound_in p.head bytes)))
  pub out_clips : r.out_clips ≡ coded_clips p.coding given
  pub wrote : WroteFront first now r.bytes_out (head_for (target_for p) ++ coded p.coding given)
      ⊎ (IsDone effect_acts at × WroteFront first now r.bytes_out (output_of (target_for p) (chain_gives p (take r.frames_in (sound_in p.head bytes)))))
  -- where the end of the sound was reached, all of it had been read, and its missing and stray bytes are counted
  pub ends : MatchBool (met_end at.ended (enough_for (kinds_of p) r.frames_in))
      ((r.frames_in ≡ length (sound_in p.head bytes)) × (r.missing ≡ lacking p.head.announced (length (within_sound p.head.announced bytes))) × (r.stray ≡ length (within_sound p.head.announced bytes) % frame_size p.head.coding p.head.channels))
      ((r.missing ≡ 0) × (r.stray ≡ 0))

-- where the writer failed, a read had failed before: all whole frames that were delivered had come, no effect had enough of
-- them, and all that was due had been given
pub record ReadFirst {R : Type 0} (delivered : R → ℕ) (old : Held R) (new : R) (p : Planning) (n given : ℕ) : Type 0 where
  pub due : given ≡ due_of (kinds_of p) n
  pub not_enough : enough_for (kinds_of p) n ≡ false
  pub read_failed : ReadAllDelivered delivered old new (start_of p.head) n

-- the result of a run of a new chain, over these bytes after the head
abbrev pub Ran : Planning → List ℕ → Option (List ℕ) → Option (List ℕ) → Result Report RunFault → Type 0
Ran p bytes first now (Ok r) = Complete p bytes first now r
Ran p bytes first now (Err (ReadFailed r)) = Due p bytes first now r
Ran p bytes first now (Err (TooLong r)) = Due p bytes first now r × (r.frames_in ≡ 2 ^ 40) × (2 ^ 40 + 1 ≤ length (sound_in p.head bytes))
Ran p bytes first now (Err (WriteFailed r)) = Broken p bytes first now r
