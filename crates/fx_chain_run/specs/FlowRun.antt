-- What a run of a flow begins with, and what it has done (this project's profile).
use Rattle.std.specs.Prelude.{◌≡◌, ◌≢◌, ℕ, ◌+◌, ◌*◌, ◌≤◌, true, IsTrue, MatchResult, Result, Some}
use Rattle.fx_frame_base.specs.Frame.{IsChannelCount}
use Rattle.fx_frame_base.specs.Holds.{kinds, recipes}
use Rattle.fx_frame_base.specs.Io.{ByteReader, ByteWriter, saturated}
use Rattle.fx_frame_base.specs.Stage.{Acts}
use Rattle.fx_chain_flow.specs.Parts.{Parts, moves_of, taken_of}
use Rattle.fx_chain_flow.specs.Steps.{IsDone}
use Rattle.fx_sound.specs.Container.{ReadAllDelivered}
use Rattle.fx_sound.specs.Kind.{is_coding_of}
use Rattle.fx_sound.specs.Known.{IfKnown}
use Rattle.fx_sound.specs.Sound.{Reading, size_of}
use Rattle.fx_sound.specs.Source.{Held, HoldsWhatCame, to_come}
use Rattle.fx_chain_run.specs.declared.pump.Cause.TheVariants.{ReadFailed, WriteFailed}
use Rattle.fx_chain_run.specs.declared.report.Report.{Report}
use Rattle.fx_chain_run.specs.declared.report.RunFault.{RunFault}
use Rattle.fx_chain_run.specs.declared.target.Target.{Target}
use Rattle.fx_chain_run.specs.Report.{Completed, HasCause, ReadBefore, Stands, StoppedAt, after_reported, cause_of, clips_now, report_at, report_in}
use Rattle.fx_chain_run.specs.Run.{WantsMore, sound_frames}

-- A head can be written for this target.
pub record HasHead (target : Target) : Type 0 where
  -- its coding is one of its kind
  pub coded : IsTrue (is_coding_of target.kind target.coding)
  -- its rate is positive
  pub rated : 1 ≤ target.rate
  -- it has 1 to 16 channels
  pub channels : IsChannelCount target.channels

-- The counts that a run reports are those of its flow, which makes at most `bound n` hand-overs for n frames.
pub record CountsFlow {S C : Type 0} (acts : Acts S C) (bound : ℕ → ℕ) (f f' : Parts S) (r : Report) : Type 0 where
  -- fewer frames were not enough for any stage
  pub wants : WantsMore (kinds acts f.stages) r.frames_in
  -- the frames that it took
  pub taken : r.frames_in ≡ taken_of f'
  -- its hand-overs
  pub moves : r.moves ≡ moves_of acts f'
  -- no more than the bound
  pub work : r.moves ≤ bound r.frames_in
  -- the clips of its stages
  pub clips : r.clips ≡ clips_now acts f'.stages
  -- its stages are the same
  pub recipes : recipes acts f'.stages ≡ recipes acts f.stages
  -- and so are the channels of its frames
  pub width : f'.channels ≡ f.channels

-- A run of a sound from a source through a flow to a writer.
module _ {S C X W : Type 0} (acts : Acts S C) (device : ByteReader X) (writer : ByteWriter W) (f f' : Parts S) (sound : Reading) (s s' : Held X) (w w' : W) where
  -- A run without a fault.
  pub record RanWhole (target : Target) (r : Report) : Type 0 where
    -- all that the flow gives for the sound was written
    pub completed : IfKnown (to_come device.rest s) (λ bytes.
        Completed acts f f' target sound bytes (sound_frames sound r.frames_in bytes) (writer.taken w) (writer.taken w') r)
    -- and flushed
    pub flushed : writer.flushed w' ≡ true
    -- the flow was given the end, and gave all
    pub done : IsDone acts f'

  -- A run with a fault.
  pub record RanPart (target : Target) (fault : RunFault) : Type 0 where
    -- the frames then due were written, or a prefix of them
    pub stopped : IfKnown (to_come device.rest s) (λ bytes.
        StoppedAt acts f f' target sound bytes (sound_frames sound (report_at fault).frames_in bytes) (writer.taken w) (writer.taken w') fault)
    -- and flushed, unless a write failed
    pub due_flushed : cause_of fault ≢ WriteFailed → writer.flushed w' ≡ true
    -- where a read failed, all whole frames of what was delivered were read
    pub read_failed : cause_of fault ≡ ReadFailed → ReadAllDelivered device.delivered s s'.reader sound (report_at fault).frames_in

  -- The position of the source after a run.
  abbrev pub SourceAt : Result Report RunFault → Type 0
  SourceAt result = IfKnown (to_come device.rest s) (λ bytes. Stands result
      (to_come device.rest s' ≡ Some (after_reported sound (report_in result) bytes))
      (HoldsWhatCame device.delivered s s' bytes ((report_in result).frames_in * size_of sound))
      ((device.failures s'.reader ≡ saturated (device.failures s.reader + 1))
      × ReadBefore acts device.delivered s s'.reader f f' sound (report_in result).frames_in (report_in result).frames_out))

  -- A fault is returned only where its cause was counted.
  abbrev pub CountsCauses : Result Report RunFault → Type 0
  CountsCauses result = MatchResult result
      (λ _. (device.failures s'.reader ≡ device.failures s.reader) × (writer.failures w' ≡ writer.failures w))
      (λ fault. HasCause (cause_of fault)
      (ReadBefore acts device.delivered s s'.reader f f' sound (report_at fault).frames_in (report_at fault).frames_out)
      (device.failures s.reader) (device.failures s'.reader) (writer.failures w) (writer.failures w'))
