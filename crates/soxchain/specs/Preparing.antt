-- What comes before a run (this project's profile).
use Rattle.std.specs.Prelude.{◌≡◌, ℕ, ◌+◌, List, []}
use Rattle.fx_frame_base.specs.Io.{ByteReader, saturated}
use Rattle.fx_plan.specs.Line.{Said}
use Rattle.fx_plan.specs.declared.fault.PlanFault.{PlanFault}
use Rattle.fx_plan.specs.CommandLines.{effects_in, planning_in}
use Rattle.fx_chain.specs.Chain.{IsNewChain}
use Rattle.fx_plan.specs.Planning.{planning}
use Rattle.fx_plan.specs.Plans.{head_layout, RefusesPlan, all_faults}
use Rattle.fx_sound.specs.declared.head.Head.{Head}
use Rattle.fx_sound.specs.declared.head.HeadFault.TheVariants as HeadFaults
use Rattle.fx_sound.specs.Known.{IfKnown}
use Rattle.fx_sound.specs.Head.{ReadsHead}
use Rattle.fx_sound.specs.Source.{Held, to_come}
use Rattle.soxchain.specs.declared.prepared.Prepared.{Prepared}
use Rattle.soxchain.specs.declared.preparing.Refusal.{Refusal}
use Rattle.soxchain.specs.declared.preparing.Refusal.TheVariants as Refusals

-- What a line asks for is prepared after the head of a sound.
pub record IsPrepared {R : Type 0} (reads : ByteReader R) (line : Said) (files : List (List ℕ)) (old new : Held R) (prepared : Prepared) : Type 0 where
  -- the head is the one that was read
  pub head : IfKnown (to_come reads.rest old) (λ bytes. ReadsHead reads.rest reads.delivered line.input_kind bytes old new prepared.plan.head)
  -- the effects have no fault after it
  pub no_faults : all_faults (head_layout prepared.plan.head) files (effects_in line) ≡ []
  -- the plan is that of the line
  pub planned : planning prepared.plan ≡ planning_in prepared.plan.head line files
  -- its chain is new
  pub chain : IsNewChain (planning prepared.plan) prepared.chain
  -- no read failed
  pub unfailed : reads.failures new.reader ≡ reads.failures old.reader

-- The plan of a line after the head that was read is refused, by its first fault or for lack of memory.
pub record PlanIsRefused {R : Type 0} (reads : ByteReader R) (line : Said) (files : List (List ℕ)) (old new : Held R) (f : PlanFault) : Type 0 where
  pub head : Head
  pub read : IfKnown (to_come reads.rest old) (λ bytes. ReadsHead reads.rest reads.delivered line.input_kind bytes old new head)
  pub refuses : RefusesPlan f (all_faults (head_layout head) files (effects_in line))

-- No memory was found for the chain of a line: its head and the plan after it have no fault.
pub record ChainIsRefused {R : Type 0} (reads : ByteReader R) (line : Said) (files : List (List ℕ)) (old new : Held R) : Type 0 where
  pub head : Head
  pub read : IfKnown (to_come reads.rest old) (λ bytes. ReadsHead reads.rest reads.delivered line.input_kind bytes old new head)
  pub no_faults : all_faults (head_layout head) files (effects_in line) ≡ []

-- a refusal is returned only where its cause was counted
abbrev pub RefusalHasCause : Refusal → ℕ → ℕ → Type 0
RefusalHasCause (Refusals.Head HeadFaults.ReadFailed) reads new_reads = new_reads ≡ saturated (reads + 1)
RefusalHasCause (Refusals.Head f) reads new_reads = new_reads ≡ reads
RefusalHasCause (Refusals.Plan f) reads new_reads = new_reads ≡ reads
RefusalHasCause Refusals.Chain reads new_reads = new_reads ≡ reads
