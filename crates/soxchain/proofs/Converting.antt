-- A conversion, put together from its head and its run.
use Rattle.std.proofs.Common.{map, ◌⊎◌, inl, inr, ◌≡◌, ℕ, ◌+◌, ◌-◌, ◌*◌, ◌/◌, ◌^◌, ◌<◌, ◌≤◌, List, [], drop, length, sym, ap, arith, ◌∙◌, false, Option, Some, Result, Ok, Err}
use Rattle.std.proofs.lemmas.List.{drop-drop}
use Rattle.fx_plan.specs.declared.line.LineFault.{LineFault}
use Rattle.fx_plan.specs.Line.{Said}
use Rattle.fx_plan.specs.CommandLines.{LineReads}
use Rattle.std.specs.Io.KnownBytes.{prepend_known}
use mathlib.Core.Path.{ap₂}
use Rattle.fx_chain_run.specs.declared.report.Report.{Report}
use Rattle.fx_chain_run.specs.declared.report.RunFault.{RunFault}
use Rattle.fx_chain_run.specs.declared.report.RunFault.TheVariants as Faults
use Rattle.fx_frame_base.specs.Io.{ByteReader, ByteWriter, saturated}
use Rattle.fx_sound.specs.declared.head.Head.{Head}
use Rattle.fx_sound.specs.declared.head.HeadFault.TheVariants.{ReadFailed}
use Rattle.fx_chain_run.specs.declared.pump.Cause.{Cause}
use Rattle.fx_chain_run.specs.declared.pump.Cause.TheVariants as Causes
use Rattle.fx_chain.specs.Chain.{ChainParts, IsNewChain}
use Rattle.fx_chain_run.specs.Report.{Stands, HasCause, ReadBefore, after_reported, report_in, start_of}
use Rattle.fx_chain_run.specs.Run.{WantsMore}
use Rattle.fx_sound.specs.Container.{ReadAllDelivered}
use Rattle.fx_chain.specs.Theorem.{ReadFirst, kinds_of}
use Rattle.fx_chain_flow.specs.Parts.{Parts}
use Rattle.fx_frame_base.specs.Holds.{kinds}
use Rattle.fx_plan.specs.Planning.{Planning}
use Rattle.fx_chain_stages.specs.declared.registry.EffectStage.{EffectStage}
use Rattle.fx_chain_stages.specs.Stages.{effect_acts}
use Rattle.fx_sound.specs.Sound.{Reading, at_most_announced, size_of}
use Rattle.fx_sound.specs.Source.{Held, HoldsWhatCame, Takes, to_come}
use Rattle.soxchain.specs.declared.preparing.Refusal.TheVariants as Refusals
use Rattle.soxchain.specs.Convert.{SourceStands}
use Rattle.soxchain.specs.Finishing.{Finished, ReadyParts, run_messages}
use Rattle.soxchain.specs.Messages.{refusal_message}
use Rattle.soxchain.specs.Readying.{Unready}

-- a new source holds nothing
pub held-is : {R : Type 0} (s : Held R) (reader : R) → s.bytes ≡ [] → s.reader ≡ reader → s.short ≡ false → s ≡ record { bytes = []; reader = reader; short = false }
held-is s reader b r h = ap₂ (λ bs x. record { bytes = bs; reader = x; short = s.short }) b r ∙ ap (λ t. record { bytes = []; reader = reader; short = t }) h

-- what is to come from it is what the reader has still to tell
pub to_come-start : {R : Type 0} (rest : R → Option (List ℕ)) (s : Held R) (reader : R) (bytes : List ℕ) → s.bytes ≡ [] → s.reader ≡ reader → rest reader ≡ Some bytes → to_come rest s ≡ Some bytes
to_come-start rest s reader bytes b r k = ap (λ bs. prepend_known bs (rest s.reader)) b ∙ ap (λ x. prepend_known [] (rest x)) r ∙ ap (prepend_known []) k

-- what was held after so many bytes more, by the reader's count from the first byte of the input on
HoldsWhatCame-rest_unchanged : {R : Type 0} (delivered : R → ℕ) (first at new : Held R) (bytes : List ℕ) (offset n : ℕ) → Takes delivered first at offset → HoldsWhatCame delivered at new (drop offset bytes) n → HoldsWhatCame delivered first new bytes (offset + n)
HoldsWhatCame-rest_unchanged delivered first at new bytes offset n t h =
    let there = t.enough in
    let more = h.takes.enough in
    record {
      takes = record {
        enough = omega arith;
        counted = λ bound.
            let later = h.takes.counted bound in
            let here = t.counted (omega arith) in
            omega arith;
      };
      front = rw (drop-drop n offset bytes) at h.front;
    }

from-zero : (n : ℕ) → 0 + n ≡ n
from-zero n = omega arith

-- where a source stands after a run of all that was to come
pub SourceStands-run : {R : Type 0} (reads : ByteReader R) (source new : Held R) (h : Head) (bytes : List ℕ) (P Q : Type 0) → (P → Q) → (ended : Result Report RunFault)
    → Stands ended (to_come reads.rest new ≡ Some (after_reported (start_of h) (report_in ended) bytes)) (HoldsWhatCame reads.delivered source new bytes ((report_in ended).frames_in * size_of (start_of h))) P
    → SourceStands reads source new h 0 bytes ended Q
SourceStands-run reads source new h bytes P Q f (Ok r) there = there
SourceStands-run reads source new h bytes P Q f (Err (Faults.ReadFailed r)) holds = rw from-zero holds
SourceStands-run reads source new h bytes P Q f (Err (Faults.WriteFailed r)) (inl there) = inl there
SourceStands-run reads source new h bytes P Q f (Err (Faults.WriteFailed r)) (inr before) = inr (rw from-zero before.0, f before.1)
SourceStands-run reads source new h bytes P Q f (Err (Faults.TooLong r)) there = there

-- where a source stands after the head, from the first byte of the input on
pub SourceStands-rest_unchanged : {R : Type 0} (reads : ByteReader R) (first at new : Held R) (h : Head) (offset : ℕ) (bytes : List ℕ) (P Q : Type 0) (ended : Result Report RunFault) → Takes reads.delivered first at offset → (P → Q)
    → SourceStands reads at new h 0 (drop offset bytes) ended P → SourceStands reads first new h offset bytes ended Q
SourceStands-rest_unchanged reads first at new h offset bytes P Q (Ok r) t f there = there
SourceStands-rest_unchanged reads first at new h offset bytes P Q (Err (Faults.ReadFailed r)) t f holds = HoldsWhatCame-rest_unchanged reads.delivered first at new bytes offset _ t (rw from-zero at holds)
SourceStands-rest_unchanged reads first at new h offset bytes P Q (Err (Faults.WriteFailed r)) t f (inl there) = inl there
SourceStands-rest_unchanged reads first at new h offset bytes P Q (Err (Faults.WriteFailed r)) t f (inr before) = inr (HoldsWhatCame-rest_unchanged reads.delivered first at new bytes offset _ t (rw from-zero at before.0), f before.1)
SourceStands-rest_unchanged reads first at new h offset bytes P Q (Err (Faults.TooLong r)) t f there = there

-- the frames that had come whole, by the reader's count from the first byte of the input on
pub Ran-delivered : {R : Type 0} (delivered : R → ℕ) (first at : Held R) (reader new : R) (start : Reading) (offset n : ℕ) → first.bytes ≡ [] → first.reader ≡ reader → Takes delivered first at offset → ReadAllDelivered delivered at new start n → delivered new < 2 ^ 64 - 1
    → (delivered reader + offset ≤ delivered new) × (n ≡ at_most_announced start.left (delivered new - delivered reader - offset) / size_of start) × ((left : ℕ) → start.left ≡ Some left → delivered new - delivered reader - offset < left)
Ran-delivered delivered first at reader new start offset n none is t r h =
    let later = r.later h in
    let here = t.counted (omega arith) in
    let empty : length first.bytes ≡ 0 = ap length none in
    let same : delivered first.reader ≡ delivered reader = ap delivered is in
    let beyond : length at.bytes + (delivered new - delivered at.reader) ≡ delivered new - delivered reader - offset = omega arith in
    (omega arith, r.count h ∙ ap (λ k. at_most_announced start.left k / size_of start) beyond, λ left e. rw beyond at (r.short h left e))

-- a line that was made is the words' line
pub line-read : (found : Result Said LineFault) (line : Said) → LineReads found (Ok line) → found ≡ Ok line
line-read (Ok said) line h = ap (λ (x : Said). Ok x) (sym h)
line-read (Err fault) line h = sym h

-- a fault has its cause, whatever is said of a read that failed before
pub HasCause-map : (P Q : Type 0) → (P → Q) → (cause : Cause) (reads new_reads writes new_writes : ℕ) → HasCause cause P reads new_reads writes new_writes → HasCause cause Q reads new_reads writes new_writes
HasCause-map P Q f Causes.ReadFailed reads new_reads writes new_writes h = h
HasCause-map P Q f Causes.WriteFailed reads new_reads writes new_writes (inl same, failed) = (inl same, failed)
HasCause-map P Q f Causes.WriteFailed reads new_reads writes new_writes (inr before, failed) = (inr (before.0, f before.1), failed)
HasCause-map P Q f Causes.TooLong reads new_reads writes new_writes h = h

-- where the writer failed, no read had failed, or one before it
pub HasCause-before : (P Q : Type 0) (cause : Cause) (reads new_reads writes new_writes : ℕ) → cause ≡ Causes.WriteFailed → HasCause cause P reads new_reads writes new_writes → (new_reads ≡ saturated (reads + 1) → P → Q)
    → (new_reads ≡ reads) ⊎ Q
HasCause-before P Q Causes.ReadFailed reads new_reads writes new_writes is h f = absurd (cc)
HasCause-before P Q Causes.WriteFailed reads new_reads writes new_writes is (inl same, failed) f = inl same
HasCause-before P Q Causes.WriteFailed reads new_reads writes new_writes is (inr before, failed) f = inr (f before.0 before.1)
HasCause-before P Q Causes.TooLong reads new_reads writes new_writes is h f = absurd (cc)

-- the kinds of a new chain's effects are those of its plan
pub kinds-new : (p : Planning) (c : ChainParts) → IsNewChain p c → kinds effect_acts c.flow.stages ≡ kinds_of p
kinds-new p c new = ap (map effect_acts.kind_of) new.made

pub wants-new : (p : Planning) (c : ChainParts) → IsNewChain p c → (n : ℕ) → WantsMore (kinds effect_acts c.flow.stages) n → WantsMore (kinds_of p) n
wants-new p c new n wants = λ m bound. rw (← kinds-new p c new) (wants m bound)

pub ReadFirst-new : {R : Type 0} (delivered : R → ℕ) (p : Planning) (c : ChainParts) → IsNewChain p c → (at : Parts EffectStage) (old : Held R) (new : R) (n given : ℕ) → ReadBefore effect_acts delivered old new c.flow at (start_of p.head) n given → ReadFirst delivered old new p n given
ReadFirst-new delivered p c is at old new n given before = record {
  due = rw (← kinds-new p c is) before.due;
  not_enough = rw (← kinds-new p c is) before.not_enough;
  read_failed = before.read_failed;
}

-- what is refused, told by another measure
pub Unready-delivered : {R : Type 0} (reads : ByteReader R) (line : Said) (files : List (List ℕ)) (old new : Held R) (IsSaid IsReported : List ℕ → Type 0) (status : ℕ)
    → ((text : List ℕ) → IsSaid text → IsReported text) → Unready reads line files old new IsSaid status → Unready reads line files old new IsReported status
Unready-delivered reads line files old new IsSaid IsReported status move u = record {
  refusal = u.refusal;
  head_refused = u.head_refused;
  head_cut = u.head_cut;
  plan_refused = u.plan_refused;
  chain_refused = u.chain_refused;
  cause = u.cause;
  status_is = u.status_is;
  delivered = move (refusal_message line u.refusal) u.delivered;
}

-- what a run came to, told by another measure
pub Finished-delivered : {R W : Type 0} (reads : ByteReader R) (writes : ByteWriter W) (ready : ReadyParts) (source new_source : Held R) (writer new_writer : W) (IsSaid IsReported : List ℕ → Type 0) (status : ℕ) (report : Report)
    → ((text : List ℕ) → IsSaid text → IsReported text) → Finished reads writes ready source new_source writer new_writer IsSaid status report → Finished reads writes ready source new_source writer new_writer IsReported status report
Finished-delivered reads writes ready source new_source writer new_writer IsSaid IsReported status report move f = record {
  outcome = f.outcome;
  ran = f.ran;
  stands = f.stands;
  all_flushed = f.all_flushed;
  due_flushed = f.due_flushed;
  read_failed = f.read_failed;
  wants = f.wants;
  work = f.work;
  causes = f.causes;
  status_is = f.status_is;
  report_is = f.report_is;
  delivered_is = move (run_messages ready.line f.outcome) f.delivered_is;
}
