-- A conversion, concluded from its two halves: what is prepared, and what is finished.
use Rattle.std.proofs.Common.{◌≡◌, ℕ, List, ◌+◌, [], refl, sym, ap, subst, ◌∙◌, ◌⊎◌, inl, inr, drop, ◌≢◌, true, Option, Result, Ok, Err}
use Rattle.fx_chain_run.specs.declared.pump.Cause.TheVariants as Causes
use Rattle.fx_chain_run.specs.declared.report.Report.{Report}
use Rattle.fx_chain_run.specs.declared.report.RunFault.{RunFault}
use Rattle.fx_chain.specs.Chain.{IsNewChain}
use Rattle.fx_chain_run.specs.Report.{cause_of, no_report, report_at, report_in, start_of}
use Rattle.fx_sound.specs.Container.{ReadAllDelivered}
use Rattle.fx_chain.specs.Theorem.{ReadFirst}
use Rattle.fx_frame_base.specs.Io.{ByteReader, ByteWriter, saturated}
use Rattle.fx_plan.specs.declared.line.LineFault.{LineFault}
use Rattle.fx_plan.specs.Line.{Said, line_of_words}
use Rattle.fx_plan.specs.CommandLines.{LineReads, effects_in, planning_in}
use Rattle.fx_plan.specs.Plans.{head_layout, all_faults}
use Rattle.fx_plan.specs.Planning.{planning}
use Rattle.fx_sound.specs.declared.head.HeadFault.TheVariants.{ReadFailed}
use Rattle.fx_sound.specs.Head.{ReadsHead}
use Rattle.fx_sound.specs.Known.{IfKnown}
use Rattle.fx_sound.specs.Source.{Held, to_come}
use Rattle.soxchain.specs.declared.preparing.Refusal.TheVariants.{Chain, Head, Plan}
use Rattle.soxchain.specs.Convert.{Converted, ReaderStands, Running, StopHasCause, Stopped, ReportedFirst, TookAllDelivered, unread_source}
use Rattle.soxchain.specs.Finishing.{Finished, ReadyParts, run_status}
use Rattle.soxchain.specs.Program.{Concludes}
use Rattle.soxchain.specs.Readying.{LineRefused, LineUnready}
use Rattle.soxchain.specs.Stops.{Stop, Refused, Run}
use Rattle.soxchain.proofs.Converting.{HasCause-before, HasCause-map, Ran-delivered, SourceStands-rest_unchanged, to_come-start}

-- the line that the words are is read
pub line-reads : (found : Result Said LineFault) (line : Said) → found ≡ Ok line → LineReads found (Ok line)
line-reads found line h = subst (λ (x : Result Said LineFault). LineReads x (Ok line)) (sym h) refl

module _ {R W : Type 0} (reads : ByteReader R) (writes : ByteWriter W)
    (words files : List (List ℕ)) (reader : R) (IsReported : List ℕ → Type 0) where
  -- what a conversion comes to
  abbrev pub Concluded : W → W → R → ℕ → Report → Type 0
  Concluded writer new_writer inner status report =
      (found : Result Said LineFault) × LineReads (line_of_words words) found × Concludes (λ line. Converted reads writes line files reader inner writer new_writer) ((inner ≡ reader) × (new_writer ≡ writer)) IsReported status report found

  -- nothing was ready: the line, the head or the plan was refused, or memory was wanting
  pub refused : (new : Held R) (writer : W) (inner : R) (status : ℕ) → inner ≡ new.reader
      → LineRefused words (unread_source reader) new IsReported status ⊎ LineUnready reads words files (unread_source reader) new IsReported status
      → Concluded writer writer inner status no_report
  refused new writer inner status is (inl r) =
      (Err r.fault, r.reads, (r.status_is, refl, (is ∙ ap (λ (s : Held R). s.reader) r.unread, refl), r.delivered))
  refused new writer inner status is (inr u) = (
    Ok u.line,
    line-reads (line_of_words words) u.line u.is_line,
    record {
      outcome = Err (Refused u.unready.refusal);
      is = record {
        whole = tt;
        all_flushed = tt;
        due_flushed = λ f e. absurd (cc);
        unfailed = tt;
        clean = λ r e. refl;
        refused = λ f e other bytes known.
            let same : u.unready.refusal ≡ Head f = cc in
            u.unready.head_refused f same other bytes (to_come-start reads.rest (unread_source reader) reader bytes refl refl known);
        cut = λ e.
            let same : u.unready.refusal ≡ Head ReadFailed = cc in
            (new, u.unready.head_cut ReadFailed same refl, sym is);
        unplanned = λ f e bytes known.
            let same : u.unready.refusal ≡ Plan f = cc in
            let found = u.unready.plan_refused f same in
            let head = found.read bytes (to_come-start reads.rest (unread_source reader) reader bytes refl refl known) in
            record {
              head = found.head;
              offset = head.offset;
              begins = record { spelt = head.spelt; there = head.there; near = head.near };
              refuses = found.refuses;
            };
        unchained = λ e bytes known.
            let same : u.unready.refusal ≡ Chain = cc in
            let found = u.unready.chain_refused same in
            let head = found.read bytes (to_come-start reads.rest (unread_source reader) reader bytes refl refl known) in
            record {
              head = found.head;
              offset = head.offset;
              begins = record { spelt = head.spelt; there = head.there; near = head.near };
              no_faults = found.no_faults;
            };
        stopped = λ f e. absurd (cc);
        stands = tt;
        causes = λ s e.
            let same : Refused u.unready.refusal ≡ s = cc in
            subst (λ (t : Stop). StopHasCause t (reads.failures reader) (reads.failures inner) (writes.failures writer) (writes.failures writer)) same (rw (← is) at u.unready.cause);
      };
      status_is = u.unready.status_is;
      report_is = refl;
      delivered = u.unready.delivered;
    },
  )

  -- what was ready when a run began
  pub record Began (middle : Held R) (ready : ReadyParts) : Type 0 where
    pub line : line_of_words words ≡ Ok ready.line
    pub head : IfKnown (to_come reads.rest (unread_source reader)) (λ bytes. ReadsHead reads.rest reads.delivered ready.line.input_kind bytes (unread_source reader) middle ready.prepared.plan.head)
    pub no_faults : all_faults (head_layout ready.prepared.plan.head) files (effects_in ready.line) ≡ []
    pub planned : planning ready.prepared.plan ≡ planning_in ready.prepared.plan.head ready.line files
    pub chain : IsNewChain (planning ready.prepared.plan) ready.prepared.chain
    pub unfailed : reads.failures middle.reader ≡ reads.failures reader

  module _ (middle new : Held R) (ready : ReadyParts) (writer new_writer : W) (inner : R) (status : ℕ) (report : Report)
      (began : Began middle ready) (f : Finished reads writes ready middle new writer new_writer IsReported status report) (is : inner ≡ new.reader) where
    -- the head that the bytes begin with
    abbrev pub head-in : (bytes : List ℕ) → reads.rest reader ≡ Option.Some bytes → ReadsHead reads.rest reads.delivered ready.line.input_kind bytes (unread_source reader) middle ready.prepared.plan.head
    head-in bytes known = began.head bytes (to_come-start reads.rest (unread_source reader) reader bytes refl refl known)

    -- the run, as far as it came
    abbrev pub running : (bytes : List ℕ) (r : Report) → reads.rest reader ≡ Option.Some bytes → report_in f.outcome ≡ r → Running ready.line files bytes r
    running bytes r known e =
        let head = head-in bytes known in
        record {
          plan = planning ready.prepared.plan;
          offset = head.offset;
          begins = record { spelt = head.spelt; there = head.there; near = head.near };
          no_faults = began.no_faults;
          planned = began.planned;
          wants = rw e at f.wants;
          work = rw e at f.work;
        }

    -- all whole frames that were told had come, by the count from the first byte of the input on
    abbrev pub delivered-all : (bytes : List ℕ) (known : reads.rest reader ≡ Option.Some bytes) (n : ℕ) → ReadAllDelivered reads.delivered middle new.reader (start_of ready.prepared.plan.head) n → TookAllDelivered reads reader new.reader ready.prepared.plan.head (head-in bytes known).offset n
    delivered-all bytes known n all = λ bound. Ran-delivered reads.delivered (unread_source reader) middle reader new.reader (start_of ready.prepared.plan.head) (head-in bytes known).offset n refl refl (head-in bytes known).tells all bound

    -- one read had failed before
    abbrev pub delivered-first : (bytes : List ℕ) (known : reads.rest reader ≡ Option.Some bytes) (n given : ℕ) → reads.failures new.reader ≡ saturated (reads.failures middle.reader + 1) → ReadFirst reads.delivered middle new.reader (planning ready.prepared.plan) n given → ReportedFirst reads reader new.reader (planning ready.prepared.plan) (head-in bytes known).offset n given
    delivered-first bytes known n given failed q = record { failed = rw began.unfailed at failed; due = q.due; not_enough = q.not_enough; took_all = delivered-all bytes known n q.read_failed }

    -- where the reader stands
    abbrev pub reader-stands : (bytes : List ℕ) → reads.rest reader ≡ Option.Some bytes → (o : Result Report RunFault) → f.outcome ≡ o → ReaderStands reads ready.line files bytes reader inner o
    reader-stands bytes known o e =
        let head = head-in bytes known in
        record {
          run = running bytes (report_in o) known (ap report_in e);
          left = new;
          is_left = sym is;
          stands = rw is (SourceStands-rest_unchanged reads (unread_source reader) middle new ready.prepared.plan.head head.offset bytes _ _ o head.tells
              (λ before. delivered-first bytes known (report_in o).frames_in (report_in o).frames_out before.0 before.1) (rw e at f.stands (drop head.offset bytes) head.others));
        }

    -- what was ready ran, and the run ended so
    pub ran : (o : Result Report RunFault) → f.outcome ≡ o → Concluded writer new_writer inner status report
    ran (Ok r) e = (
      Ok ready.line,
      line-reads (line_of_words words) ready.line began.line,
      record {
        outcome = Ok r;
        is = record {
          whole = λ bytes known.
              let head = head-in bytes known in
              record { run = running bytes r known (ap report_in e); ran = rw e at f.ran (drop head.offset bytes) head.others };
          all_flushed = rw e at f.all_flushed;
          due_flushed = λ f e. absurd (cc);
          unfailed = let went = rw e at f.causes in (ap reads.failures is ∙ went.0 ∙ began.unfailed, went.1);
          clean = λ r e. absurd (cc);
          refused = λ f e. absurd (cc);
          cut = λ e. absurd (cc);
          unplanned = λ f e. absurd (cc);
          unchained = λ e. absurd (cc);
          stopped = λ f e. absurd (cc);
          stands = λ bytes known. reader-stands bytes known (Ok r) e;
          causes = λ s e. absurd (cc);
        };
        status_is = f.status_is ∙ ap run_status e;
        report_is = f.report_is ∙ ap report_in e;
        delivered = rw e at f.delivered_is;
      },
    )
    ran (Err fault) e = (
      Ok ready.line,
      line-reads (line_of_words words) ready.line began.line,
      record {
        outcome = Err (Run fault);
        is = record {
          whole = tt;
          all_flushed = tt;
          due_flushed = λ x h.
              let same : fault ≡ x = cc in
              subst (λ (y : RunFault). cause_of y ≢ Causes.WriteFailed → writes.flushed new_writer ≡ true) same (rw e at f.due_flushed);
          unfailed = tt;
          clean = λ r e. absurd (cc);
          refused = λ f e. absurd (cc);
          cut = λ e. absurd (cc);
          unplanned = λ f e. absurd (cc);
          unchained = λ e. absurd (cc);
          stopped = λ x h bytes known.
              let same : fault ≡ x = cc in
              let head = head-in bytes known in
              subst (λ (y : RunFault). Stopped reads ready.line files bytes reader inner (writes.taken writer) (writes.taken new_writer) y) same
              (record {
                run = running bytes (report_at fault) known (ap report_in e);
                ran = rw e at f.ran (drop head.offset bytes) head.others;
                read_failed = λ c bound. rw (← is) at (delivered-all bytes known (report_at fault).frames_in (rw e at f.read_failed c) (rw is at bound));
                read_before = λ c. rw (is, ← began.unfailed) (HasCause-before _ (ReportedFirst reads reader new.reader (planning ready.prepared.plan) head.offset (report_at fault).frames_in (report_at fault).frames_out) (cause_of fault) _ _ _ _ c (rw e at f.causes) (delivered-first bytes known (report_at fault).frames_in (report_at fault).frames_out));
              });
          stands = λ bytes known. reader-stands bytes known (Err fault) e;
          causes = λ s h.
              let same : Run fault ≡ s = cc in
              subst (λ (t : Stop). StopHasCause t (reads.failures reader) (reads.failures inner) (writes.failures writer) (writes.failures new_writer)) same (HasCause-map _ _ (λ _. tt) (cause_of fault) _ _ _ _ (rw (← is, began.unfailed, e) at f.causes));
        };
        status_is = f.status_is ∙ ap run_status e;
        report_is = f.report_is ∙ ap report_in e;
        delivered = rw e at f.delivered_is;
      },
    )

    -- what was ready ran
    pub concluded : Concluded writer new_writer inner status report
    concluded = ran f.outcome refl
