-- A conversion in memory, from what `convert` says of readers and writers.
use Rattle.std.proofs.Common.{◌≡◌, ℕ, List, [], Option, Some, Result, Ok, Err, ap, arith, ◌+◌, drop, subst, sym, ◌∙◌}
use Rattle.fx_chain_run.specs.declared.report.Report.{Report}
use Rattle.fx_chain.specs.Theorem.{Ran}
use Rattle.fx_frame_base.specs.Io.{ByteReader, ByteWriter, saturated}
use Rattle.fx_plan.specs.declared.line.LineFault.{LineFault}
use Rattle.fx_plan.specs.Line.{Said}
use Rattle.soxchain.specs.Convert.{Converted}
use Rattle.fx_chain_run.specs.Report.{HasCause}
use Rattle.soxchain.specs.Preparing.{RefusalHasCause}
use Rattle.soxchain.specs.Program.{Concludes}
use Rattle.soxchain.specs.Stops.{Stop, Refused, Run}
use Rattle.soxchain.specs.declared.preparing.Refusal.TheVariants.{Head}
use Rattle.soxchain_c.specs.Conversion.{ConvertedBytes}
use Rattle.soxchain_c.proofs.Standing.{there-ran}
use Rattle.soxchain_stream.proofs.Words.{if_ok-more}

-- what is concluded of a line is concluded more weakly
pub concludes-more : {P Q : Said → Result Report Stop → Type 0} {U V : Type 0} {T S : List ℕ → Type 0} (status : ℕ) (report : Report) (found : Result Said LineFault)
    → ((line : Said) (outcome : Result Report Stop) → P line outcome → Q line outcome) → (U → V) → ((text : List ℕ) → T text → S text) → Concludes P U T status report found → Concludes Q V S status report found
concludes-more status report (Err fault) is untouched delivered c = (c.0, c.1, untouched c.2, delivered _ c.3)
concludes-more status report (Ok line) is untouched delivered c = record { outcome = c.outcome; is = is line c.outcome c.is; status_is = c.status_is; report_is = c.report_is; delivered = delivered _ c.delivered }

-- where no failure is counted, none rises
unfailed : (failures new_failures : ℕ) → failures ≡ 0 → new_failures ≡ 0 → new_failures ≡ saturated (failures + 1) → ⊥
unfailed failures new_failures none unchanged risen = let one : new_failures ≡ 1 = rw none at risen in absurd (omega (arith, one, unchanged))

-- a conversion of bytes by a reader that never fails, into memory
pub converted-bytes : {R W : Type 0} (reads : ByteReader R) (writes : ByteWriter W)
    (line : Said) (files : List (List ℕ)) (reader new_reader : R) (writer new_writer : W) (outcome : Result Report Stop) (input output : List ℕ)
    → ((r : R) → reads.failures r ≡ 0) → reads.rest reader ≡ Some input → writes.taken writer ≡ Some [] → writes.taken new_writer ≡ Some output
    → Converted reads writes line files reader new_reader writer new_writer outcome → ConvertedBytes line files input output outcome
converted-bytes reads writes line files reader new_reader writer new_writer outcome input output unfailing known first now c = record {
  whole = if_ok-more outcome (λ r whole.
      let w = rw (first, now) at (whole input known) in
      record { whole = w; there = there-ran w.run.plan (drop w.run.offset input) (Some []) (Some output) (Ok r) w.ran }) c.whole;
  clean = λ r e. (let same : Some output ≡ Some [] = sym now ∙ ap writes.taken (c.clean r e) ∙ first in cc);
  refused = λ f e. c.refused f e (λ is. unfailed _ _ (unfailing reader) (unfailing new_reader) (subst (λ x. RefusalHasCause (Head x) (reads.failures reader) (reads.failures new_reader)) is (c.causes (Refused (Head f)) e))) input known;
  unplanned = λ f e. c.unplanned f e input known;
  unchained = λ e. c.unchained e input known;
  stopped = λ f e.
      let s = c.stopped f e input known in
      let P : Option (List ℕ) → Type 0 = λ t. Ran s.run.plan (drop s.run.offset input) t (writes.taken new_writer) (Err f) in
      let Q : Option (List ℕ) → Type 0 = λ t. Ran s.run.plan (drop s.run.offset input) (Some []) t (Err f) in
      record {
        read = λ is. unfailed _ _ (unfailing reader) (unfailing new_reader) (subst (λ x. HasCause x (Unit {0}) (reads.failures reader) (reads.failures new_reader) (writes.failures writer) (writes.failures new_writer)) is (c.causes (Run f) e)).0;
        run = s.run;
        ran = subst Q now (subst P first s.ran);
        there = there-ran s.run.plan (drop s.run.offset input) (writes.taken writer) (writes.taken new_writer) (Err f) s.ran;
      };
}
