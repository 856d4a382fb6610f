-- What makes the names of a job.
use Rattle.std.proofs.Common.{◌≡◌, ℕ, List, string_bytes, sym, ap, ◌∙◌, subst}
use Rattle.soxchain_job_rules.specs.declared.own_file.OwnFile.TheVariants.{NewRecord}
use Rattle.soxchain_job_rules.specs.declared.names.JobNames.TheInside.{Inside}
use Rattle.soxchain_job_rules.specs.Names.{AreDistinct, IsFree, JobTexts, own_name}
use Rattle.soxchain_job_rules.specs.OutNames.{AreNamesOf}
use Rattle.soxchain_job_rules.specs.JobNames.{AreJobNames}
use Rattle.soxchain_job_rules.proofs.Distinct.{distinct}

abbrev texts_with : List ℕ → List ℕ → JobTexts
texts_with out record_name = record { out = out; record_name = record_name }

-- texts are those of their two fields
pub same_texts : (texts : JobTexts) (out record_name : List ℕ) → out ≡ texts.out → record_name ≡ texts.record_name → texts_with out record_name ≡ texts
same_texts texts out record_name same_out same_record =
    ap (λ (text : List ℕ). texts_with text record_name) same_out ∙ ap (λ (text : List ℕ). texts_with texts.out text) same_record

pub job_names : (texts : JobTexts) (names : Inside) → AreNamesOf texts names.of_out → string_bytes names.record_name ≡ texts.record_name → string_bytes names.new_record ≡ own_name texts NewRecord → IsFree texts → AreJobNames names
job_names texts names of_out record_name new_record free =
    let same = same_texts texts (string_bytes names.of_out.out) (string_bytes names.record_name) of_out.out record_name in
    record {
      of_out = subst (λ (t : JobTexts). AreNamesOf t names.of_out) (sym same) of_out;
      new_record = subst (λ (t : JobTexts). string_bytes names.new_record ≡ own_name t NewRecord) (sym same) new_record;
      distinct = subst AreDistinct (sym same) (distinct texts free);
    }
