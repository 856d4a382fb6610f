-- The names of a job are distinct where the record takes none of the others.
use Rattle.std.proofs.Common.{◌≡◌, ◌==◌, ◌<◌, ◌++◌, ℕ, List, [], if◌then◌else◌, codes, refl, sym, ap, ◌∙◌, arith, inl, inr, length, length-append}
use Rattle.std.proofs.lemmas.List.{append-nil, append_cancel_left}
use Rattle.soxchain_job_rules.specs.declared.own_file.OwnFile.{OwnFile}
use Rattle.soxchain_job_rules.specs.declared.own_file.OwnFile.TheVariants.{Out, Part, Checkpoint, NewCheckpoint, Lock, Record, NewRecord}
use Rattle.soxchain_job_rules.specs.Names.{AreDistinct, IsFree, JobTexts, own_name, rank_of}

-- what stands after OUT
abbrev suffix : OwnFile → List ℕ
suffix Out = []
suffix Part = codes ".part"
suffix Checkpoint = codes ".job"
suffix NewCheckpoint = codes ".job.new"
suffix Lock = codes ".job.lock"
suffix Record = []
suffix NewRecord = []

own_name-suffix : (texts : JobTexts) (file : OwnFile) → rank_of file < 5 → own_name texts file ≡ texts.out ++ suffix file
own_name-suffix texts Out below = sym (append-nil texts.out)
own_name-suffix texts Part below = refl
own_name-suffix texts Checkpoint below = refl
own_name-suffix texts NewCheckpoint below = refl
own_name-suffix texts Lock below = refl
own_name-suffix texts Record below = absurd (omega arith)
own_name-suffix texts NewRecord below = absurd (omega arith)

-- no two of these have one length
abbrev by_length : ℕ → OwnFile
by_length n = if n == 0 then Out else (if n == 5 then Part else (if n == 4 then Checkpoint else (if n == 8 then NewCheckpoint else Lock)))

by_length-suffix : (file : OwnFile) → rank_of file < 5 → by_length (length (suffix file)) ≡ file
by_length-suffix Out below = refl
by_length-suffix Part below = refl
by_length-suffix Checkpoint below = refl
by_length-suffix NewCheckpoint below = refl
by_length-suffix Lock below = refl
by_length-suffix Record below = absurd (omega arith)
by_length-suffix NewRecord below = absurd (omega arith)

distinct_of_out : (texts : JobTexts) (file other : OwnFile) → rank_of file < 5 → rank_of other < 5 → own_name texts file ≡ own_name texts other → file ≡ other
distinct_of_out texts file other below below_too same =
    let joined = sym (own_name-suffix texts file below) ∙ same ∙ own_name-suffix texts other below_too in
    let suffixes = append_cancel_left texts.out (suffix file) (suffix other) joined in
    sym (by_length-suffix file below) ∙ ap (λ (s : List ℕ). by_length (length s)) suffixes ∙ by_length-suffix other below_too

-- a text is not the longer one
not_longer : (text : List ℕ) → ¬ (text ≡ text ++ codes ".new")
not_longer text same = omega (arith, ap length same, length-append text (codes ".new"))

pub distinct : (texts : JobTexts) → IsFree texts → AreDistinct texts
distinct texts free Record Record same = refl
distinct texts free NewRecord NewRecord same = refl
distinct texts free Record NewRecord same = absurd (not_longer texts.record_name same)
distinct texts free NewRecord Record same = absurd (not_longer texts.record_name (sym same))
distinct texts free Record other same = absurd (free other (omega arith) (inl (sym same)))
distinct texts free NewRecord other same = absurd (free other (omega arith) (inr (sym same)))
distinct texts free file Record same = absurd (free file (omega arith) (inl same))
distinct texts free file NewRecord same = absurd (free file (omega arith) (inr same))
distinct texts free file other same = distinct_of_out texts file other (omega arith) (omega arith) same
