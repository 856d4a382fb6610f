-- What a crash leaves at the end of a job, and how the parts of a run join.
use Rattle.std.proofs.Common.{◌≡◌, ◌⊎◌, inl, inr, ⊎_elim, ℕ, ◌+◌, ◌-◌, ◌<◌, ◌≤◌, ◌^◌, List, [], ◌++◌, Option, Some, None, Bor, length, sym, ◌∙◌, ap, subst, arith}
use Rattle.std.proofs.lemmas.List.{drop_all}
use Rattle.soxchain_job.specs.Checkpoint.{Continues, IsInProgress, IsComplete, ReadsRest, in_progress_bytes, complete_bytes}
use Rattle.soxchain_job.specs.declared.checkpoint.Checkpoint.{Checkpoint}
use Rattle.soxchain_job.specs.declared.checkpoint.Checkpoint.TheVariants as Checkpoints
use Rattle.soxchain_job.specs.declared.checkpoint.Progress.{Progress}
use Rattle.soxchain_job.specs.declared.grow.Offsets.{Offsets}
use Rattle.soxchain_job.specs.Image.{Image, contents_of}
use Rattle.soxchain_job.specs.Conversion.{ConversionModel}
use Rattle.soxchain_job.specs.Job.{HasEnded, IsConsistent, IsGrowing, IsLive, IsReady, IsRecoverable, IsSafe, Job, NoneOrConsistent, Saved, whole_output}
use Rattle.soxchain_job.proofs.Growing.{known}

module _ {C : Type 0} (conversions : ConversionModel C) (job : Job C) where
  -- what the part holds once the rest is written
  pub all_written : (conversion : C) (written : ℕ) (old now : Image) (rest : List ℕ) → IsLive conversions job conversion (length job.input) written old → rest ≡ conversions.remaining conversion []
      → now.part ≡ Some (contents_of old.part ++ rest) → now.part ≡ Some (whole_output conversions job)
  all_written conversion written old now rest live rest_is part_is =
      part_is ∙ ap (λ (l : List ℕ). Some (contents_of old.part ++ l)) (rest_is ∙ ap (conversions.remaining conversion) (sym (drop_all (length job.input) job.input (omega arith)))) ∙ ap (λ (l : List ℕ). Some l) (sym live.front)

  -- no checkpoint in progress is a complete one
  not_complete : (summary part : List ℕ) → IsConsistent conversions job (complete_bytes summary) part → ⊥
  not_complete summary part h = (let e = h.bytes in cc)

  -- with a complete checkpoint, the output is complete
  pub is_ready : (summary : List ℕ) (c : Image) → IsRecoverable conversions job c → c.checkpoint ≡ Some (complete_bytes summary) → IsReady conversions job c
  is_ready summary c (inl growing) e = absurd (not_complete summary (contents_of c.part) (known conversions job c.checkpoint (complete_bytes summary) (contents_of c.part) e growing.checkpoint))
  is_ready summary c (inr ready) e = ready

  -- without a checkpoint, or with one in progress, the part grows
  pub growing_none : (c : Image) → IsRecoverable conversions job c → c.checkpoint ≡ None → IsGrowing conversions job c
  growing_none c (inl growing) e = growing
  growing_none c (inr ready) e = (let was = ready.checkpoint.bytes in absurd (cc))

  pub growing_some : (taken written : ℕ) (frozen : List ℕ) (c : Image) → IsRecoverable conversions job c → c.checkpoint ≡ Some (in_progress_bytes taken written frozen) → IsGrowing conversions job c
  growing_some taken written frozen c (inl growing) e = growing
  growing_some taken written frozen c (inr ready) e = (let was = ready.checkpoint.bytes in absurd (cc))

  -- the complete checkpoint, once the output is complete
  pub marked_complete : (conversion : C) (summary : List ℕ) → conversions.summarised conversion summary → (d c : Image) → IsGrowing conversions job d
      → d.part ≡ Some (whole_output conversions job) → Saved (complete_bytes summary) d c → IsRecoverable conversions job c
  marked_complete conversion summary summarised d c growing part saved =
      ⊎_elim
      (λ same. inl (record {
        out = ⊎_elim (λ old. inl (saved.out ∙ old)) (λ new. inr (saved.out ∙ new)) growing.out;
        checkpoint = subst (λ (p : Option (List ℕ)). NoneOrConsistent conversions job c.checkpoint (contents_of p)) (sym saved.part)
            (subst (λ (s : Option (List ℕ)). NoneOrConsistent conversions job s (contents_of d.part)) (sym same) growing.checkpoint);
      }))
      (λ new. inr (record {
        out = ⊎_elim (λ old. inl (saved.out ∙ old)) (λ now. inr (saved.out ∙ now)) growing.out;
        checkpoint = record { conversion = conversion; summary = summary; summarised = summarised; bytes = new };
        part = inl (saved.part ∙ part);
      }))
      saved.checkpoint

  -- once the checkpoint is removed
  pub ended_safe : (c : Image) → IsReady conversions job c ⊎ HasEnded conversions job c → IsSafe conversions job c
  ended_safe c (inl ready) = inl (inr ready)
  ended_safe c (inr ended) = inr ended

  -- where there is no checkpoint, nothing is known to be taken
  pub unreached : (c : Image) → IsGrowing conversions job c → c.checkpoint ≡ None → job.reached ≡ 0
  unreached c growing e = subst (λ (s : Option (List ℕ)). NoneOrConsistent conversions job s (contents_of c.part)) e growing.checkpoint

-- a checkpoint that was read
pub record ReadInProgress (bytes : List ℕ) (found : Option Checkpoint) : Type 0 where
  pub taken : ℕ
  pub written : ℕ
  pub frozen : List ℕ
  pub is : bytes ≡ in_progress_bytes taken written frozen
  pub reads : IsInProgress taken written frozen found

pub record ReadComplete (bytes : List ℕ) (found : Option Checkpoint) : Type 0 where
  pub summary : List ℕ
  pub is : bytes ≡ complete_bytes summary
  pub reads : IsComplete summary found

abbrev pub Decoded : List ℕ → Option Checkpoint → Type 0
Decoded bytes found = ReadInProgress bytes found ⊎ ReadComplete bytes found

pub decoded : {C : Type 0} (conversions : ConversionModel C) (job : Job C) (bytes read : List ℕ) (found : Option Checkpoint) (now : Image)
    → IsRecoverable conversions job now → now.checkpoint ≡ Some bytes → read ≡ bytes
    → ((taken written : ℕ) (frozen : List ℕ) → taken < 2 ^ 64 → written < 2 ^ 64 → read ≡ in_progress_bytes taken written frozen → IsInProgress taken written frozen found)
    → ((summary : List ℕ) → read ≡ complete_bytes summary → IsComplete summary found) → Decoded bytes found
decoded conversions job bytes read found now (inl growing) checkpoint same in_progress complete =
    let was = known conversions job now.checkpoint bytes (contents_of now.part) checkpoint growing.checkpoint in
    inl (record { taken = was.taken; written = was.written; frozen = was.frozen; is = was.bytes; reads = in_progress was.taken was.written was.frozen was.taken_fits was.written_fits (same ∙ was.bytes) })
decoded conversions job bytes read found now (inr ready) checkpoint same in_progress complete =
    let says = ready.checkpoint in
    let is : bytes ≡ complete_bytes says.summary = (let e = says.bytes in cc) in
    inr (record { summary = says.summary; is = is; reads = complete says.summary (same ∙ is) })

pub none_is : (bytes : List ℕ) → Decoded bytes None → ⊥
none_is bytes (inl read) = read.reads
none_is bytes (inr read) = read.reads

pub complete_is : (bytes : List ℕ) {summary : Bor (List ℕ)} → Decoded bytes (Some (Checkpoints.Complete summary)) → bytes ≡ complete_bytes summary.now
complete_is bytes (inl read) = absurd read.reads
complete_is bytes (inr read) = read.is ∙ ap complete_bytes (sym read.reads)

pub in_progress_is : (bytes : List ℕ) (p : Progress) → Decoded bytes (Some (Checkpoints.InProgress p)) → bytes ≡ in_progress_bytes p.taken p.written p.frozen.now
in_progress_is bytes p (inl read) =
    read.is ∙ ap (λ (n : ℕ). in_progress_bytes n read.written read.frozen) (sym read.reads.0) ∙ ap (λ (n : ℕ). in_progress_bytes p.taken n read.frozen) (sym read.reads.1)
    ∙ ap (λ (l : List ℕ). in_progress_bytes p.taken p.written l) (sym read.reads.2)
in_progress_is bytes p (inr read) = absurd read.reads

-- a run that continues from these offsets, and reads no more than follows them
pub reads_rest : (checkpoint : Option (List ℕ)) (offsets : Offsets) (old new : ℕ) {count size : ℕ} → count ≡ size → offsets.taken ≤ size → Continues checkpoint (Some offsets) → new ≤ old + (count - offsets.taken) → ReadsRest checkpoint size old new
reads_rest checkpoint offsets old new same within continues bound = λ taken written frozen ft fw e. omega (arith, (continues taken written frozen ft fw e).0, bound, same, within)
