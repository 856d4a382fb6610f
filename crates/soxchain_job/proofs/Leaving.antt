-- What a crash leaves of the calls of each part of a run.
use Rattle.std.proofs.Common.{◌≡◌, ◌⊎◌, ◌∙◌, inl, ◌<◌, ◌^◌, ℕ, List, Option, None, Some, ap, subst, sym, lit<}
use Rattle.soxchain_job.specs.Checkpoint.{IsCheckpointOf, complete_bytes, in_progress_bytes}
use Rattle.soxchain_job.specs.Conversion.{ConversionModel}
use Rattle.soxchain_job.specs.Disk.{Appended, DiskModel, Durable, Elapses, Follows, LeavesNow, LeavesOnly, Truncated}
use Rattle.soxchain_job.specs.Image.{Image, contents_of}
use Rattle.soxchain_job.specs.Job.{HasEnded, IsConsistent, IsGrowing, IsLive, IsReady, IsRecoverable, IsSafe, Job, Saved, Saving, whole_output}
use Rattle.soxchain_job.specs.declared.disk.FileName.TheVariants.{Part, Checkpoint}
use Rattle.soxchain_job.proofs.Calls.{CountsNow, OnlyNow, goes_on, joined, now_of, one_call, weaker}
use Rattle.soxchain_job.proofs.Ending.{ended_safe, marked_complete}
use Rattle.soxchain_job.proofs.Growing.{first_consistent, growing_tail, live_consistent, saved_growing, truncate_keeps}

module _ {C D : Type 0} (conversions : ConversionModel C) (disks : DiskModel D) (job : Job C) where
  -- an append to the part
  pub after_append : {old new : D} → OnlyNow disks → LeavesNow disks old (IsGrowing conversions job) → Elapses disks old new → Follows (Appended Part) (disks.may_leave old) (disks.may_leave new)
      → LeavesOnly disks old new (IsGrowing conversions job)
  after_append only safe time crash =
      one_call disks (IsGrowing conversions job) only safe time (λ c now. (let from = crash c now in growing_tail conversions job from.0 c (safe from.0 from.1) from.2))

  -- the part truncated to the bytes that the checkpoint counts
  truncated_growing : (old new : D) (taken written : ℕ) (frozen : List ℕ) → taken < 2 ^ 64 → written < 2 ^ 64 → LeavesNow disks old (IsGrowing conversions job)
      → LeavesNow disks old (λ c. c.checkpoint ≡ Some (in_progress_bytes taken written frozen)) → Follows (Truncated Part written) (disks.may_leave old) (disks.may_leave new)
      → LeavesNow disks new (IsGrowing conversions job)
  truncated_growing old new taken written frozen ft fw safe says crash =
      λ c now. (let from = crash c now in truncate_keeps conversions job taken written frozen ft fw from.0 c (safe from.0 from.1) (says from.0 from.1) from.2)

  pub after_truncate : {old new : D} (taken written : ℕ) (frozen : List ℕ) → OnlyNow disks → taken < 2 ^ 64 → written < 2 ^ 64 → LeavesNow disks old (IsGrowing conversions job)
      → (disks.seen old).checkpoint ≡ Some (in_progress_bytes taken written frozen) → Durable Checkpoint (disks.seen old) (disks.may_leave old)
      → Elapses disks old new → Follows (Truncated Part written) (disks.may_leave old) (disks.may_leave new) → LeavesOnly disks old new (IsGrowing conversions job)
  after_truncate taken written frozen only ft fw safe says durable time crash =
      one_call disks (IsGrowing conversions job) only safe time (truncated_growing _ _ taken written frozen ft fw safe (λ c now. durable c now ∙ says) crash)

  -- the part is synced, and then a checkpoint of what is seen is written
  pub after_checkpoint : {synced new : D} {conversion : C} {taken written : ℕ} {bytes : List ℕ} (old : D) (saved : List ℕ) → OnlyNow disks → LeavesNow disks old (IsGrowing conversions job)
      → IsLive conversions job conversion taken written (disks.seen old) → taken < 2 ^ 64 → written < 2 ^ 64 → IsCheckpointOf conversions.frozen_as conversion taken written bytes → saved ≡ bytes
      → Elapses disks old synced → LeavesNow disks synced (disks.may_leave old) → Durable Part (disks.seen old) (disks.may_leave synced)
      → LeavesOnly disks synced new (Saving (disks.may_leave synced) saved) → LeavesOnly disks old new (IsGrowing conversions job)
  after_checkpoint old saved only safe live ft fw made is time crash durable replaced =
      let so : IsConsistent conversions job saved (contents_of (disks.seen old).part) =
      subst (λ (b : List ℕ). IsConsistent conversions job b (contents_of (disks.seen old).part)) (sym (is ∙ made.bytes_are)) (live_consistent conversions job _ _ _ made.frozen (disks.seen old) live made.freezes ft fw) in
      joined (one_call disks (IsGrowing conversions job) only safe time (λ c now. safe c (crash c now)))
      (weaker replaced (λ c s. saved_growing conversions job saved s.0 c (safe s.0 (crash s.0 s.1)) s.2
      (subst (λ (p : Option (List ℕ)). IsConsistent conversions job saved (contents_of p)) (sym (durable s.0 s.1)) so)))

  -- the first checkpoint is written
  pub after_first_checkpoint : {old new : D} {conversion : C} {bytes : List ℕ} (saved : List ℕ) → conversion ≡ job.start → job.reached ≡ 0 → LeavesNow disks old (IsGrowing conversions job)
      → IsCheckpointOf conversions.frozen_as conversion 0 0 bytes → saved ≡ bytes → LeavesOnly disks old new (Saving (disks.may_leave old) saved) → LeavesOnly disks old new (IsGrowing conversions job)
  after_first_checkpoint saved fresh unreached safe made is replaced =
      weaker replaced (λ c s. saved_growing conversions job saved s.0 c (safe s.0 s.1) s.2
      (subst (λ (b : List ℕ). IsConsistent conversions job b (contents_of s.0.part)) (sym (is ∙ made.bytes_are))
      (first_consistent conversions job made.frozen (contents_of s.0.part) unreached (subst (λ (m : C). conversions.frozen_as m made.frozen) fresh made.freezes))))

  -- ... and the part made empty
  pub after_begin : {old mid new : D} {conversion : C} {bytes : List ℕ} (saved : List ℕ) → CountsNow disks → LeavesOnly disks old mid (IsGrowing conversions job)
      → IsCheckpointOf conversions.frozen_as conversion 0 0 bytes → saved ≡ bytes → disks.seen mid ≡ record (disks.seen old) { new_checkpoint = None; checkpoint = Some saved }
      → Durable Checkpoint (disks.seen mid) (disks.may_leave mid) → Elapses disks mid new → Follows (Truncated Part 0) (disks.may_leave mid) (disks.may_leave new)
      → LeavesOnly disks old new (IsGrowing conversions job)
  after_begin saved counts so_far made is seen durable time crash =
      goes_on so_far time (truncated_growing _ _ 0 0 made.frozen (lit< tt) (lit< tt) (now_of disks counts so_far)
      (λ c now. durable c now ∙ ap (λ (i : Image). i.checkpoint) seen ∙ ap (λ (l : List ℕ). Some l) (is ∙ made.bytes_are)) crash)

  -- the checkpoint of a complete output is written
  pub after_completion : {old new : D} (conversion : C) (summary saved : List ℕ) → conversions.summarised conversion summary → LeavesNow disks old (IsGrowing conversions job)
      → LeavesNow disks old (λ c. c.part ≡ Some (whole_output conversions job)) → saved ≡ complete_bytes summary
      → LeavesOnly disks old new (Saving (disks.may_leave old) saved) → LeavesOnly disks old new (IsRecoverable conversions job)
  after_completion conversion summary saved summarised safe complete is replaced =
      weaker replaced (λ c s. marked_complete conversions job conversion summary summarised s.0 c (safe s.0 s.1) (complete s.0 s.1) (subst (λ (b : List ℕ). Saved b s.0 c) is s.2))

  -- the checkpoint is read, after a sync
  pub found_recoverable : {old new : D} → CountsNow disks → LeavesOnly disks old new (disks.may_leave old) → LeavesNow disks old (IsRecoverable conversions job) → LeavesNow disks new (IsRecoverable conversions job)
  found_recoverable counts run safe = now_of disks counts (weaker run safe)

  -- what each part leaves is safe
  pub found_safe : {old new : D} → LeavesOnly disks old new (disks.may_leave old) → LeavesNow disks old (IsRecoverable conversions job) → LeavesOnly disks old new (IsSafe conversions job)
  found_safe run safe = weaker run (λ c h. inl (safe c h))

  pub growing_safe : {old new : D} → LeavesOnly disks old new (IsGrowing conversions job) → LeavesOnly disks old new (IsSafe conversions job)
  growing_safe run = weaker run (λ c h. inl (inl h))

  pub recoverable_safe : {old new : D} → LeavesOnly disks old new (IsRecoverable conversions job) → LeavesOnly disks old new (IsSafe conversions job)
  recoverable_safe run = weaker run (λ c h. inl h)

  pub ending_safe : {old new : D} → LeavesOnly disks old new (λ c. IsReady conversions job c ⊎ HasEnded conversions job c) → LeavesOnly disks old new (IsSafe conversions job)
  ending_safe run = weaker run (ended_safe conversions job)
