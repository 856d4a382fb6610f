-- What runs of a job leave, one after another.
use Rattle.std.proofs.Common.{◌≡◌, ◌⊎◌, inl, inr, ⊎_elim, ℕ, ◌≤◌, List, Option, None, sym, subst, arith}
use Rattle.soxchain_job.specs.Conversion.{ConversionModel}
use Rattle.soxchain_job.specs.Disk.{DiskModel, LeavesNow, LeavesOnly, LeavesThrough}
use Rattle.soxchain_job.specs.Image.{Image, contents_of}
use Rattle.soxchain_job.specs.Job.{IsRecoverable, IsSafe, Job, NoneOrConsistent, OldOrComplete, target_of}
use Rattle.soxchain_job.proofs.Calls.{OnlyNow}

pub through_start : {D : Type 0} (disk : DiskModel D) {old : D} (P : Image → Type 0)
    → OnlyNow disk → LeavesNow disk old P → LeavesThrough disk old old P
through_start disk P only safe = record { later = omega arith; each = λ c left. safe c (only _ c left); before = λ t c le left. inl left }

-- a run more
pub through_run : {D : Type 0} {disk : DiskModel D} {old mid new : D} {P : Image → Type 0}
    → LeavesThrough disk old mid P → LeavesOnly disk mid new P → LeavesThrough disk old new P
through_run so_far more = record {
  later = omega (arith, so_far.later, more.later);
  each = λ c left. ⊎_elim (so_far.each c) (λ here. here) (more.before _ c so_far.later left);
  before = λ t c le left. ⊎_elim (so_far.before t c le) (λ here. inr here) (more.before t c (omega (arith, le, so_far.later)) left);
}

-- and a crash
pub through_crash : {D : Type 0} {disk : DiskModel D} {old mid new : D} {P : Image → Type 0}
    → LeavesThrough disk old mid P → disk.moment mid ≤ disk.moment new
    → ((t : ℕ) (c : Image) → t ≤ disk.moment mid → disk.left_since new t c → disk.left_since mid t c ⊎ disk.may_leave new c) → LeavesNow disk new P → LeavesThrough disk old new P
through_crash so_far later nothing_else here = record {
  later = omega (arith, so_far.later, later);
  each = λ c left. ⊎_elim (so_far.each c) (here c) (nothing_else _ c so_far.later left);
  before = λ t c le left. ⊎_elim (so_far.before t c le) (λ now. inr (here c now)) (nothing_else t c (omega (arith, le, so_far.later)) left);
}

pub through_weaker : {D : Type 0} {disk : DiskModel D} {old new : D} {P : Image → Type 0} (Q : Image → Type 0)
    → LeavesThrough disk old new P → ((c : Image) → P c → Q c) → LeavesThrough disk old new Q
through_weaker Q run more = record {
  later = run.later;
  each = λ c left. more c (run.each c left);
  before = λ t c le left. ⊎_elim (λ was. inl was) (λ here. inr (more c here)) (run.before t c le left);
}

pub safe_out : {C : Type 0} (conversions : ConversionModel C) (job : Job C) (c : Image) → IsSafe conversions job c → OldOrComplete (target_of conversions job) c.out
safe_out conversions job c (inl (inl growing)) = growing.out
safe_out conversions job c (inl (inr ready)) = ready.out
safe_out conversions job c (inr ended) = inr ended.out

-- before the first run
pub none_recoverable : {C : Type 0} (conversions : ConversionModel C) (job : Job C) (c : Image) → job.reached ≡ 0 → c.checkpoint ≡ None → c.out ≡ job.before → IsRecoverable conversions job c
none_recoverable conversions job c unreached none out = inl (record { out = inl out; checkpoint = subst (λ (s : Option (List ℕ)). NoneOrConsistent conversions job s (contents_of c.part)) (sym none) unreached })

-- a run of a job that has ended begins anew
pub safe_recoverable : {C : Type 0} (conversions : ConversionModel C) (job : Job C) → job.reached ≡ 0 → (c : Image) → IsSafe conversions job c → IsRecoverable conversions job c
safe_recoverable conversions job unreached c (inl recoverable) = recoverable
safe_recoverable conversions job unreached c (inr ended) =
    inl (record { out = inr ended.out; checkpoint = subst (λ (s : Option (List ℕ)). NoneOrConsistent conversions job s (contents_of c.part)) (sym ended.checkpoint) unreached })
