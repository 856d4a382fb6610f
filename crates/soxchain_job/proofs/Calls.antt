-- What calls of a disk leave, one after another.
use Rattle.std.proofs.Common.{inl, inr, ⊎_elim, ℕ, ◌≤◌, refl, ◌∙◌, arith}
use Rattle.soxchain_job.specs.Disk.{DiskModel, Elapses, LeavesNow, LeavesOnly}
use Rattle.soxchain_job.specs.Image.{Image}

module _ {D : Type 0} (disk : DiskModel D) where
  -- since this moment there is no other
  abbrev pub OnlyNow : Type 0
  OnlyNow = (d : D) (c : Image) → disk.left_since d (disk.moment d) c → disk.may_leave d c

  -- this moment is one of those since an earlier one
  abbrev pub CountsNow : Type 0
  CountsNow = (d : D) (t : ℕ) (c : Image) → t ≤ disk.moment d → disk.may_leave d c → disk.left_since d t c

-- before the first call
pub started : {D : Type 0} (disk : DiskModel D) (old : D) (P : Image → Type 0) → ((c : Image) → disk.left_since old (disk.moment old) c → P c) → LeavesOnly disk old old P
started disk old P here = record { same_run = refl; later = omega arith; each = here; before = λ t c le left. inl left }

-- one call more, after which a crash leaves what has P
pub goes_on : {D : Type 0} {disk : DiskModel D} {old mid new : D} {P : Image → Type 0}
    → LeavesOnly disk old mid P → Elapses disk mid new → LeavesNow disk new P → LeavesOnly disk old new P
goes_on so_far time here = record {
  same_run = time.same_run ∙ so_far.same_run;
  later = omega (arith, so_far.later, time.later);
  each = λ c left. ⊎_elim (so_far.each c) (here c) (time.nothing_else _ c so_far.later left);
  before = λ t c le left. ⊎_elim (so_far.before t c le) (λ now. inr (here c now)) (time.nothing_else t c (omega (arith, le, so_far.later)) left);
}

-- several calls more
pub joined : {D : Type 0} {disk : DiskModel D} {old mid new : D} {P : Image → Type 0}
    → LeavesOnly disk old mid P → LeavesOnly disk mid new P → LeavesOnly disk old new P
joined so_far more = record {
  same_run = more.same_run ∙ so_far.same_run;
  later = omega (arith, so_far.later, more.later);
  each = λ c left. ⊎_elim (so_far.each c) (λ here. here) (more.before _ c so_far.later left);
  before = λ t c le left. ⊎_elim (so_far.before t c le) (λ here. inr here) (more.before t c (omega (arith, le, so_far.later)) left);
}

-- what has P has Q
pub weaker : {D : Type 0} {disk : DiskModel D} {old new : D} {P Q : Image → Type 0}
    → LeavesOnly disk old new P → ((c : Image) → P c → Q c) → LeavesOnly disk old new Q
weaker run more = record {
  same_run = run.same_run;
  later = run.later;
  each = λ c left. more c (run.each c left);
  before = λ t c le left. ⊎_elim (λ was. inl was) (λ here. inr (more c here)) (run.before t c le left);
}

-- what may be found now has P
pub now_of : {D : Type 0} (disk : DiskModel D) {old new : D} {P : Image → Type 0}
    → CountsNow disk → LeavesOnly disk old new P → LeavesNow disk new P
now_of disk counts run c now = run.each c (counts _ _ c run.later now)

-- one call
pub one_call : {D : Type 0} (disk : DiskModel D) {old new : D} (P : Image → Type 0)
    → OnlyNow disk → LeavesNow disk old P → Elapses disk old new → LeavesNow disk new P → LeavesOnly disk old new P
one_call disk P only safe time here = goes_on (started disk _ P (λ c left. safe c (only _ c left))) time here

-- a sync more
pub then_synced : {D : Type 0} (disk : DiskModel D) {old mid new : D} {P : Image → Type 0}
    → CountsNow disk → LeavesOnly disk old mid P → Elapses disk mid new → LeavesNow disk new (disk.may_leave mid) → LeavesOnly disk old new P
then_synced disk counts so_far time same = goes_on so_far time (λ c now. now_of disk counts so_far c (same c now))

-- no call
pub no_call : {D : Type 0} (disk : DiskModel D) {old : D} (P : Image → Type 0)
    → OnlyNow disk → LeavesNow disk old P → LeavesOnly disk old old P
no_call disk P only safe = started disk _ P (λ c left. safe c (only _ c left))
