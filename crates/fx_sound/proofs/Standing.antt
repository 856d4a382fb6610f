-- Where a source stands after a fault of a head.
use Rattle.std.proofs.Common.{◌≡◌, ℕ, ◌+◌, ◌-◌, ◌<◌, ◌≤◌, inl, inr, List, [], length, take, drop, refl, sym, ap, ◌∙◌, arith, Option, Some, Result, Err}
use Rattle.std.proofs.lemmas.Bool.{cases_lt}
use Rattle.std.proofs.lemmas.List.{length-drop, drop-drop}
use Rattle.fx_sound.specs.declared.head.HeadFault.{HeadFault}
use Rattle.fx_sound.specs.declared.head.HeadFault.TheVariants.{ReadFailed, Truncated}
use Rattle.fx_sound.specs.Reads.{StandsAfter}
use Rattle.fx_sound.specs.Source.{Held, HoldsFront, Takes, Tells, to_come}
use Rattle.fx_sound.proofs.Held.{Takes-both, to_come-held}

module _ {R X : Type 0} (rest : R → Option (List ℕ)) (delivered : R → ℕ) (spelt : List ℕ → Result X HeadFault) (maximum : ℕ) (old new : Held R) (bytes : List ℕ) where
  -- what was taken has the fault
  pub stands-taken : (e : HeadFault) (n : ℕ) → n ≤ maximum → Takes delivered old new n → ((k : ℕ) → k < n → spelt (take k bytes) ≡ Err Truncated)
      → n ≤ length bytes → to_come rest new ≡ Some (drop n bytes) → spelt (take n bytes) ≡ Err e → (e ≡ Truncated → n ≡ length bytes) → StandsAfter rest delivered spelt maximum old new e bytes
  stands-taken e n near tells undecided there others decided all = record {
    taken = n;
    near = near;
    tells = tells;
    undecided = undecided;
    front = to_come-held rest new (drop n bytes) others;
    decided = λ _. decided;
    there = λ _. there;
    others = λ _. others;
    all = all;
  }

  -- a read failed, and what is held comes after n bytes that were taken
  pub stands-failed : (n : ℕ) → n ≤ maximum → Takes delivered old new n → ((k : ℕ) → k < n → spelt (take k bytes) ≡ Err Truncated)
      → HoldsFront new (drop n bytes) → StandsAfter rest delivered spelt maximum old new ReadFailed bytes
  stands-failed n near tells undecided front = record {
    taken = n;
    near = near;
    tells = tells;
    undecided = undecided;
    front = front;
    decided = λ other. absurd (other refl);
    there = λ other. absurd (other refl);
    others = λ other. absurd (other refl);
    all = λ cut. absurd (cc);
  }

  -- a read failed before anything was taken
  pub stands-unread : Takes delivered old new 0 → HoldsFront new bytes → StandsAfter rest delivered spelt maximum old new ReadFailed bytes
  stands-unread tells front = stands-failed 0 (omega arith) tells (λ k lt. absurd (omega (arith, lt))) front

  -- a read failed, and no byte is held
  pub stands-empty : (n : ℕ) → n ≤ maximum → Tells delivered old new.reader n → ((k : ℕ) → k < n → spelt (take k bytes) ≡ Err Truncated)
      → new.bytes ≡ [] → StandsAfter rest delivered spelt maximum old new ReadFailed bytes
  stands-empty n near tells undecided none =
      let no : length new.bytes ≡ 0 = ap length none in
      let takes : Takes delivered old new n = record { enough = omega (arith, tells.enough, no); counted = λ below. let came = tells.counted below in omega (arith, no, came) } in
      stands-failed n near takes undecided (none ∙ sym (ap (λ held. take (length held) (drop n bytes)) none))

-- a part of a head has a fault, after n bytes that were taken
pub stands-rest : {R X Y : Type 0} (rest : R → Option (List ℕ)) (delivered : R → ℕ) (part : List ℕ → Result Y HeadFault) (whole : List ℕ → Result X HeadFault) (m maximum : ℕ) (old mid new : Held R) (bytes : List ℕ) (n : ℕ) (e : HeadFault)
    → n ≤ length bytes → n + m ≤ maximum → Takes delivered old mid n
    → ((k : ℕ) → k < n → whole (take k bytes) ≡ Err Truncated)
    → ((k : ℕ) (d : HeadFault) → part (take k (drop n bytes)) ≡ Err d → whole (take (n + k) bytes) ≡ Err d)
    → StandsAfter rest delivered part m mid new e (drop n bytes) → StandsAfter rest delivered whole maximum old new e bytes
stands-rest rest delivered part whole m maximum old mid new bytes n e there near takes early fault s = record {
  taken = n + s.taken;
  near = omega (arith, near, s.near);
  tells = Takes-both delivered old mid new n s.taken (n + s.taken) refl takes s.tells;
  undecided = λ k lt. elim (cases_lt k n) [
    | inl h ↦ early k h
    | inr h ↦
        let place : n + (k - n) ≡ k = omega (arith, h) in
        ap (λ i. whole (take i bytes)) (sym place) ∙ fault (k - n) Truncated (s.undecided (k - n) (omega (arith, h, lt)))
  ];
  front = s.front ∙ ap (take (length new.bytes)) (drop-drop s.taken n bytes);
  decided = λ other. fault s.taken e (s.decided other);
  there = λ other. let more = s.there other in omega (arith, there, more, length-drop n bytes);
  others = λ other. s.others other ∙ ap Some (drop-drop s.taken n bytes);
  all = λ cut. let more = s.all cut in omega (arith, there, more, length-drop n bytes);
}

-- the faults of a part are those of the whole
pub stands-as : {R X Y : Type 0} (rest : R → Option (List ℕ)) (delivered : R → ℕ) (part : List ℕ → Result Y HeadFault) (whole : List ℕ → Result X HeadFault) (m maximum : ℕ) (old new : Held R) (bytes : List ℕ) (e : HeadFault)
    → m ≤ maximum → ((k : ℕ) (d : HeadFault) → part (take k bytes) ≡ Err d → whole (take k bytes) ≡ Err d)
    → StandsAfter rest delivered part m old new e bytes → StandsAfter rest delivered whole maximum old new e bytes
stands-as rest delivered part whole m maximum old new bytes e near fault s = record {
  taken = s.taken;
  near = omega (arith, near, s.near);
  tells = s.tells;
  undecided = λ k lt. fault k Truncated (s.undecided k lt);
  front = s.front;
  decided = λ other. fault s.taken e (s.decided other);
  there = s.there;
  others = s.others;
  all = s.all;
}
