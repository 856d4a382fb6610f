-- How a part of a head is read, against what the bytes to come encode.
use Rattle.std.specs.Prelude.{◌≡◌, ◌≢◌, ℕ, ◌<◌, ◌≤◌, List, length, take, drop, Option, Some, Result, Ok, Err}
use Rattle.fx_sound.specs.Source.{Held, to_come, HoldsFront, Takes, Tells}
use Rattle.fx_sound.specs.Known.{IfKnown}
use Rattle.fx_sound.specs.declared.head.HeadFault.{HeadFault}
use Rattle.fx_sound.specs.declared.head.HeadFault.TheVariants.{ReadFailed, Truncated}

-- the bytes to come encode x, and its n bytes are removed from them
abbrev pub Reads : {X R : Type 0} → (R → Option (List ℕ)) → (List ℕ → Result X HeadFault) → Held R → Held R → ℕ → X → Type 0
Reads rest spelt old new n x = IfKnown (to_come rest old) (λ bytes.
    (spelt bytes ≡ Ok x) × (n ≤ length bytes) × (to_come rest new ≡ Some (drop n bytes)))

-- the bytes to come have this fault
abbrev pub Refuses : {X R : Type 0} → (R → Option (List ℕ)) → (List ℕ → Result X HeadFault) → Held R → HeadFault → Type 0
Refuses rest spelt old e = e ≢ ReadFailed → IfKnown (to_come rest old) (λ bytes. spelt bytes ≡ Err e)

-- `came` bytes were there or came before a read failed, and their only fault is that they are too few
pub record CutOff {X R : Type 0} (rest : R → Option (List ℕ)) (delivered : R → ℕ) (spelt : List ℕ → Result X HeadFault) (old new : Held R) : Type 0 where
  pub came : ℕ
  pub tells : Tells delivered old new.reader came
  pub undecided : IfKnown (to_come rest old) (λ bytes. spelt (take came bytes) ≡ Err Truncated)

-- a read failed
abbrev pub Fails : {X R : Type 0} → (R → Option (List ℕ)) → (R → ℕ) → (List ℕ → Result X HeadFault) → Held R → Held R → HeadFault → Type 0
Fails rest delivered spelt old new e = e ≡ ReadFailed → CutOff rest delivered spelt old new

-- After the fault e of a head the first `taken` of the bytes to come were removed, at most `maximum`. Fewer decide nothing, and
-- what is held comes after them. Unless a read failed, they have the fault by themselves, and all others are still to come.
-- Where they are too few for a head they are all that there were.
pub record StandsAfter {X R : Type 0} (rest : R → Option (List ℕ)) (delivered : R → ℕ) (spelt : List ℕ → Result X HeadFault) (maximum : ℕ) (old new : Held R) (e : HeadFault) (bytes : List ℕ) : Type 0 where
  pub taken : ℕ
  pub near : taken ≤ maximum
  pub tells : Takes delivered old new taken
  pub undecided : (k : ℕ) → k < taken → spelt (take k bytes) ≡ Err Truncated
  pub front : HoldsFront new (drop taken bytes)
  pub decided : e ≢ ReadFailed → spelt (take taken bytes) ≡ Err e
  pub there : e ≢ ReadFailed → taken ≤ length bytes
  pub others : e ≢ ReadFailed → to_come rest new ≡ Some (drop taken bytes)
  pub all : e ≡ Truncated → taken ≡ length bytes

-- the same, where the bytes to come are known
abbrev pub StandsIfKnown : {X R : Type 0} → (R → Option (List ℕ)) → (R → ℕ) → (List ℕ → Result X HeadFault) → ℕ → Held R → Held R → HeadFault → Type 0
StandsIfKnown rest delivered spelt maximum old new e = IfKnown (to_come rest old) (StandsAfter rest delivered spelt maximum old new e)
