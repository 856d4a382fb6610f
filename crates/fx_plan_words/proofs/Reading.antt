-- What is read from words, or the first of their faults.
use Rattle.std.proofs.Common.{◌≡◌, List, [], Result, Ok, Err, IfOk}
use Rattle.fx_plan_words.specs.declared.fault.Mark.{Mark}
use Rattle.fx_plan_words.specs.declared.fault.WordsRefusal.{WordsRefusal}
use Rattle.fx_plan_words.specs.declared.fault.WordsRefusal.TheVariants as refusals
use Rattle.fx_plan_words.specs.Faults.{Finds, ReadsWords}

-- what holds of the value that words without a fault have holds of the value that is read
pub IfOk-reads : {X Y : Type 0} (view : X → Y) (P : Y → Type 0) (r : Result X WordsRefusal) (faults : List Mark) (value : Y) → ReadsWords view r faults value → (faults ≡ [] → P value) → IfOk r (λ x. P (view x))
IfOk-reads view P (Ok x) faults value h holds = rw h.1 (holds h.0)
IfOk-reads view P (Err e) faults value h holds = tt

-- the same, of a call that takes no memory
pub IfOk-finds : {X : Type 0} (P : X → Type 0) (r : Result X Mark) (faults : List Mark) (value : X) → Finds r faults value → (faults ≡ [] → P value) → IfOk r P
IfOk-finds P (Ok x) faults value h holds = rw h.1 (holds h.0)
IfOk-finds P (Err e) faults value h holds = tt
