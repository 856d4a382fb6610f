-- What is said of a fault that a call passes on, and of a result that is answered as it is.
use Rattle.std.proofs.Common.{◌≡◌, sym, refl, subst, Result, Ok, Err, IfOk, IfErr}
use Rattle.std.specs.Result.{IsErrAnd}

-- what is said of a fault is said of one that is passed on
pub IfErr-passed : {T E : Type 0} (r : Result T E) (P : E → Type 0) (e : E) → IsErrAnd r (λ d. d ≡ e) → P e → IfErr r P
IfErr-passed (Ok x) P e h p = tt
IfErr-passed (Err d) P e h p = subst P (sym h) p

-- what is to be shown of a value, and of a fault
pub IfOk-at : {T E : Type 0} (r : Result T E) (P : T → Type 0) → ((x : T) → r ≡ Ok x → P x) → IfOk r P
IfOk-at (Ok x) P h = h x refl
IfOk-at (Err d) P h = tt

pub IfErr-at : {T E : Type 0} (r : Result T E) (P : E → Type 0) → ((d : E) → r ≡ Err d → P d) → IfErr r P
IfErr-at (Ok x) P h = tt
IfErr-at (Err d) P h = h d refl

-- what two facts of a value together say
pub IfOk-both : {T E : Type 0} (r : Result T E) (P Q R : T → Type 0) → IfOk r P → IfOk r Q → ((x : T) → P x → Q x → R x) → IfOk r R
IfOk-both (Ok x) P Q R p q h = h x p q
IfOk-both (Err d) P Q R p q h = tt
