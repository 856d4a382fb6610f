use Rattle.std.proofs.Common.{ℕ, zero, suc, ◌+◌, ◌<◌, ◌≡◌, List, ◌∷◌, ◌++◌, length, take, refl, ap, arith, replicate, add-zero, zero-add}
use Rattle.fx_frame_base.specs.Lists.{tabulate}

pub tabulate-append : {X : Type 0} (f : ℕ → X) (from m n : ℕ) → tabulate f from (m + n) ≡ tabulate f from m ++ tabulate f (from + m) n
tabulate-append f from zero n = rw (zero-add, add-zero) refl
tabulate-append f from (suc m) n =
    let e : suc m + n ≡ suc (m + n) = omega arith in
    let d : from + suc m ≡ suc from + m = omega arith in
    rw (e, d) (ap (λ l. f from ∷ l) (tabulate-append f (suc from) m n))

-- two that agree, each from its own first number on
pub tabulate-same : {X : Type 0} (f g : ℕ → X) (from to count : ℕ) → ((k : ℕ) → k < count → f (from + k) ≡ g (to + k)) → tabulate f from count ≡ tabulate g to count
tabulate-same f g from to zero h = refl
tabulate-same f g from to (suc count) h =
    let here : f from ≡ g to = simp add-zero at (h 0 (omega arith)) in
    let more : (k : ℕ) → k < count → f (suc from + k) ≡ g (suc to + k) = λ k l.
    let a : suc from + k ≡ from + suc k = omega arith in
    let b : suc to + k ≡ to + suc k = omega arith in
    rw (a, b) (h (suc k) (omega arith)) in
    rw here (ap (λ l. g to ∷ l) (tabulate-same f g (suc from) (suc to) count more))

pub tabulate-replicate : {X : Type 0} (f : ℕ → X) (c : X) (from count : ℕ) → ((k : ℕ) → k < count → f (from + k) ≡ c) → tabulate f from count ≡ replicate count c
tabulate-replicate f c from zero h = refl
tabulate-replicate f c from (suc count) h =
    let here : f from ≡ c = simp add-zero at (h 0 (omega arith)) in
    let more : (k : ℕ) → k < count → f (suc from + k) ≡ c = λ k l.
    let a : suc from + k ≡ from + suc k = omega arith in
    rw a (h (suc k) (omega arith)) in
    rw here (ap (λ l. c ∷ l) (tabulate-replicate f c (suc from) count more))

pub length-tabulate : {X : Type 0} (f : ℕ → X) (from count : ℕ) → length (tabulate f from count) ≡ count
length-tabulate f from zero = refl
length-tabulate f from (suc count) = ap suc (length-tabulate f (suc from) count)

-- the first of them
pub take-tabulate : {X : Type 0} (f : ℕ → X) (more : List X) (n count : ℕ) → take count (tabulate f n count ++ more) ≡ tabulate f n count
take-tabulate f more n zero = refl
take-tabulate f more n (suc count) = ap (λ l. f n ∷ l) (take-tabulate f more (suc n) count)
