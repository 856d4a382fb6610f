-- Consecutive numbers, counted.
use Rattle.std.proofs.Common.{◌≡◌, ℕ, zero, suc, ◌+◌, ◌<◌, ◌≤◌, Bool, true, false, cond, [], ◌∷◌, ◌++◌, refl, sym, ◌∙◌, ap, arith, zero-add, add-zero}
use Rattle.std.specs.Prelude.{count_by}
use Rattle.std.specs.List.{range_with_len}
use Rattle.std.proofs.lemmas.List.{map-id}
use Rattle.std.proofs.lemmas.List.Sums.{sum_by-append, sum_by-cons}
use mathlib.Core.Path.{ap₂}
use Rattle.std.proofs.lemmas.List.FromFn.{map-range_with_len_more}

pub range_more : (m : ℕ) → range_with_len 0 (m + 1) ≡ range_with_len 0 m ++ m ∷ []
range_more m = sym (map-id (range_with_len 0 (m + 1))) ∙ map-range_with_len_more (λ i. i) 0 m m (omega arith) ∙ ap (λ r. r ++ m ∷ []) (map-id (range_with_len 0 m))

-- one more number
pub kept_next : (p : ℕ → Bool) (n : ℕ) → count_by p (range_with_len 0 (n + 1)) ≡ count_by p (range_with_len 0 n) + cond (p n) 1 0
kept_next p n = ap (count_by p) (range_more n) ∙ sum_by-append (λ i. cond (p i) 1 0) (range_with_len 0 n) (n ∷ []) ∙ ap (λ k. count_by p (range_with_len 0 n) + k) (zero-add (cond (p n) 1 0))

-- ---- how many numbers from one on to another pass a test

pub range_split : (a m k : ℕ) → range_with_len a (m + k) ≡ range_with_len a m ++ range_with_len (a + m) k
range_split a zero k = ap₂ range_with_len (sym (add-zero a)) (zero-add k)
range_split a (suc m) k =
    ap (range_with_len a) (let e : suc m + k ≡ suc (m + k) = omega arith in e)
    ∙ ap (λ r. a ∷ r) (range_split (a + 1) m k ∙ ap (λ b. range_with_len (a + 1) m ++ range_with_len b k) (let e : (a + 1) + m ≡ a + suc m = omega arith in e))

pub count_same : (p q : ℕ → Bool) (a n : ℕ) → ((i : ℕ) → a ≤ i → i < a + n → p i ≡ q i) → count_by p (range_with_len a n) ≡ count_by q (range_with_len a n)
count_same p q a zero h = refl
count_same p q a (suc n) h =
    sum_by-cons (λ i. cond (p i) 1 0) a (range_with_len (a + 1) n)
    ∙ ap₂ ◌+◌ (ap {B = ℕ} (λ b. cond b 1 0) (h a (omega arith) (omega arith))) (count_same p q (a + 1) n (λ i low high. h i (omega arith) (omega arith)))
    ∙ sym (sum_by-cons (λ i. cond (q i) 1 0) a (range_with_len (a + 1) n))

pub count_const : (b : Bool) (a n : ℕ) → count_by (λ (i : ℕ). b) (range_with_len a n) ≡ cond b n 0
count_const b a zero = nothing b
  where
    nothing : (b : Bool) → ◌≡◌ {A = ℕ} 0 (cond b 0 0)
    nothing true = refl
    nothing false = refl
count_const b a (suc n) = sum_by-cons (λ i. cond b 1 0) a (range_with_len (a + 1) n) ∙ ap (λ k. cond b 1 0 + k) (count_const b (a + 1) n) ∙ more b
  where
    more : (b : Bool) → ◌≡◌ {A = ℕ} (cond b 1 0 + cond b n 0) (cond b (suc n) 0)
    more true = omega arith
    more false = omega arith
