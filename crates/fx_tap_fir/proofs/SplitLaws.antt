-- Sums of samples times the parts of coefficients.
use Rattle.std.proofs.Common.{◌≡◌, ℕ, suc, ◌+◌, ◌<◌, Bool, true, false, List, [], ◌∷◌, length, get_or, set, refl, sym, ap, ◌∙◌, arith, ℤ, pos, ◌+ℤ◌, ◌*ℤ◌, nat_eq}
use Rattle.std.proofs.lemmas.Bool.Decides.{nat_tests}
use Rattle.std.proofs.lemmas.Grind.{get_or-set_at}
use Rattle.std.proofs.lemmas.Int.{ints}
use Rattle.std.proofs.lemmas.List.{get_or-set_other}
use Rattle.fx_tap_fir.specs.Split.{AddUpTo, joined_split}
use Rattle.fx_tap_sums.specs.Products.{sum_of_products}
use Rattle.fx_tap_sums.proofs.Numbers.{mul-add, mul_assoc}
use Rattle.std.proofs.Math.IntN.{*ℤ_comm}

-- one product more, in parts
one-more : (by x h l c b a s : ℤ) → c ≡ (h *ℤ by) +ℤ l → (b *ℤ by) +ℤ a ≡ s → (((x *ℤ h) +ℤ b) *ℤ by) +ℤ ((x *ℤ l) +ℤ a) ≡ (x *ℤ c) +ℤ s
one-more by x h l c b a s first others =
    let apart : ((x *ℤ h) +ℤ b) *ℤ by ≡ (by *ℤ (x *ℤ h)) +ℤ (by *ℤ b) = *ℤ_comm ((x *ℤ h) +ℤ b) by ∙ mul-add by (x *ℤ h) b in
    let moved : by *ℤ (x *ℤ h) ≡ x *ℤ (h *ℤ by) = *ℤ_comm by (x *ℤ h) ∙ sym (mul_assoc x h by) in
    let back : by *ℤ b ≡ b *ℤ by = *ℤ_comm by b in
    let whole : x *ℤ c ≡ (x *ℤ (h *ℤ by)) +ℤ (x *ℤ l) = ap (λ z. x *ℤ z) first ∙ mul-add x (h *ℤ by) l in
    sums (((x *ℤ h) +ℤ b) *ℤ by) (by *ℤ (x *ℤ h)) (by *ℤ b) (x *ℤ (h *ℤ by)) (b *ℤ by) (x *ℤ c) (x *ℤ l) a s apart moved back whole others
  where
    sums : (p q r t u v w a s : ℤ) → p ≡ q +ℤ r → q ≡ t → r ≡ u → v ≡ t +ℤ w → u +ℤ a ≡ s → p +ℤ (w +ℤ a) ≡ v +ℤ s
    sums p q r t u v w a s e1 e2 e3 e4 e5 = omega (arith, ints)

none-joined : (by : ℤ) → (pos 0 *ℤ by) +ℤ pos 0 ≡ pos 0
none-joined by = omega (arith, ints)

parts-sums : (by : ℤ) (xs hs ls cs : List ℤ) → length hs ≡ length cs → length ls ≡ length cs → ((k : ℕ) → k < length cs → get_or cs k (pos 0) ≡ (get_or hs k (pos 0) *ℤ by) +ℤ get_or ls k (pos 0)) → (sum_of_products xs hs *ℤ by) +ℤ sum_of_products xs ls ≡ sum_of_products xs cs
parts-sums by [] hs ls cs high low are = none-joined by
parts-sums by (x ∷ xs) [] [] [] high low are = none-joined by
parts-sums by (x ∷ xs) [] (l ∷ ls) [] high low are = absurd (omega (arith, low))
parts-sums by (x ∷ xs) (h ∷ hs) ls [] high low are = absurd (omega (arith, high))
parts-sums by (x ∷ xs) [] ls (c ∷ cs) high low are = absurd (omega (arith, high))
parts-sums by (x ∷ xs) (h ∷ hs) [] (c ∷ cs) high low are = absurd (omega (arith, low))
parts-sums by (x ∷ xs) (h ∷ hs) (l ∷ ls) (c ∷ cs) high low are =
    one-more by x h l c (sum_of_products xs hs) (sum_of_products xs ls) (sum_of_products xs cs) (are 0 (omega arith)) (parts-sums by xs hs ls cs (omega (arith, high)) (omega (arith, low)) (λ k lt. are (suc k) (omega (arith, lt))))

pub parts-add : (cs hs ls : List ℤ) → length hs ≡ length cs → length ls ≡ length cs → ((k : ℕ) → k < length cs → get_or cs k (pos 0) ≡ joined_split (get_or hs k (pos 0)) (get_or ls k (pos 0))) → AddUpTo cs (record { high = hs; low = ls })
parts-add cs hs ls high low are = record {
  low_count = low;
  high_count = high;
  sums = λ xs. parts-sums (pos 1048576) xs hs ls cs high low are;
}

split-by : (cs hs ls : List ℤ) (p k : ℕ) (h l : ℤ) (t : Bool) → nat_eq k p ≡ t → p < length hs → p < length ls → get_or cs p (pos 0) ≡ joined_split h l
    → ((j : ℕ) → j < p → get_or cs j (pos 0) ≡ joined_split (get_or hs j (pos 0)) (get_or ls j (pos 0))) → k < p + 1 → get_or cs k (pos 0) ≡ joined_split (get_or (set hs p h) k (pos 0)) (get_or (set ls p l) k (pos 0))
split-by cs hs ls p k h l true t high low now done less =
    let same : k ≡ p = grind (arith, nat_tests) in
    let above : get_or (set hs p h) k (pos 0) ≡ h = get_or-set_at hs p k h (pos 0) same high in
    let below : get_or (set ls p l) k (pos 0) ≡ l = get_or-set_at ls p k l (pos 0) same low in
    rw (above, below) (ap (λ n. get_or cs n (pos 0)) same ∙ now)
split-by cs hs ls p k h l false t high low now done less =
    let other : k ≡ p → ⊥ = grind (arith, nat_tests) in
    let before : k < p = grind (arith, nat_tests) in
    let above : get_or (set hs p h) k (pos 0) ≡ get_or hs k (pos 0) = get_or-set_other hs p k h (pos 0) other in
    let below : get_or (set ls p l) k (pos 0) ≡ get_or ls k (pos 0) = get_or-set_other ls p k l (pos 0) other in
    rw (above, below) (done k before)

-- the parts of one more coefficient in their places
pub split-more : (cs hs ls : List ℤ) (p : ℕ) (h l : ℤ) → p < length hs → p < length ls → get_or cs p (pos 0) ≡ joined_split h l
    → ((j : ℕ) → j < p → get_or cs j (pos 0) ≡ joined_split (get_or hs j (pos 0)) (get_or ls j (pos 0))) → (k : ℕ) → k < p + 1 → get_or cs k (pos 0) ≡ joined_split (get_or (set hs p h) k (pos 0)) (get_or (set ls p l) k (pos 0))
split-more cs hs ls p h l high low now done k less = split-by cs hs ls p k h l (nat_eq k p) refl high low now done less
