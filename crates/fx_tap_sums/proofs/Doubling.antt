-- A table of roots that is made by doubling.
use Rattle.std.proofs.Common.{◌≡◌, ◌+◌, ◌-◌, ◌*◌, ◌^◌, ◌<◌, ◌≤◌, ◌∙◌, ap, sym, refl, ℕ, zero, suc, ℤ, pos, neg_ℤ, ◌*ℤ◌, List, [], ◌∷◌, ◌++◌, length, get_or, arith, inl, inr}
use Rattle.std.proofs.Math.Nat.{pow-suc}
use Rattle.std.proofs.lemmas.Bool.{cases_lt}
use Rattle.std.proofs.lemmas.List.{length-append, get_or_append_left, get_or_at}
use Rattle.fx_tap_sums.specs.Residues.{Same}
use Rattle.fx_tap_sums.specs.Transform.{AreSteps, root_at}
use Rattle.fx_tap_sums.proofs.Numbers.{mul_assoc, mul_swap, mul-neg}
use Rattle.fx_tap_sums.proofs.Residues.{same_refl, same_is, same_on, same_sym, same_mul, same_times, same_negated}

-- ---- products of products

crossed : (u b s v : ℤ) → (u *ℤ b) *ℤ (s *ℤ v) ≡ (u *ℤ s) *ℤ (b *ℤ v)
crossed u b s v = sym (mul_assoc u b (s *ℤ v)) ∙ ap (λ z. u *ℤ z) (mul_swap b s v) ∙ mul_assoc u s (b *ℤ v)

same_products : (p u b s v y x k l : ℤ) → Same p y (u *ℤ b) → Same p x (s *ℤ v) → Same p (u *ℤ s) k → Same p (b *ℤ v) l → Same p (y *ℤ x) (k *ℤ l)
same_products p u b s v y x k l y_is x_is first second =
    same_on p (y *ℤ x) ((u *ℤ b) *ℤ x) (k *ℤ l) (same_times p x y (u *ℤ b) y_is)
    (same_on p ((u *ℤ b) *ℤ x) ((u *ℤ b) *ℤ (s *ℤ v)) (k *ℤ l) (same_mul p (u *ℤ b) x (s *ℤ v) x_is)
    (same_on p ((u *ℤ b) *ℤ (s *ℤ v)) ((u *ℤ s) *ℤ (b *ℤ v)) (k *ℤ l) (same_is p _ _ (crossed u b s v))
    (same_on p ((u *ℤ s) *ℤ (b *ℤ v)) (k *ℤ (b *ℤ v)) (k *ℤ l) (same_times p (b *ℤ v) (u *ℤ s) k first) (same_mul p k (b *ℤ v) l second))))

-- ---- the front of a table

-- what is true of the first places of a table, as far as they are filled
pub record IsFront (p : ℕ) (roots inverses : List ℕ) : Type 0 where
  pub beside : length inverses ≡ length roots
  pub some : 0 < length roots
  pub first : get_or roots 0 0 ≡ 1
  pub even : (j : ℕ) → 2 * j < length roots → Same (pos p) (root_at roots (2 * j) *ℤ root_at roots (2 * j)) (root_at roots j)
  pub odd : (j : ℕ) → 2 * j + 1 < length roots → Same (pos p) (root_at roots (2 * j + 1) *ℤ root_at roots (2 * j + 1)) (neg_ℤ (root_at roots j))
  pub inverse : (j : ℕ) → j < length roots → Same (pos p) (root_at inverses j *ℤ root_at roots j) (pos 1)

-- the n places from m on are the first ones times a step
abbrev pub IsStep : ℕ → ℕ → ℕ → ℕ → List ℕ → Type 0
IsStep p m step n roots = (i : ℕ) → i < n → Same (pos p) (root_at roots (m + i)) (pos step *ℤ root_at roots i)

old : (xs : List ℕ) (x i : ℕ) → i < length xs → get_or (xs ++ x ∷ []) i 0 ≡ get_or xs i 0
old xs x i lt = get_or_append_left xs (x ∷ []) 0 i lt

new : (xs : List ℕ) (x i : ℕ) → length xs ≡ i → get_or (xs ++ x ∷ []) i 0 ≡ x
new xs x i here = get_or_at xs x [] 0 i here

pub step_kept : (p m step n : ℕ) (roots : List ℕ) (x : ℕ) → m + n ≤ length roots → n ≤ length roots → IsStep p m step n roots → IsStep p m step n (roots ++ x ∷ [])
step_kept p m step n roots x bound less is i lt = rw (old roots x (m + i) (omega arith), old roots x i (omega arith)) (is i lt)

pub step_more : (p m step n : ℕ) (roots : List ℕ) (x : ℕ) → length roots ≡ m + n → n < m → IsStep p m step n roots → Same (pos p) (pos x) (pos step *ℤ root_at roots n) → IsStep p m step (n + 1) (roots ++ x ∷ [])
step_more p m step n roots x long less is here i lt = elim (cases_lt i n) [
  | inl below ↦ rw (old roots x (m + i) (omega arith), old roots x i (omega arith)) (is i below)
  | inr above ↦
      let place : n ≡ i = omega arith in
      let at : length roots ≡ m + i = omega arith in
      rw (new roots x (m + i) at, old roots x i (omega arith)) (rw place at here)
]

pub pushed : (p : ℕ) (roots inverses : List ℕ) (half m place step last back x y : ℕ) → IsFront p roots inverses → half ≡ 2 * m → length roots ≡ half + place → place < half → IsStep p m last m roots →
    Same (pos p) (pos step *ℤ pos step) (pos last) → Same (pos p) (pos back *ℤ pos step) (pos 1) →
    Same (pos p) (pos x) (pos step *ℤ root_at roots place) → Same (pos p) (pos y) (pos back *ℤ root_at inverses place) →
    IsFront p (roots ++ x ∷ []) (inverses ++ y ∷ [])
pushed q roots inverses half m place step last back x y front even_half long less is square unit x_is y_is =
    let p : ℤ = pos q in
    let beside = front.beside in
    let some = front.some in
    let r_long = length-append roots (x ∷ []) in
    let i_long = length-append inverses (y ∷ []) in
    let s : ℤ = pos step in
    record {
      beside = omega arith;
      some = omega arith;
      first = rw (old roots x 0 (omega arith)) front.first;
      even = λ j lt. elim (cases_lt (2 * j) (length roots)) [
        | inl below ↦ rw (old roots x (2 * j) below, old roots x j (omega arith)) (front.even j below)
        | inr above ↦
            let here : length roots ≡ 2 * j = omega arith in
            let i : ℕ = j - m in
            let at : place ≡ 2 * i = omega arith in
            let times : Same p (pos x) (s *ℤ root_at roots (2 * i)) = rw at at x_is in
            let middle : m + i ≡ j = omega arith in
            let step_is : Same p (root_at roots j) (pos last *ℤ root_at roots i) = rw middle at (is i (omega arith)) in
            rw (new roots x (2 * j) here, old roots x j (omega arith))
            (same_on p (pos x *ℤ pos x) (pos last *ℤ root_at roots i) (root_at roots j)
            (same_products p s (root_at roots (2 * i)) s (root_at roots (2 * i)) (pos x) (pos x) (pos last) (root_at roots i) times times square (front.even i (omega arith)))
            (same_sym p (root_at roots j) (pos last *ℤ root_at roots i) step_is))
      ];
      odd = λ j lt. elim (cases_lt (2 * j + 1) (length roots)) [
        | inl below ↦ rw (old roots x (2 * j + 1) below, old roots x j (omega arith)) (front.odd j below)
        | inr above ↦
            let here : length roots ≡ 2 * j + 1 = omega arith in
            let i : ℕ = j - m in
            let at : place ≡ 2 * i + 1 = omega arith in
            let times : Same p (pos x) (s *ℤ root_at roots (2 * i + 1)) = rw at at x_is in
            let middle : m + i ≡ j = omega arith in
            let step_is : Same p (root_at roots j) (pos last *ℤ root_at roots i) = rw middle at (is i (omega arith)) in
            let turned = mul-neg (pos last) (root_at roots i) in
            let squared : Same p (pos x *ℤ pos x) (neg_ℤ (pos last *ℤ root_at roots i)) = rw turned at (same_products p s (root_at roots (2 * i + 1)) s (root_at roots (2 * i + 1)) (pos x) (pos x) (pos last) (neg_ℤ (root_at roots i)) times times square (front.odd i (omega arith))) in
            rw (new roots x (2 * j + 1) here, old roots x j (omega arith))
            (same_on p (pos x *ℤ pos x) (neg_ℤ (pos last *ℤ root_at roots i)) (neg_ℤ (root_at roots j)) squared
            (same_negated p (pos last *ℤ root_at roots i) (root_at roots j) (same_sym p (root_at roots j) (pos last *ℤ root_at roots i) step_is)))
      ];
      inverse = λ j lt. elim (cases_lt j (length roots)) [
        | inl below ↦ rw (old roots x j below, old inverses y j (omega arith)) (front.inverse j below)
        | inr above ↦
            let here : length roots ≡ j = omega arith in
            let there : length inverses ≡ j = omega arith in
            rw (new roots x j here, new inverses y j there)
            (same_products p (pos back) (root_at inverses place) s (root_at roots place) (pos y) (pos x) (pos 1) (pos 1) y_is x_is unit (front.inverse place (omega arith)))
      ];
    }

-- the first two places
pub two_first : (p : ℕ) (steps back : List ℕ) (u v : ℕ) → AreSteps p steps back → u ≡ get_or steps 0 0 → v ≡ get_or back 0 0 → IsFront p (1 ∷ u ∷ []) (1 ∷ v ∷ [])
two_first p steps back u v are first beside = record {
  beside = refl;
  some = omega arith;
  first = refl;
  even = even;
  odd = odd;
  inverse = inverse;
}
  where
    even : (j : ℕ) → 2 * j < 2 → Same (pos p) (root_at (1 ∷ u ∷ []) (2 * j) *ℤ root_at (1 ∷ u ∷ []) (2 * j)) (root_at (1 ∷ u ∷ []) j)
    even zero lt = same_refl (pos p) (pos 1)
    even (suc j) lt = absurd (omega arith)

    odd : (j : ℕ) → 2 * j + 1 < 2 → Same (pos p) (root_at (1 ∷ u ∷ []) (2 * j + 1) *ℤ root_at (1 ∷ u ∷ []) (2 * j + 1)) (neg_ℤ (root_at (1 ∷ u ∷ []) j))
    odd zero lt = rw first are.first
    odd (suc j) lt = absurd (omega arith)

    inverse : (j : ℕ) → j < 2 → Same (pos p) (root_at (1 ∷ v ∷ []) j *ℤ root_at (1 ∷ u ∷ []) j) (pos 1)
    inverse zero lt = same_refl (pos p) (pos 1)
    inverse (suc zero) lt = rw (first, beside) (are.inverse 0 (omega arith))
    inverse (suc (suc j)) lt = absurd (omega arith)

pub two_step : (p : ℕ) (steps : List ℕ) (u : ℕ) → u ≡ get_or steps 0 0 → IsStep p 1 (get_or steps 0 0) 1 (1 ∷ u ∷ [])
two_step p steps u is zero lt =
    let once : pos (get_or steps 0 0) *ℤ pos 1 ≡ pos (get_or steps 0 0) = ap pos (omega arith) in
    rw (is, once) (same_refl (pos p) (pos (get_or steps 0 0)))
two_step p steps u is (suc i) lt = absurd (omega arith)

pub power_more : (k : ℕ) → 2 ^ (k + 1) ≡ 2 * 2 ^ k
power_more k =
    let more : k + 1 ≡ suc k = omega arith in
    let double = pow-suc 2 k in
    rw more (omega arith)
