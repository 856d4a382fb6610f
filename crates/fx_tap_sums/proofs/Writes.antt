-- Lists of remainders that are written place by place.
use Rattle.std.proofs.Common.{◌≡◌, ◌≢◌, ◌+◌, ◌-◌, ◌<◌, ◌≤◌, ◌∙◌, refl, ℕ, zero, suc, ℤ, pos, List, [], ◌∷◌, ◌++◌, length, get_or, set, take, drop, arith, below_more, get_or-set_other, get_or-set_same, ◌^◌, unsigned_abs, to_z, of_z, w64, inl, inr}
use Rattle.std.proofs.lemmas.Bool.{cases_lt}
use Rattle.std.proofs.lemmas.List.{length-append, length-drop, length-take-le, get_or-drop, get_or-take, get_or_append_left, get_or-append_right, get_or_at}
use Rattle.fx_tap_sums.specs.Residues.{Same, AreFour, AreRemainders, AreSame}
use Rattle.fx_tap_sums.proofs.SmallSums.{held-in-64}

-- one place more
pub each_more : {X : Type 0} (d : X) (P : ℕ → X → Type 0) (xs : List X) (i : ℕ) (v : X) → i < length xs → P i v → ((k : ℕ) → k < i → P k (get_or xs k d)) →
    (k : ℕ) → k < i + 1 → P k (get_or (set xs i v) k d)
each_more d P xs i v lt here before = below_more _ _ (λ k h. let ne : k ≢ i = omega arith in rw get_or-set_other (before k h)) (rw get_or-set_same here)

-- the places after it
pub each_left : {X : Type 0} (d : X) (xs ys : List X) (i : ℕ) (v : X) → ((k : ℕ) → i ≤ k → get_or xs k d ≡ get_or ys k d) → (k : ℕ) → i + 1 ≤ k → get_or (set xs i v) k d ≡ get_or ys k d
each_left d xs ys i v left k h = let ne : k ≢ i = omega arith in rw get_or-set_other (left k (omega arith))

-- four places more
pub four_more : (P : ℕ → ℕ → Type 0) (at : ℕ) (xs ys lanes : List ℕ) → ((i : ℕ) → i < at → get_or ys i 0 ≡ get_or xs i 0) → ((k : ℕ) → k < 4 → get_or ys (at + k) 0 ≡ get_or lanes k 0)
    → ((k : ℕ) → k < 4 → P (at + k) (get_or lanes k 0)) → ((i : ℕ) → i < at → P i (get_or xs i 0)) → (i : ℕ) → i < at + 4 → P i (get_or ys i 0)
four_more P at xs ys lanes kept put here before i lt = elim (cases_lt i at) [
  | inl below ↦ rw (kept i below) (before i below)
  | inr above ↦
      let place : at + (i - at) ≡ i = omega arith in
      let k : i - at < 4 = omega arith in
      rw place at (rw (← put (i - at) k) at (here (i - at) k))
]

-- the places after them
pub four_left : (at : ℕ) (xs ys zs : List ℕ) → ((i : ℕ) → at + 4 ≤ i → get_or ys i 0 ≡ get_or xs i 0) → ((i : ℕ) → at ≤ i → get_or xs i 0 ≡ get_or zs i 0) → (i : ℕ) → at + 4 ≤ i → get_or ys i 0 ≡ get_or zs i 0
four_left at xs ys zs kept left i h = kept i h ∙ left i (omega arith)

-- four remainders written among others
pub remainders_put : (p at : ℕ) (xs ys lanes : List ℕ) → length ys ≡ length xs → ((i : ℕ) → i < at → get_or ys i 0 ≡ get_or xs i 0) → ((k : ℕ) → k < 4 → get_or ys (at + k) 0 ≡ get_or lanes k 0)
    → ((i : ℕ) → at + 4 ≤ i → get_or ys i 0 ≡ get_or xs i 0) → AreFour p lanes → AreRemainders p xs → AreRemainders p ys
remainders_put p at xs ys lanes long kept put left four are i lt = elim (cases_lt i (at + 4)) [
  | inl below ↦ four_more (λ i v. i < length xs → v < p) at xs ys lanes kept put (λ k l h. four.less k l) (λ i h in_xs. are i in_xs) i below (omega arith)
  | inr above ↦ rw (left i above) (are i (omega arith))
]

-- two lists of remainders joined
pub remainders_both : (p : ℕ) (xs ys : List ℕ) → AreRemainders p xs → AreRemainders p ys → AreRemainders p (xs ++ ys)
remainders_both p xs ys first second i lt =
    let long = length-append xs ys in
    elim (cases_lt i (length xs)) [
      | inl below ↦ rw (get_or_append_left xs ys 0 i below) (first i below)
      | inr above ↦ rw (get_or-append_right xs ys (length xs) i 0 refl above) (second (i - length xs) (omega arith))
    ]

-- one remainder more after others
pub remainder_pushed : (p : ℕ) (xs : List ℕ) (v : ℕ) → v < p → AreRemainders p xs → AreRemainders p (xs ++ v ∷ [])
remainder_pushed p xs v less are = remainders_both p xs (v ∷ []) are (one v less)
  where
    one : (v : ℕ) → v < p → (i : ℕ) → i < 1 → get_or (v ∷ []) i 0 < p
    one v less zero lt = less
    one v less (suc i) lt = absurd (omega arith)

pub same_pushed : (p : ℕ) (xs : List ℕ) (v n : ℕ) (zs : List ℤ) → length xs ≡ n → Same (pos p) (pos v) (get_or zs n (pos 0)) → AreSame p xs zs → AreSame p (xs ++ v ∷ []) zs
same_pushed p xs v n zs long is same i lt =
    let whole = length-append xs (v ∷ []) in
    elim (cases_lt i n) [
      | inl below ↦ rw (get_or_append_left xs (v ∷ []) 0 i (omega arith)) (same i (omega arith))
      | inr above ↦
          let here : n ≡ i = omega arith in
          rw (get_or_at xs v [] 0 i (long ∙ here)) (rw here at is)
    ]

-- parts of a list of remainders
pub remainders_drop : (p m : ℕ) (xs : List ℕ) → AreRemainders p xs → AreRemainders p (drop m xs)
remainders_drop p m xs are i lt =
    let size = length-drop m xs in
    rw (get_or-drop m xs i 0) (are (m + i) (omega arith))

pub remainders_take : (p m : ℕ) (xs : List ℕ) → m ≤ length xs → AreRemainders p xs → AreRemainders p (take m xs)
remainders_take p m xs le are i lt =
    let size = length-take-le m xs le in
    let below : i < m = omega arith in
    rw (get_or-take m xs i 0 below) (are i (omega arith))

-- remainders are below a greater number too
pub remainders_wider : (p q : ℕ) (xs : List ℕ) → p ≤ q → AreRemainders p xs → AreRemainders q xs
remainders_wider p q xs le are i lt = let less = are i lt in omega arith

-- four that were loaded
pub four_loaded : (p at : ℕ) (xs lanes : List ℕ) → AreRemainders p xs → length lanes ≡ 4 → at + 4 ≤ length xs → ((k : ℕ) → k < 4 → get_or lanes k 0 ≡ get_or xs (at + k) 0) → AreFour p lanes
four_loaded p at xs lanes are four long is = record { four = four; less = λ k l. rw (is k l) (are (at + k) (omega arith)) }

-- a remainder that is kept in 64 bits
pub kept-same : (p x s : ℤ) (n : ℕ) → s ≡ pos n → n < 2 ^ 32 → Same p (pos n) x → Same p (pos (unsigned_abs (to_z w64 (of_z w64 s)))) x
kept-same p x s n is less same = rw (is, held-in-64 (pos n) (omega (arith, less))) same
