-- Four samples of three bytes, each in a lane of four bytes.
use Rattle.std.proofs.Common.{◌≡◌, ◌<◌, ◌+◌, ◌-◌, ◌*◌, ◌/◌, ◌%◌, ◌^◌, ℕ, suc, ℤ, pos, negsuc, ◌+ℤ◌, Bool, true, false, cond, List, [], ◌∷◌, ◌++◌, length, take, map, get_or, refl, sym, ap, ◌∙◌, arith, inl, inr, ◌⊎◌, w32, w64, to_z, of_z, Fits, FitsSigned, rules, count_by, reverse}
use Rattle.std.specs.Int.{cast_unsigned, int_min, int_wrap}
use Rattle.std.specs.List.{flat_map}
use Rattle.std.proofs.lemmas.Int.{clamps, int_wrap_fits, ints, to_z-of_z, to_z_pos, wrapping_add_onto}
use Rattle.std.proofs.lemmas.Bool.{cases_lt, le-ltb}
use Rattle.byteorder.specs.Endian.{big_number, little_bytes, little_number, low_bytes, twos_complement}
use Rattle.fx_frame_base.specs.declared.coding.Coding.{Coding}
use Rattle.fx_frame_base.specs.declared.coding.Coding.TheVariants.{U8, S8, S16Le, S16Be, S24Le, S24Be, S32Le, S32Be}
use Rattle.fx_frame_base.specs.Coding.{is_too_large, limited, narrowed, widened, width_of}
use Rattle.fx_frame_base.specs.Frame.{Samples}
use Rattle.fx_sound.specs.FrameCoding.{bytes_of, coded_samples}
use Rattle.fx_frame_base.specs.Lists.{tabulate, pieces}
use Rattle.fx_frame_base.proofs.Tabulate.{tabulate-same}
use Rattle.fx_frame_base.proofs.Shifts.{shift_floors}
use Rattle.std.proofs.lemmas.Simd.{mask_l-mod, ones-mask_l}
use lib.Count.{ones}
use lib.Lanes.{digits_l, mask_l, number_l, top}
use lib.Signed.{lt_z, mag_shr, shr_z}
use mir.Val.{SFits}

-- a coding of three bytes is one of the two
pub one-of-threes : (coding : Coding) → width_of coding ≡ 3 → (coding ≡ S24Le) ⊎ (coding ≡ S24Be)
one-of-threes U8 e = absurd (omega arith)
one-of-threes S8 e = absurd (omega arith)
one-of-threes S16Le e = absurd (omega arith)
one-of-threes S16Be e = absurd (omega arith)
one-of-threes S24Le e = inl refl
one-of-threes S24Be e = inr refl
one-of-threes S32Le e = absurd (omega arith)
one-of-threes S32Be e = absurd (omega arith)

-- a list by its items
self : {X : Type 0} (d : X) (xs : List X) → tabulate (λ i. get_or xs i d) 0 (length xs) ≡ xs
self d [] = refl
self d (x ∷ xs) =
    let rest_unchanged : (k : ℕ) → k < length xs → get_or (x ∷ xs) (1 + k) d ≡ get_or xs (0 + k) d = λ k h.
    let a : 1 + k ≡ suc k = omega arith in
    let b : 0 + k ≡ k = omega arith in
    rw (a, b) refl in
    ap (λ l. x ∷ l) (tabulate-same (λ i. get_or (x ∷ xs) i d) (λ i. get_or xs i d) 1 0 (length xs) rest_unchanged ∙ self d xs)

pub listed : {X : Type 0} (d : X) (n : ℕ) (xs : List X) → length xs ≡ n → xs ≡ tabulate (λ i. get_or xs i d) 0 n
listed d n xs e = sym (self d xs) ∙ ap (λ m. tabulate (λ i. get_or xs i d) 0 m) e

-- the sample in a lane whose lowest byte is zero
pub widened-lane : (n : ℕ) → n < 2 ^ 24 → to_z w32 (256 * n) ≡ widened 3 (twos_complement 3 n)
widened-lane n h = grind (arith, ints)

-- the lanes of a number
module _ (a b c d number : ℕ) (p : a < 2 ^ 32) (q : b < 2 ^ 32) (r : c < 2 ^ 32) (s : d < 2 ^ 32) (same : number ≡ a + 2 ^ 32 * b + 2 ^ 64 * c + 2 ^ 96 * d) where
  pub first-lane : number % 2 ^ 32 ≡ a
  first-lane = omega arith

  pub second-lane : number / 2 ^ 32 % 2 ^ 32 ≡ b
  second-lane = omega arith

  pub third-lane : number / 2 ^ 32 / 2 ^ 32 % 2 ^ 32 ≡ c
  third-lane = omega arith

  pub fourth-lane : number / 2 ^ 32 / 2 ^ 32 / 2 ^ 32 % 2 ^ 32 ≡ d
  fourth-lane = omega arith

-- a lane, rounded
rounded-twice : (z : ℤ) → shr_z (shr_z z 128 +ℤ pos 1) 2 ≡ narrowed 3 z
rounded-twice z = grind (arith, shift_floors)

-- a lane rounded as it stands
abbrev pub halved : ℤ → ℤ
halved z = shr_z (to_z w32 ((of_z w32 (shr_z (to_z w32 (of_z w32 z)) 128) + 1) % 2 ^ 32)) 2

halved-is : (z : ℤ) → SFits w32 z → (halved z ≡ narrowed 3 z) × SFits w32 (halved z)
halved-is z f =
    let y : ℤ = shr_z z 128 in
    let small : SFits w32 y = record { sfits = omega (arith, mag_shr z 128, f.sfits) } in
    let fit : Fits w32 (of_z w32 y) = search rules in
    let one : FitsSigned w32 (pos 1) = search rules in
    let next : SFits w32 (y +ℤ pos 1) = search (rules, ints) in
    let added : to_z w32 ((of_z w32 y + 1) % 2 ^ 32) ≡ y +ℤ pos 1 =
    wrapping_add_onto w32 (of_z w32 y) (pos 1) fit.fits one ∙ ap (λ x. int_wrap w32 (x +ℤ pos 1)) (to_z-of_z w32 y small) ∙ int_wrap_fits w32 (y +ℤ pos 1) next in
    let is : halved z ≡ shr_z (y +ℤ pos 1) 2 = rw (to_z-of_z w32 z f, added) refl in
    let whole : SFits w32 (halved z) = record { sfits = rw is (omega (arith, mag_shr (y +ℤ pos 1) 2, next.sfits)) } in
    (is ∙ rounded-twice z, whole)

rounded-lane : (z : ℤ) → SFits w32 z → to_z w32 (of_z w32 (halved z)) ≡ narrowed 3 z
rounded-lane z f = to_z-of_z w32 (halved z) (halved-is z f).1 ∙ (halved-is z f).0

-- the four lanes of a number
abbrev pub lanes : ℕ → List ℤ
lanes n = to_z w32 (n % 2 ^ 32) ∷ to_z w32 (n / 2 ^ 32 % 2 ^ 32) ∷ to_z w32 (n / 2 ^ 32 / 2 ^ 32 % 2 ^ 32) ∷ to_z w32 (n / 2 ^ 32 / 2 ^ 32 / 2 ^ 32 % 2 ^ 32) ∷ []

-- the sample of a number of 24 bits
abbrev pub sample : ℕ → ℤ
sample n = widened 3 (twos_complement 3 n)

lanes-samples : (a b c d number : ℕ) → a < 2 ^ 24 → b < 2 ^ 24 → c < 2 ^ 24 → d < 2 ^ 24 → number ≡ 256 * a + 2 ^ 32 * (256 * b) + 2 ^ 64 * (256 * c) + 2 ^ 96 * (256 * d)
    → lanes number ≡ sample a ∷ sample b ∷ sample c ∷ sample d ∷ []
lanes-samples a b c d number p q r s same =
    let x : 256 * a < 2 ^ 32 = omega arith in
    let y : 256 * b < 2 ^ 32 = omega arith in
    let z : 256 * c < 2 ^ 32 = omega arith in
    let w : 256 * d < 2 ^ 32 = omega arith in
    rw (first-lane _ _ _ _ number x y z w same, second-lane _ _ _ _ number x y z w same, third-lane _ _ _ _ number x y z w same, fourth-lane _ _ _ _ number x y z w same, widened-lane a p, widened-lane b q, widened-lane c r, widened-lane d s)
    refl

-- the lanes of twelve bytes, each with a zero before its own three
module _ (b : ℕ → ℕ) (bytes : (i : ℕ) → b i < 256) where
  pub little-lanes : lanes (number_l 256 (0 ∷ b 0 ∷ b 1 ∷ b 2 ∷ 0 ∷ b 3 ∷ b 4 ∷ b 5 ∷ 0 ∷ b 6 ∷ b 7 ∷ b 8 ∷ 0 ∷ b 9 ∷ b 10 ∷ b 11 ∷ [])) ≡ coded_samples S24Le 4 (tabulate b 0 12)
  little-lanes =
      lanes-samples (little_number 3 (b 0 ∷ b 1 ∷ b 2 ∷ [])) (little_number 3 (b 3 ∷ b 4 ∷ b 5 ∷ [])) (little_number 3 (b 6 ∷ b 7 ∷ b 8 ∷ [])) (little_number 3 (b 9 ∷ b 10 ∷ b 11 ∷ [])) _
      (omega (arith, bytes 0, bytes 1, bytes 2)) (omega (arith, bytes 3, bytes 4, bytes 5)) (omega (arith, bytes 6, bytes 7, bytes 8)) (omega (arith, bytes 9, bytes 10, bytes 11)) (omega arith)

  pub big-lanes : lanes (number_l 256 (0 ∷ b 2 ∷ b 1 ∷ b 0 ∷ 0 ∷ b 5 ∷ b 4 ∷ b 3 ∷ 0 ∷ b 8 ∷ b 7 ∷ b 6 ∷ 0 ∷ b 11 ∷ b 10 ∷ b 9 ∷ [])) ≡ coded_samples S24Be 4 (tabulate b 0 12)
  big-lanes =
      lanes-samples (big_number 3 (b 0 ∷ b 1 ∷ b 2 ∷ [])) (big_number 3 (b 3 ∷ b 4 ∷ b 5 ∷ [])) (big_number 3 (b 6 ∷ b 7 ∷ b 8 ∷ [])) (big_number 3 (b 9 ∷ b 10 ∷ b 11 ∷ [])) _
      (omega (arith, bytes 0, bytes 1, bytes 2)) (omega (arith, bytes 3, bytes 4, bytes 5)) (omega (arith, bytes 6, bytes 7, bytes 8)) (omega (arith, bytes 9, bytes 10, bytes 11)) (omega arith)

-- what a comparison of lanes says
top-is : (t : Bool) → top 31 (cond t 4294967295 0) ≡ t
top-is true = refl
top-is false = refl

picked : (t : Bool) (n : ℕ) → to_z w32 (cond (top 31 (cond t 4294967295 0)) n 8388607) ≡ cond t (to_z w32 n) (pos 8388607)
picked true n = refl
picked false n = refl

-- the less of two, whichever is looked at first
less : (x y : ℤ) → cond (lt_z x y) x y ≡ int_min x y
less x y = grind (arith, ints, clamps)

-- the bits of a lane that is limited
abbrev pub limited-bits : ℤ → ℕ
limited-bits z = cond (top 31 (cond (lt_z (to_z w32 (of_z w32 (halved z))) (pos 8388607)) 4294967295 0)) (of_z w32 (halved z)) 8388607

below : (t : Bool) (n : ℕ) → n < 2 ^ 32 → cond (top 31 (cond t 4294967295 0)) n 8388607 < 2 ^ 32
below true n h = h
below false n h = omega arith

pub limited-below : (z : ℤ) → SFits w32 z → limited-bits z < 2 ^ 32
limited-below z f =
    let whole : SFits w32 (halved z) = (halved-is z f).1 in
    let fit : Fits w32 (of_z w32 (halved z)) = search rules in
    below (lt_z (to_z w32 (of_z w32 (halved z))) (pos 8388607)) (of_z w32 (halved z)) fit.fits

pub limited-lane : (z : ℤ) → SFits w32 z → to_z w32 (limited-bits z) ≡ limited 3 z
limited-lane z f =
    picked (lt_z (to_z w32 (of_z w32 (halved z))) (pos 8388607)) (of_z w32 (halved z)) ∙ ap (λ x. cond (lt_z x (pos 8388607)) x (pos 8388607)) (rounded-lane z f) ∙ less (narrowed 3 z) (pos 8388607)

pub clipped-lane : (z : ℤ) → SFits w32 z → top 31 (cond (lt_z (pos 8388607) (to_z w32 (of_z w32 (halved z)))) 4294967295 0) ≡ is_too_large 3 z
clipped-lane z f = top-is (lt_z (pos 8388607) (to_z w32 (of_z w32 (halved z)))) ∙ ap (lt_z (pos 8388607)) (rounded-lane z f)

-- four lanes side by side
module _ (xs : Samples) (four : length xs ≡ 4) where
  pub clipped-lanes : (p q r s : Bool) → p ≡ is_too_large 3 (get_or xs 0 (pos 0)) → q ≡ is_too_large 3 (get_or xs 1 (pos 0)) → r ≡ is_too_large 3 (get_or xs 2 (pos 0)) → s ≡ is_too_large 3 (get_or xs 3 (pos 0))
      → ones (mask_l (p ∷ q ∷ r ∷ s ∷ []) % 2 ^ 64) ≡ count_by (is_too_large 3) xs
  clipped-lanes p q r s a b c d =
      let ys : Samples = tabulate (λ i. get_or xs i (pos 0)) 0 4 in
      rw (a, b, c, d) (ap ones (mask_l-mod (map (is_too_large 3) ys) 64 (omega arith)) ∙ ones-mask_l (is_too_large 3) ys ∙ ap (count_by (is_too_large 3)) (sym (listed (pos 0) 4 xs four)))

-- the bytes of a number that others lie above
digits-next : (k n rest : ℕ) → n < 2 ^ 32 → digits_l 256 (suc (suc (suc (suc k)))) (n + 2 ^ 32 * rest) ≡ (n % 256) ∷ (n / 256 % 256) ∷ (n / 65536 % 256) ∷ (n / 16777216 % 256) ∷ digits_l 256 k rest
digits-next k n rest h =
    let a : (n + 2 ^ 32 * rest) % 256 ≡ n % 256 = omega arith in
    let b : (n + 2 ^ 32 * rest) / 256 % 256 ≡ n / 256 % 256 = omega arith in
    let c : (n + 2 ^ 32 * rest) / 256 / 256 % 256 ≡ n / 65536 % 256 = omega arith in
    let d : (n + 2 ^ 32 * rest) / 256 / 256 / 256 % 256 ≡ n / 16777216 % 256 = omega arith in
    let e : (n + 2 ^ 32 * rest) / 256 / 256 / 256 / 256 ≡ rest = omega arith in
    rw (a, b, c, d, e) refl

-- the bits of a lane are the lowest 32 of its number
lane-bits : (n : ℕ) → n < 2 ^ 32 → low_bytes w64 4 (to_z w32 n) ≡ n
lane-bits n h = elim (cases_lt n (2 ^ 31)) [
  | inl low ↦ rw (to_z_pos w32 n low) (omega arith)
  | inr high ↦ let e : to_z w32 n ≡ negsuc (2 ^ 32 - suc n) = rw (le-ltb n (2 ^ 31) high) refl in rw e (omega arith)
]

bytes-of-lane : (z : ℤ) (n : ℕ) → n < 2 ^ 32 → to_z w32 n ≡ limited 3 z → little_bytes 4 n ≡ little_bytes 4 (low_bytes w64 4 (limited 3 z))
bytes-of-lane z n h e = ap (little_bytes 4) (sym (lane-bits n h) ∙ ap (low_bytes w64 4) e)

-- four parts, joined
joined : (a b c d p q r s : List ℕ) → a ≡ p → b ≡ q → c ≡ r → d ≡ s → a ++ (b ++ (c ++ (d ++ []))) ≡ p ++ (q ++ (r ++ (s ++ [])))
joined a b c d p q r s e f g h = rw (e, f, g, h) refl

-- the bytes of four lanes
pub limited-bytes : (xs : Samples) (a b c d : ℕ) → length xs ≡ 4 → a < 2 ^ 32 → b < 2 ^ 32 → c < 2 ^ 32 → d < 2 ^ 32
    → to_z w32 a ≡ limited 3 (get_or xs 0 (pos 0)) → to_z w32 b ≡ limited 3 (get_or xs 1 (pos 0)) → to_z w32 c ≡ limited 3 (get_or xs 2 (pos 0)) → to_z w32 d ≡ limited 3 (get_or xs 3 (pos 0))
    → digits_l 256 16 (number_l (2 ^ 32) (a ∷ b ∷ c ∷ d ∷ [])) ≡ flat_map (λ z. little_bytes 4 (low_bytes w64 4 (limited 3 z))) xs
limited-bytes xs a b c d four p q r s e f g h =
    digits-next 12 a (b + 2 ^ 32 * (c + 2 ^ 32 * (d + 0))) p ∙ ap (λ l. little_bytes 4 a ++ l) (digits-next 8 b (c + 2 ^ 32 * (d + 0)) q) ∙ ap (λ l. little_bytes 4 a ++ (little_bytes 4 b ++ l)) (digits-next 4 c (d + 0) r)
    ∙ ap (λ l. little_bytes 4 a ++ (little_bytes 4 b ++ (little_bytes 4 c ++ l))) (digits-next 0 d 0 s)
    ∙ joined (little_bytes 4 a) (little_bytes 4 b) (little_bytes 4 c) (little_bytes 4 d) _ _ _ _ (bytes-of-lane (get_or xs 0 (pos 0)) a p e) (bytes-of-lane (get_or xs 1 (pos 0)) b q f) (bytes-of-lane (get_or xs 2 (pos 0)) c r g) (bytes-of-lane (get_or xs 3 (pos 0)) d s h)
    ∙ ap (flat_map (λ z. little_bytes 4 (low_bytes w64 4 (limited 3 z)))) (sym (listed (pos 0) 4 xs four))

-- the three lowest bytes of a lane
low-three : (z : ℤ) → take 3 (little_bytes 4 (low_bytes w64 4 z)) ≡ little_bytes 3 (low_bytes w64 3 z)
low-three z =
    let n : ℕ = cast_unsigned w64 z in
    let a : n % 2 ^ 32 % 256 ≡ n % 2 ^ 24 % 256 = omega arith in
    let b : n % 2 ^ 32 / 256 % 256 ≡ n % 2 ^ 24 / 256 % 256 = omega arith in
    let c : n % 2 ^ 32 / 65536 % 256 ≡ n % 2 ^ 24 / 65536 % 256 = omega arith in
    rw (a, b, c) refl

module _ (xs : Samples) (four : length xs ≡ 4) where
  pub little-written : flat_map (take 3) (pieces 4 4 (flat_map (λ z. little_bytes 4 (low_bytes w64 4 (limited 3 z))) xs)) ≡ bytes_of S24Le xs
  little-written =
      rw (listed (pos 0) 4 xs four)
      (joined _ _ _ _ _ _ _ _ (low-three (limited 3 (get_or xs 0 (pos 0)))) (low-three (limited 3 (get_or xs 1 (pos 0)))) (low-three (limited 3 (get_or xs 2 (pos 0)))) (low-three (limited 3 (get_or xs 3 (pos 0)))))

  pub big-written : flat_map (λ lane. reverse (take 3 lane)) (pieces 4 4 (flat_map (λ z. little_bytes 4 (low_bytes w64 4 (limited 3 z))) xs)) ≡ bytes_of S24Be xs
  big-written =
      rw (listed (pos 0) 4 xs four)
      (joined _ _ _ _ _ _ _ _ (ap reverse (low-three (limited 3 (get_or xs 0 (pos 0))))) (ap reverse (low-three (limited 3 (get_or xs 1 (pos 0))))) (ap reverse (low-three (limited 3 (get_or xs 2 (pos 0))))) (ap reverse (low-three (limited 3 (get_or xs 3 (pos 0))))))
