-- A sample times a weight of at most 1, which is not clipped, is the sample where the weight is 1.
use Rattle.std.proofs.Common.{◌≡◌, ℕ, ℤ, suc, pos, negsuc, ◌+◌, ◌*◌, ◌/◌, ◌<◌, ◌≤◌, ◌^◌, false, true, refl, ap, ◌∙◌, sym, arith, List, [], ◌∷◌, map, length, take, get_or, set, Bool, min, ◌-◌, ◌*ℤ◌, to_z, of_z, FitsSigned, count_by, unsigned_abs}
use Rattle.std.specs.Int.{w32, w64}
use Rattle.std.specs.List.{All}
use Rattle.std.proofs.Math.Nat.{mul-le-mul}
use Rattle.std.proofs.lemmas.Int.{fits_signed_from_abs, ints, to_z-of_z, to_z_pos, unsigned_abs-mul}
use Rattle.std.proofs.lemmas.Nat.{le-div, mul-lt}
use Rattle.std.proofs.lemmas.List.{take_more, take_more_set, map-append}
use mathlib.Core.Path.{ap₂}
use Rattle.fx_fixed.specs.Rounding.{nearest, nearest_natural, signed, clipping}
use Rattle.fx_fixed.proofs.Shifting.{nearest_natural-cancel}
use Rattle.fx_fixed.proofs.Signs.{nearest-neg}
use Rattle.fx_fixed.proofs.AtMostWhole.{fits-neg, fits-pos, nearest-le, not-clipped, unclipped-neg, unclipped-pos}
use Rattle.fx_frame_base.specs.Given.{given_samples, plain}
use Rattle.fx_frame_base.specs.Rounded.{unclipped}
use Rattle.fx_cut.specs.Fade.{weight_product, weighted}

nearest-whole : (n d : ℕ) → 0 < d → nearest_natural (n * d) d ≡ n
nearest-whole n d some =
    let a : nearest_natural (n * d) d ≤ n = nearest-le n d d some (omega arith) in
    let b : n ≤ (2 * (n * d) + d) / (2 * d) = le-div n (2 * (n * d) + d) (2 * d) (omega arith) (omega arith) in
    omega arith

-- a sample times a short length fits 64 bits
small-abs : (x : ℤ) (n : ℕ) → unsigned_abs x ≤ 2 ^ 31 → n ≤ 2 ^ 30 → unsigned_abs (x *ℤ pos n) ≤ 2 ^ 61
small-abs x n h g = omega (arith, unsigned_abs-mul x (pos n), mul-le-mul h g)

pub small-product : (x y : ℤ) (n : ℕ) → y ≡ x → FitsSigned w32 x → n ≤ 2 ^ 30 → (to_z w64 (of_z w64 (to_z w64 (of_z w64 y) *ℤ to_z w64 n)) ≡ x *ℤ pos n) × (unsigned_abs (x *ℤ pos n) ≤ 2 ^ 61)
small-product x y n same fits g =
    let m : unsigned_abs x ≤ 2 ^ 31 = omega (arith, ints) in
    let bound = small-abs x n m g in
    let one : to_z w64 (of_z w64 x) ≡ x = to_z-of_z w64 x (fits_signed_from_abs w64 x (omega arith)) in
    let two : to_z w64 n ≡ pos n = to_z_pos w64 n (omega arith) in
    let all : to_z w64 (of_z w64 (x *ℤ pos n)) ≡ x *ℤ pos n = to_z-of_z w64 (x *ℤ pos n) (fits_signed_from_abs w64 (x *ℤ pos n) (omega arith)) in
    (rw (same, one, two) all, bound)

-- a weight of 1 beside another changes nothing
nearest-times : (x : ℤ) (a b q : ℕ) → 0 < a → 0 < q → nearest (x *ℤ pos (a * b)) (a * q) ≡ nearest (x *ℤ pos b) q
nearest-times (pos n) a b q some positive =
    let above : n * (a * b) ≡ n * b * a = omega arith in
    let below : a * q ≡ q * a = omega arith in
    rw (above, below) (ap (signed false) (nearest_natural-cancel (n * b) q a some))
nearest-times (negsuc n) a b q some positive =
    let above : suc n * (a * b) ≡ suc n * b * a = omega arith in
    let below : a * q ≡ q * a = omega arith in
    let whole : 0 < a * q = mul-lt 0 0 a q some positive in
    nearest-neg (suc n * (a * b)) (a * q) whole ∙ rw (above, below) (ap (signed true) (nearest_natural-cancel (suc n * b) q a some)) ∙ sym (nearest-neg (suc n * b) q positive)

weighted-times : (x : ℤ) (a b q : ℕ) → 0 < a → 0 < q → weighted (a * b, a * q) x ≡ weighted (b, q) x
weighted-times x a b q some positive = ap clipping (nearest-times x a b q some positive)

pub whole-left : (v w : ℕ × ℕ) (xs : List ℤ) → v.0 ≡ v.1 → 0 < v.1 → 0 < w.1 → map (weighted (weight_product v w)) xs ≡ map (weighted w) xs
whole-left v w [] same some positive = refl
whole-left (a, c) (b, q) (x ∷ xs) same some positive =
    let one : weighted (a * b, c * q) x ≡ weighted (b, q) x = rw same (weighted-times x c b q some positive) in
    cc (one, whole-left (a, c) (b, q) xs same some positive)

pub whole-right : (v w : ℕ × ℕ) (xs : List ℤ) → w.0 ≡ w.1 → 0 < v.1 → 0 < w.1 → map (weighted (weight_product v w)) xs ≡ map (weighted v) xs
whole-right (a, c) (b, q) xs same positive some =
    let turned : ◌≡◌ {A = ℕ × ℕ} (a * b, c * q) (b * a, q * c) = ap₂ (λ m n. (m, n)) (let e : a * b ≡ b * a = omega arith in e) (let e : c * q ≡ q * c = omega arith in e) in
    rw turned (whole-left (b, q) (a, c) xs same some positive)

-- the weight 1 changes nothing
whole-sample : (x : ℤ) (d : ℕ) → 0 < d → FitsSigned w32 x → weighted (d, d) x ≡ unclipped x
whole-sample (pos n) d some f =
    let g = fits-pos n f in
    let m : min n (2 ^ 31 - 1) ≡ n = omega arith in
    ap (λ k. clipping (pos k)) (nearest-whole n d some) ∙ ap₂ (λ a b. (a, b)) (ap pos m) (unclipped-pos n g)
whole-sample (negsuc n) d some f =
    let g = fits-neg n f in
    let m : min n (2 ^ 31 - 1) ≡ n = omega arith in
    ap clipping (nearest-neg (suc n * d) d some ∙ ap (signed true) (nearest-whole (suc n) d some)) ∙ ap₂ (λ a b. (a, b)) (ap negsuc m) (unclipped-neg (suc n) n (omega arith) g)

-- a frame with the weight 1
pub whole-frame : (frame : List ℤ) (w : ℕ × ℕ) → w.0 ≡ w.1 → 0 < w.1 → All (FitsSigned w32) frame → map (weighted w) frame ≡ map unclipped frame
whole-frame [] w same some f = refl
whole-frame (x ∷ xs) (a, d) same some f =
    let e : weighted (a, d) x ≡ unclipped x = rw same (whole-sample x d some (f 0 (pos 0) (omega arith))) in
    let more = whole-frame xs (a, d) same some (λ k e h. f (suc k) e (omega arith)) in
    cc (e, more)

-- a rounded sample that was not clipped
pub is-unclipped : (w : ℕ × ℕ) (x y : ℤ) (b : Bool) → (y, b) ≡ weighted w x → 0 < w.1 → w.0 ≤ w.1 → FitsSigned w32 x → weighted w x ≡ unclipped y
is-unclipped (a, d) x y b e some h f =
    let n = not-clipped x a d some h f in
    let c : b ≡ false = ap (λ r. r.1) e ∙ n in
    sym e ∙ cc (c)

-- one more sample
pub weighted-more : (w : ℕ × ℕ) (xs out : List ℤ) (i : ℕ) (y : ℤ) → i < length xs → i < length out → map (weighted w) (take i xs) ≡ map unclipped (take i out) → weighted w (get_or xs i (pos 0)) ≡ unclipped y
    → map (weighted w) (take (i + 1) xs) ≡ map unclipped (take (i + 1) (set out i y))
weighted-more w xs out i y h k e v =
    ap (map (weighted w)) (take_more xs i (pos 0) h) ∙ map-append (weighted w) (take i xs) (get_or xs i (pos 0) ∷ [])
    ∙ cc (e, v)
    ∙ sym (ap (map unclipped) (take_more_set out i y k) ∙ map-append unclipped (take i out) (y ∷ []))

-- a frame of which nothing was clipped
pub given-plain : (rounds : List (ℤ × Bool)) (frame : List ℤ) → rounds ≡ map unclipped frame → given_samples rounds ≡ plain frame
given-plain rounds frame e = ap given_samples e ∙ cc (samples frame, clips frame)
  where
    samples : (xs : List ℤ) → map (λ r. r.0) (map unclipped xs) ≡ xs
    samples [] = refl
    samples (x ∷ xs) = ap (λ l. x ∷ l) (samples xs)

    clips : (xs : List ℤ) → count_by (λ r. r.1) (map unclipped xs) ≡ 0
    clips [] = refl
    clips (x ∷ xs) = clips xs
