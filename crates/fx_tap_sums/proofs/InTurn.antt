-- Every second one of eight neighbours in four lanes.
use Rattle.std.proofs.Common.{◌≡◌, ◌+◌, ◌^◌, ◌<◌, ◌≤◌, ◌∙◌, ap, ℕ, ℤ, pos, List, ◌++◌, length, take, drop, get_or, arith, to_z, of_z, w32, w64, FitsSigned, map, unsigned_abs}
use Rattle.std.specs.Simd.Lanes.{chunk}
use Rattle.std.proofs.lemmas.Int.{ints, to_z-of_z, fits_signed_from_abs}
use Rattle.std.proofs.lemmas.List.{get_or-map, get_or_append_left, length-map}
use Rattle.std.proofs.lemmas.Simd.{get_or-chunk, length-chunk}
use Rattle.fx_tap_sums.proofs.PairLanes.{loaded}

small : (x : ℤ) → FitsSigned w32 x → unsigned_abs x ≤ 2 ^ 31
small x fits = omega (arith, ints)

-- what a vector of eight neighbours has as its bits
abbrev pub bits-loaded : List ℤ → ℕ → ℕ → List ℕ
bits-loaded samples at n = map (of_z w32) (chunk 0 8 (take n (drop at samples)))

-- a sample that was loaded among eight and made 64 bits long is itself
pub lane-loaded : (samples : List ℤ) (at n i : ℕ) → n ≡ 8 → at + 8 ≤ length samples → i < 8 → FitsSigned w32 (get_or samples (at + i) (pos 0))
    → to_z w64 (of_z w64 (to_z w32 (get_or (bits-loaded samples at n ++ bits-loaded samples at n) i 0))) ≡ get_or samples (at + i) (pos 0)
lane-loaded samples at n i is free below fits =
    let x : ℤ = get_or samples (at + i) (pos 0) in
    let whole = loaded samples at n is free in
    let eight = length-chunk at 8 samples free in
    let long : length (bits-loaded samples at n) ≡ 8 = length-map (chunk 0 8 (take n (drop at samples))) (of_z w32) ∙ ap length whole ∙ eight in
    let here : get_or (bits-loaded samples at n ++ bits-loaded samples at n) i 0 ≡ of_z w32 x =
    get_or_append_left (bits-loaded samples at n) (bits-loaded samples at n) 0 i (omega (arith, long, below)) ∙ ap (λ xs. get_or (map (of_z w32) xs) i 0) whole
    ∙ get_or-map (of_z w32) (chunk at 8 samples) i (pos 0) 0 (omega (arith, eight, below)) ∙ ap (of_z w32) (get_or-chunk at 8 samples i (pos 0) below) in
    let back : to_z w32 (of_z w32 x) ≡ x = to_z-of_z w32 x fits in
    let wide = to_z-of_z w64 x (fits_signed_from_abs w64 x (omega (arith, small x fits))) in
    ap (λ b. to_z w64 (of_z w64 (to_z w32 b))) here ∙ ap (λ z. to_z w64 (of_z w64 z)) back ∙ wide
