-- The longest of delays that are filled up with none.
use Rattle.std.proofs.Common.{ℕ, zero, suc, ◌≤◌, ◌≡◌, max, take, List, [], ◌∷◌, ◌++◌, length, refl, ap, arith, replicate}
use Rattle.fx_fixed.specs.Extents.{largest}

largest-zeros : (count : ℕ) → largest (replicate count 0) ≡ 0
largest-zeros zero = refl
largest-zeros (suc count) = let h = largest-zeros count in omega arith

-- a delay of 0 for the channels without one does not lengthen the longest
pub largest-filled : (delays : List ℕ) (count : ℕ) → largest (delays ++ replicate count 0) ≡ largest delays
largest-filled [] count = largest-zeros count
largest-filled (d ∷ ds) count = ap (max d) (largest-filled ds count)

-- what is cut to a length that it does not reach stays
take-whole : (delays : List ℕ) (count : ℕ) → length delays ≤ count → take count delays ≡ delays
take-whole [] zero h = refl
take-whole [] (suc count) h = refl
take-whole (d ∷ ds) zero h = absurd (omega arith)
take-whole (d ∷ ds) (suc count) h = ap (λ l. d ∷ l) (take-whole ds count (omega arith))
