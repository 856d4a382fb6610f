-- What the product with prepared weights is.
use Rattle.std.proofs.Common.{◌≡◌, ◌∙◌, ◌+◌, ◌-◌, ◌*◌, ◌^◌, ◌<◌, ◌≤◌, ℕ, ℤ, pos, ◌*ℤ◌, List, ◌∷◌, ap, sym, length, get_or, drop, arith, pow-add, mul_assoc, map}
use Rattle.std.proofs.lemmas.List.{length-map}
use Rattle.fx_tap_sums.specs.Leaves.{AreLeaves}
use Rattle.fx_tap_sums.specs.Prepared.{IsPreparedWeights, padded_weights}
use Rattle.fx_tap_sums.specs.Products.{sum_of_products}
use Rattle.fx_tap_sums.specs.Residues.{AreSame, IsModulus, Same, inverse_of_word}
use Rattle.fx_tap_sums.specs.Transform.{IsProduct, IsTransform, root_at}
use Rattle.fx_tap_sums.proofs.Residues.{same_on}
use Rattle.fx_tap_sums.proofs.CyclicSums.{plain_sum, padded_at, length-padded}
use Rattle.fx_tap_sums.proofs.Words.{inverse_word}

-- the scale of the weights, and what the product is too large by and over: 1 together
pub scale_is : (q levels : ℕ) → IsModulus q → levels ≤ 32 → Same (pos q) (pos (2 ^ (32 - levels)) *ℤ pos (2 ^ levels * inverse_of_word q)) (pos 1)
scale_is q levels modulus limit =
    let whole : 32 - levels + levels ≡ 32 = omega (arith, limit) in
    let power : 2 ^ (32 - levels) * 2 ^ levels ≡ 2 ^ 32 = sym (pow-add 2 (32 - levels) levels) ∙ ap (λ k. 2 ^ k) whole in
    let product : 2 ^ (32 - levels) * (2 ^ levels * inverse_of_word q) ≡ 2 ^ 32 * inverse_of_word q = sym (mul_assoc (2 ^ (32 - levels)) (2 ^ levels) (inverse_of_word q)) ∙ ap (λ k. k * inverse_of_word q) power in
    let scaled : pos (2 ^ (32 - levels)) *ℤ pos (2 ^ levels * inverse_of_word q) ≡ pos (2 ^ 32 * inverse_of_word q) = ap pos product in
    rw scaled (inverse_word q modulus)

pub sum_at : (q levels : ℕ) (ws w : List ℤ) (roots inverses leaves old new : List ℕ) (i : ℕ) → IsModulus q → levels ≤ 32 → IsPreparedWeights q levels 0 ws roots inverses leaves →
    length old ≡ 4 * 2 ^ levels → AreSame q old (pos 0 ∷ w) → length w < length old → i + length ws ≤ length w →
    ((s : ℤ) (a h : List ℤ) (spectrum : List ℕ) → Same (pos q) (root_at roots 0 *ℤ root_at roots 0) s → length a ≡ length old → length h ≡ length old → AreSame q old a →
    IsTransform q roots levels 0 h spectrum → AreLeaves q roots (2 ^ (levels - 1) * (0 + 1) - 1) spectrum leaves → IsProduct q (2 ^ levels) (2 ^ levels * inverse_of_word q) s a h new) →
    Same (pos q) (pos (get_or new i 0)) (sum_of_products (drop i w) ws)
sum_at q levels ws w roots inverses leaves old new i modulus limit prepared long loaded bound lt product =
    let n : ℕ = 4 * 2 ^ levels in
    let p : ℤ = pos q in
    let factor : ℤ = pos (2 ^ levels * inverse_of_word q) in
    let scale : ℤ = pos (2 ^ (32 - levels)) in
    let a : List ℤ = padded_weights n (pos 0 ∷ w) in
    let h : List ℤ = padded_weights n (map (λ w. scale *ℤ w) ws) in
    let below : length w < n = omega (arith, bound, long) in
    let mapped = length-map ws (λ w. scale *ℤ w) in
    let a_long = length-padded n (pos 0 ∷ w) (omega (arith, below)) in
    let h_long = length-padded n (map (λ w. scale *ℤ w) ws) (omega (arith, below, mapped, lt)) in
    let root : Same p (root_at roots 0 *ℤ root_at roots 0) (pos 1) = same_on p (root_at roots 0 *ℤ root_at roots 0) (root_at roots 0) (pos 1) (prepared.are.even 0 (omega arith)) prepared.are.first in
    let same : AreSame q old a = λ k below. rw (padded_at n (pos 0 ∷ w) k) (loaded k below) in
    let is = product (pos 1) a h prepared.spectrum root (a_long ∙ sym long) (h_long ∙ sym long) same prepared.transform prepared.of_spectrum i (omega (arith, below, lt)) in
    plain_sum n p factor (pos (get_or new i 0)) scale w ws i below lt (scale_is q levels modulus limit) is

-- a place of a list that is no longer than so much
pub place_within : (i n maximum : ℕ) → i < n → n ≤ maximum → i < maximum
place_within i n maximum lt bound = omega arith
