-- 2^32 has an inverse modulo the moduli of the transforms, and Montgomery's step multiplies by it.
use Rattle.std.proofs.Common.{◌≡◌, ◌+◌, ◌-◌, ◌*◌, ◌/◌, ◌%◌, ◌^◌, ◌<◌, ◌≤◌, ap, ℕ, arith, pos, neg_ℤ, ◌*ℤ◌, ◌+ℤ◌}
use Rattle.std.proofs.lemmas.Int.{ints}
use Rattle.std.proofs.lemmas.Nat.{mul-le}
use Rattle.fx_tap_sums.specs.Residues.{IsModulus, Same, inverse_of_word}
use Rattle.fx_tap_sums.proofs.Numbers.{mul-add, mul-neg}

-- a number and some times the modulus is another one and some times the modulus
same_both : (p a b k l : ℕ) → a + p * k ≡ b + p * l → Same (pos p) (pos a) (pos b)
same_both p a b k l e =
    let parts = mul-add (pos p) (pos l) (neg_ℤ (pos k)) in
    let turned = mul-neg (pos p) (pos k) in
    let more : pos p *ℤ pos l ≡ pos (p * l) = ap pos (omega arith) in
    let less : pos p *ℤ pos k ≡ pos (p * k) = ap pos (omega arith) in
    (pos l +ℤ neg_ℤ (pos k), omega (arith, ints))

-- the modulus times two less is 1 below a multiple of 2^32
word_times : (p : ℕ) → IsModulus p → 2 ^ 32 * inverse_of_word p ≡ 1 + p * (p - 2)
word_times p modulus =
    let c : ℕ = p / 2 ^ 16 in
    let d : ℕ = p - 2 in
    let is : p ≡ d + 2 = omega (arith, modulus) in
    let root : d + 1 ≡ 2 ^ 16 * c = omega (arith, modulus) in
    let square : (d + 1) * (d + 1) ≡ (2 ^ 16 * c) * (2 ^ 16 * c) = ap (λ n. n * n) root in
    let product : p * d ≡ (d + 2) * d = ap (λ n. n * d) is in
    omega (arith, square, product)

-- so 2^32 times its inverse is 1
pub inverse_word : (p : ℕ) → IsModulus p → Same (pos p) (pos (2 ^ 32 * inverse_of_word p)) (pos 1)
inverse_word p modulus = let whole = word_times p modulus in same_both p (2 ^ 32 * inverse_of_word p) 1 0 (p - 2) (omega (arith, whole))

-- ---- Montgomery's step

-- as many times the modulus as make the lower 32 bits zero
abbrev pub word_turns : ℕ → ℕ → ℕ
word_turns p sum = ((sum % 2 ^ 32) * (p - 2)) % 2 ^ 32

-- a multiple of 2^32 and another one less is one
multiple : (n x y : ℕ) → n + 2 ^ 32 * y ≡ 2 ^ 32 * x → 2 ^ 32 * (n / 2 ^ 32) ≡ n
multiple n x y e = omega (arith, e)

-- the lower 32 bits are zero then
word_whole : (p sum : ℕ) → IsModulus p → 2 ^ 32 * ((sum + word_turns p sum * p) / 2 ^ 32) ≡ sum + word_turns p sum * p
word_whole p sum modulus =
    let low : ℕ = sum % 2 ^ 32 in
    let high : ℕ = sum / 2 ^ 32 in
    let d : ℕ = p - 2 in
    let q : ℕ = (low * d) / 2 ^ 32 in
    let t : ℕ = word_turns p sum in
    let unit = word_times p modulus in
    let parts : sum ≡ low + 2 ^ 32 * high = omega arith in
    let turned : t + 2 ^ 32 * q ≡ low * d = omega arith in
    let by_modulus : (t + 2 ^ 32 * q) * p ≡ (low * d) * p = ap (λ n. n * p) turned in
    let by_unit : low * (2 ^ 32 * inverse_of_word p) ≡ low * (1 + p * d) = ap (λ n. low * n) unit in
    multiple (sum + t * p) (low * inverse_of_word p + high) (q * p) (omega (arith, parts, by_modulus, by_unit))

-- the upper ones are the sum over 2^32
pub word_same : (p sum : ℕ) → IsModulus p → Same (pos p) (pos ((sum + word_turns p sum * p) / 2 ^ 32)) (pos (inverse_of_word p) *ℤ pos sum)
word_same p sum modulus =
    let r : ℕ = (sum + word_turns p sum * p) / 2 ^ 32 in
    let t : ℕ = word_turns p sum in
    let i : ℕ = inverse_of_word p in
    let whole : 2 ^ 32 * r ≡ sum + t * p = word_whole p sum modulus in
    let unit : 2 ^ 32 * i ≡ 1 + p * (p - 2) = word_times p modulus in
    let by_inverse : i * (2 ^ 32 * r) ≡ i * (sum + t * p) = ap (λ n. i * n) whole in
    let by_result : r * (2 ^ 32 * i) ≡ r * (1 + p * (p - 2)) = ap (λ n. r * n) unit in
    let product : pos i *ℤ pos sum ≡ pos (i * sum) = ap pos (omega arith) in
    rw product (same_both p r (i * sum) (r * (p - 2)) (i * t) (omega (arith, by_inverse, by_result)))

-- ---- sizes

-- 88 times the modulus is below 3 times 2^32
below_words : (p : ℕ) → IsModulus p → 88 * p * p ≤ (3 * 2 ^ 32) * p
below_words p modulus = mul-le (88 * p) p (3 * 2 ^ 32) p (omega (arith, modulus)) (omega arith)

-- the sums of four products that the leaf makes fit 64 bits
pub square_fits : (p : ℕ) → IsModulus p → 88 * p * p < 2 ^ 63
square_fits p modulus = let limit = below_words p modulus in omega (arith, limit, modulus)
