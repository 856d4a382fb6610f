-- Products of whole numbers.
use Rattle.std.proofs.Common.{◌≡◌, ◌*◌, ◌<◌, ap, ◌∙◌, sym, arith, ℕ, zero, suc, ℤ, pos, neg_ℤ, ◌*ℤ◌, ◌+ℤ◌}
use Rattle.std.proofs.lemmas.Int.{ints}
use Rattle.std.proofs.Math.IntN.{*ℤ_comm}
use borrow.Author.Differences.{up, down, same_in, sum_is_lem, product_is}

pub mul-add : (x a b : ℤ) → x *ℤ (a +ℤ b) ≡ (x *ℤ a) +ℤ (x *ℤ b)
mul-add x a b =
    let sum = sum_is_lem a b in
    let sum_up = ap (λ n. up x * n) sum in
    let sum_down = ap (λ n. down x * n) sum in
    let total = sum_is_lem (x *ℤ a) (x *ℤ b) in
    let whole = product_is x (a +ℤ b) in
    let first = product_is x a in
    let second = product_is x b in
    same_in (x *ℤ (a +ℤ b)) ((x *ℤ a) +ℤ (x *ℤ b)) (omega arith)

pub add-mul : (a b x : ℤ) → (a +ℤ b) *ℤ x ≡ (a *ℤ x) +ℤ (b *ℤ x)
add-mul a b x =
    let whole = *ℤ_comm (a +ℤ b) x in
    let first = *ℤ_comm a x in
    let second = *ℤ_comm b x in
    omega (arith, ints, mul-add x a b)

pub mul_assoc : (x a b : ℤ) → x *ℤ (a *ℤ b) ≡ (x *ℤ a) *ℤ b
mul_assoc x a b =
    let inner = product_is a b in
    let up_up = ap (λ n. up x * n) inner.0 in
    let up_down = ap (λ n. up x * n) inner.1 in
    let down_up = ap (λ n. down x * n) inner.0 in
    let down_down = ap (λ n. down x * n) inner.1 in
    let front = product_is x a in
    let front_up = ap (λ n. n * up b) front.0 in
    let front_down = ap (λ n. n * down b) front.0 in
    let back_up = ap (λ n. n * up b) front.1 in
    let back_down = ap (λ n. n * down b) front.1 in
    let left = product_is x (a *ℤ b) in
    let right = product_is (x *ℤ a) b in
    same_in (x *ℤ (a *ℤ b)) ((x *ℤ a) *ℤ b) (omega arith)

pub mul_swap : (x r d : ℤ) → x *ℤ (r *ℤ d) ≡ r *ℤ (x *ℤ d)
mul_swap x r d = mul_assoc x r d ∙ ap (λ z. z *ℤ d) (*ℤ_comm x r) ∙ sym (mul_assoc r x d)

pub mul-neg : (p k : ℤ) → p *ℤ neg_ℤ k ≡ neg_ℤ (p *ℤ k)
mul-neg p k =
    let sum = mul-add p k (neg_ℤ k) in
    let none : k +ℤ neg_ℤ k ≡ pos 0 = omega (arith, ints) in
    let nothing_is = ap (λ z. p *ℤ z) none in
    omega (arith, ints, product_is p (pos 0))

pub neg-mul : (r d : ℤ) → neg_ℤ r *ℤ d ≡ neg_ℤ (r *ℤ d)
neg-mul r d = *ℤ_comm (neg_ℤ r) d ∙ mul-neg d r ∙ ap neg_ℤ (*ℤ_comm d r)

pub neg-square : (r : ℤ) → neg_ℤ r *ℤ neg_ℤ r ≡ r *ℤ r
neg-square r = omega (arith, ints, neg-mul r (neg_ℤ r), mul-neg r r)

-- a factor of what is not 0 is not 0
pub below-positive : (by q n : ℕ) → by * q ≡ n → 0 < n → 0 < q
below-positive by zero n e positive = omega (arith, e, positive)
below-positive by (suc q) n e positive = omega arith

pub one-times : (z : ℤ) → pos 1 *ℤ z ≡ z
one-times z = omega (arith, ints)
