-- As many whole frames as two blocks of samples both have.
use Rattle.std.proofs.Common.{ℕ, ◌≡◌, ◌+◌, ◌*◌, ◌/◌, ◌<◌, ◌≤◌, min, arith}
use Rattle.std.proofs.Math.Nat.{div-mul-le_self, lt-div-mul-add, mul-le-mul_right}
use Rattle.std.proofs.lemmas.Nat.{le-div}

pub both-have : (read free inputs outputs count : ℕ) → count ≡ min (read / inputs) (free / outputs) → (count * inputs ≤ read) × (count * outputs ≤ free)
both-have read free inputs outputs count is =
    let read_fits : read / inputs * inputs ≤ read = div-mul-le_self read inputs in
    let free_fits : free / outputs * outputs ≤ free = div-mul-le_self free outputs in
    let less : count * inputs ≤ read / inputs * inputs = mul-le-mul_right inputs (omega (arith, is)) in
    let bound : count * outputs ≤ free / outputs * outputs = mul-le-mul_right outputs (omega (arith, is)) in
    (omega (arith, read_fits, less), omega (arith, free_fits, bound))

-- where there is room for one more, the other has no more
pub no-more : (read free inputs outputs count : ℕ) → 0 < inputs → 0 < outputs → count ≡ min (read / inputs) (free / outputs) → count * outputs + outputs ≤ free → read < count * inputs + inputs
no-more read free inputs outputs count some wide is left =
    let more : count + 1 ≤ free / outputs = le-div (count + 1) free outputs wide (omega (arith, left)) in
    let all : count ≡ read / inputs = omega (arith, is, more) in
    rw all (lt-div-mul-add some)
