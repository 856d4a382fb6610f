-- How the steps of the hash follow the lists that they take.
use Rattle.std.proofs.Common.{◌≡◌, ℕ, ◌+◌, ◌<◌, ◌≤◌, List, [], ◌∷◌, length, get_or, take, drop, arith}
use Rattle.std.proofs.lemmas.Bool.Decides.{nat_tests}
use Rattle.std.proofs.lemmas.List.Sums.{fold_more}
use Rattle.std.specs.List.{fold}
use Rattle.byteorder.specs.Endian.{little_number}
use Rattle.soxchain_xxh64.specs.Xxh64.{round, take_stripe, take_four, take_one, take_end}

-- the last bytes are four or more
pub take_end_four : (hash h r : ℕ) (bytes four rest : List ℕ) → 4 ≤ length bytes → four ≡ take 4 bytes → rest ≡ drop 4 bytes
    → h ≡ take_four hash four → r ≡ fold take_one h rest → r ≡ take_end hash bytes
unfolding take_end
take_end_four hash h r bytes four rest long front back taken folded =
    let value : r ≡ fold take_one (take_four hash (take 4 bytes)) (drop 4 bytes) = cc in
    grind (arith, nat_tests)

-- the accumulators take one more stripe
pub take_stripe_more : (accumulators : List ℕ) (stripes : List (List ℕ)) (i a b c d first second third fourth : ℕ) (stripe : List ℕ)
    → a ∷ b ∷ c ∷ d ∷ [] ≡ fold take_stripe accumulators (take i stripes) → i < length stripes → stripe ≡ get_or stripes i []
    → first ≡ round a (little_number 8 stripe) → second ≡ round b (little_number 8 (drop 8 stripe))
    → third ≡ round c (little_number 8 (drop 16 stripe)) → fourth ≡ round d (little_number 8 (drop 24 stripe))
    → first ∷ second ∷ third ∷ fourth ∷ [] ≡ fold take_stripe accumulators (take (i + 1) stripes)
take_stripe_more accumulators stripes i a b c d first second third fourth stripe held within is p q r s =
    let more = fold_more take_stripe accumulators stripes i [] within in
    let taken : take_stripe (a ∷ b ∷ c ∷ d ∷ []) stripe ≡ first ∷ second ∷ third ∷ fourth ∷ [] = unfold take_stripe in cc in
    cc
