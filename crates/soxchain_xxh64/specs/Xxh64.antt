-- XXH64 with seed 0, as "xxHash fast digest algorithm", the public specification of Yann Collet, describes it: steps 1 to 6 of its
-- section XXH64. A word is a number below 2 ^ 64, sums and products of words are taken modulo 2 ^ 64, and the lowest byte comes first.
use Rattle.std.specs.Prelude.{ℕ, ◌+◌, ◌-◌, ◌*◌, ◌/◌, ◌%◌, ◌^◌, List, [], ◌∷◌, length, take, drop, slice_index, bit_xor, nat_le, nat_lt, if◌then◌else◌}
use Rattle.std.specs.Int.{w64, rotate_left}
use Rattle.std.specs.List.{fold}
use Rattle.std.specs.Simd.{first_chunks}
use Rattle.byteorder.specs.Endian.{little_number}

abbrev pub prime_1 : ℕ
prime_1 = 0x9E3779B185EBCA87

abbrev pub prime_2 : ℕ
prime_2 = 0xC2B2AE3D27D4EB4F

abbrev pub prime_3 : ℕ
prime_3 = 0x165667B19E3779F9

abbrev pub prime_4 : ℕ
prime_4 = 0x85EBCA77C2B2AE63

abbrev pub prime_5 : ℕ
prime_5 = 0x27D4EB2F165667C5

abbrev pub word_sum : ℕ → ℕ → ℕ
word_sum x y = (x + y) % 2 ^ 64

abbrev pub word_product : ℕ → ℕ → ℕ
word_product x y = x * y % 2 ^ 64

-- an accumulator takes a lane
unfoldable pub round : ℕ → ℕ → ℕ
round accumulator lane = word_product (rotate_left w64 (word_sum accumulator (word_product lane prime_2)) 31) prime_1

-- step 1: the four accumulators before the first stripe
abbrev pub initial_accumulators : List ℕ
initial_accumulators = word_sum prime_1 prime_2 ∷ prime_2 ∷ 0 ∷ (2 ^ 64 - prime_1) ∷ []

-- step 2: each accumulator takes its lane of a stripe of 32 bytes
unfoldable pub take_stripe : List ℕ → List ℕ → List ℕ
take_stripe accumulators stripe =
    round (slice_index accumulators 0) (little_number 8 stripe)
    ∷ round (slice_index accumulators 1) (little_number 8 (drop 8 stripe))
    ∷ round (slice_index accumulators 2) (little_number 8 (drop 16 stripe))
    ∷ round (slice_index accumulators 3) (little_number 8 (drop 24 stripe)) ∷ []

-- the four accumulators after each whole stripe
unfoldable pub accumulators_of : List ℕ → List ℕ
accumulators_of bytes = fold take_stripe initial_accumulators (first_chunks 32 (length bytes / 32) bytes)

-- the bytes after the last whole stripe
abbrev pub remaining_bytes : List ℕ → List ℕ
remaining_bytes bytes = drop (length bytes / 32 * 32) bytes

-- step 3: an accumulator is merged into the hash
unfoldable pub merge : ℕ → ℕ → ℕ
merge hash accumulator = word_sum (word_product (bit_xor hash (round 0 accumulator)) prime_1) prime_4

-- all four are
unfoldable pub converge : List ℕ → ℕ
converge accumulators =
    let first = rotate_left w64 (slice_index accumulators 0) 1 in
    let second = rotate_left w64 (slice_index accumulators 1) 7 in
    let third = rotate_left w64 (slice_index accumulators 2) 12 in
    let fourth = rotate_left w64 (slice_index accumulators 3) 18 in
    fold merge (word_sum (word_sum (word_sum first second) third) fourth) accumulators

-- the hash before step 4; without a whole stripe it is the prime alone
unfoldable pub converged : List ℕ → ℕ
converged bytes = if nat_le 32 (length bytes) then converge (accumulators_of bytes) else prime_5

-- step 5: the hash takes eight, four, or one of the bytes that remain
unfoldable pub take_eight : ℕ → List ℕ → ℕ
take_eight hash bytes = word_sum (word_product (rotate_left w64 (bit_xor hash (round 0 (little_number 8 bytes))) 27) prime_1) prime_4

unfoldable pub take_four : ℕ → List ℕ → ℕ
take_four hash bytes =
    word_sum (word_product (rotate_left w64 (bit_xor hash (word_product (little_number 4 bytes) prime_1)) 23) prime_2) prime_3

unfoldable pub take_one : ℕ → ℕ → ℕ
take_one hash byte = word_product (rotate_left w64 (bit_xor hash (word_product byte prime_5)) 11) prime_1

-- it takes these fewer than eight, four at once where there are four
unfoldable pub take_end : ℕ → List ℕ → ℕ
take_end hash bytes = if nat_lt (length bytes) 4 then fold take_one hash bytes else fold take_one (take_four hash (take 4 bytes)) (drop 4 bytes)

-- it takes all of them, eight at once while there are eight
unfoldable pub take_remaining : ℕ → List ℕ → ℕ
take_remaining hash bytes =
    take_end (fold take_eight hash (first_chunks 8 (length bytes / 8) bytes)) (drop (length bytes / 8 * 8) bytes)

-- step 6
unfoldable pub avalanche : ℕ → ℕ
avalanche hash =
    let first = word_product (bit_xor hash (hash / 2 ^ 33)) prime_2 in
    let second = word_product (bit_xor first (first / 2 ^ 29)) prime_3 in
    bit_xor second (second / 2 ^ 32)

-- the hash of these bytes; step 4 adds how many there are
unfoldable pub xxh64 : List ℕ → ℕ
xxh64 bytes = avalanche (take_remaining (word_sum (converged bytes) (length bytes)) (remaining_bytes bytes))
