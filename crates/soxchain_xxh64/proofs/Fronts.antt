-- What a hasher has taken after one more piece of a reader.
use Rattle.std.proofs.Common.{◌≡◌, ℕ, ◌+◌, ◌-◌, ◌≤◌, List, ◌++◌, Option, length, take, subst, arith, append_assoc, length-append}
use Rattle.std.proofs.lemmas.List.{take-append-le, length-take-le}
use Rattle.std.proofs.KnownBytes.{Consumes-trans}
use Rattle.std.specs.Io.KnownBytes.{Consumes}
use Rattle.soxchain_xxh64.specs.Hashing.{Hashes}

-- the bytes before, and the first n of a buffer that goes on after the piece
pub hashed_more : {R H : Type 0} (remaining : R → Option (List ℕ)) (is_hash_of : List ℕ → H → Type 0) (first second third : R) (old middle new : H)
    (piece tail : List ℕ) (n left count : ℕ)
    → (bytes : List ℕ) × Consumes (remaining first) (remaining second) bytes × Hashes is_hash_of old middle bytes × (length bytes + left ≡ count)
    → n ≤ length piece → n ≤ left → Consumes (remaining second) (remaining third) (take n piece) → Hashes is_hash_of middle new (take n (piece ++ tail))
    → (bytes : List ℕ) × Consumes (remaining first) (remaining third) bytes × Hashes is_hash_of old new bytes × (length bytes + (left - n) ≡ count)
hashed_more remaining is_hash_of first second third old middle new piece tail n left count held within enough consumed hashed =
    let front = take n piece in
    let size = length-take-le n piece within in
    let taken : Hashes is_hash_of middle new front = subst (Hashes is_hash_of middle new) (take-append-le n piece tail within) hashed in (
      held.0 ++ front,
      Consumes-trans _ _ _ held.0 front held.1 consumed,
      λ before h. subst (λ bytes. is_hash_of bytes new) (append_assoc before held.0 front) (taken (before ++ held.0) (held.2 before h)),
      omega (arith, length-append held.0 front, held.3, size),
    )
