-- What a hasher takes of a reader.
use Rattle.std.specs.Prelude.{◌≡◌, ℕ, List, ◌++◌, length, IfOk, Option, Result}
use Rattle.std.specs.Io.KnownBytes.{Consumes}

-- of whatever bytes the hasher was the hash, it is that of those and these
abbrev pub Hashes : {H : Type 0} → (List ℕ → H → Type 0) → H → H → List ℕ → Type 0
Hashes is_hash_of old new bytes = (before : List ℕ) → is_hash_of before old → is_hash_of (before ++ bytes) new

-- the hasher has taken the very bytes that left the reader, as many as are answered
abbrev pub HashesConsumed : {R H E : Type 0} → (R → Option (List ℕ)) → (List ℕ → H → Type 0) → R → R → H → H → Result ℕ E → Type 0
HashesConsumed remaining is_hash_of reader reader_after hasher hasher_after result = (bytes : List ℕ)
    × Consumes (remaining reader) (remaining reader_after) bytes × Hashes is_hash_of hasher hasher_after bytes
    × IfOk result (λ count. length bytes ≡ count)
