-- What an output has written, and what is pending.
use Rattle.std.specs.Prelude.{◌≡◌, ℕ, ◌+◌, ◌≤◌, IsOk, List, ◌++◌, length, take, drop, Option, Result}
use Rattle.std.specs.Io.KnownBytes.{Appends}

-- pending bytes, how many were written, and how many more there is space for
pub record Pending : Type 0 where
  pub bytes : List ℕ
  pub written : ℕ
  pub free : ℕ

-- of all these bytes the writer took the first since it had `first`, and the others are pending
pub record Sent (first now : Option (List ℕ)) (out : Pending) (all : List ℕ) : Type 0 where
  pub within : out.written ≤ length all
  pub taken : Appends first now (take out.written all)
  pub waiting : out.bytes ≡ drop out.written all

-- what is to be sent is unchanged
abbrev pub SendsOn : Option (List ℕ) → Option (List ℕ) → Pending → Pending → Type 0
SendsOn now new_now out new_out = (first : Option (List ℕ)) (all : List ℕ) → Sent first now out all → Sent first new_now new_out all

-- a call returned, and did nothing to the writer and the pending bytes
abbrev pub SendsNothing : {X E W : Type 0} → Result X E → W → W → Pending → Pending → Type 0
SendsNothing result writer new_writer out new_out = IsOk result × (new_writer ≡ writer) × (new_out ≡ out)

-- these bytes are appended to what is to be sent
abbrev pub SendsMore : Option (List ℕ) → Option (List ℕ) → Pending → Pending → List ℕ → Type 0
SendsMore now new_now out new_out bytes = (first : Option (List ℕ)) (all : List ℕ) → Sent first now out all → Sent first new_now new_out (all ++ bytes)

-- the first `count` of these bytes, and none of the others, are appended to what is to be sent
pub record SendsPart (now new_now : Option (List ℕ)) (out new_out : Pending) (bytes : List ℕ) : Type 0 where
  pub count : ℕ
  pub within : count ≤ length bytes
  pub sends : SendsMore now new_now out new_out (take count bytes)

-- how many bytes were ever to be sent
abbrev pub bytes_put : Pending → ℕ
bytes_put out = out.written + length out.bytes
