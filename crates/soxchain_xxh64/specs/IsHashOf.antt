-- What the state of a hash says of the bytes that it has taken.
use Rattle.std.specs.Prelude.{◌≡◌, ℕ, ◌%◌, ◌^◌, List, length, take, nat_le}
use Rattle.soxchain_xxh64.specs.Xxh64.{accumulators_of, remaining_bytes}
use Rattle.soxchain_xxh64.specs.declared.state.Xxh64.{Xxh64}

-- the state has taken these bytes
pub record IsHashOf (bytes : List ℕ) (state : Xxh64) : Type 0 where
  pub accumulators_are : state.accumulators ≡ accumulators_of bytes
  pub pending_are : take (length bytes % 32) state.pending ≡ remaining_bytes bytes
  pub length_is : state.length ≡ length bytes % 2 ^ 64
  pub has_stripe_is : state.has_stripe ≡ nat_le 32 (length bytes)
