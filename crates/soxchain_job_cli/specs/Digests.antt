-- What a conversion is frozen to, or what is recorded of it, with digests after it.
use Rattle.std.specs.Prelude.{◌≡◌, ◌++◌, ℕ, List, length}

-- these bytes are some that P holds of, and then so many more
pub record HasDigests (size : ℕ) (P : List ℕ → Type 0) (bytes : List ℕ) : Type 0 where
  pub inner : List ℕ
  pub digests : List ℕ
  pub holds : P inner
  pub both : length digests ≡ size
  pub bytes_are : bytes ≡ inner ++ digests

-- so many bytes were appended
pub record Appends (size : ℕ) (before after : List ℕ) : Type 0 where
  pub digests : List ℕ
  pub count : length digests ≡ size
  pub appended : after ≡ before ++ digests
