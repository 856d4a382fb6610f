-- A stream is standard, or the file of a name.
use Rattle.std.proofs.Common.{◌≡◌, ℕ, List, Option, Some, None, refl}

-- what follows of a stream in either case
pub of_stream : {X : Type 0} (name : Option (List ℕ)) → (name ≡ None → X) → ((word : List ℕ) → name ≡ Some word → X) → X
of_stream None standard named = standard refl
of_stream (Some word) standard named = named word refl
