-- The ending of a name.
use Rattle.std.proofs.Common.{◌≡◌, ℕ, Bool, List, map, ◌↔◌, IsTrue}
use Rattle.std.specs.Char.{to_ascii_lowercase}
use Rattle.std.specs.Str.{str_eq_ignore_ascii_case}
use Rattle.std.proofs.lemmas.Bool.Decides.{same_from_decides}
use Rattle.std.proofs.lemmas.Slice.Eq.{bytes_eq-Decides}

-- a test that holds exactly where the letters are the same but for their case
pub same_letters : (r : Bool) (a b : List ℕ) → (IsTrue r ↔ (map to_ascii_lowercase a ≡ map to_ascii_lowercase b)) → r ≡ str_eq_ignore_ascii_case a b
same_letters r a b test = same_from_decides r (str_eq_ignore_ascii_case a b) (test.0, test.1) (bytes_eq-Decides (map to_ascii_lowercase a) (map to_ascii_lowercase b))
