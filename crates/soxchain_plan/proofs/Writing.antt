-- What writes one after another append.
use Rattle.std.proofs.Common.{ℕ, List, ◌++◌, OnOk, Option, Result, Ok, Err, ◌≡◌, subst}
use Rattle.std.proofs.KnownBytes.{Appends-trans}
use Rattle.std.specs.Io.KnownBytes.{Appends}

-- a write after another one, of which the text is both their texts
pub appends_both : (a b c : Option (List ℕ)) (first second text : List ℕ) → first ++ second ≡ text → Appends a b first → Appends b c second → Appends a c text
appends_both a b c first second text e p q = subst (Appends a c) e (Appends-trans a b c first second p q)

-- the same where the second one may fail
pub appends_then : {X E : Type 0} (a b c : Option (List ℕ)) (first second text : List ℕ) (result : Result X E) → first ++ second ≡ text → Appends a b first → OnOk result (Appends b c second) → OnOk result (Appends a c text)
appends_then a b c first second text (Ok x) e p q = appends_both a b c first second text e p q
appends_then a b c first second text (Err x) e p q = tt
