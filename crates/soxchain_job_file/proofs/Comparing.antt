-- What the comparison of two identities says.
use Rattle.std.proofs.Common.{◌≡◌, ℕ, Bool, true, false, not, ◌&&◌, eqb, int_eq, List, [], ◌∷◌, map, String, Global, string_bytes, refl, ap, sym, ◌∙◌}
use Rattle.std.proofs.lemmas.Bool.{and_parts, and_from, false≢true}
use Rattle.std.proofs.lemmas.Slice.Eq.{bytes_eq-Decides, slice_eq-Decides}
use Rattle.std.proofs.lemmas.Bool.Decides.{Decides-eqb, Decides-int_eq}
use Rattle.std.specs.Cmp.Lexicographic.{pointwise}
use Rattle.std.specs.String.{string_eq}
use Rattle.soxchain_job_file.specs.JobBytes.{IdentityValue}
use Rattle.soxchain_job_file.specs.declared.identity.Stamp.{Stamp}

-- a test that is not true
not-false : (b : Bool) → not b ≡ false → b ≡ true
not-false true h = refl
not-false false h = absurd (false≢true (sym h))

-- texts that compare as equal have the same bytes
same_texts : (xs ys : List (String Global)) → pointwise string_eq xs ys ≡ true → map string_bytes xs ≡ map string_bytes ys
same_texts [] [] same = refl
same_texts [] (y ∷ ys) same = absurd (false≢true same)
same_texts (x ∷ xs) [] same = absurd (false≢true same)
same_texts (x ∷ xs) (y ∷ ys) same =
    let parts = and_parts (string_eq x y) (pointwise string_eq xs ys) same in
    let first = (bytes_eq-Decides (string_bytes x) (string_bytes y)).0 parts.0 in
    let rest = same_texts xs ys parts.1 in cc

-- and the other way
equal_texts : (xs ys : List (String Global)) → map string_bytes xs ≡ map string_bytes ys → pointwise string_eq xs ys ≡ true
equal_texts [] [] same = refl
equal_texts [] (y ∷ ys) same = absurd (cc)
equal_texts (x ∷ xs) [] same = absurd (cc)
equal_texts (x ∷ xs) (y ∷ ys) same =
    let first : string_bytes x ≡ string_bytes y = cc in
    let rest : map string_bytes xs ≡ map string_bytes ys = cc in
    and_from (string_eq x y) (pointwise string_eq xs ys) ((bytes_eq-Decides (string_bytes x) (string_bytes y)).1 first) (equal_texts xs ys rest)

pub words_equal : (xs ys : List (String Global)) (differ : Bool) → differ ≡ not (pointwise string_eq xs ys) → differ ≡ false → map string_bytes xs ≡ map string_bytes ys
words_equal xs ys differ is none = same_texts xs ys (not-false _ (sym is ∙ none))

pub words_differ : (xs ys : List (String Global)) (differ : Bool) → differ ≡ not (pointwise string_eq xs ys) → differ ≡ true → map string_bytes xs ≡ map string_bytes ys → ⊥
words_differ xs ys differ is some same = false≢true (sym (ap not (equal_texts xs ys same)) ∙ sym is ∙ some)

pub files_equal : (xs ys : List ℕ) (differ : Bool) → differ ≡ not (pointwise eqb xs ys) → differ ≡ false → xs ≡ ys
files_equal xs ys differ is none = (slice_eq-Decides Decides-eqb xs ys (pointwise eqb xs ys) refl).0 (not-false _ (sym is ∙ none))

pub files_differ : (xs ys : List ℕ) (differ : Bool) → differ ≡ not (pointwise eqb xs ys) → differ ≡ true → xs ≡ ys → ⊥
files_differ xs ys differ is some same = false≢true (sym (ap not ((slice_eq-Decides Decides-eqb xs ys (pointwise eqb xs ys) refl).1 same)) ∙ sym is ∙ some)

-- two moments are tested number by number
abbrev stamp_test : Stamp → Stamp → Bool
stamp_test one other = int_eq one.seconds other.seconds && eqb one.nanoseconds other.nanoseconds

pub stamps_equal : (one other : Stamp) (differ : Bool) → differ ≡ not (stamp_test one other) → differ ≡ false → one ≡ other
stamps_equal one other differ is none =
    let parts = and_parts (int_eq one.seconds other.seconds) (eqb one.nanoseconds other.nanoseconds) (not-false _ (sym is ∙ none)) in
    let seconds : one.seconds ≡ other.seconds = (Decides-int_eq one.seconds other.seconds).0 parts.0 in
    let nanoseconds : one.nanoseconds ≡ other.nanoseconds = (Decides-eqb one.nanoseconds other.nanoseconds).0 parts.1 in
    λ i. record { seconds = seconds i; nanoseconds = nanoseconds i }

pub stamps_differ : (one other : Stamp) (differ : Bool) → differ ≡ not (stamp_test one other) → differ ≡ true → one ≡ other → ⊥
stamps_differ one other differ is some same =
    let both = and_from (int_eq one.seconds other.seconds) (eqb one.nanoseconds other.nanoseconds)
    ((Decides-int_eq one.seconds other.seconds).1 (ap (λ s. s.seconds) same)) ((Decides-eqb one.nanoseconds other.nanoseconds).1 (ap (λ s. s.nanoseconds) same)) in
    false≢true (sym (ap not both) ∙ sym is ∙ some)

-- identities with equal members
pub identities_equal : (one other : IdentityValue) → one.words ≡ other.words → one.files ≡ other.files → one.size ≡ other.size → one.modified ≡ other.modified → one ≡ other
identities_equal one other words files size modified = λ i. record { words = words i; files = files i; size = size i; modified = modified i }
