-- How the values that bytes begin with are found one after the other.
use Rattle.std.proofs.Common.{◌≡◌, ℕ, ◌+◌, ◌-◌, ◌^◌, ◌<◌, ◌≤◌, List, [], ◌∷◌, ◌++◌, length, get_or, take, drop, flat_map, All, refl, ap, sym, subst, ◌∙◌, arith, Fits, w8, ⊎_elim, Option, Some, None, Result, Ok, Err, IfOk, MatchOption, append-nil, append_assoc, length-append}
use Rattle.std.proofs.lemmas.List.{take-append-drop, take_at, drop_at, nil_from_length, append_cancel_left, length-take-le, length-take, length-drop, get_or-take, get_or-drop, get_or_past}
use Rattle.std.proofs.lemmas.Bool.{cases_lt}
use Rattle.std.proofs.lemmas.List.Concat.{flat_map-append}
use Rattle.std.proofs.lemmas.List.Elements.{All-head, All-tail, All-push, All-nil}
use Rattle.std.proofs.Math.Facts.{Fits-of_z}
use Rattle.std.proofs.lemmas.Int.{to_z-of_z}
use Rattle.std.proofs.lemmas.Nat.{le_bytes_8}
use Rattle.std.specs.Int.{w64, cast_unsigned, cast_signed}
use Rattle.std.specs.Str.{IsUtf8}
use Rattle.byteorder.specs.Endian.{little_number}
use Rattle.byteorder.specs.Numbers.{little_number-reads_back}
use Rattle.soxchain_job_file.specs.JobBytes.{FitsIdentity, FitsJob, FitsList, FitsRuns, FitsStamp, FitsText, FitsWord, IdentityValue, JobValue, front_bytes, head_bytes, identity_bytes, job_bytes, list_bytes, first_line, runs_bytes, sealed, stamp_bytes, text_bytes, word_bytes}
use Rattle.soxchain_xxh64.specs.Xxh64.{xxh64}
use Rattle.soxchain_job_file.specs.declared.identity.Runs.{Runs}
use Rattle.soxchain_job_file.specs.declared.identity.Stamp.{Stamp}
use Rattle.soxchain_job_file.specs.Splits.{Lacks, SoMany, Splits}

-- bytes begin with those of one value at most
abbrev pub IsInjective : {X : Type 0} → (X → List ℕ) → (X → Type 0) → Type 0
IsInjective {X = X} to_bytes Fits =
    (x y : X) (rest others : List ℕ) → Fits x → Fits y → to_bytes x ++ rest ≡ to_bytes y ++ others → (x ≡ y) × (rest ≡ others)

-- ---- a number

pub word_bytes-injective : IsInjective word_bytes FitsWord
unfolding word_bytes
word_bytes-injective x y rest others fits fits' same =
    (sym (little_number-reads_back 8 x rest fits) ∙ ap (little_number 8) same ∙ little_number-reads_back 8 y others fits', ap (drop 8) same)

-- there are eight
pub length-word_bytes : (number : ℕ) → length (word_bytes number) ≡ 8
unfolding word_bytes
length-word_bytes number = refl

-- eight bytes are those of the number that they are read as
pub word_bytes-number : (word : List ℕ) → length word ≡ 8 → ((i : ℕ) → get_or word i 0 < 256) → word_bytes (little_number 8 word) ≡ word
unfolding word_bytes
word_bytes-number word size bytes = le_bytes_8 word (little_number 8 word) size bytes (omega arith)

-- a byte at any place of the first n
byte-take : (n : ℕ) (bytes : List ℕ) → ((i : ℕ) → Fits w8 (get_or bytes i 0)) → (i : ℕ) → get_or (take n bytes) i 0 < 256
byte-take n bytes fit i =
    ⊎_elim (λ h. let same = get_or-take n bytes i 0 h in omega (arith, same, fit i))
    (λ h. let none = get_or_past (take n bytes) i 0 (omega (arith, length-take n bytes)) in omega (arith, none)) (cases_lt i n)

pub word_found : (bytes word rest : List ℕ) (number : ℕ) → 8 ≤ length bytes → ((i : ℕ) → Fits w8 (get_or bytes i 0)) → word ≡ take 8 bytes → rest ≡ drop 8 bytes
    → number ≡ little_number 8 word → FitsWord number → Splits word_bytes FitsWord bytes number rest
word_found bytes word rest number long fit front back value small =
    let size : length word ≡ 8 = ap length front ∙ length-take-le 8 bytes long in
    let written : word_bytes number ≡ word = ap word_bytes value ∙ word_bytes-number word size (subst (λ xs. (i : ℕ) → get_or xs i 0 < 256) (sym front) (byte-take 8 bytes fit)) in
    (small, sym (take-append-drop 8 bytes) ∙ ap (λ xs. xs ++ drop 8 bytes) (sym front) ∙ ap (λ xs. word ++ xs) (sym back) ∙ ap (λ xs. xs ++ rest) (sym written))

pub word_lacks : (bytes : List ℕ) → length bytes < 8 → Lacks word_bytes FitsWord bytes
word_lacks bytes short number rest fits same = omega (arith, ap length same, length-append (word_bytes number) rest, length-word_bytes number)

-- a number is read back
pub number-word_bytes : (number : ℕ) → FitsWord number → little_number 8 (word_bytes number) ≡ number
unfolding word_bytes
number-word_bytes number fits = ap (little_number 8) (sym (append-nil (word_bytes number))) ∙ little_number-reads_back 8 number [] fits

-- ---- bytes before their hash

pub seal_short : (bytes : List ℕ) → length bytes < 8 → (front : List ℕ) → bytes ≡ sealed front → ⊥
seal_short bytes short front same = omega (arith, ap length same, length-append front (word_bytes (xxh64 front)), length-word_bytes (xxh64 front))

module _ (bytes front hash : List ℕ) (first : front ≡ take (length bytes - 8) bytes) (last : hash ≡ drop (length bytes - 8) bytes) (number : ℕ)
    (read : number ≡ little_number 8 hash) where
  pub seal_found : 8 ≤ length bytes → ((i : ℕ) → Fits w8 (get_or bytes i 0)) → number ≡ xxh64 front → bytes ≡ sealed front
  seal_found long fit same =
      let size : length hash ≡ 8 = ap length last ∙ omega (arith, length-drop (length bytes - 8) bytes) in
      let fits : (i : ℕ) → get_or hash i 0 < 256 = λ i. let at = get_or-drop (length bytes - 8) bytes i 0 in omega (arith, ap (λ xs. get_or xs i 0) last, at, fit (length bytes - 8 + i)) in
      let written : hash ≡ word_bytes (xxh64 front) = sym (word_bytes-number hash size fits) ∙ ap word_bytes (sym read ∙ same) in
      sym (take-append-drop (length bytes - 8) bytes) ∙ ap (λ xs. xs ++ drop (length bytes - 8) bytes) (sym first) ∙ ap (λ xs. front ++ xs) (sym last ∙ written)

  pub seal_other : (value : ℕ) → value ≡ xxh64 front → FitsWord value → (number ≡ value → ⊥) → (other : List ℕ) → bytes ≡ sealed other → ⊥
  seal_other value is fits differs other same =
      let size = length-word_bytes (xxh64 other) in
      let at : length bytes - 8 ≡ length other = omega (arith, ap length same, length-append other (word_bytes (xxh64 other)), size) in
      let fronts : front ≡ other = first ∙ ap (λ n. take n bytes) at ∙ ap (take (length other)) same ∙ take_at other (word_bytes (xxh64 other)) (length other) refl in
      let ends : hash ≡ word_bytes (xxh64 other) = last ∙ ap (λ n. drop n bytes) at ∙ ap (drop (length other)) same ∙ drop_at other (word_bytes (xxh64 other)) (length other) refl in
      let back : value ≡ xxh64 other = is ∙ ap xxh64 fronts in
      differs (read ∙ ap (little_number 8) ends ∙ number-word_bytes (xxh64 other) (subst FitsWord back fits) ∙ sym back)

-- the bytes before a hash follow from all
pub sealed-injective : (front other : List ℕ) → sealed front ≡ sealed other → front ≡ other
sealed-injective front other same =
    let sizes : length front ≡ length other =
    omega (arith, ap length same, length-append front (word_bytes (xxh64 front)), length-append other (word_bytes (xxh64 other)), length-word_bytes (xxh64 front), length-word_bytes (xxh64 other)) in
    sym (take_at front (word_bytes (xxh64 front)) (length front) refl) ∙ ap (take (length front)) same ∙ take_at other (word_bytes (xxh64 other)) (length front) (sym sizes)

-- ---- two values, one after the other

abbrev pub both : {X Y : Type 0} → (X → List ℕ) → (Y → List ℕ) → X × Y → List ℕ
both first second values = first values.0 ++ second values.1

abbrev pub FitBoth : {X Y : Type 0} → (X → Type 0) → (Y → Type 0) → X × Y → Type 0
FitBoth First Second values = First values.0 × Second values.1

module _ {X Y : Type 0} (first : X → List ℕ) (second : Y → List ℕ) (First : X → Type 0) (Second : Y → Type 0) where
  pub both-injective : IsInjective first First → IsInjective second Second → IsInjective (both first second) (FitBoth First Second)
  both-injective one two x y rest others fits fits' same =
      let split = one x.0 y.0 (second x.1 ++ rest) (second y.1 ++ others) fits.0 fits'.0
      (sym (append_assoc (first x.0) (second x.1) rest) ∙ same ∙ append_assoc (first y.0) (second y.1) others) in
      let split' = two x.1 y.1 rest others fits.1 fits'.1 split.1 in
      (both_equal split.0 split'.0, split'.1)
    where
      both_equal : {a b : X} {c d : Y} → a ≡ b → c ≡ d → (let p : X × Y = (a, c) in p) ≡ (b, d)
      both_equal p q = cc

  pub both_found : (bytes middle rest : List ℕ) (x : X) (y : Y) → Splits first First bytes x middle → Splits second Second middle y rest
      → Splits (both first second) (FitBoth First Second) bytes (x, y) rest
  both_found bytes middle rest x y one two =
      ((one.0, two.0), one.1 ∙ ap (λ xs. first x ++ xs) two.1 ∙ sym (append_assoc (first x) (second y) rest))

  pub both_lack_first : (bytes : List ℕ) → Lacks first First bytes → Lacks (both first second) (FitBoth First Second) bytes
  both_lack_first bytes lacks value rest fits same = lacks value.0 (second value.1 ++ rest) fits.0 (same ∙ append_assoc (first value.0) (second value.1) rest)

  pub both_lack_second : (bytes middle : List ℕ) (x : X) → IsInjective first First → Splits first First bytes x middle → Lacks second Second middle
      → Lacks (both first second) (FitBoth First Second) bytes
  both_lack_second bytes middle x one split lacks value rest fits same =
      let parts = one x value.0 middle (second value.1 ++ rest) split.0 fits.0 (sym split.1 ∙ same ∙ append_assoc (first value.0) (second value.1) rest) in
      lacks value.1 rest fits.1 parts.1

-- ---- a text

module _ (bytes after : List ℕ) (size : ℕ) (split : Splits word_bytes FitsWord bytes size after) where
  -- a text that the bytes begin with is what follows its size
  text_is : (text rest : List ℕ) → FitsText text → bytes ≡ text_bytes text ++ rest → (size ≡ length text) × (after ≡ text ++ rest)
  text_is text rest fits same =
      word_bytes-injective size (length text) after (text ++ rest) split.0 fits.0 (sym split.1 ∙ same ∙ append_assoc (word_bytes (length text)) text rest)

  pub text_lacks_bytes : length after < size → Lacks text_bytes FitsText bytes
  text_lacks_bytes short text rest fits same =
      let parts = text_is text rest fits same in omega (arith, parts.0, ap length parts.1, length-append text rest)

  pub text_lacks_utf8 : (text : List ℕ) → text ≡ take size after → ¬ (IsUtf8 text) → Lacks text_bytes FitsText bytes
  text_lacks_utf8 text front invalid other rest fits same =
      let parts = text_is other rest fits same in
      let is : text ≡ other = front ∙ ap (take size) parts.1 ∙ take_at other rest size (sym parts.0) in
      invalid (subst IsUtf8 (sym is) fits.1)

  pub text_found : (text rest : List ℕ) → size ≤ length after → text ≡ take size after → rest ≡ drop size after → IsUtf8 text → Splits text_bytes FitsText bytes text rest
  text_found text rest long front back valid =
      let whole : length text ≡ size = ap length front ∙ length-take-le size after long in
      let joined : after ≡ text ++ rest = sym (take-append-drop size after) ∙ ap (λ xs. xs ++ drop size after) (sym front) ∙ ap (λ xs. text ++ xs) (sym back) in (
        (subst FitsWord (sym whole) split.0, valid),
        split.1 ∙ ap (λ xs. word_bytes size ++ xs) joined ∙ ap (λ n. word_bytes n ++ (text ++ rest)) (sym whole) ∙ sym (append_assoc (word_bytes (length text)) text rest),
      )

-- ---- so many values

module _ {X : Type 0} (to_bytes : X → List ℕ) (Fits : X → Type 0) where
  pub many_none : (bytes : List ℕ) → Splits (flat_map to_bytes) (SoMany Fits 0) bytes [] bytes
  many_none bytes = ((refl, All-nil Fits), refl)

  pub many_more : (bytes middle rest : List ℕ) (count : ℕ) (items : List X) (item : X) → Splits (flat_map to_bytes) (SoMany Fits count) bytes items middle
      → Splits to_bytes Fits middle item rest → Splits (flat_map to_bytes) (SoMany Fits (count + 1)) bytes (items ++ item ∷ []) rest
  many_more bytes middle rest count items item split one = (
    (omega (arith, length-append items (item ∷ []), split.0.0), All-push Fits items item split.0.1 one.0),
    split.1 ∙ ap (λ xs. flat_map to_bytes items ++ xs) one.1 ∙ sym (append_assoc (flat_map to_bytes items) (to_bytes item) rest)
        ∙ ap (λ xs. xs ++ rest) (ap (λ xs. flat_map to_bytes items ++ xs) (sym (append-nil (to_bytes item))) ∙ sym (flat_map-append to_bytes items (item ∷ []))),
  )

  -- what follows fewer values are the bytes of the values that are left
  left_after : IsInjective to_bytes Fits → (items others : List X) (rest end : List ℕ) → length items ≤ length others → All Fits items → All Fits others
      → flat_map to_bytes items ++ rest ≡ flat_map to_bytes others ++ end → (left : List X) × (others ≡ items ++ left) × (rest ≡ flat_map to_bytes left ++ end)
  left_after one [] others rest end short fits fits' same = (others, refl, same)
  left_after one (x ∷ xs) [] rest end short fits fits' same = absurd (omega arith)
  left_after one (x ∷ xs) (y ∷ ys) rest end short fits fits' same =
      let parts = one x y (flat_map to_bytes xs ++ rest) (flat_map to_bytes ys ++ end) (All-head Fits x xs fits) (All-head Fits y ys fits')
      (sym (append_assoc (to_bytes x) (flat_map to_bytes xs) rest) ∙ same ∙ append_assoc (to_bytes y) (flat_map to_bytes ys) end) in
      let more = left_after one xs ys rest end (omega arith) (All-tail Fits x xs fits) (All-tail Fits y ys fits') parts.1 in
      (more.0, ap (λ z. z ∷ ys) (sym parts.0) ∙ ap (λ zs. x ∷ zs) more.1, more.2)

  -- no value follows fewer than wanted
  pub many_lack : IsInjective to_bytes Fits → (bytes middle : List ℕ) (had count : ℕ) (items : List X) → had < count
      → Splits (flat_map to_bytes) (SoMany Fits had) bytes items middle → Lacks to_bytes Fits middle → Lacks (flat_map to_bytes) (SoMany Fits count) bytes
  many_lack one bytes middle had count items short split lacks others end fits same =
      let left = left_after one items others middle end (omega (arith, split.0.0, fits.0)) split.0.1 fits.1 (sym split.1 ∙ same) in
      lack_rest left.0 (omega (arith, ap length left.1, length-append items left.0, split.0.0, fits.0)) (All-part items left.0 (subst (All Fits) left.1 fits.1)) left.2
    where
      All-part : (xs ys : List X) → All Fits (xs ++ ys) → All Fits ys
      All-part [] ys all = all
      All-part (x ∷ xs) ys all = All-part xs ys (All-tail Fits x (xs ++ ys) all)

      lack_rest : (left : List X) → 0 < length left → All Fits left → middle ≡ flat_map to_bytes left ++ end → ⊥
      lack_rest [] some all is = omega arith
      lack_rest (x ∷ xs) some all is =
          lacks x (flat_map to_bytes xs ++ end) (All-head Fits x xs all) (is ∙ append_assoc (to_bytes x) (flat_map to_bytes xs) end)

  pub many-injective : IsInjective to_bytes Fits → (count : ℕ) → IsInjective (flat_map to_bytes) (SoMany Fits count)
  many-injective one count items others rest end fits fits' same =
      let left = left_after one items others rest end (omega (arith, fits.0, fits'.0)) fits.1 fits'.1 same in
      let none : left.0 ≡ [] = nil_from_length left.0 (omega (arith, ap length left.1, length-append items left.0, fits.0, fits'.0)) in
      (sym (append-nil items) ∙ ap (λ xs. items ++ xs) (sym none) ∙ sym left.1, left.2 ∙ ap (λ xs. flat_map to_bytes xs ++ end) none)

  -- ---- a list after its count

  pub list_lacks : (bytes after : List ℕ) (count : ℕ) → Splits word_bytes FitsWord bytes count after
      → Lacks (flat_map to_bytes) (SoMany Fits count) after → Lacks (list_bytes to_bytes) (FitsList Fits) bytes
  list_lacks bytes after count split lacks items rest fits same =
      let parts = word_bytes-injective count (length items) after (flat_map to_bytes items ++ rest) split.0 fits.0
      (sym split.1 ∙ same ∙ append_assoc (word_bytes (length items)) (flat_map to_bytes items) rest) in
      lacks items rest (sym parts.0, fits.1) parts.1

  pub list_lacks_count : (bytes : List ℕ) → Lacks word_bytes FitsWord bytes → Lacks (list_bytes to_bytes) (FitsList Fits) bytes
  list_lacks_count bytes lacks items rest fits same =
      lacks (length items) (flat_map to_bytes items ++ rest) fits.0 (same ∙ append_assoc (word_bytes (length items)) (flat_map to_bytes items) rest)

  pub list_found : (bytes after rest : List ℕ) (count : ℕ) (items : List X) → Splits word_bytes FitsWord bytes count after
      → Splits (flat_map to_bytes) (SoMany Fits count) after items rest → Splits (list_bytes to_bytes) (FitsList Fits) bytes items rest
  list_found bytes after rest count items split many = (
    (subst FitsWord (sym many.0.0) split.0, many.0.1),
    split.1 ∙ ap (λ xs. word_bytes count ++ xs) many.1 ∙ ap (λ n. word_bytes n ++ (flat_map to_bytes items ++ rest)) (sym many.0.0)
        ∙ sym (append_assoc (word_bytes (length items)) (flat_map to_bytes items) rest),
  )

  -- what is known of the values after a count is known of the list
  pub list_result : {Pair E : Type 0} (items : Pair → List X) (rest : Pair → List ℕ) (bytes after : List ℕ) (count : ℕ) (result : Result (Option Pair) E)
      → Splits word_bytes FitsWord bytes count after
      → IfOk result (λ found. MatchOption found (Lacks (flat_map to_bytes) (SoMany Fits count) after)
      (λ split. Splits (flat_map to_bytes) (SoMany Fits count) after (items split) (rest split)))
      → IfOk result (λ found. MatchOption found (Lacks (list_bytes to_bytes) (FitsList Fits) bytes)
      (λ split. Splits (list_bytes to_bytes) (FitsList Fits) bytes (items split) (rest split)))
  list_result items rest bytes after count (Err e) split known = tt
  list_result items rest bytes after count (Ok None) split known = list_lacks bytes after count split known
  list_result items rest bytes after count (Ok (Some pair)) split known = list_found bytes after (rest pair) count (items pair) split known

  pub list-injective : IsInjective to_bytes Fits → IsInjective (list_bytes to_bytes) (FitsList Fits)
  list-injective one items others rest end fits fits' same =
      let parts = word_bytes-injective (length items) (length others) (flat_map to_bytes items ++ rest) (flat_map to_bytes others ++ end) fits.0 fits'.0
      (sym (append_assoc (word_bytes (length items)) (flat_map to_bytes items) rest) ∙ same ∙ append_assoc (word_bytes (length others)) (flat_map to_bytes others) end) in
      many-injective one (length items) items others rest end (refl, fits.1) (sym parts.0, fits'.1) parts.1

-- a text follows from its bytes
pub text_bytes-injective : IsInjective text_bytes FitsText
text_bytes-injective text other rest others fits fits' same =
    let parts = text_is (text_bytes text ++ rest) (text ++ rest) (length text) (fits.0, append_assoc (word_bytes (length text)) text rest) other others fits' same in
    let is : text ≡ other = sym (take_at text rest (length text) refl) ∙ ap (take (length text)) parts.1 ∙ take_at other others (length text) (sym parts.0) in
    (is, sym (drop_at text rest (length text) refl) ∙ ap (drop (length text)) parts.1 ∙ drop_at other others (length text) (sym parts.0))

-- ---- runs, a moment and an identity

pub runs_bytes-injective : IsInjective runs_bytes FitsRuns
runs_bytes-injective runs other rest others fits fits' same =
    let split = both-injective word_bytes word_bytes FitsWord FitsWord word_bytes-injective word_bytes-injective (runs.began, runs.count) (other.began, other.count)
    rest others fits fits' same in
    (λ i. record { began = (split.0 i).0; count = (split.0 i).1 }, split.1)

pub runs_lack_count : (bytes middle : List ℕ) (began : ℕ) → Splits word_bytes FitsWord bytes began middle → Lacks word_bytes FitsWord middle → Lacks runs_bytes FitsRuns bytes
runs_lack_count bytes middle began split lacks runs =
    both_lack_second word_bytes word_bytes FitsWord FitsWord bytes middle began word_bytes-injective split lacks (runs.began, runs.count)

-- the seconds of a moment fit a word
seconds_fit : (stamp : Stamp) → FitsStamp stamp → FitsWord (cast_unsigned w64 stamp.seconds)
seconds_fit stamp fits = let fit : Fits w64 (cast_unsigned w64 stamp.seconds) = Fits-of_z fits.0 in omega (arith, fit)

-- the seconds and nanoseconds of a moment
module _ (bytes middle : List ℕ) (seconds : ℕ) (split : Splits word_bytes FitsWord bytes seconds middle) where
  moment_is : (stamp : Stamp) (rest : List ℕ) → FitsStamp stamp → bytes ≡ stamp_bytes stamp ++ rest
      → (seconds ≡ cast_unsigned w64 stamp.seconds) × (middle ≡ word_bytes stamp.nanoseconds ++ rest)
  moment_is stamp rest fits same =
      word_bytes-injective seconds (cast_unsigned w64 stamp.seconds) middle (word_bytes stamp.nanoseconds ++ rest) split.0 (seconds_fit stamp fits)
      (sym split.1 ∙ same ∙ append_assoc (word_bytes (cast_unsigned w64 stamp.seconds)) (word_bytes stamp.nanoseconds) rest)

  pub stamp_lacks_nanoseconds : Lacks word_bytes FitsWord middle → Lacks stamp_bytes FitsStamp bytes
  stamp_lacks_nanoseconds lacks stamp rest fits same = lacks stamp.nanoseconds rest (omega (arith, fits.1)) (moment_is stamp rest fits same).1

  pub stamp_lacks_range : (end : List ℕ) (nanoseconds : ℕ) → Splits word_bytes FitsWord middle nanoseconds end → 10 ^ 9 ≤ nanoseconds → Lacks stamp_bytes FitsStamp bytes
  stamp_lacks_range end nanoseconds split' large stamp rest fits same =
      let parts = word_bytes-injective nanoseconds stamp.nanoseconds end rest split'.0 (omega (arith, fits.1)) (sym split'.1 ∙ (moment_is stamp rest fits same).1) in
      omega (arith, parts.0, fits.1)

-- a moment is its two numbers
stamp_equal : (stamp other : Stamp) → stamp.seconds ≡ other.seconds → stamp.nanoseconds ≡ other.nanoseconds → stamp ≡ other
stamp_equal stamp other p q = λ i. record { seconds = p i; nanoseconds = q i }

pub stamp_bytes-injective : IsInjective stamp_bytes FitsStamp
stamp_bytes-injective stamp other rest others fits fits' same =
    let parts = moment_is (stamp_bytes stamp ++ rest) (word_bytes stamp.nanoseconds ++ rest) (cast_unsigned w64 stamp.seconds)
    (seconds_fit stamp fits, append_assoc (word_bytes (cast_unsigned w64 stamp.seconds)) (word_bytes stamp.nanoseconds) rest) other others fits' same in
    let more = word_bytes-injective stamp.nanoseconds other.nanoseconds rest others (omega (arith, fits.1)) (omega (arith, fits'.1)) parts.1 in
    let seconds : stamp.seconds ≡ other.seconds = sym (to_z-of_z w64 stamp.seconds fits.0) ∙ ap (cast_signed w64) parts.0 ∙ to_z-of_z w64 other.seconds fits'.0 in
    (stamp_equal stamp other seconds more.0, more.1)

-- an identity is four values, one after the other
abbrev lists_bytes : List (List ℕ) × List ℕ → List ℕ
lists_bytes = both (list_bytes text_bytes) (list_bytes word_bytes)

abbrev FitLists : List (List ℕ) × List ℕ → Type 0
FitLists = FitBoth (FitsList FitsText) (FitsList FitsWord)

abbrev sized_bytes : (List (List ℕ) × List ℕ) × ℕ → List ℕ
sized_bytes = both lists_bytes word_bytes

abbrev FitSized : (List (List ℕ) × List ℕ) × ℕ → Type 0
FitSized = FitBoth FitLists FitsWord

abbrev parts_bytes : ((List (List ℕ) × List ℕ) × ℕ) × Stamp → List ℕ
parts_bytes = both sized_bytes stamp_bytes

abbrev FitParts : ((List (List ℕ) × List ℕ) × ℕ) × Stamp → Type 0
FitParts = FitBoth FitSized FitsStamp

texts-injective : IsInjective (list_bytes text_bytes) (FitsList FitsText)
texts-injective = list-injective text_bytes FitsText text_bytes-injective

lists-injective : IsInjective lists_bytes FitLists
lists-injective = both-injective (list_bytes text_bytes) (list_bytes word_bytes) (FitsList FitsText) (FitsList FitsWord)
    texts-injective (list-injective word_bytes FitsWord word_bytes-injective)

sized-injective : IsInjective sized_bytes FitSized
sized-injective = both-injective lists_bytes word_bytes FitLists FitsWord lists-injective word_bytes-injective

parts-injective : IsInjective parts_bytes FitParts
parts-injective = both-injective sized_bytes stamp_bytes FitSized FitsStamp sized-injective stamp_bytes-injective

identity_equal : (one other : IdentityValue) → one.words ≡ other.words → one.files ≡ other.files → one.size ≡ other.size → one.modified ≡ other.modified → one ≡ other
identity_equal one other p q r s = λ i. record { words = p i; files = q i; size = r i; modified = s i }

pub identity_bytes-injective : IsInjective identity_bytes FitsIdentity
identity_bytes-injective one other rest others fits fits' same =
    let split = parts-injective (((one.words, one.files), one.size), one.modified) (((other.words, other.files), other.size), other.modified) rest others
    (((fits.0, fits.1), fits.2), fits.3) (((fits'.0, fits'.1), fits'.2), fits'.3) same in
    let sized = ap (λ p. p.0) split.0 in
    (identity_equal one other (ap (λ p. p.0.0) sized) (ap (λ p. p.0.1) sized) (ap (λ p. p.1) sized) (ap (λ p. p.1) split.0), split.1)

-- where the parts lack, so does the identity
identity_lacks : (bytes : List ℕ) → Lacks parts_bytes FitParts bytes → Lacks identity_bytes FitsIdentity bytes
identity_lacks bytes lacks identity rest fits same =
    lacks (((identity.words, identity.files), identity.size), identity.modified) rest (((fits.0, fits.1), fits.2), fits.3) same

-- the same by the value that lacks, after those that were found
module _ (bytes after : List ℕ) (words : List (List ℕ)) (first : Splits (list_bytes text_bytes) (FitsList FitsText) bytes words after) where
  pub identity_lacks_files : Lacks (list_bytes word_bytes) (FitsList FitsWord) after → Lacks identity_bytes FitsIdentity bytes
  identity_lacks_files lacks = identity_lacks bytes (both_lack_first sized_bytes stamp_bytes FitSized FitsStamp bytes
      (both_lack_first lists_bytes word_bytes FitLists FitsWord bytes
      (both_lack_second (list_bytes text_bytes) (list_bytes word_bytes) (FitsList FitsText) (FitsList FitsWord) bytes after words texts-injective first lacks)))

  module _ (next files : List ℕ) (second : Splits (list_bytes word_bytes) (FitsList FitsWord) after files next) where
    lists_found : Splits lists_bytes FitLists bytes (words, files) next
    lists_found = both_found (list_bytes text_bytes) (list_bytes word_bytes) (FitsList FitsText) (FitsList FitsWord) bytes after next words files first second

    pub identity_lacks_size : Lacks word_bytes FitsWord next → Lacks identity_bytes FitsIdentity bytes
    identity_lacks_size lacks = identity_lacks bytes (both_lack_first sized_bytes stamp_bytes FitSized FitsStamp bytes
        (both_lack_second lists_bytes word_bytes FitLists FitsWord bytes next (words, files) lists-injective lists_found lacks))

    module _ (last : List ℕ) (size : ℕ) (third : Splits word_bytes FitsWord next size last) where
      sized_found : Splits sized_bytes FitSized bytes ((words, files), size) last
      sized_found = both_found lists_bytes word_bytes FitLists FitsWord bytes next last (words, files) size lists_found third

      pub identity_lacks_modified : Lacks stamp_bytes FitsStamp last → Lacks identity_bytes FitsIdentity bytes
      identity_lacks_modified lacks = identity_lacks bytes
          (both_lack_second sized_bytes stamp_bytes FitSized FitsStamp bytes last ((words, files), size) sized-injective sized_found lacks)

pub identity_lacks_words : (bytes : List ℕ) → Lacks (list_bytes text_bytes) (FitsList FitsText) bytes → Lacks identity_bytes FitsIdentity bytes
identity_lacks_words bytes lacks = identity_lacks bytes (both_lack_first sized_bytes stamp_bytes FitSized FitsStamp bytes
    (both_lack_first lists_bytes word_bytes FitLists FitsWord bytes
    (both_lack_first (list_bytes text_bytes) (list_bytes word_bytes) (FitsList FitsText) (FitsList FitsWord) bytes lacks)))

-- ---- the bytes before the hash

-- the runs and the checkpoint after its size, to the end
module _ (bytes middle : List ℕ) (runs : Runs) (first : Splits runs_bytes FitsRuns bytes runs middle) where
  -- what follows the runs
  rest_is : (other : Runs) (checkpoint : List ℕ) → FitsRuns other → bytes ≡ runs_bytes other ++ word_bytes (length checkpoint) ++ checkpoint
      → middle ≡ word_bytes (length checkpoint) ++ checkpoint
  rest_is other checkpoint fits same =
      (runs_bytes-injective runs other middle (word_bytes (length checkpoint) ++ checkpoint) first.0 fits
      (sym first.1 ∙ same ∙ append_assoc (runs_bytes other) (word_bytes (length checkpoint)) checkpoint)).1

  pub rest_lacks_size : Lacks word_bytes FitsWord middle → (other : Runs) (checkpoint : List ℕ) → FitsRuns other → FitsWord (length checkpoint)
      → bytes ≡ runs_bytes other ++ word_bytes (length checkpoint) ++ checkpoint → ⊥
  rest_lacks_size lacks other checkpoint fits fits' same = lacks (length checkpoint) checkpoint fits' (rest_is other checkpoint fits same)

  pub rest_lacks_end : (size : ℕ) (end : List ℕ) → Splits word_bytes FitsWord middle size end → (size ≡ length end → ⊥)
      → (other : Runs) (checkpoint : List ℕ) → FitsRuns other → FitsWord (length checkpoint)
      → bytes ≡ runs_bytes other ++ word_bytes (length checkpoint) ++ checkpoint → ⊥
  rest_lacks_end size end second differs other checkpoint fits fits' same =
      let parts = word_bytes-injective size (length checkpoint) end checkpoint second.0 fits' (sym second.1 ∙ rest_is other checkpoint fits same) in
      differs (parts.0 ∙ sym (ap length parts.1))

-- the parts of all before the hash
front_parts : (job : JobValue) → front_bytes job
    ≡ first_line ++ (identity_bytes job.identity ++ (runs_bytes job.runs ++ word_bytes (length job.checkpoint) ++ job.checkpoint))
unfolding front_bytes
front_parts job =
    let size = word_bytes (length job.checkpoint) in
    append_assoc (first_line ++ identity_bytes job.identity ++ runs_bytes job.runs) size job.checkpoint
    ∙ append_assoc (first_line ++ identity_bytes job.identity) (runs_bytes job.runs) (size ++ job.checkpoint)
    ∙ append_assoc first_line (identity_bytes job.identity) (runs_bytes job.runs ++ (size ++ job.checkpoint))
    ∙ ap (λ xs. first_line ++ (identity_bytes job.identity ++ xs)) (sym (append_assoc (runs_bytes job.runs) size job.checkpoint))

-- bytes that do not begin with the first_line
pub front_lacks_first_line : (front : List ℕ) → ((rest : List ℕ) → front ≡ first_line ++ rest → ⊥) → (job : JobValue) → front ≡ front_bytes job → ⊥
front_lacks_first_line front none job same = none _ (same ∙ front_parts job)

module _ (front rest : List ℕ) (started : front ≡ first_line ++ rest) where
  after_first_line : (job : JobValue) → front ≡ front_bytes job
      → rest ≡ identity_bytes job.identity ++ (runs_bytes job.runs ++ word_bytes (length job.checkpoint) ++ job.checkpoint)
  after_first_line job same = append_cancel_left first_line rest _ (sym started ∙ same ∙ front_parts job)

  pub file_lacks_identity : Lacks identity_bytes FitsIdentity rest → (job : JobValue) → FitsJob job → front ≡ front_bytes job → ⊥
  file_lacks_identity lacks job fits same = lacks job.identity _ fits.0 (after_first_line job same)

  module _ (identity : IdentityValue) (middle : List ℕ) (first : Splits identity_bytes FitsIdentity rest identity middle) where
    after_identity : (job : JobValue) → FitsJob job → front ≡ front_bytes job
        → (identity ≡ job.identity) × (middle ≡ runs_bytes job.runs ++ word_bytes (length job.checkpoint) ++ job.checkpoint)
    after_identity job fits same = identity_bytes-injective identity job.identity middle _ first.0 fits.0 (sym first.1 ∙ after_first_line job same)

    pub file_lacks_rest : ((runs : Runs) (checkpoint : List ℕ) → FitsRuns runs → FitsWord (length checkpoint)
        → middle ≡ runs_bytes runs ++ word_bytes (length checkpoint) ++ checkpoint → ⊥) → (job : JobValue) → FitsJob job → front ≡ front_bytes job → ⊥
    file_lacks_rest lacks job fits same = lacks job.runs job.checkpoint fits.1 fits.2 (after_identity job fits same).1

    pub file_found : (runs : Runs) (checkpoint : List ℕ)
        → FitsRuns runs × FitsWord (length checkpoint) × (middle ≡ runs_bytes runs ++ word_bytes (length checkpoint) ++ checkpoint)
        → FitsJob (record { identity = identity; runs = runs; checkpoint = checkpoint }) × (front ≡ front_bytes (record { identity = identity; runs = runs; checkpoint = checkpoint }))
    file_found runs checkpoint known = (
      (first.0, known.0, known.1),
      started ∙ ap (λ xs. first_line ++ xs) (first.1 ∙ ap (λ xs. identity_bytes identity ++ xs) known.2)
          ∙ sym (front_parts (record { identity = identity; runs = runs; checkpoint = checkpoint })),
    )

-- ---- a file

-- a file is of one job at most
pub job_bytes-injective : (job other : JobValue) → FitsJob job → FitsJob other → job_bytes job ≡ job_bytes other → job ≡ other
unfolding job_bytes
job_bytes-injective job other fits fits' same =
    let fronts : front_bytes job ≡ front_bytes other = sealed-injective (front_bytes job) (front_bytes other) same in
    let rest = identity_bytes job.identity ++ (runs_bytes job.runs ++ word_bytes (length job.checkpoint) ++ job.checkpoint) in
    let middle = runs_bytes job.runs ++ word_bytes (length job.checkpoint) ++ job.checkpoint in
    let identities = after_identity (front_bytes job) rest (front_parts job) job.identity middle (fits.0, refl) other fits' fronts in
    let runs = runs_bytes-injective job.runs other.runs (word_bytes (length job.checkpoint) ++ job.checkpoint) (word_bytes (length other.checkpoint) ++ other.checkpoint) fits.1 fits'.1
    (sym (append_assoc (runs_bytes job.runs) (word_bytes (length job.checkpoint)) job.checkpoint) ∙ identities.1
    ∙ append_assoc (runs_bytes other.runs) (word_bytes (length other.checkpoint)) other.checkpoint) in
    let last = word_bytes-injective (length job.checkpoint) (length other.checkpoint) job.checkpoint other.checkpoint fits.2 fits'.2 runs.1 in
    λ i. record { identity = identities.0 i; runs = runs.0 i; checkpoint = last.1 i }

-- ---- what reading a file comes to

-- the bytes are those of a job
pub job_found : (bytes front : List ℕ) (job : JobValue) → bytes ≡ sealed front → front ≡ front_bytes job → bytes ≡ job_bytes job
unfolding job_bytes
job_found bytes front job seal same = seal ∙ ap sealed same

-- they are of no job: they do not begin with the first_line
pub job_lacks_first_line : (bytes : List ℕ) → ((rest : List ℕ) → bytes ≡ first_line ++ rest → ⊥) → (job : JobValue) → bytes ≡ job_bytes job → ⊥
unfolding job_bytes
job_lacks_first_line bytes none job same =
    none _ (same ∙ ap (λ xs. xs ++ word_bytes (xxh64 (front_bytes job))) (front_parts job)
    ∙ append_assoc first_line (identity_bytes job.identity ++ (runs_bytes job.runs ++ word_bytes (length job.checkpoint) ++ job.checkpoint)) (word_bytes (xxh64 (front_bytes job))))

-- or do not end with a hash
pub job_lacks_seal : (bytes : List ℕ) → ((front : List ℕ) → bytes ≡ sealed front → ⊥) → (job : JobValue) → bytes ≡ job_bytes job → ⊥
unfolding job_bytes
job_lacks_seal bytes none job same = none (front_bytes job) same

-- or what is before it is of no job
pub job_lacks_front : (bytes front : List ℕ) → bytes ≡ sealed front → ((job : JobValue) → FitsJob job → front ≡ front_bytes job → ⊥)
    → (job : JobValue) → FitsJob job → bytes ≡ job_bytes job → ⊥
unfolding job_bytes
job_lacks_front bytes front seal none job fits same = none job fits (sealed-injective front (front_bytes job) (sym seal ∙ same))

-- the checkpoint ends what is before the hash
pub checkpoint_kept : (bytes : List ℕ) (job : JobValue) (size end start : ℕ) → bytes ≡ job_bytes job → length job.checkpoint ≡ size → end ≡ length bytes - 8
    → start ≡ end - size → take size (drop start (take end bytes) ++ take start (take end bytes)) ≡ job.checkpoint
unfolding job_bytes front_bytes
checkpoint_kept bytes job size end start same whole at from =
    let head = head_bytes job.identity job.runs (length job.checkpoint) in
    let hash = word_bytes (xxh64 (front_bytes job)) in
    let all : length bytes ≡ length (front_bytes job) + 8 = ap length same ∙ length-append (front_bytes job) hash ∙ ap (λ n. length (front_bytes job) + n) (length-word_bytes (xxh64 (front_bytes job))) in
    let sum : length (front_bytes job) ≡ length head + length job.checkpoint = length-append head job.checkpoint in
    let front : take end bytes ≡ head ++ job.checkpoint = ap (take end) same ∙ take_at (front_bytes job) hash end (omega arith) in
    let last : drop start (take end bytes) ≡ job.checkpoint = ap (drop start) front ∙ drop_at head job.checkpoint start (omega arith) in
    ap (λ xs. take size (xs ++ take start (take end bytes))) last ∙ take_at job.checkpoint (take start (take end bytes)) size whole
