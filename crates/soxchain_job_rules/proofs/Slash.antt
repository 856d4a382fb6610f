-- Where the last slash parts a name.
use Rattle.std.proofs.Common.{◌≡◌, ◌≢◌, ◌+◌, ◌-◌, ◌<◌, ℕ, List, Bool, true, false, not, codes, Some, length, take, drop, get_or, ap, sym, ◌∙◌, refl, arith, length-drop, eq-eqb}
use Rattle.std.proofs.lemmas.Bool.{ne_eqb}
use Rattle.std.proofs.lemmas.List.{get_or-drop, get_or_default}
use Rattle.std.proofs.lemmas.List.Sums.{suffix_len_is}
use Rattle.std.proofs.lemmas.List.Folds.{list_any_at, list_any_none}
use Rattle.std.proofs.lemmas.Str.Pattern.{NoCharPasses-char, drop_at_char}
use Rattle.std.specs.List.{after_last, before_last, list_any, suffix_len}
use Rattle.std.specs.Str.{NoCharPasses}
use Rattle.std.specs.Str.Pattern.{RFindsChar, SplitsAroundMatch}
use Rattle.soxchain_job_rules.specs.Names.{folder_text, is_empty, is_slash}

abbrev is_other : ℕ → Bool
is_other byte = not (is_slash byte)

is_other-from : (byte : ℕ) → byte ≢ 47 → is_other byte ≡ true
is_other-from byte other = ap not (ne_eqb byte 47 other)

is_slash-from : (byte : ℕ) → byte ≡ 47 → is_slash byte ≡ true
is_slash-from byte same = eq-eqb byte 47 same

-- the last slash is at i
record IsLast (name : List ℕ) (i : ℕ) : Type 0 where
  below : i < length name
  slash : get_or name i 0 ≡ 47
  after : (k : ℕ) → i < k → k < length name → get_or name k 0 ≢ 47

suffix_len-last : (name : List ℕ) (i : ℕ) → IsLast name i → suffix_len is_other name ≡ length name - (i + 1)
suffix_len-last name i last =
    suffix_len_is is_other name (i + 1) 0 (omega (arith, last.below))
    (λ k from below. is_other-from (get_or name k 0) (last.after k (omega arith) below))
    (λ positive. let at : i + 1 - 1 ≡ i = omega arith in ap (λ (n : ℕ). is_other (get_or name n 0)) at ∙ ap not (is_slash-from (get_or name i 0) last.slash))

before_last-last : (name : List ℕ) (i : ℕ) → IsLast name i → before_last is_slash name ≡ take i name
before_last-last name i last =
    ap (λ (n : ℕ). take n name) (omega (arith, suffix_len-last name i last, last.below))

after_last-last : (name : List ℕ) (i : ℕ) → IsLast name i → after_last is_slash name ≡ drop (i + 1) name
after_last-last name i last =
    ap (λ (n : ℕ). drop n name) (omega (arith, suffix_len-last name i last, last.below))

last_found : (name : List ℕ) (i j : ℕ) → RFindsChar 47 name (Some (i, j)) → IsLast name i × (j ≡ i + 1)
last_found name i j found =
    let next : j ≡ i + 1 = found.1.ends in
    let split = drop_at_char 47 name i j found.1 (omega arith) in
    let below : i < length name = omega (arith, length-drop i name, ap length split) in
    let after : (k : ℕ) → i < k → k < length name → get_or name k 0 ≢ 47 = λ k from within same.
    NoCharPasses-char 47 (drop j name) (k - j) found.0 (omega arith) (omega (arith, length-drop j name))
    (get_or-drop j name (k - j) 0 ∙ ap (λ (n : ℕ). get_or name n 0) (omega arith) ∙ same) in
    (record { below = below; slash = found.1.byte (omega arith); after = after }, next)

-- the parts of a name with a slash
pub record IsParted (name front back : List ℕ) : Type 0 where
  pub before : front ≡ before_last is_slash name
  pub base : back ≡ after_last is_slash name
  pub any : list_any is_slash name ≡ true

pub parted : (name before base : List ℕ) → SplitsAroundMatch (RFindsChar 47) name before base → IsParted name before base
parted name before base split =
    let found = last_found name split.0 split.1 split.2 in
    record {
      before = split.3 ∙ sym (before_last-last name split.0 found.0);
      base = split.4 ∙ ap (λ (n : ℕ). drop n name) found.1 ∙ sym (after_last-last name split.0 found.0);
      any = list_any_at is_slash name split.0 0 found.0.below (is_slash-from (get_or name split.0 0) found.0.slash);
    }

-- a name with no slash
pub record IsWhole (name : List ℕ) : Type 0 where
  pub base : after_last is_slash name ≡ name
  pub any : list_any is_slash name ≡ false

pub whole : (name : List ℕ) → NoCharPasses is_slash name → IsWhole name
whole name none =
    let other : (k : ℕ) → k < length name → get_or name k 0 ≢ 47 = λ k below. NoCharPasses-char 47 name k none (omega arith) below in
    let len = suffix_len_is is_other name 0 0 (omega arith) (λ k from below. is_other-from (get_or name k 0) (other k below)) (λ positive. absurd (omega arith)) in
    let all : length name - suffix_len is_other name ≡ 0 = omega (arith, len) in
    record {
      base = ap (λ (n : ℕ). drop n name) all;
      any = list_any_none is_slash name (λ k d below. ne_eqb (get_or name k d) 47 (λ same. other k below (get_or_default name k 0 d below ∙ same)));
    }

pub folder_text-whole : (name : List ℕ) → IsWhole name → codes "." ≡ folder_text name
folder_text-whole name none = rw none.any refl

pub folder_text-empty : (name before base : List ℕ) → IsParted name before base → is_empty before ≡ true → codes "/" ≡ folder_text name
folder_text-empty name before base parts nothing = rw (parts.any, ← parts.before, nothing) refl

pub folder_text-parted : (name before base : List ℕ) → IsParted name before base → is_empty before ≡ false → before ≡ folder_text name
folder_text-parted name before base parts some = rw (parts.any, ← parts.before, some) refl
