-- Clock times, read part by part.
use Rattle.std.proofs.Common.{◌≡◌, ℕ, suc, ◌+◌, ◌-◌, ◌*◌, ◌<◌, ◌≤◌, Bool, true, false, ◌&&◌, List, [], ◌∷◌, ◌++◌, length, drop, ap, ◌∙◌, sym, refl, arith, add-zero, append-nil, length-append, length-drop, length-take, Err, inl, inr, ◌⊎◌, nat_lt, ◌==◌, sum_by, if◌then◌else◌}
use Rattle.std.specs.Char.{is_ascii_digit}
use Rattle.std.specs.Str.{all_ascii_digits}
use Rattle.std.specs.Str.Parse.{digits_value}
use Rattle.std.specs.List.{onto_first, slice_split, before_first, after_first, prefix_len, take_while}
use Rattle.std.proofs.Math.Bool.{and-false, and-true}
use Rattle.std.proofs.Math.Dec.{eqb-suc-zero}
use Rattle.std.proofs.lemmas.Bool.{and_from, and_left, and_parts, and_right, le-ltb, lt-ltb}
use Rattle.std.proofs.lemmas.Bool.Decides.{nat_tests}
use Rattle.std.proofs.lemmas.List.Splits.{slice_split-cons_no, slice_split-cons_yes}
use Rattle.std.proofs.lemmas.List.Sums.{prefix_len-le-length, sum_by-cons}
use Rattle.fx_fixed.specs.Decimals.{is_point}
use Rattle.fx_fixed.proofs.ClockAfter.{clock_after, clock_by}
use Rattle.fx_fixed.specs.Clock.{before_point, components_of, is_colon, fraction_of, clock_frames_of, is_short, is_t, tail_of, within_reach}
use Rattle.fx_fixed.specs.ClockEnd.{BeginsNot, after_components, after_fraction, by_parts, is_last}
use Rattle.fx_fixed.specs.declared.times.TimeFault.TheVariants.{BadTime}
use Rattle.fx_fixed.proofs.Cutting.{FailsDigits, Stops, Stops-drop, after_first-digits, all_ascii_digits-take_while, before_first-digits, fails-append, length-take_while, none_of_digits, point_fails, run_and_rest}
use Rattle.fx_fixed.proofs.Parting.{after_first-no, after_first-yes, before_first-no, before_first-yes, first_part, split_run}

pub t_fails : FailsDigits is_t
t_fails = record { no = λ c digit. grind (arith, nat_tests) }

-- the parts, one by one
parts_are : (rate seconds digits : ℕ) (rest front fraction tail : List ℕ) → before_point rest ≡ front → fraction_of rest ≡ fraction → tail_of rest ≡ tail →
    after_components rate seconds digits rest ≡ by_parts rate seconds digits front fraction tail
parts_are rate seconds digits rest front fraction tail front_is fraction_is tail_is =
    ap (λ xs. by_parts rate seconds digits xs (fraction_of rest) (tail_of rest)) front_is
    ∙ ap (λ xs. by_parts rate seconds digits front xs (tail_of rest)) fraction_is
    ∙ ap (λ xs. by_parts rate seconds digits front fraction xs) tail_is

-- something stands before the point
bad_front : (rate seconds digits c : ℕ) (cs fraction tail : List ℕ) → by_parts rate seconds digits (c ∷ cs) fraction tail ≡ Err BadTime
bad_front rate seconds digits c cs fraction tail = rw (eqb-suc-zero (length cs)) refl

bad_fraction : (rate seconds digits : ℕ) (fraction tail : List ℕ) → is_short fraction ≡ false → by_parts rate seconds digits [] fraction tail ≡ Err BadTime
bad_fraction rate seconds digits fraction tail long = rw long refl

bad_end : (rate seconds digits fraction places : ℕ) (rest : List ℕ) → is_last rest ≡ false → after_fraction rate seconds digits fraction places rest ≡ Err BadTime
bad_end rate seconds digits fraction places rest more = rw (more, and-false) refl

-- ---- no point after the components

pub no_fraction : (rate seconds digits : ℕ) (rest : List ℕ) → BeginsNot 46 rest →
    after_components rate seconds digits rest ≡ after_fraction rate seconds digits 0 0 rest
no_fraction rate seconds digits [] point = refl
no_fraction rate seconds digits (c ∷ cs) point = go (is_t c) refl where
  go : (b : Bool) → is_t c ≡ b → after_components rate seconds digits (c ∷ cs) ≡ after_fraction rate seconds digits 0 0 (c ∷ cs)
  go true last =
      let body = before_first-yes is_t c cs last in
      let end : is_last (c ∷ cs) ≡ (length cs == 0) = rw last refl in
      parts_are rate seconds digits (c ∷ cs) [] [] cs (ap (λ xs. before_first is_point xs) body) (ap (λ xs. after_first is_point xs) body) (after_first-yes is_t c cs last) ∙ rw end refl
  go false other =
      let cut : before_point (c ∷ cs) ≡ c ∷ before_first is_point (before_first is_t cs) =
      ap (λ xs. before_first is_point xs) (before_first-no is_t c cs other) ∙ before_first-no is_point c (before_first is_t cs) point in
      let more : is_last (c ∷ cs) ≡ false = rw other refl in
      parts_are rate seconds digits (c ∷ cs) (c ∷ before_first is_point (before_first is_t cs)) (fraction_of (c ∷ cs)) (tail_of (c ∷ cs)) cut refl refl
      ∙ bad_front rate seconds digits c (before_first is_point (before_first is_t cs)) (fraction_of (c ∷ cs)) (tail_of (c ∷ cs)) ∙ sym (bad_end rate seconds digits 0 0 (c ∷ cs) more)

-- ---- a point, and a fraction

-- what is cut at the first t, of a fraction's digits and what follows them
fraction_cut : (more rest : List ℕ) → all_ascii_digits more ≡ true → (fraction_of (46 ∷ (more ++ rest)) ≡ more ++ before_first is_t rest) × (tail_of (46 ∷ (more ++ rest)) ≡ after_first is_t rest) × (before_point (46 ∷ (more ++ rest)) ≡ [])
fraction_cut more rest digits =
    let body = before_first-no is_t 46 (more ++ rest) refl ∙ ap (λ xs. 46 ∷ xs) (before_first-digits is_t t_fails more rest digits) in
    (ap (λ xs. after_first is_point xs) body, after_first-no is_t 46 (more ++ rest) refl ∙ after_first-digits is_t t_fails more rest digits, ap (λ xs. before_first is_point xs) body)

-- the parts of it, where what stands before the t is known
fraction_parts : (rate seconds digits : ℕ) (more rest body tail : List ℕ) → all_ascii_digits more ≡ true → before_first is_t rest ≡ body → after_first is_t rest ≡ tail →
    after_components rate seconds digits (46 ∷ (more ++ rest)) ≡ by_parts rate seconds digits [] (more ++ body) tail
fraction_parts rate seconds digits more rest body tail all body_is tail_is =
    let cut = fraction_cut more rest all in
    parts_are rate seconds digits (46 ∷ (more ++ rest)) [] (more ++ body) tail cut.2 (cut.0 ∙ ap (λ xs. more ++ xs) body_is) (cut.1 ∙ tail_is)

-- where it is the digits alone
good_fraction : (rate seconds digits : ℕ) (more tail : List ℕ) → all_ascii_digits more ≡ true → length more < 19 →
    by_parts rate seconds digits [] (more ++ []) tail ≡ (if nat_lt 0 (digits + length more) && (length tail == 0) then within_reach (clock_frames_of rate seconds (digits_value 10 more) (length more)) else Err BadTime)
good_fraction rate seconds digits more tail all short =
    let bound = lt-ltb (length more) 19 short in
    ap (λ xs. by_parts rate seconds digits [] xs tail) (append-nil more) ∙ rw (all, bound) refl

pub fraction_read : (rate seconds digits : ℕ) (more rest : List ℕ) → all_ascii_digits more ≡ true → length more < 19 → Stops rest →
    after_components rate seconds digits (46 ∷ (more ++ rest)) ≡ after_fraction rate seconds digits (digits_value 10 more) (length more) rest
fraction_read rate seconds digits more [] all short stops =
    fraction_parts rate seconds digits more [] [] [] all refl refl ∙ good_fraction rate seconds digits more [] all short
fraction_read rate seconds digits more (c ∷ cs) all short stops = go (is_t c) refl where
  go : (b : Bool) → is_t c ≡ b → after_components rate seconds digits (46 ∷ (more ++ c ∷ cs)) ≡ after_fraction rate seconds digits (digits_value 10 more) (length more) (c ∷ cs)
  go true last =
      let end : is_last (c ∷ cs) ≡ (length cs == 0) = rw last refl in
      fraction_parts rate seconds digits more (c ∷ cs) [] cs all (before_first-yes is_t c cs last) (after_first-yes is_t c cs last)
      ∙ good_fraction rate seconds digits more cs all short ∙ rw end refl
  go false other =
      let rest = c ∷ before_first is_t cs in
      let tail = after_first is_t (c ∷ cs) in
      let long : is_short (more ++ rest) ≡ false = and_left (all_ascii_digits (more ++ rest)) (nat_lt (length (more ++ rest)) 19) (fails-append more c (before_first is_t cs) all stops) in
      let end : is_last (c ∷ cs) ≡ false = rw other refl in
      fraction_parts rate seconds digits more (c ∷ cs) rest tail all (before_first-no is_t c cs other) refl
      ∙ bad_fraction rate seconds digits (more ++ rest) tail long
      ∙ sym (bad_end rate seconds digits (digits_value 10 more) (length more) (c ∷ cs) end)

-- too many digits
pub fraction_long : (rate seconds digits : ℕ) (more rest : List ℕ) → all_ascii_digits more ≡ true → 19 ≤ length more →
    after_components rate seconds digits (46 ∷ (more ++ rest)) ≡ Err BadTime
fraction_long rate seconds digits more rest all long =
    let body = before_first is_t rest in
    let many : nat_lt (length (more ++ body)) 19 ≡ false = le-ltb (length (more ++ body)) 19 (simp length-append (omega arith)) in
    fraction_parts rate seconds digits more rest body (after_first is_t rest) all refl refl
    ∙ bad_fraction rate seconds digits (more ++ body) (after_first is_t rest) (and_right (all_ascii_digits (more ++ body)) (nat_lt (length (more ++ body)) 19) many)

-- ---- the same of the text after the point

pub fraction_of_text : (rate seconds digits fraction places : ℕ) (rest text after : List ℕ) → rest ≡ 46 ∷ text → prefix_len is_ascii_digit text < 19 →
    after ≡ drop (prefix_len is_ascii_digit text) text → fraction ≡ digits_value 10 (take_while is_ascii_digit text) → places ≡ length text - length after →
    after_components rate seconds digits rest ≡ after_fraction rate seconds digits fraction places after
fraction_of_text rate seconds digits fraction places rest text after rest_is short after_is fraction_is places_is =
    let more = take_while is_ascii_digit text in
    let size = length-take_while text after after_is in
    let stops : Stops after = rw after_is (Stops-drop text) in
    let prefix_bound = prefix_len-le-length is_ascii_digit text in
    let bound : length more < 19 = rw length-take (omega arith) in
    let text_is : rest ≡ 46 ∷ (more ++ after) = rest_is ∙ ap (λ xs. 46 ∷ xs) (sym (run_and_rest text after after_is)) in
    ap (λ xs. after_components rate seconds digits xs) text_is
    ∙ fraction_read rate seconds digits more after (all_ascii_digits-take_while text) bound stops
    ∙ ap (λ n. after_fraction rate seconds digits n (length more) after) (sym fraction_is)
    ∙ ap (λ n. after_fraction rate seconds digits fraction n after) (size ∙ sym places_is)

pub fraction_of_long_text : (rate seconds digits : ℕ) (rest text : List ℕ) → rest ≡ 46 ∷ text → 19 ≤ prefix_len is_ascii_digit text →
    after_components rate seconds digits rest ≡ Err BadTime
fraction_of_long_text rate seconds digits rest text rest_is long =
    let more = take_while is_ascii_digit text in
    let after = drop (prefix_len is_ascii_digit text) text in
    let prefix_bound = prefix_len-le-length is_ascii_digit text in
    let many : 19 ≤ length more = rw length-take (omega arith) in
    let text_is : rest ≡ 46 ∷ (more ++ after) = rest_is ∙ ap (λ xs. 46 ∷ xs) (sym (run_and_rest text after refl)) in
    ap (λ xs. after_components rate seconds digits xs) text_is ∙ fraction_long rate seconds digits more after (all_ascii_digits-take_while text) many

-- ---- the components

pub colon_fails : FailsDigits is_colon
colon_fails = record { no = λ c digit. grind (arith, nat_tests) }

-- digits in front stay in the first part
digits_first : (run rest part : List ℕ) (parts : List (List ℕ)) → all_ascii_digits run ≡ true → slice_split is_colon rest ≡ part ∷ parts → slice_split is_colon (run ++ rest) ≡ (run ++ part) ∷ parts
digits_first run rest part parts all cut = split_run is_colon run rest part parts (none_of_digits is_colon colon_fails run all) cut

-- what stands before the point, after digits
front-digits : (run rest : List ℕ) → all_ascii_digits run ≡ true → before_point (run ++ rest) ≡ run ++ before_point rest
front-digits run rest all =
    ap (λ xs. before_first is_point xs) (before_first-digits is_t t_fails run rest all) ∙ before_first-digits is_point point_fails run (before_first is_t rest) all

fraction-digits : (run rest : List ℕ) → all_ascii_digits run ≡ true → fraction_of (run ++ rest) ≡ fraction_of rest
fraction-digits run rest all =
    ap (λ xs. after_first is_point xs) (before_first-digits is_t t_fails run rest all) ∙ after_first-digits is_point point_fails run (before_first is_t rest) all

tail-digits : (run rest : List ℕ) → all_ascii_digits run ≡ true → tail_of (run ++ rest) ≡ tail_of rest
tail-digits run rest all = after_first-digits is_t t_fails run rest all

-- a clock time that begins with digits, by its parts
clock_parts : (rate total count digits : ℕ) (run rest part : List ℕ) (parts : List (List ℕ)) → all_ascii_digits run ≡ true → slice_split is_colon (before_point rest) ≡ part ∷ parts →
    clock_after rate total count digits (run ++ rest) ≡ clock_by rate total count digits ((run ++ part) ∷ parts) (fraction_of rest) (tail_of rest)
clock_parts rate total count digits run rest part parts all parts_is =
    let components = ap (λ xs. slice_split is_colon xs) (front-digits run rest all) ∙ digits_first run (before_point rest) part parts all parts_is in
    ap (λ xs. clock_by rate total count digits xs (fraction_of (run ++ rest)) (tail_of (run ++ rest))) components
    ∙ ap (λ xs. clock_by rate total count digits ((run ++ part) ∷ parts) xs (tail_of (run ++ rest))) (fraction-digits run rest all)
    ∙ ap (λ xs. clock_by rate total count digits ((run ++ part) ∷ parts) (fraction_of rest) xs) (tail-digits run rest all)

-- a component that is no short run
bad_component : (rate total count digits : ℕ) (part fraction tail : List ℕ) (parts : List (List ℕ)) → is_short part ≡ false → clock_by rate total count digits (part ∷ parts) fraction tail ≡ Err BadTime
bad_component rate total count digits part fraction tail parts long = rw long refl

-- one component read
component_read : (rate total count digits : ℕ) (run fraction tail : List ℕ) (parts : List (List ℕ)) → is_short run ≡ true →
    clock_by rate total count digits (run ∷ parts) fraction tail ≡ clock_by rate (60 * total + digits_value 10 run) (count + 1) (digits + length run) parts fraction tail
component_read rate total count digits run fraction tail parts short =
    let places : count + suc (length parts) ≡ count + 1 + length parts = omega arith in
    let more = sum_by-cons (λ (xs : List ℕ). length xs) run parts in
    let size : digits + sum_by (λ (xs : List ℕ). length xs) (run ∷ parts) + length fraction ≡ digits + length run + sum_by (λ (xs : List ℕ). length xs) parts + length fraction = rw more (omega arith) in
    rw (short, places, size) refl

-- ---- digits, and what follows them

-- a colon: the rest is a clock time after one component more
colon_follows : (rate total count digits : ℕ) (run rest : List ℕ) → is_short run ≡ true →
    clock_after rate total count digits (run ++ 58 ∷ rest) ≡ clock_after rate (60 * total + digits_value 10 run) (count + 1) (digits + length run) rest
colon_follows rate total count digits run rest short =
    let all = (and_parts (all_ascii_digits run) (nat_lt (length run) 19) short).0 in
    let body = before_first-no is_t 58 rest refl in
    let front : before_point (58 ∷ rest) ≡ 58 ∷ before_point rest = ap (λ xs. before_first is_point xs) body ∙ before_first-no is_point 58 (before_first is_t rest) refl in
    let parts : slice_split is_colon (before_point (58 ∷ rest)) ≡ [] ∷ components_of rest = ap (λ xs. slice_split is_colon xs) front ∙ slice_split-cons_yes is_colon 58 (before_point rest) refl in
    let fraction : fraction_of (58 ∷ rest) ≡ fraction_of rest = ap (λ xs. after_first is_point xs) body ∙ after_first-no is_point 58 (before_first is_t rest) refl in
    let tail : tail_of (58 ∷ rest) ≡ tail_of rest = after_first-no is_t 58 rest refl in
    clock_parts rate total count digits run (58 ∷ rest) [] (components_of rest) all parts
    ∙ ap (λ xs. clock_by rate total count digits (xs ∷ components_of rest) (fraction_of (58 ∷ rest)) (tail_of (58 ∷ rest))) (append-nil run)
    ∙ component_read rate total count digits run (fraction_of (58 ∷ rest)) (tail_of (58 ∷ rest)) (components_of rest) short
    ∙ ap (λ xs. clock_by rate (60 * total + digits_value 10 run) (count + 1) (digits + length run) (components_of rest) xs (tail_of (58 ∷ rest))) fraction
    ∙ ap (λ xs. clock_by rate (60 * total + digits_value 10 run) (count + 1) (digits + length run) (components_of rest) (fraction_of rest) xs) tail

-- nothing before the point: the components are read
nothing_follows : (rate total count digits : ℕ) (run rest : List ℕ) → is_short run ≡ true → count < 3 → before_point rest ≡ [] →
    clock_after rate total count digits (run ++ rest) ≡ after_components rate (60 * total + digits_value 10 run) (digits + length run) rest
nothing_follows rate total count digits run rest short bound front =
    let all = (and_parts (all_ascii_digits run) (nat_lt (length run) 19) short).0 in
    let parts : slice_split is_colon (before_point rest) ≡ [] ∷ [] = ap (λ xs. slice_split is_colon xs) front in
    let seconds = 60 * total + digits_value 10 run in
    let free : nat_lt (count + 1 + 0) 4 ≡ true = lt-ltb (count + 1 + 0) 4 (omega arith) in
    let size : digits + length run + 0 + length (fraction_of rest) ≡ digits + length run + length (fraction_of rest) = omega arith in
    clock_parts rate total count digits run rest [] [] all parts
    ∙ ap (λ xs. clock_by rate total count digits (xs ∷ []) (fraction_of rest) (tail_of rest)) (append-nil run)
    ∙ component_read rate total count digits run (fraction_of rest) (tail_of rest) [] short
    ∙ ends rate seconds (count + 1) (digits + length run) (fraction_of rest) (tail_of rest) free
    ∙ sym (parts_are rate seconds (digits + length run) rest [] (fraction_of rest) (tail_of rest) front refl refl)
  where
    ends : (rate seconds count digits : ℕ) (fraction tail : List ℕ) → nat_lt (count + 0) 4 ≡ true → clock_by rate seconds count digits [] fraction tail ≡ by_parts rate seconds digits [] fraction tail
    ends rate seconds count digits fraction tail free = rw (free, and-true (is_short fraction), add-zero digits) refl

-- something else before the point: no clock time
other_follows : (rate total count digits c : ℕ) (run rest cs : List ℕ) → all_ascii_digits run ≡ true → before_point rest ≡ c ∷ cs → is_ascii_digit c ≡ false → is_colon c ≡ false →
    clock_after rate total count digits (run ++ rest) ≡ Err BadTime
other_follows rate total count digits c run rest cs all front other colon =
    let first = first_part is_colon cs in
    let parts : slice_split is_colon (before_point rest) ≡ (c ∷ first.0) ∷ first.1 =
    ap (λ xs. slice_split is_colon xs) front ∙ slice_split-cons_no is_colon c cs colon ∙ ap (λ xs. onto_first c xs) first.2 in
    let long : is_short (run ++ c ∷ first.0) ≡ false = and_left (all_ascii_digits (run ++ c ∷ first.0)) (nat_lt (length (run ++ c ∷ first.0)) 19) (fails-append run c first.0 all other) in
    clock_parts rate total count digits run rest (c ∷ first.0) first.1 all parts
    ∙ bad_component rate total count digits (run ++ c ∷ first.0) (fraction_of rest) (tail_of rest) first.1 long

-- too many digits
run_too_long : (rate total count digits : ℕ) (run rest : List ℕ) → all_ascii_digits run ≡ true → 19 ≤ length run → clock_after rate total count digits (run ++ rest) ≡ Err BadTime
run_too_long rate total count digits run rest all long =
    let first = first_part is_colon (before_point rest) in
    let many : nat_lt (length (run ++ first.0)) 19 ≡ false = le-ltb (length (run ++ first.0)) 19 (simp length-append (omega arith)) in
    let bad : is_short (run ++ first.0) ≡ false = and_right (all_ascii_digits (run ++ first.0)) (nat_lt (length (run ++ first.0)) 19) many in
    clock_parts rate total count digits run rest first.0 first.1 all first.2
    ∙ bad_component rate total count digits (run ++ first.0) (fraction_of rest) (tail_of rest) first.1 bad

-- too many components
pub too_many : (rate total count digits : ℕ) (text : List ℕ) → 3 ≤ count → clock_after rate total count digits text ≡ Err BadTime
too_many rate total count digits text many =
    let first = first_part is_colon (before_point text) in
    let full : nat_lt (count + suc (length first.1)) 4 ≡ false = le-ltb (count + suc (length first.1)) 4 (omega arith) in
    ap (λ xs. clock_by rate total count digits xs (fraction_of text) (tail_of text)) first.2 ∙ full_by rate total count digits first.0 (fraction_of text) (tail_of text) first.1 full
  where
    full_by : (rate total count digits : ℕ) (part fraction tail : List ℕ) (parts : List (List ℕ)) → nat_lt (count + suc (length parts)) 4 ≡ false → clock_by rate total count digits (part ∷ parts) fraction tail ≡ Err BadTime
    full_by rate total count digits part fraction tail parts full = rw (full, and-false) refl

-- ---- the same of the text

-- what stands before the point, where no digit and no colon comes first
front_cases : (rest : List ℕ) → Stops rest → BeginsNot 58 rest → (before_point rest ≡ []) ⊎ ((c : ℕ) × (cs : List ℕ) × (before_point rest ≡ c ∷ cs) × (is_ascii_digit c ≡ false) × (is_colon c ≡ false))
front_cases [] stops colon = inl refl
front_cases (c ∷ cs) stops colon = go (is_t c) (is_point c) refl refl where
  go : (a b : Bool) → is_t c ≡ a → is_point c ≡ b → (before_point (c ∷ cs) ≡ []) ⊎ ((d : ℕ) × (ds : List ℕ) × (before_point (c ∷ cs) ≡ d ∷ ds) × (is_ascii_digit d ≡ false) × (is_colon d ≡ false))
  go true b last point = inl (ap (λ xs. before_first is_point xs) (before_first-yes is_t c cs last))
  go false true last point = inl (ap (λ xs. before_first is_point xs) (before_first-no is_t c cs last) ∙ before_first-yes is_point c (before_first is_t cs) point)
  go false false last point = inr (c, before_first is_point (before_first is_t cs), ap (λ xs. before_first is_point xs) (before_first-no is_t c cs last) ∙ before_first-no is_point c (before_first is_t cs) point, stops, colon)

-- a run at the front is short where its length is
short_run : (text : List ℕ) → prefix_len is_ascii_digit text < 19 → is_short (take_while is_ascii_digit text) ≡ true
short_run text bound =
    let prefix_bound = prefix_len-le-length is_ascii_digit text in
    let size : length (take_while is_ascii_digit text) < 19 = rw length-take (omega arith) in
    and_from (all_ascii_digits (take_while is_ascii_digit text)) (nat_lt (length (take_while is_ascii_digit text)) 19) (all_ascii_digits-take_while text) (lt-ltb (length (take_while is_ascii_digit text)) 19 size)

pub clock_goes_on : (rate total count digits value more : ℕ) (text after rest : List ℕ) → prefix_len is_ascii_digit text < 19 → after ≡ drop (prefix_len is_ascii_digit text) text → after ≡ 58 ∷ rest →
    value ≡ digits_value 10 (take_while is_ascii_digit text) → more ≡ length text - length after →
    clock_after rate (60 * total + value) (count + 1) (digits + more) rest ≡ clock_after rate total count digits text
clock_goes_on rate total count digits value more text after rest bound after_is rest_is value_is more_is =
    let run = take_while is_ascii_digit text in
    let text_is : text ≡ run ++ 58 ∷ rest = sym (run_and_rest text after after_is) ∙ ap (λ xs. run ++ xs) rest_is in
    let size : more ≡ length run = more_is ∙ sym (length-take_while text after after_is) in
    ap (λ n. clock_after rate (60 * total + n) (count + 1) (digits + more) rest) value_is
    ∙ ap (λ n. clock_after rate (60 * total + digits_value 10 run) (count + 1) (digits + n) rest) size
    ∙ sym (ap (λ xs. clock_after rate total count digits xs) text_is ∙ colon_follows rate total count digits run rest (short_run text bound))

pub clock_ends : (rate total count digits value more : ℕ) (text after : List ℕ) → count < 3 → prefix_len is_ascii_digit text < 19 → after ≡ drop (prefix_len is_ascii_digit text) text → BeginsNot 58 after →
    value ≡ digits_value 10 (take_while is_ascii_digit text) → more ≡ length text - length after →
    after_components rate (60 * total + value) (digits + more) after ≡ clock_after rate total count digits text
clock_ends rate total count digits value more text after free bound after_is colon value_is more_is =
    let run = take_while is_ascii_digit text in
    let text_is : text ≡ run ++ after = sym (run_and_rest text after after_is) in
    let size : more ≡ length run = more_is ∙ sym (length-take_while text after after_is) in
    let stops : Stops after = rw after_is (Stops-drop text) in
    ap (λ n. after_components rate (60 * total + n) (digits + more) after) value_is
    ∙ ap (λ n. after_components rate (60 * total + digits_value 10 run) (digits + n) after) size
    ∙ sym (ap (λ xs. clock_after rate total count digits xs) text_is ∙ by_cases rate total count digits run after (short_run text bound) (all_ascii_digits-take_while text) free (front_cases after stops colon))
  where
    by_cases : (rate total count digits : ℕ) (run after : List ℕ) → is_short run ≡ true → all_ascii_digits run ≡ true → count < 3 →
        (before_point after ≡ []) ⊎ ((c : ℕ) × (cs : List ℕ) × (before_point after ≡ c ∷ cs) × (is_ascii_digit c ≡ false) × (is_colon c ≡ false)) →
        clock_after rate total count digits (run ++ after) ≡ after_components rate (60 * total + digits_value 10 run) (digits + length run) after
    by_cases rate total count digits run after short all free (inl nothing) = nothing_follows rate total count digits run after short free nothing
    by_cases rate total count digits run after short all free (inr other) =
        other_follows rate total count digits other.0 run after other.1 all other.2 other.3 other.4
        ∙ sym (parts_are rate (60 * total + digits_value 10 run) (digits + length run) after (other.0 ∷ other.1) (fraction_of after) (tail_of after) other.2 refl refl
        ∙ bad_front rate (60 * total + digits_value 10 run) (digits + length run) other.0 other.1 (fraction_of after) (tail_of after))

pub clock_too_long : (rate total count digits : ℕ) (text : List ℕ) → 19 ≤ prefix_len is_ascii_digit text → clock_after rate total count digits text ≡ Err BadTime
clock_too_long rate total count digits text long =
    let run = take_while is_ascii_digit text in
    let after = drop (prefix_len is_ascii_digit text) text in
    let prefix_bound = prefix_len-le-length is_ascii_digit text in
    let many : 19 ≤ length run = rw length-take (omega arith) in
    ap (λ xs. clock_after rate total count digits xs) (sym (run_and_rest text after refl)) ∙ run_too_long rate total count digits run after (all_ascii_digits-take_while text) many

pub run_size : (text after : List ℕ) → after ≡ drop (prefix_len is_ascii_digit text) text → prefix_len is_ascii_digit text < 19 → length text - length after ≤ 18
run_size text after after_is bound =
    let prefix_bound = prefix_len-le-length is_ascii_digit text in
    rw (after_is, length-drop) (omega arith)
