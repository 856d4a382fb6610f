-- A run of digits in front changes where a text is cut by nothing but itself.
use Rattle.std.proofs.Common.{◌≡◌, ℕ, ◌+◌, Bool, true, false, not, ◌&&◌, ◌||◌, List, [], ◌∷◌, ◌++◌, length, drop, ap, ◌∙◌, sym, refl, arith, IsTrue, one-add, ◌-◌, append-nil, length-take, length-drop, nat_lt, IsSome, IfSome, Option, Some, None, ◌↔◌}
use Rattle.std.specs.Prelude.{⊤}
use Rattle.std.specs.Char.{is_ascii_digit}
use Rattle.std.specs.Str.{all_ascii_digits}
use Rattle.std.specs.List.{before_first, after_first, list_any, prefix_len, take_while}
use Rattle.std.proofs.lemmas.Bool.{and_parts, and_left, and_right}
use Rattle.std.proofs.lemmas.List.{take-append-drop}
use Rattle.std.proofs.lemmas.List.Folds.{list_any-append}
use Rattle.std.proofs.lemmas.List.Sums.{prefix_len-le-length}
use Rattle.std.proofs.lemmas.Bool.Decides.{nat_tests}
use Rattle.std.proofs.Math.Bool.{and-false}
use Rattle.fx_fixed.specs.Decimals.{exponent_text, fraction_digits, is_decimal, is_numeral, is_mark, is_point, unsigned, whole_digits}
use Rattle.fx_fixed.specs.Kept.{Keeps}
use Rattle.fx_fixed.specs.declared.number.Decimal.{Decimal}
use Rattle.fx_fixed.specs.declared.sums.Digits.{Digits}
use Rattle.fx_fixed.proofs.Parting.{after_first-no, after_run, before_first-no, before_first-yes, before_run}
use Rattle.fx_fixed.specs.Shown.{HasNoPoint, is_end, Ends, Shows}

-- ---- digits in front

-- no digit passes
pub record FailsDigits (p : ℕ → Bool) : Type 0 where
  pub no : (c : ℕ) → is_ascii_digit c ≡ true → p c ≡ false

pub point_fails : FailsDigits is_point
point_fails = record { no = λ c digit. grind (arith, nat_tests) }

pub mark_fails : FailsDigits is_mark
mark_fails = record { no = λ c digit. grind (arith, nat_tests) }

pub none_of_digits : (p : ℕ → Bool) (fails : FailsDigits p) (run : List ℕ) → all_ascii_digits run ≡ true → list_any p run ≡ false
none_of_digits p fails [] digits = refl
none_of_digits p fails (c ∷ cs) digits =
    let parts = and_parts (is_ascii_digit c) (all_ascii_digits cs) digits in
    rw (fails.no c parts.0) (none_of_digits p fails cs parts.1)

pub before_first-digits : (p : ℕ → Bool) (fails : FailsDigits p) (run rest : List ℕ) → all_ascii_digits run ≡ true → before_first p (run ++ rest) ≡ run ++ before_first p rest
before_first-digits p fails run rest digits = before_run p run rest (none_of_digits p fails run digits)

pub after_first-digits : (p : ℕ → Bool) (fails : FailsDigits p) (run rest : List ℕ) → all_ascii_digits run ≡ true → after_first p (run ++ rest) ≡ after_first p rest
after_first-digits p fails run rest digits = after_run p run rest (none_of_digits p fails run digits)

list_any-digits : (p : ℕ → Bool) (fails : FailsDigits p) (run rest : List ℕ) → all_ascii_digits run ≡ true → list_any p (run ++ rest) ≡ list_any p rest
list_any-digits p fails run rest digits = list_any-append p run rest ∙ ap (λ b. b || list_any p rest) (none_of_digits p fails run digits)

pub all_ascii_digits-append : (run rest : List ℕ) → all_ascii_digits run ≡ true → all_ascii_digits (run ++ rest) ≡ all_ascii_digits rest
all_ascii_digits-append [] rest digits = refl
all_ascii_digits-append (c ∷ cs) rest digits =
    let parts = and_parts (is_ascii_digit c) (all_ascii_digits cs) digits in
    rw parts.0 (all_ascii_digits-append cs rest parts.1)

-- ---- the digits at the front, and what follows them

pub all_ascii_digits-take_while : (text : List ℕ) → all_ascii_digits (take_while is_ascii_digit text) ≡ true
all_ascii_digits-take_while [] = refl
all_ascii_digits-take_while (c ∷ cs) = go (is_ascii_digit c) refl (all_ascii_digits-take_while cs) where
  go : (b : Bool) → is_ascii_digit c ≡ b → all_ascii_digits (take_while is_ascii_digit cs) ≡ true → all_ascii_digits (take_while is_ascii_digit (c ∷ cs)) ≡ true
  go true digit rest = rw (digit, one-add, digit) rest
  go false other rest = rw other refl

-- a text has no digit in front
abbrev pub Stops : List ℕ → Type 0
Stops [] = ⊤
Stops (c ∷ cs) = is_ascii_digit c ≡ false

pub Stops-drop : (text : List ℕ) → Stops (drop (prefix_len is_ascii_digit text) text)
Stops-drop [] = tt
Stops-drop (c ∷ cs) = go (is_ascii_digit c) refl (Stops-drop cs) where
  go : (b : Bool) → is_ascii_digit c ≡ b → Stops (drop (prefix_len is_ascii_digit cs) cs) → Stops (drop (prefix_len is_ascii_digit (c ∷ cs)) (c ∷ cs))
  go true digit rest = rw (digit, one-add) rest
  go false other rest = rw other other

-- ---- the parts of a number that begins with a run of digits

whole_digits-run : (run rest : List ℕ) → all_ascii_digits run ≡ true → whole_digits (run ++ rest) ≡ run ++ whole_digits rest
whole_digits-run run rest digits =
    ap (λ xs. before_first is_point xs) (before_first-digits is_mark mark_fails run rest digits)
    ∙ before_first-digits is_point point_fails run (before_first is_mark rest) digits

fraction_digits-run : (run rest : List ℕ) → all_ascii_digits run ≡ true → fraction_digits (run ++ rest) ≡ fraction_digits rest
fraction_digits-run run rest digits =
    ap (λ xs. after_first is_point xs) (before_first-digits is_mark mark_fails run rest digits)
    ∙ after_first-digits is_point point_fails run (before_first is_mark rest) digits

exponent_text-run : (run rest : List ℕ) → all_ascii_digits run ≡ true → exponent_text (run ++ rest) ≡ exponent_text rest
exponent_text-run run rest digits = after_first-digits is_mark mark_fails run rest digits

-- what stands in a number of which the digits were read: its parts, and whether it has a mark
pub record Parts (body whole fraction rest : List ℕ) : Type 0 where
  pub whole_is : whole_digits body ≡ whole
  pub fraction_is : fraction_digits body ≡ fraction
  pub exponent_is : exponent_text body ≡ exponent_text rest
  pub mark_is : list_any is_mark body ≡ list_any is_mark rest

-- digits, and no point
parts_whole : (run rest : List ℕ) → all_ascii_digits run ≡ true → Parts (run ++ rest) (run ++ whole_digits rest) (fraction_digits rest) rest
parts_whole run rest digits = record {
  whole_is = whole_digits-run run rest digits;
  fraction_is = fraction_digits-run run rest digits;
  exponent_is = exponent_text-run run rest digits;
  mark_is = list_any-digits is_mark mark_fails run rest digits;
}

-- digits, a point, and digits
pub parts_fraction : (run more rest : List ℕ) → all_ascii_digits run ≡ true → all_ascii_digits more ≡ true →
    Parts (run ++ 46 ∷ (more ++ rest)) run (more ++ before_first is_mark rest) rest
parts_fraction run more rest digits more_digits =
    let tail = more ++ rest in
    let cut = before_first-no is_mark 46 tail refl in
    record {
      whole_is = whole_digits-run run (46 ∷ tail) digits ∙ ap (λ xs. run ++ before_first is_point xs) cut ∙ append-nil run;
      fraction_is = fraction_digits-run run (46 ∷ tail) digits ∙ ap (λ xs. after_first is_point xs) cut ∙ before_first-digits is_mark mark_fails more rest more_digits;
      exponent_is = exponent_text-run run (46 ∷ tail) digits ∙ after_first-no is_mark 46 tail refl ∙ exponent_text-run more rest more_digits;
      mark_is = list_any-digits is_mark mark_fails run (46 ∷ tail) digits ∙ list_any-digits is_mark mark_fails more rest more_digits;
    }

-- ---- what a number is, of which the digits were read and the rest is not yet

pub record Split (body digits : List ℕ) (before after : ℕ) (rest : List ℕ) : Type 0 where
  pub form : is_decimal body ≡ (nat_lt 0 (before + after) && is_end rest)
  pub digits_are : is_end rest ≡ true → whole_digits body ++ fraction_digits body ≡ digits
  pub whole_are : is_end rest ≡ true → length (whole_digits body) ≡ before
  pub places_are : is_end rest ≡ true → length (fraction_digits body) ≡ after
  pub exponent_is : exponent_text body ≡ exponent_text rest

-- the form of a number by its parts
is_decimal-parts : (body whole fraction rest : List ℕ) → Parts body whole fraction rest →
    is_decimal body ≡ (all_ascii_digits whole && all_ascii_digits fraction && nat_lt 0 (length whole + length fraction) && (not (list_any is_mark rest) || is_numeral (unsigned (exponent_text rest))))
is_decimal-parts body whole fraction rest parts =
    rw (parts.whole_is, parts.fraction_is, parts.exponent_is, parts.mark_is) refl

-- where the whole and the fraction are digits, and what follows them is an end
ended : (body whole fraction digits rest : List ℕ) → Parts body whole fraction rest → all_ascii_digits whole ≡ true → all_ascii_digits fraction ≡ true →
    whole ++ fraction ≡ digits → (not (list_any is_mark rest) || is_numeral (unsigned (exponent_text rest))) ≡ is_end rest →
    Split body digits (length whole) (length fraction) rest
ended body whole fraction digits rest parts whole_passes fraction_passes digits_is end_is = record {
  form = is_decimal-parts body whole fraction rest parts ∙ rw (whole_passes, fraction_passes, end_is) refl;
  digits_are = λ _. rw (parts.whole_is, parts.fraction_is) digits_is;
  whole_are = λ _. ap length parts.whole_is;
  places_are = λ _. ap length parts.fraction_is;
  exponent_is = parts.exponent_is;
}

-- what follows the digits is nothing, or has a mark in front: then it is an end where its exponent is a numeral
end_of_nothing : (not (list_any is_mark []) || is_numeral (unsigned (exponent_text []))) ≡ is_end []
end_of_nothing = refl

end_of_mark : (c : ℕ) (cs : List ℕ) → is_mark c ≡ true → (not (list_any is_mark (c ∷ cs)) || is_numeral (unsigned (exponent_text (c ∷ cs)))) ≡ is_end (c ∷ cs)
end_of_mark c cs mark = rw mark refl

-- what follows the digits is neither: then the text is no number
not_ended : (body whole fraction digits : List ℕ) (before after c : ℕ) (cs : List ℕ) → Parts body whole fraction (c ∷ cs) →
    (all_ascii_digits whole && all_ascii_digits fraction) ≡ false → is_mark c ≡ false → Split body digits before after (c ∷ cs)
not_ended body whole fraction digits before after c cs parts fails other =
    let no_end : is_end (c ∷ cs) ≡ false = rw other refl in
    record {
      form = is_decimal-parts body whole fraction (c ∷ cs) parts ∙ rw (fails, no_end, and-false) refl;
      digits_are = λ ends. absurd (true-is-false (sym ends ∙ no_end));
      whole_are = λ ends. absurd (true-is-false (sym ends ∙ no_end));
      places_are = λ ends. absurd (true-is-false (sym ends ∙ no_end));
      exponent_is = parts.exponent_is;
    }
  where
    true-is-false : true ≡ false → ⊥
    true-is-false e = cc

parts_changed : (body whole fraction whole_now fraction_now rest : List ℕ) → Parts body whole fraction rest → whole ≡ whole_now → fraction ≡ fraction_now → Parts body whole_now fraction_now rest
parts_changed body whole fraction whole_now fraction_now rest parts whole_is fraction_is = record {
  whole_is = parts.whole_is ∙ whole_is;
  fraction_is = parts.fraction_is ∙ fraction_is;
  exponent_is = parts.exponent_is;
  mark_is = parts.mark_is;
}

-- what is no digit stays in what is cut off
pub fails-append : (run : List ℕ) (c : ℕ) (cs : List ℕ) → all_ascii_digits run ≡ true → is_ascii_digit c ≡ false → all_ascii_digits (run ++ c ∷ cs) ≡ false
fails-append run c cs digits other = all_ascii_digits-append run (c ∷ cs) digits ∙ rw other refl

-- ---- a run of digits, and no point after it

pub split_whole : (run rest : List ℕ) → all_ascii_digits run ≡ true → Stops rest → HasNoPoint rest → Split (run ++ rest) run (length run) 0 rest
split_whole run [] digits stops point =
    ended (run ++ []) run [] run [] (parts_changed _ _ _ _ _ [] (parts_whole run [] digits) (append-nil run) refl) digits refl (append-nil run) end_of_nothing
split_whole run (c ∷ cs) digits stops point = go (is_mark c) refl where
  go : (b : Bool) → is_mark c ≡ b → Split (run ++ c ∷ cs) run (length run) 0 (c ∷ cs)
  go true mark =
      let cut = before_first-yes is_mark c cs mark in
      let no_whole : whole_digits (c ∷ cs) ≡ [] = ap (λ xs. before_first is_point xs) cut in
      let no_fraction : fraction_digits (c ∷ cs) ≡ [] = ap (λ xs. after_first is_point xs) cut in
      let parts = parts_changed _ _ _ _ _ (c ∷ cs) (parts_whole run (c ∷ cs) digits) (ap (λ xs. run ++ xs) no_whole ∙ append-nil run) no_fraction in
      ended (run ++ c ∷ cs) run [] run (c ∷ cs) parts digits refl (append-nil run) (end_of_mark c cs mark)
  go false other =
      let cut : whole_digits (c ∷ cs) ≡ c ∷ before_first is_point (before_first is_mark cs) =
      ap (λ xs. before_first is_point xs) (before_first-no is_mark c cs other) ∙ before_first-no is_point c (before_first is_mark cs) point in
      let fails : all_ascii_digits (run ++ whole_digits (c ∷ cs)) ≡ false = ap (λ xs. all_ascii_digits (run ++ xs)) cut ∙ fails-append run c _ digits stops in
      not_ended (run ++ c ∷ cs) _ _ run (length run) 0 c cs (parts_whole run (c ∷ cs) digits) (and_left _ _ fails) other

-- ---- a run of digits, a point, and another run

pub split_fraction : (run more rest : List ℕ) → all_ascii_digits run ≡ true → all_ascii_digits more ≡ true → Stops rest →
    Split (run ++ 46 ∷ (more ++ rest)) (run ++ more) (length run) (length more) rest
split_fraction run more [] digits more_digits stops =
    let parts = parts_changed _ _ _ _ _ [] (parts_fraction run more [] digits more_digits) refl (append-nil more) in
    ended (run ++ 46 ∷ (more ++ [])) run more (run ++ more) [] parts digits more_digits refl end_of_nothing
split_fraction run more (c ∷ cs) digits more_digits stops = go (is_mark c) refl where
  go : (b : Bool) → is_mark c ≡ b → Split (run ++ 46 ∷ (more ++ c ∷ cs)) (run ++ more) (length run) (length more) (c ∷ cs)
  go true mark =
      let cut = before_first-yes is_mark c cs mark in
      let parts = parts_changed _ _ _ _ _ (c ∷ cs) (parts_fraction run more (c ∷ cs) digits more_digits) refl (ap (λ xs. more ++ xs) cut ∙ append-nil more) in
      ended (run ++ 46 ∷ (more ++ c ∷ cs)) run more (run ++ more) (c ∷ cs) parts digits more_digits refl (end_of_mark c cs mark)
  go false other =
      let cut = before_first-no is_mark c cs other in
      let fails : all_ascii_digits (more ++ before_first is_mark (c ∷ cs)) ≡ false = ap (λ xs. all_ascii_digits (more ++ xs)) cut ∙ fails-append more c _ more_digits stops in
      not_ended (run ++ 46 ∷ (more ++ c ∷ cs)) _ _ (run ++ more) (length run) (length more) c cs (parts_fraction run more (c ∷ cs) digits more_digits) (and_right _ _ fails) other

-- ---- what was read is the number

pub shows_split : (body digits rest : List ℕ) (before after : ℕ) (sum : Digits) (r : Option Decimal) →
    Split body digits before after rest → Keeps sum digits →
    (IsSome r ↔ IsTrue (nat_lt 0 (before + after) && is_end rest)) → IfSome r (λ d. Ends d sum before after rest) →
    (IsSome r ↔ IsTrue (is_decimal body)) × IfSome r (λ d. Shows d body)
shows_split body digits rest before after sum None split keeps form ends =
    let form_is = split.form in
    ((λ some. rw form_is (form.0 some), λ passes. form.1 (rw form_is at passes)), tt)
shows_split body digits rest before after sum (Some d) split keeps form ends =
    let form_is = split.form in
    let ends_well = (and_parts (nat_lt 0 (before + after)) (is_end rest) (form.0 refl)).1 in
    let exponent_is = split.exponent_is in (
      (λ some. rw form_is (form.0 some), λ passes. refl),
      record {
        digits = rw (ends.digits, split.digits_are ends_well) keeps;
        whole = ends.whole ∙ sym (split.whole_are ends_well);
        places = ends.places ∙ sym (split.places_are ends_well);
        exponent_digits = ends.exponent_digits ∙ rw exponent_is refl;
        raised = ends.raised ∙ rw exponent_is refl;
        lowered = ends.lowered ∙ rw exponent_is refl;
      },
    )

-- the length of the run of digits at the front
pub length-take_while : (text rest : List ℕ) → rest ≡ drop (prefix_len is_ascii_digit text) text → length (take_while is_ascii_digit text) ≡ length text - length rest
length-take_while text rest rest_is =
    let bound = prefix_len-le-length is_ascii_digit text in
    rw (rest_is, length-take, length-drop) (omega arith)

-- a text is the digits at its front and what follows them
pub run_and_rest : (text rest : List ℕ) → rest ≡ drop (prefix_len is_ascii_digit text) text → take_while is_ascii_digit text ++ rest ≡ text
run_and_rest text rest rest_is = rw rest_is (take-append-drop (prefix_len is_ascii_digit text) text)

pub shows_whole : (body rest : List ℕ) (whole : ℕ) (sum : Digits) (r : Option Decimal) →
    rest ≡ drop (prefix_len is_ascii_digit body) body → HasNoPoint rest → whole ≡ length body - length rest → Keeps sum (take_while is_ascii_digit body) →
    (IsSome r ↔ IsTrue (nat_lt 0 (whole + 0) && is_end rest)) → IfSome r (λ d. Ends d sum whole 0 rest) →
    (IsSome r ↔ IsTrue (is_decimal body)) × IfSome r (λ d. Shows d body)
shows_whole body rest whole sum r rest_is point whole_is keeps form ends =
    let stops : Stops rest = rw rest_is (Stops-drop body) in
    let split = split_whole (take_while is_ascii_digit body) rest (all_ascii_digits-take_while body) stops point in
    let split_body = rw (run_and_rest body rest rest_is, length-take_while body rest rest_is, ← whole_is) at split in
    shows_split body (take_while is_ascii_digit body) rest whole 0 sum r split_body keeps form ends

pub shows_fraction : (body text rest : List ℕ) (whole places : ℕ) (sum : Digits) (r : Option Decimal) →
    46 ∷ text ≡ drop (prefix_len is_ascii_digit body) body → rest ≡ drop (prefix_len is_ascii_digit text) text →
    whole ≡ length body - length (46 ∷ text) → places ≡ length text - length rest → Keeps sum (take_while is_ascii_digit body ++ take_while is_ascii_digit text) →
    (IsSome r ↔ IsTrue (nat_lt 0 (whole + places) && is_end rest)) → IfSome r (λ d. Ends d sum whole places rest) →
    (IsSome r ↔ IsTrue (is_decimal body)) × IfSome r (λ d. Shows d body)
shows_fraction body text rest whole places sum r text_is rest_is whole_is places_is keeps form ends =
    let stops : Stops rest = rw rest_is (Stops-drop text) in
    let run = take_while is_ascii_digit body in
    let more = take_while is_ascii_digit text in
    let split = split_fraction run more rest (all_ascii_digits-take_while body) (all_ascii_digits-take_while text) stops in
    let split_text = rw (run_and_rest text rest rest_is, length-take_while text rest rest_is, ← places_is) at split in
    let split_body = rw (run_and_rest body (46 ∷ text) text_is, length-take_while body (46 ∷ text) text_is, ← whole_is) at split_text in
    shows_split body (run ++ more) rest whole places sum r split_body keeps form ends
