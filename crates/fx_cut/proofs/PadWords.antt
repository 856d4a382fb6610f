-- The words of a `pad` without a fault are within the limits.
use Rattle.std.proofs.Common.{◌≡◌, ℕ, suc, ◌+◌, ◌*◌, ◌^◌, ◌<◌, ◌≤◌, Bool, true, nat_eq, nat_lt, List, [], ◌∷◌, length, map, sum_by, Result, Ok, Err, IfOk, refl, ap, arith}
use Rattle.std.specs.List.{after_first, before_first}
use Rattle.std.proofs.lemmas.Bool.{and_from, cond_both, le-leb, ltb-false}
use Rattle.std.proofs.lemmas.List.Sums.{sum_by-cons}
use Rattle.fx_fixed.specs.declared.positions.Anchor.TheVariants as anchors
use Rattle.fx_fixed.specs.declared.positions.At.{At}
use Rattle.fx_fixed.specs.declared.positions.At.TheVariants.{Start, End}
use Rattle.fx_plan_words.specs.declared.fault.PlanCause.{PlanCause}
use Rattle.fx_plan_words.specs.declared.fault.PlanCause.TheVariants.{PositionBehind}
use Rattle.fx_cut.specs.PadExtents.{pad_length}
use Rattle.fx_plan_words.specs.Faults.{Word, mark, when}
use Rattle.fx_plan_words.specs.Numbers.{beginning, frames_in, position_in}
use Rattle.fx_cut.specs.PadWords.{Length, are_pads, are_rising, has_at, is_at, word_lengths, numbered_pads, pad_in, placed_words, position_at, with_length}
use Rattle.fx_cut.specs.TrimWords.{order_faults}
use Rattle.fx_plan_words.proofs.Ranges.{frames_near, no_faults, no_fault_when}

-- positions after one from the start
rising_after : (number minimum : ℕ) (ps : List At) → order_faults number (Start minimum ∷ ps) ≡ [] → are_rising minimum ps ≡ true
rising_after number minimum [] h = refl
rising_after number minimum (Start p ∷ ps) h =
    let parts = no_faults (when (nat_lt p minimum) (mark PositionBehind number)) (order_faults (number + 1) (Start p ∷ ps)) h in
    let before = no_fault_when (nat_lt p minimum) (mark PositionBehind number) parts.0 in
    and_from _ _ (le-leb minimum p (ltb-false p minimum before)) (rising_after (number + 1) p ps parts.1)
rising_after number minimum (End b ∷ ps) h = refl

pub rising : (number : ℕ) (ps : List At) → order_faults number ps ≡ [] → are_rising 0 ps ≡ true
rising number [] h = refl
rising number (Start p ∷ ps) h = and_from _ _ (le-leb 0 p (omega arith)) (rising_after number p ps h)
rising number (End b ∷ ps) h = refl

-- the length that a word is
with_length-near : (r : Result ℕ PlanCause) (s : Result At PlanCause) → IfOk r (λ n. n ≤ 2 ^ 40) → IfOk (with_length r s) (λ pad. pad.0 ≤ 2 ^ 40)
with_length-near (Ok n) (Ok at) h = h
with_length-near (Ok n) (Err cause) h = tt
with_length-near (Err cause) s h = tt

placed-near : (at : At) (r : Result ℕ PlanCause) → IfOk r (λ n. n ≤ 2 ^ 40) → IfOk (placed_words at r) (λ pad. pad.0 ≤ 2 ^ 40)
placed-near at (Ok n) h = h
placed-near at (Err cause) h = tt

pad_in-near : (rate : ℕ) (previous : At) (is_first is_last : Bool) (word : Word) → IfOk (pad_in rate previous is_first is_last word) (λ pad. pad.0 ≤ 2 ^ 40)
pad_in-near rate previous is_first is_last word =
    let Q : Result Length PlanCause → Type 0 = λ r. IfOk r (λ pad. pad.0 ≤ 2 ^ 40) in
    let length_at = with_length-near (frames_in rate (before_first is_at word)) (position_in rate anchors.Start previous (after_first is_at word)) (frames_near rate (before_first is_at word)) in
    let at_start = placed-near (Start 0) (frames_in rate word) (frames_near rate word) in
    let at_end = placed-near (End 0) (frames_in rate word) (frames_near rate word) in
    cond_both (has_at word) _ _ Q (λ _. length_at) (λ _. cond_both is_first _ _ Q (λ _. at_start) (λ _. cond_both is_last _ _ Q (λ _. at_end) (λ _. tt)))

-- one length more
sum_next : (pad : Length) (pads : List Length) (n : ℕ) → pad.0 ≤ 2 ^ 40 → sum_by pad_length pads ≤ n * 2 ^ 40 → sum_by pad_length (pad ∷ pads) ≤ suc n * 2 ^ 40
sum_next pad pads n near rest = omega (arith, sum_by-cons pad_length pad pads)

pub lengths_near : (rate number : ℕ) (previous : At) (words : List Word) → sum_by pad_length (word_lengths rate number previous words) ≤ length words * 2 ^ 40
lengths_near rate number previous [] = omega arith
lengths_near rate number previous (word ∷ words) =
    by (numbered_pads rate number previous word words) (pad_in-near rate previous (nat_eq number 2) (nat_eq (length words) 0) word) refl (λ at. lengths_near rate (number + 1) at words)
  where
    by : (r : Result Length PlanCause) → IfOk r (λ pad. pad.0 ≤ 2 ^ 40) → numbered_pads rate number previous word words ≡ r → ((at : At) → sum_by pad_length (word_lengths rate (number + 1) at words) ≤ length words * 2 ^ 40) →
        sum_by pad_length (word_lengths rate number previous (word ∷ words)) ≤ length (word ∷ words) * 2 ^ 40
    by (Ok pad) near e rest = rw (e, word_lengths) (sum_next pad (word_lengths rate (number + 1) pad.1 words) (length words) near (rest pad.1))
    by (Err cause) near e rest = rw (e, word_lengths) (let same = rest previous in omega arith)

pub pads_fit : (rate : ℕ) (words : List Word) (pads : List Length) → pads ≡ word_lengths rate 2 beginning words → order_faults 3 (map position_at pads) ≡ [] → length words ≤ 64 → are_pads pads ≡ true
pads_fit rate words pads same order bound =
    let total = lengths_near rate 2 beginning words in
    let sum : sum_by pad_length pads ≡ sum_by pad_length (word_lengths rate 2 beginning words) = ap (sum_by pad_length) same in
    and_from _ _ (rising 3 (map position_at pads) order) (le-leb (sum_by pad_length pads) (2 ^ 46) (omega arith))

-- fewer than two pads are in order
pub pad_order-short : (number : ℕ) (pads : List Length) → length pads < 2 → order_faults number (map position_at pads) ≡ []
pad_order-short number [] short = refl
pad_order-short number (p ∷ []) short = refl
pad_order-short number (p ∷ q ∷ ps) short = absurd (omega arith)

pub ruleset pad_orders = pad_order-short
