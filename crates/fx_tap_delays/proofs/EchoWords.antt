-- The words of an echo without a fault are within the limits.
use Rattle.std.proofs.Common.{◌≡◌, ℕ, ◌+◌, ◌*◌, ◌≤◌, ℤ, pos, unsigned_abs, true, nat_le, List, [], ◌∷◌, ◌++◌, length, Ok, refl, sym, arith}
use Rattle.std.specs.List.{list_all}
use Rattle.std.specs.Result.{result_unwrap_or}
use Rattle.std.proofs.lemmas.Bool.{and_from, le-leb}
use Rattle.fx_fixed.specs.declared.gains.TheConstants.{UNIT}
use Rattle.fx_plan_words.specs.Faults.{Word, fault_at}
use Rattle.fx_plan_words.specs.Numbers.{delay_in, gain_up_to}
use Rattle.fx_tap_delays.specs.EchoWords.{are_taps, echoing, is_tap, tap_faults, taps, echo_word_faults}
use Rattle.fx_plan_words.proofs.Ranges.{delay_later, gain_small, kept, no_faults}

-- the pairs of an echo
pub taps_fit : (rate number : ℕ) (words : List Word) → tap_faults rate number words ≡ [] → list_all is_tap (taps rate words) ≡ true
taps_fit rate number [] h = refl
taps_fit rate number (delay ∷ []) h = refl
taps_fit rate number (delay ∷ decay ∷ words) h =
    let first = no_faults (fault_at number (delay_in rate delay)) (fault_at (number + 1) (gain_up_to 1 decay) ++ tap_faults rate (number + 2) words) h in
    let second = no_faults (fault_at (number + 1) (gain_up_to 1 decay)) (tap_faults rate (number + 2) words) first.1 in
    let later = kept (λ n. 1 ≤ n) number (delay_in rate delay) 1 first.0 (delay_later rate delay) in
    let small = kept (λ g. nat_le (unsigned_abs g) (1 * UNIT) ≡ true) (number + 1) (gain_up_to 1 decay) (pos 0) second.0 (gain_small 1 decay) in
    and_from _ _ (and_from _ _ (le-leb 1 (result_unwrap_or (delay_in rate delay) 1) later) small) (taps_fit rate (number + 2) words second.1)

-- no more pairs than half of the words, and one where there are two
pub taps_bound : (rate : ℕ) (words : List Word) → 2 * length (taps rate words) ≤ length words
taps_bound rate [] = omega arith
taps_bound rate (delay ∷ []) = omega arith
taps_bound rate (delay ∷ decay ∷ words) = let rest = taps_bound rate words in omega arith

pub taps_some : (rate : ℕ) (words : List Word) → 2 ≤ length words → 1 ≤ length (taps rate words)
taps_some rate [] h = absurd (omega arith)
taps_some rate (delay ∷ []) h = absurd (omega arith)
taps_some rate (delay ∷ decay ∷ words) h = omega arith

-- an echo of words without a fault
pub echoing_fits : (rate : ℕ) (words : List Word) → echo_word_faults rate words ≡ [] → 4 ≤ length words → length words ≤ 16 → are_taps (echoing rate words) ≡ true
echoing_fits rate [] h minimum maximum = absurd (omega arith)
echoing_fits rate (first ∷ []) h minimum maximum = absurd (omega arith)
echoing_fits rate (first ∷ second ∷ words) h minimum maximum =
    let rest_unchanged = no_faults (fault_at 2 (gain_up_to 1 first)) (fault_at 3 (gain_up_to 1000 second) ++ tap_faults rate 4 words) h in
    let pairs = no_faults (fault_at 3 (gain_up_to 1000 second)) (tap_faults rate 4 words) rest_unchanged.1 in
    let small = kept (λ g. nat_le (unsigned_abs g) (1 * UNIT) ≡ true) 2 (gain_up_to 1 first) (pos 0) rest_unchanged.0 (gain_small 1 first) in
    let bound = taps_bound rate words in
    let some = taps_some rate words (omega arith) in
    let low : nat_le 1 (length (taps rate words)) ≡ true = le-leb 1 (length (taps rate words)) (omega arith) in
    let high : nat_le (length (taps rate words)) 7 ≡ true = le-leb (length (taps rate words)) 7 (omega arith) in
    and_from _ _ small (and_from _ _ low (and_from _ _ high (taps_fit rate 4 words pairs.1)))

-- a pair without a fault
pub tap_faults-step : (rate number frames : ℕ) (gain : ℤ) (delay decay : Word) (words : List Word) → Ok frames ≡ delay_in rate delay → Ok gain ≡ gain_up_to 1 decay →
    tap_faults rate number (delay ∷ decay ∷ words) ≡ tap_faults rate (number + 2) words
tap_faults-step rate number frames gain delay decay words h k = rw (sym h, sym k) refl
