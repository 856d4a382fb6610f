-- The words of `echo` and `echos` (sox(1), EFFECTS, echo and echos): two gains, and 1 to 7 pairs of a delay and a decay.
use Rattle.std.specs.Prelude.{ℕ, ◌+◌, ◌%◌, nat_le, nat_lt, nat_eq, not, ◌&&◌, ◌||◌, Bool, List, [], ◌∷◌, ◌++◌, length, pos, unsigned_abs}
use Rattle.std.specs.List.{list_all}
use Rattle.std.specs.Result.{result_unwrap_or}
use Rattle.fx_fixed.specs.declared.gains.TheConstants.{UNIT}
use Rattle.fx_plan_words.specs.declared.fault.Mark.{Mark}
use Rattle.fx_plan_words.specs.declared.fault.PlanCause.TheVariants.{WrongCount}
use Rattle.fx_tap_delays.specs.DelayExtents.{Tap}
use Rattle.fx_tap_delays.specs.Echo.{EchoValue}
use Rattle.fx_tap_delays.specs.declared.echo.words.Echoing.{Echoing}
use Rattle.fx_plan_words.specs.Faults.{Word, mark, when, fault_at}
use Rattle.fx_plan_words.specs.Numbers.{gain_up_to, delay_in}

-- what these words say
abbrev pub echo_value : Echoing → EchoValue
echo_value e = record { gain_in = e.gain_in; gain_out = e.gain_out; taps = e.taps.items }

-- a delay of at least one frame, and a decay of at most one
abbrev pub is_tap : Tap → Bool
is_tap tap = nat_le 1 tap.0 && nat_le (unsigned_abs tap.1) UNIT

-- an input gain of at most one, and 1 to 7 such pairs
abbrev pub are_taps : EchoValue → Bool
are_taps e = nat_le (unsigned_abs e.gain_in) UNIT && (nat_le 1 (length e.taps) && (nat_le (length e.taps) 7 && list_all is_tap e.taps))

-- the faults of pairs, the first word of which has this number
abbrev pub tap_faults : ℕ → ℕ → List Word → List Mark
tap_faults rate number [] = []
tap_faults rate number (delay ∷ []) = []
tap_faults rate number (delay ∷ decay ∷ words) =
    fault_at number (delay_in rate delay)
    ++ (fault_at (number + 1) (gain_up_to 1 decay)
    ++ tap_faults rate (number + 2) words)

-- the pairs that the words are
abbrev pub taps : ℕ → List Word → List Tap
taps rate [] = []
taps rate (delay ∷ []) = []
taps rate (delay ∷ decay ∷ words) =
    (result_unwrap_or (delay_in rate delay) 1, result_unwrap_or (gain_up_to 1 decay) (pos 0)) ∷ taps rate words

-- the faults of the words where there are enough
abbrev pub echo_word_faults : ℕ → List Word → List Mark
echo_word_faults rate [] = []
echo_word_faults rate (gain_in ∷ []) = []
echo_word_faults rate (gain_in ∷ gain_out ∷ words) =
    fault_at 2 (gain_up_to 1 gain_in)
    ++ (fault_at 3 (gain_up_to 1000 gain_out)
    ++ tap_faults rate 4 words)

unfoldable pub echo_faults : ℕ → List Word → List Mark
echo_faults rate words =
    when (nat_lt 16 (length words)) (mark WrongCount 18)
    ++ (when (nat_lt (length words) 4 || not (nat_eq (length words % 2) 0)) (mark WrongCount 1)
    ++ echo_word_faults rate words)

abbrev pub echoing : ℕ → List Word → EchoValue
echoing rate [] = record { gain_in = pos 0; gain_out = pos 0; taps = [] }
echoing rate (gain_in ∷ []) = record { gain_in = pos 0; gain_out = pos 0; taps = [] }
echoing rate (gain_in ∷ gain_out ∷ words) = record {
  gain_in = result_unwrap_or (gain_up_to 1 gain_in) (pos 0);
  gain_out = result_unwrap_or (gain_up_to 1000 gain_out) (pos 0);
  taps = taps rate words;
}
