-- The in-specs of `remix` (sox(1), EFFECTS, remix): `[channel][-[channel]][vol-spec]`, with at least a channel or a minus.
use Rattle.std.specs.Prelude.{ℕ, ◌+◌, ◌-◌, ◌==◌, nat_lt, nat_eq, min, max, not, ◌&&◌, ◌||◌, Bool, if◌then◌else◌, List, codes, length, map, slice_index, ℤ, Option, Some, None, Result, Ok, Err}
use Rattle.std.specs.List.{before_first, after_first, position_or_len, range_with_len}
use Rattle.std.specs.Str.Parse.{digits_value}
use Rattle.fx_fixed.specs.Decimals.{is_numeral}
use Rattle.fx_plan_words.specs.declared.fault.PlanCause.{PlanCause}
use Rattle.fx_plan_words.specs.declared.fault.PlanCause.TheVariants.{BadArgument, NotInProfile, NoSuchChannel}
use Rattle.fx_tap_pointwise.specs.declared.remix.words.in_spec.InSpec.{InSpec}
use Rattle.fx_tap_pointwise.specs.declared.remix.words.in_spec.SumContribution.{SumContribution}
use Rattle.fx_plan_words.specs.Faults.{Word}
use Rattle.fx_plan_words.specs.Numbers.{gain_in}

-- a `v`, `i` or `p` begins the vol-spec
abbrev pub is_letter : ℕ → Bool
is_letter c = (c == 118) || (c == 105) || (c == 112)

abbrev pub is_minus : ℕ → Bool
is_minus c = c == 45

-- a test passes at some element of a text
abbrev pub has : (ℕ → Bool) → Word → Bool
has test text = nat_lt (position_or_len test text) (length text)

-- the channel, from 1 on, that a text of digits is
abbrev pub channel_in : Word → Option ℕ
channel_in text = if is_numeral text && nat_lt 0 (digits_value 10 text) then Some (digits_value 10 text) else None

-- an end of a range, which may be left out
abbrev pub end_in : ℕ → Word → Option ℕ
end_in default text = if nat_eq (length text) 0 then Some default else channel_in text

-- two ends, where both are there
abbrev pub ends : Option ℕ → Option ℕ → Option (ℕ × ℕ)
ends None second = None
ends (Some first) None = None
ends (Some first) (Some second) = Some (first, second)

-- the ends of a range: open ones are 1 and the count of channels
abbrev pub ends_in_spec : ℕ → Word → Option (ℕ × ℕ)
ends_in_spec channels text =
    if has is_minus text
    then ends (end_in 1 (before_first is_minus text)) (end_in channels (after_first is_minus text))
    else ends (channel_in text) (channel_in text)

-- a gain that is given
abbrev pub given : Result ℤ PlanCause → Result (Option ℤ) PlanCause
given (Ok gain) = Ok (Some gain)
given (Err cause) = Err cause

-- the gain of a letter and what follows it: alone `v` and `p` are `v1` and `i` is `v-1`; `p` and `i` with a number are not
-- supported
abbrev pub given_by_spec : ℕ → Word → Result (Option ℤ) PlanCause
given_by_spec letter tail =
    if not (nat_eq (length tail) 0) && not (letter == 118) then Err NotInProfile
    else (if not (nat_eq (length tail) 0) then given (gain_in tail)
    else (if letter == 105 then given (gain_in (codes "-1"))
    else given (gain_in (codes "1"))))

-- the gain of the vol-spec that a text ends with
abbrev pub vol_spec : Word → Result (Option ℤ) PlanCause
vol_spec text =
    if has is_letter text
    then given_by_spec (slice_index text (position_or_len is_letter text)) (after_first is_letter text)
    else Ok None

-- a range with its gain, unless it names a channel that is not there; written backwards it is the same
abbrev pub in_range : ℕ → ℕ × ℕ → Option ℤ → Result InSpec PlanCause
in_range channels ends gain =
    if nat_lt channels ends.0 || nat_lt channels ends.1 then Err NoSuchChannel
    else Ok (record { low = min ends.0 ends.1; high = max ends.0 ends.1; gain = gain })

-- its form comes first, then its letter, then its channels
abbrev pub in_turn : ℕ → Option (ℕ × ℕ) → Result (Option ℤ) PlanCause → Result InSpec PlanCause
in_turn channels None gain = Err BadArgument
in_turn channels (Some ends) (Err cause) = Err cause
in_turn channels (Some ends) (Ok gain) = in_range channels ends gain

-- the meaning of an in-spec, at `channels` channels
abbrev pub in_spec : ℕ → Word → Result InSpec PlanCause
in_spec channels text = in_turn channels (ends_in_spec channels (before_first is_letter text)) (vol_spec text)

-- the channels that an in-spec adds to a sum, where they count from 0
abbrev pub contribution : Option ℤ → ℕ → SumContribution
contribution gain channel = record { channel = channel; gain = gain }

abbrev pub channels_from : InSpec → List SumContribution
channels_from found = map (contribution found.gain) (range_with_len (found.low - 1) (found.high + 1 - found.low))
