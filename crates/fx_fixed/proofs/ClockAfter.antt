-- Clock times of which some components were read before.
use Rattle.std.proofs.Common.{ℕ, ◌+◌, ◌*◌, Bool, ◌&&◌, List, length, Err, nat_lt, ◌==◌, sum_by, fold, if◌then◌else◌, Result}
use Rattle.std.specs.List.{list_all}
use Rattle.std.specs.Str.Parse.{digits_value}
use Rattle.fx_fixed.specs.Clock.{components_of, fraction_of, clock_frames_of, is_short, tail_of, within_reach}
use Rattle.fx_fixed.specs.declared.times.TimeFault.{TimeFault}
use Rattle.fx_fixed.specs.declared.times.TimeFault.TheVariants.{BadTime}

-- the seconds of the components, after those of components before
abbrev pub seconds_after : ℕ → List (List ℕ) → ℕ
seconds_after total components = fold (λ seconds component. 60 * seconds + digits_value 10 component) total components

-- the form of a clock time of these parts, of which so many components with so many digits were read before
abbrev pub is_clock : ℕ → ℕ → List (List ℕ) → List ℕ → List ℕ → Bool
is_clock count digits components fraction tail =
    list_all is_short components
    && is_short fraction
    && nat_lt (count + length components) 4
    && nat_lt 0 (digits + sum_by length components + length fraction)
    && (length tail == 0)

-- the frames of such a clock time, or the first fault
abbrev pub clock_by : ℕ → ℕ → ℕ → ℕ → List (List ℕ) → List ℕ → List ℕ → Result ℕ TimeFault
clock_by rate total count digits components fraction tail =
    if is_clock count digits components fraction tail
    then within_reach
    (clock_frames_of rate (seconds_after total components) (digits_value 10 fraction) (length fraction))
    else Err BadTime

-- the same of a text
abbrev pub clock_after : ℕ → ℕ → ℕ → ℕ → List ℕ → Result ℕ TimeFault
clock_after rate total count digits text =
    clock_by rate total count digits (components_of text) (fraction_of text) (tail_of text)
