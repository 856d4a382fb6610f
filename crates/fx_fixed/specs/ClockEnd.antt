-- What follows the components of a clock time.
use Rattle.std.specs.Prelude.{ℕ, ◌≡◌, ◌+◌, ◌==◌, nat_lt, ◌&&◌, Bool, true, false, ⊤, if◌then◌else◌, List, [], ◌∷◌, length, Result, Err}
use Rattle.std.specs.Str.Parse.{digits_value}
use Rattle.fx_fixed.specs.Clock.{before_point, fraction_of, clock_frames_of, is_short, is_t, tail_of, within_reach}
use Rattle.fx_fixed.specs.declared.times.TimeFault.{TimeFault}
use Rattle.fx_fixed.specs.declared.times.TimeFault.TheVariants.{BadTime}

-- a text does not begin with that byte
abbrev pub BeginsNot : ℕ → List ℕ → Type 0
BeginsNot byte [] = ⊤
BeginsNot byte (c ∷ cs) = (c == byte) ≡ false

-- nothing, or a `t` alone
abbrev pub is_last : List ℕ → Bool
is_last [] = true
is_last (c ∷ cs) = is_t c && (length cs == 0)

-- the frames where the digits of the components and of the fraction were read
abbrev pub after_fraction : ℕ → ℕ → ℕ → ℕ → ℕ → List ℕ → Result ℕ TimeFault
after_fraction rate seconds digits fraction places rest =
    if nat_lt 0 (digits + places) && is_last rest
    then within_reach (clock_frames_of rate seconds fraction places)
    else Err BadTime

-- the frames by what stands between the components' digits and the point, the fraction, and what follows a `t`
abbrev pub by_parts : ℕ → ℕ → ℕ → List ℕ → List ℕ → List ℕ → Result ℕ TimeFault
by_parts rate seconds digits front fraction tail =
    if (length front == 0)
    && is_short fraction
    && nat_lt 0 (digits + length fraction)
    && (length tail == 0)
    then within_reach (clock_frames_of rate seconds (digits_value 10 fraction) (length fraction))
    else Err BadTime

-- the frames where the digits of the components were read
abbrev pub after_components : ℕ → ℕ → ℕ → List ℕ → Result ℕ TimeFault
after_components rate seconds digits rest =
    by_parts rate seconds digits (before_point rest) (fraction_of rest) (tail_of rest)
