-- By how many frames taps are late (this project's profile).
use Rattle.std.specs.Prelude.{ℕ, ℤ, ◌+◌, List, [], ◌∷◌}

-- a delay in frames and its decay, in trillionths
abbrev pub Tap : Type 0
Tap = ℕ × ℤ

-- by how many frames a tap is late
abbrev pub tap_delay : Tap → ℕ
tap_delay tap = tap.0

-- by how many frames taps in sequence are late together
abbrev pub sum_of_delays : List Tap → ℕ
sum_of_delays [] = 0
sum_of_delays (tap ∷ taps) = tap_delay tap + sum_of_delays taps
