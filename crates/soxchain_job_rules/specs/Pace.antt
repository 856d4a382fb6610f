-- How many pieces a round has.
use Rattle.std.specs.Prelude.{ℕ, ◌*◌, ◌/◌, ◌-◌, ◌^◌, ◌==◌, if◌then◌else◌, min, max, Option, Some, None}
use Rattle.std.specs.Int.{div_ceil}
use Rattle.soxchain_job_rules.specs.declared.pace.Round.{Round}

-- how long the last round converted, in microseconds
abbrev pub converting_time : Round → ℕ
converting_time last = max 1 last.converting

-- the smallest number of pieces that take at least as long as the last checkpoint took
abbrev pub amortizing_pieces : Round → ℕ
amortizing_pieces last = div_ceil (last.checkpoint * last.pieces) (converting_time last)

-- the largest number of pieces that take at most the interval
abbrev pub fitting_pieces : Round → ℕ → ℕ
fitting_pieces last interval = interval * last.pieces / converting_time last

-- as many as fit the interval, but at most four times as many as before; at least those that pay for the checkpoint, and one
abbrev pub pieces_after : Round → ℕ → ℕ
pieces_after last interval = max 1 (max (amortizing_pieces last) (min (fitting_pieces last interval) (4 * last.pieces)))

abbrev pub next_pieces : Option Round → ℕ → ℕ
next_pieces None interval = if interval == 0 then 1 else 64
next_pieces (Some last) interval = min (2 ^ 64 - 1) (pieces_after last interval)
