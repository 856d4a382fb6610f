-- Where a fade stops, and how far its stop reaches from the end of a sound (this project's profile).
use Rattle.std.specs.Prelude.{ℕ, zero, ◌+◌, Option, Some, None}
use Rattle.fx_fixed.specs.declared.positions.At.{At}
use Rattle.fx_fixed.specs.declared.positions.At.TheVariants.{Start, End}

-- where a fade stops: a stop at 0 from the start means the end
abbrev pub effective : Option At → Option At
effective (Some (Start zero)) = Some (End 0)
effective stop = stop

-- the frames that a fade waits for: before a stop from the end, those that may be faded out or may lie after it
abbrev pub stop_line : Option At → ℕ → ℕ
stop_line None fade_out = 0
stop_line (Some (Start frames)) fade_out = 0
stop_line (Some (End frames)) fade_out = frames + fade_out
