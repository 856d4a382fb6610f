-- Bytes in an output buffer of C.
use Rattle.std.specs.Prelude.{ℕ, ◌++◌, List, drop, length, nat_le, if◌then◌else◌}

-- an output buffer with these bytes at its front, where it has space for all of them; else unchanged
abbrev pub filled : List ℕ → List ℕ → List ℕ
filled bytes buffer = if nat_le (length bytes) (length buffer) then bytes ++ drop (length bytes) buffer else buffer
