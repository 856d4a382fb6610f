-- Numbers with a cap of 1000, which stands for each greater number.
use Rattle.std.specs.Prelude.{ℕ, min}

-- the number, or 1000 where it is more
abbrev pub capped : ℕ → ℕ
capped n = min n 1000

-- the same of two numbers
abbrev pub both_capped : ℕ × ℕ → ℕ × ℕ
both_capped ends = (capped ends.0, capped ends.1)
