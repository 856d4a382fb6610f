-- Coefficient files, by sox(1), fir, and this project's profile: cut into lines, and these into words.
use Rattle.std.specs.Prelude.{ℕ, ◌^◌, ◌==◌, nat_lt, not, ◌&&◌, ◌||◌, Bool, if◌then◌else◌, List, length, map, ℤ, pos, Option, Some, None, is_ok}
use Rattle.std.specs.List.{before_first, filter, flat_map, list_all, slice_split}
use Rattle.std.specs.Result.{result_unwrap_or}
use Rattle.fx_fixed.specs.Gains.{gain_of}

-- white space: a space, or a tab, line feed, vertical tab, form feed or carriage return
abbrev pub is_white : ℕ → Bool
is_white c = (c == 32) || (nat_lt 8 c && nat_lt c 14)

-- a line feed, and what begins a comment
abbrev pub is_feed : ℕ → Bool
is_feed c = c == 10

abbrev pub is_hash : ℕ → Bool
is_hash c = c == 35

abbrev pub has_bytes : List ℕ → Bool
has_bytes word = nat_lt 0 (length word)

-- the words of a line, which a comment ends
abbrev pub words_in : List ℕ → List (List ℕ)
words_in line = filter has_bytes (slice_split is_white (before_first is_hash line))

-- the words of a file
abbrev pub words_of : List ℕ → List (List ℕ)
words_of bytes = flat_map words_in (slice_split is_feed bytes)

-- a word is a gain, and which
abbrev pub is_gain : List ℕ → Bool
is_gain word = is_ok (gain_of (10 ^ 12) word)

abbrev pub gain_in : List ℕ → ℤ
gain_in word = result_unwrap_or (gain_of (10 ^ 12) word) (pos 0)

-- a file of at most 2^20 bytes has 1 to 1024 words, each of which is a gain
abbrev pub is_accepted : List ℕ → Bool
is_accepted bytes =
    not (nat_lt (2 ^ 20) (length bytes))
    && list_all is_gain (words_of bytes)
    && nat_lt 0 (length (words_of bytes))
    && not (nat_lt 1024 (length (words_of bytes)))

-- the coefficients of a file, if it is accepted
abbrev pub coefficients_of : List ℕ → Option (List ℤ)
coefficients_of bytes = if is_accepted bytes then Some (map gain_in (words_of bytes)) else None
