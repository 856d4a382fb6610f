-- Samples as bytes.
use Rattle.std.specs.Prelude.{ℕ, ◌-◌, ◌*◌, ◌^◌, Bool, false, List, ℤ, pos, ◌+ℤ◌, ◌-ℤ◌, ◌*ℤ◌, int_lt, slice_index, [], ◌∷◌, unsigned_abs}
use Rattle.std.specs.Int.{w8, w16, w32, w64, cast_signed, cast_unsigned, int_min, int_div_euclid}
use Rattle.byteorder.specs.Endian.{twos_complement, low_bytes, little_number, big_number, little_bytes, big_bytes}
use Rattle.fx_frame_base.specs.declared.coding.Coding.{Coding}
use Rattle.fx_frame_base.specs.declared.coding.Coding.TheVariants.{U8, S8, S16Le, S16Be, S24Le, S24Be, S32Le, S32Be}

-- how many bytes a sample takes
abbrev pub width_of : Coding → ℕ
width_of U8 = 1
width_of S8 = 1
width_of S16Le = 2
width_of S16Be = 2
width_of S24Le = 3
width_of S24Be = 3
width_of S32Le = 4
width_of S32Be = 4

-- a number of `width` bytes, converted to a sample of 32 bits
abbrev pub widened : ℕ → ℤ → ℤ
widened width z = z *ℤ pos (2 ^ (32 - 8 * width))

-- the sample that the bytes are
abbrev pub read_sample : Coding → List ℕ → ℤ
read_sample U8 bytes = widened 1 (pos (slice_index bytes 0) -ℤ pos 128)
read_sample S8 bytes = widened 1 (cast_signed w8 (slice_index bytes 0))
read_sample S16Le bytes = widened 2 (cast_signed w16 (little_number 2 bytes))
read_sample S16Be bytes = widened 2 (cast_signed w16 (big_number 2 bytes))
read_sample S24Le bytes = widened 3 (twos_complement 3 (little_number 3 bytes))
read_sample S24Be bytes = widened 3 (twos_complement 3 (big_number 3 bytes))
read_sample S32Le bytes = cast_signed w32 (little_number 4 bytes)
read_sample S32Be bytes = cast_signed w32 (big_number 4 bytes)

-- a sample of 32 bits in `width` bytes, rounded, halves upward
abbrev pub narrowed : ℕ → ℤ → ℤ
narrowed width z = int_div_euclid (z +ℤ pos (2 ^ (31 - 8 * width))) (pos (2 ^ (32 - 8 * width)))

-- the maximum value of `width` bytes
abbrev pub largest_sample : ℕ → ℤ
largest_sample width = pos (2 ^ (8 * width - 1) - 1)

-- that number, or the maximum where it is more
abbrev pub limited : ℕ → ℤ → ℤ
limited width z = int_min (narrowed width z) (largest_sample width)

-- the bytes of a sample
abbrev pub written_sample : Coding → ℤ → List ℕ
written_sample U8 z = unsigned_abs (limited 1 z +ℤ pos 128) ∷ []
written_sample S8 z = cast_unsigned w8 (limited 1 z) ∷ []
written_sample S16Le z = little_bytes 2 (cast_unsigned w16 (limited 2 z))
written_sample S16Be z = big_bytes 2 (cast_unsigned w16 (limited 2 z))
written_sample S24Le z = little_bytes 3 (low_bytes w64 3 (limited 3 z))
written_sample S24Be z = big_bytes 3 (low_bytes w64 3 (limited 3 z))
written_sample S32Le z = little_bytes 4 (cast_unsigned w32 z)
written_sample S32Be z = big_bytes 4 (cast_unsigned w32 z)

-- it does not fit
abbrev pub is_too_large : ℕ → ℤ → Bool
is_too_large width z = int_lt (largest_sample width) (narrowed width z)

-- the sample is clipped on writing
abbrev pub clips_written : Coding → ℤ → Bool
clips_written U8 z = is_too_large 1 z
clips_written S8 z = is_too_large 1 z
clips_written S16Le z = is_too_large 2 z
clips_written S16Be z = is_too_large 2 z
clips_written S24Le z = is_too_large 3 z
clips_written S24Be z = is_too_large 3 z
clips_written S32Le z = false
clips_written S32Be z = false
