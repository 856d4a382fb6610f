-- The bytes of IN after the end that the head of a WAVE announces for the whole file (RIFF WAVE; this project's profile).
use Rattle.std.specs.Prelude.{◌≡◌, ℕ, zero, suc, ◌+◌, ◌-◌, ◌%◌, ◌&&◌, nat_lt, not, if◌then◌else◌, List, Option, Some, None, codes, length, take}
use Rattle.std.specs.Str.{bytes_eq}
use Rattle.fx_sound.specs.Known.{IfKnown}
use Rattle.fx_sound.specs.Wave.{long_at}
use Rattle.soxchain_common.specs.SameFile.{Looks}
use Rattle.soxchain_common.specs.declared.same_file.Identity.{Identity}

-- where a WAVE that begins with these bytes announces its end: 8 bytes, the size after `RIFF`, and one more where that is odd
abbrev pub announced_end : List ℕ → Option ℕ
announced_end front =
    if not (nat_lt (length front) 8) && bytes_eq (take 4 front) (codes "RIFF")
    then Some (8 + long_at 4 front + long_at 4 front % 2) else None

-- the end that these bytes announce, where they are known, by the first of them that came
abbrev pub IsEndOf : Option (List ℕ) → Option ℕ → Type 0
IsEndOf known end = (front : List ℕ) × IfKnown known (λ bytes. front ≡ take (length front) bytes) × (end ≡ announced_end front)

-- that end, where the size of the sound is known too, and a sound of so many bytes after the shortest head, of 44, ends before it
abbrev pub plausible_end : Option ℕ → Option ℕ → Option ℕ
plausible_end (Some (suc bytes)) (Some end) = if nat_lt end (44 + suc bytes) then None else Some end
plausible_end announced end = None

-- how many bytes of a file follow an end, where it has stored content
abbrev pub beyond_end : Option Identity → ℕ → Option ℕ
beyond_end None end = None
beyond_end (Some file) end = if file.is_plain then Some (file.length - end) else None

-- Of a named input with such an end, so many bytes follow the end, as one inspection of it found. Else nothing was asked for, and
-- it is not known.
abbrev pub AreBeyond : {H : Type 0} → Looks H → H → H → Option (List ℕ) → Option ℕ → Option ℕ → Type 0
AreBeyond looks host new_host (Some name) (Some end) beyond = (found : Option Identity) × looks host new_host name found × (beyond ≡ beyond_end found end)
AreBeyond looks host new_host input end beyond = (new_host ≡ host) × (beyond ≡ None)
