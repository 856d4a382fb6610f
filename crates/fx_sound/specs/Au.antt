-- The head of a Sun AU sound after `.snd`, on the whole list of bytes. Places count from there.
use Rattle.std.specs.Prelude.{ℕ, ◌+◌, List, length, take, drop, Option, None, Some, Result, Ok, Err, if◌then◌else◌, nat_lt, ◌==◌}
use Rattle.std.specs.Int.{w32, from_be_bytes}
use Rattle.fx_frame_base.specs.declared.coding.Coding.{Coding}
use Rattle.fx_frame_base.specs.declared.coding.Coding.TheVariants.{S8, S16Be, S24Be, S32Be}
use Rattle.fx_sound.specs.Fields.{au_unknown}
use Rattle.fx_sound.specs.declared.fields.HeadFields.{HeadFields}
use Rattle.fx_sound.specs.declared.head.HeadFault.{HeadFault}
use Rattle.fx_sound.specs.declared.head.HeadFault.TheVariants.{Truncated, BadHeader, NotInProfile, TooManyChannels, HeadTooLong}

-- the 32-bit number at place i, big-endian
abbrev pub word_at : ℕ → List ℕ → ℕ
word_at i bytes = from_be_bytes w32 (take 4 (drop i bytes))

-- the coding of an encoding: 2 to 5 are integers of 8, 16, 24 and 32 bits
abbrev pub au_coding : ℕ → Option Coding
au_coding encoding =
    if encoding == 2 then Some S8 else
    if encoding == 3 then Some S16Be else
    if encoding == 4 then Some S24Be else
    if encoding == 5 then Some S32Be else None

-- the announced size, where it is known
abbrev pub au_announced : ℕ → Option ℕ
au_announced size = if size == au_unknown then None else Some size

-- rate and channels, where the coding is one of the profile
abbrev pub with_au_coding : List ℕ → Option Coding → Result HeadFields HeadFault
with_au_coding words None = Err NotInProfile
with_au_coding words (Some coding) =
    if word_at 12 words == 0 then Err BadHeader else
    if word_at 16 words == 0 then Err BadHeader else
    if nat_lt 16 (word_at 16 words) then Err TooManyChannels else
    Ok (record { format = record { rate = word_at 12 words; channels = word_at 16 words; coding = coding }; announced = au_announced (word_at 4 words); offset = word_at 0 words })

-- the meaning of the five words: offset, size, encoding, rate, channels; or the first fault
unfoldable pub au_fields : List ℕ → Result HeadFields HeadFault
au_fields words =
    if nat_lt (word_at 0 words) 24 then Err BadHeader else
    if nat_lt 0x1000000 (word_at 0 words) then Err HeadTooLong else
    with_au_coding words (au_coding (word_at 8 words))

-- all bytes up to the sound are there, of which n stand after `.snd`
abbrev pub with_sound : ℕ → Result HeadFields HeadFault → Result HeadFields HeadFault
with_sound n (Err e) = Err e
with_sound n (Ok l) = if nat_lt (n + 4) l.offset then Err Truncated else Ok l

-- the head after `.snd`, or the first fault
unfoldable pub after_snd : List ℕ → Result HeadFields HeadFault
after_snd bytes =
    if nat_lt (length bytes) 20 then Err Truncated else
    with_sound (length bytes) (au_fields (take 20 bytes))
