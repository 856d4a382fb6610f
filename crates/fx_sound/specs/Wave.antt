-- The head of a RIFF WAVE sound after `RIFF`, on the whole list of bytes.
use Rattle.std.specs.Prelude.{◌≡◌, ℕ, zero, suc, ◌+◌, ◌-◌, ◌*◌, ◌/◌, ◌%◌, ◌^◌, ◌≤◌, min, List, length, take, drop, codes, Option, None, Some, Result, Ok, Err, if◌then◌else◌, nat_lt, not, ◌==◌}
use Rattle.std.specs.Str.{bytes_eq}
use Rattle.std.specs.Int.{w16, w32, from_le_bytes}
use Rattle.fx_frame_base.specs.declared.coding.Coding.{Coding}
use Rattle.fx_frame_base.specs.declared.coding.Coding.TheVariants.{U8, S16Le, S24Le, S32Le}
use Rattle.fx_sound.specs.declared.head.Kind.TheVariants.{Wav}
use Rattle.fx_sound.specs.declared.fields.Format.{Format}
use Rattle.fx_sound.specs.declared.fields.HeadFields.{HeadFields}
use Rattle.fx_sound.specs.Fields.{wav_unknown, plain_tag, extensible_tag, pcm_guid}
use Rattle.fx_sound.specs.HeadFields.{IsProper}
use Rattle.fx_sound.specs.declared.wave.Demand.{Demand}
use Rattle.fx_sound.specs.declared.wave.Demand.TheVariants as demand
use Rattle.fx_sound.specs.declared.wave.ChunkStep.{ChunkStep}
use Rattle.fx_sound.specs.declared.wave.ChunkStep.TheVariants as step
use Rattle.fx_sound.specs.declared.head.HeadFault.{HeadFault}
use Rattle.fx_sound.specs.declared.head.HeadFault.TheVariants.{UnknownType, Truncated, BadHeader, NotInProfile, TooManyChannels, HeadTooLong}

-- the 16-bit number at place i
abbrev pub half_at : ℕ → List ℕ → ℕ
half_at i bytes = from_le_bytes w16 (take 2 (drop i bytes))

-- the 32-bit number at place i
abbrev pub long_at : ℕ → List ℕ → ℕ
long_at i bytes = from_le_bytes w32 (take 4 (drop i bytes))

-- the coding of a width in bits: 8 bits are unsigned
abbrev pub wav_coding : ℕ → Option Coding
wav_coding bits =
    if bits == 8 then Some U8 else
    if bits == 16 then Some S16Le else
    if bits == 24 then Some S24Le else
    if bits == 32 then Some S32Le else None

-- block align and channels, where the coding is one of the profile
abbrev pub with_coding : List ℕ → Option Coding → Result Format HeadFault
with_coding body None = Err NotInProfile
with_coding body (Some coding) =
    if not (half_at 12 body == half_at 2 body * (half_at 14 body / 8)) then Err NotInProfile else
    if nat_lt 16 (half_at 2 body) then Err TooManyChannels else
    Ok (record { rate = long_at 4 body; channels = half_at 2 body; coding = coding })

-- the fields that both tags have, or the first fault
unfoldable pub plain_of : List ℕ → Result Format HeadFault
plain_of body =
    if half_at 2 body == 0 then Err BadHeader else
    if long_at 4 body == 0 then Err BadHeader else
    with_coding body (wav_coding (half_at 14 body))

-- the format that the first forty bytes of a chunk's data encode, or the first fault
unfoldable pub format_of : List ℕ → Result Format HeadFault
format_of body =
    if half_at 0 body == plain_tag then plain_of body else
    if not (half_at 0 body == extensible_tag) then Err NotInProfile else
    if nat_lt (length body) 40 then Err BadHeader else
    if nat_lt (half_at 16 body) 22 then Err BadHeader else
    if not (bytes_eq (take 16 (drop 24 body)) pcm_guid) then Err NotInProfile else
    plain_of body

-- the greatest offset at which a chunk may begin
abbrev pub max_chunk_bytes : ℕ
max_chunk_bytes = 0x1000000 - 8

-- a size with its pad byte
abbrev pub padded_chunk : ℕ → ℕ
padded_chunk size = size + size % 2

-- the announced size, where it is known
abbrev pub announced_of : ℕ → Option ℕ
announced_of size = if nat_lt size wav_unknown then Some size else None

-- the head that ends at a chunk `data`
abbrev pub sound_of : ℕ → Option Format → ℕ → Result Demand HeadFault
sound_of o None size = Err BadHeader
sound_of o (Some f) size = Ok (demand.Sound (record { offset = o + 8; announced = announced_of size; format = f }))

-- what a chunk `fmt ` asks for
abbrev pub format_asked : Option Format → ℕ → Result Demand HeadFault
format_asked (Some f) size = Err BadHeader
format_asked None size = if nat_lt size 16 then Err BadHeader else Ok (demand.Format size)

-- what the name and size of a chunk ask for, whose name stands at place o
unfoldable pub demand_of : ℕ → Option Format → List ℕ → ℕ → Result Demand HeadFault
demand_of o seen name size =
    if bytes_eq name (codes "data") then sound_of o seen size else
    if nat_lt max_chunk_bytes (o + 8 + size + size % 2) then Err HeadTooLong else
    if not (bytes_eq name (codes "fmt ")) then Ok (demand.Other size) else
    format_asked seen size

-- a format that was read is valid
abbrev pub IsProperSeen : Option Format → Type 0
IsProperSeen None = Unit {0}
IsProperSeen (Some f) = IsProper Wav f

-- chunk data that is asked for ends within the limit
abbrev pub IsNearChunk : ℕ → Demand → Type 0
IsNearChunk o (demand.Sound h) = (h.offset ≡ o + 8) × IsProper Wav h.format
IsNearChunk o (demand.Format size) = (16 ≤ size) × (o + 8 + size + size % 2 ≤ max_chunk_bytes)
IsNearChunk o (demand.Other size) = o + 8 + size + size % 2 ≤ max_chunk_bytes

-- the next chunk, at place o, with the format that was read
abbrev pub with_format : ℕ → Result Format HeadFault → Result ChunkStep HeadFault
with_format o (Err e) = Err e
with_format o (Ok f) = Ok (step.Next o (Some f))

-- the format that chunk data of this size encodes, with its pad byte
unfoldable pub format_read : ℕ → List ℕ → Result Format HeadFault
format_read size body = if nat_lt (length body) (padded_chunk size) then Err Truncated else format_of (take (min size 40) body)

-- the result of a request, from the bytes after name and size
abbrev pub with_body : ℕ → Option Format → List ℕ → Result Demand HeadFault → Result ChunkStep HeadFault
with_body o seen body (Err e) = Err e
with_body o seen body (Ok (demand.Sound h)) = Ok (step.Sound h)
with_body o seen body (Ok (demand.Other size)) =
    if nat_lt (length body) (padded_chunk size) then Err Truncated else Ok (step.Next (o + 8 + padded_chunk size) seen)
with_body o seen body (Ok (demand.Format size)) =
    with_format (o + 8 + padded_chunk size) (format_read size body)

-- one chunk at the front of these bytes, that begins at place o
unfoldable pub step_of : ℕ → Option Format → List ℕ → Result ChunkStep HeadFault
step_of o seen rest =
    if nat_lt (length rest) 8 then Err Truncated else
    with_body o seen (drop 8 rest) (demand_of o seen (take 4 rest) (long_at 4 rest))

-- where a step ends
abbrev pub end_of : ChunkStep → ℕ
end_of (step.Sound h) = h.offset
end_of (step.Next o f) = o

-- a step from place o goes on, and within the limit where a chunk follows
abbrev pub GoesOn : ℕ → ChunkStep → Type 0
GoesOn o (step.Sound h) = (h.offset ≡ o + 8) × IsProper Wav h.format
GoesOn o (step.Next next f) = (o + 8 ≤ next) × (next ≤ max_chunk_bytes) × IsProperSeen f

-- a request at offset o
abbrev pub AskedAt : ℕ → Demand → Type 0
AskedAt o d = (o + 8 ≤ 2 ^ 24) × IsNearChunk o d

-- what follows a step from place o
abbrev pub after_step : (ℕ → Option Format → List ℕ → Result HeadFields HeadFault) → ℕ → List ℕ → Result ChunkStep HeadFault → Result HeadFields HeadFault
after_step more o rest (Err e) = Err e
after_step more o rest (Ok (step.Sound h)) = Ok h
after_step more o rest (Ok (step.Next next format)) = more next format (drop (next - o) rest)

-- at most n chunks, of which the first begins at place o
unfoldable pub chunks_of : ℕ → ℕ → Option Format → List ℕ → Result HeadFields HeadFault
chunks_of zero o seen rest = Err HeadTooLong
chunks_of (suc n) o seen rest = after_step (chunks_of n) o rest (step_of o seen rest)

-- more chunks than a head has
abbrev pub max_chunks : ℕ
max_chunks = 2097152

-- the head of a WAVE sound after `RIFF`, or the first fault
unfoldable pub after_riff : List ℕ → Result HeadFields HeadFault
after_riff bytes =
    if nat_lt (length bytes) 8 then Err Truncated else
    if not (bytes_eq (take 4 (drop 4 bytes)) (codes "WAVE")) then Err UnknownType else
    chunks_of max_chunks 12 None (drop 8 bytes)
