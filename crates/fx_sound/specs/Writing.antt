-- The heads that are written (RIFF WAVE, Sun AU, this project's profile).
use Rattle.std.specs.Prelude.{ℕ, ◌+◌, ◌-◌, ◌*◌, ◌^◌, ◌%◌, min, Bool, ◌&&◌, nat_le, nat_lt, if◌then◌else◌, List, ◌++◌, length, codes, Option, Some, None}
use Rattle.byteorder.specs.Endian.{little_bytes, big_bytes}
use Rattle.fx_frame_base.specs.declared.coding.Coding.{Coding}
use Rattle.fx_frame_base.specs.Coding.{width_of}
use Rattle.fx_sound.specs.FrameCoding.{frame_size}
use Rattle.fx_sound.specs.Fields.{wav_unknown, au_unknown, plain_tag, extensible_tag, pcm_guid}
use Rattle.fx_sound.specs.declared.head.Kind.{Kind}
use Rattle.fx_sound.specs.declared.head.Kind.TheVariants.{Wav, Au}

-- the bytes of sound, where they are known and can be written
abbrev pub known_size : ℕ → ℕ → Option ℕ → Option ℕ
known_size limit size None = None
known_size limit size (Some frames) = if nat_lt (frames * size) limit then Some (frames * size) else None

-- tag, channels, rate, byte rate, block align, bits
abbrev pub format_fields : ℕ → ℕ → ℕ → ℕ → List ℕ
format_fields tag rate channels width =
    little_bytes 2 tag ++ little_bytes 2 channels ++ little_bytes 4 rate
    ++ little_bytes 4 (min (rate * (channels * width)) (2 ^ 32 - 1))
    ++ little_bytes 2 (channels * width) ++ little_bytes 2 (8 * width)

-- extension size, valid bits, channel mask, subformat GUID
abbrev pub extension_fields : ℕ → List ℕ
extension_fields width = little_bytes 2 22 ++ little_bytes 2 (8 * width) ++ little_bytes 4 0 ++ pcm_guid

-- at most 16 bits and two channels
abbrev pub is_plain : ℕ → ℕ → Bool
is_plain channels width = nat_le width 2 && nat_le channels 2

-- the data of the format chunk, plain or extensible
abbrev pub format_body : ℕ → ℕ → ℕ → List ℕ
format_body rate channels width =
    if is_plain channels width then format_fields plain_tag rate channels width
    else format_fields extensible_tag rate channels width ++ extension_fields width

-- the two sizes: what follows the first one with its pad byte, and the sound
abbrev pub riff_size : ℕ → Option ℕ → ℕ
riff_size head_length None = wav_unknown + head_length - 8
riff_size head_length (Some d) = head_length - 8 + d + d % 2

abbrev pub data_size : Option ℕ → ℕ
data_size None = wav_unknown
data_size (Some d) = d

abbrev pub wav_head : List ℕ → Option ℕ → List ℕ
wav_head format size =
    codes "RIFF" ++ little_bytes 4 (riff_size (28 + length format) size) ++ codes "WAVE"
    ++ codes "fmt " ++ little_bytes 4 (length format) ++ format
    ++ codes "data" ++ little_bytes 4 (data_size size)

abbrev pub au_size : Option ℕ → ℕ
au_size None = au_unknown
au_size (Some d) = d

-- offset, size, encoding, rate, channels, four zero bytes
abbrev pub au_head : ℕ → ℕ → ℕ → Option ℕ → List ℕ
au_head rate channels width size =
    codes ".snd" ++ big_bytes 4 28 ++ big_bytes 4 (au_size size) ++ big_bytes 4 (width + 1)
    ++ big_bytes 4 rate ++ big_bytes 4 channels ++ big_bytes 4 0

-- the head of a sound of this number of frames, or of an unknown number
abbrev pub written_head : Kind → ℕ → ℕ → Coding → Option ℕ → List ℕ
written_head Wav rate channels coding frames =
    wav_head (format_body rate channels (width_of coding)) (known_size wav_unknown (frame_size coding channels) frames)
written_head Au rate channels coding frames =
    au_head rate channels (width_of coding) (known_size au_unknown (frame_size coding channels) frames)
