-- What is wrong with the format of a WAVE, by the first bytes of the file (RIFF WAVE; this project's profile).
use Rattle.std.specs.Prelude.{◌≡◌, ℕ, ◌*◌, ◌/◌, ◌==◌, ◌&&◌, ◌||◌, nat_lt, not, Bool, if◌then◌else◌, is_some, List, [], Option, codes, drop, length, take}
use Rattle.std.specs.Str.{bytes_eq}
use Rattle.fx_sound.specs.Known.{IfKnown}
use Rattle.fx_sound.specs.Fields.{extensible_tag, pcm_guid, plain_tag}
use Rattle.fx_sound.specs.Wave.{half_at, wav_coding}
use Rattle.soxchain_plan.specs.declared.formats.FormatFault.{FormatFault}
use Rattle.soxchain_plan.specs.declared.formats.FormatFault.TheVariants.{BlockAlign, UnknownGuid, Other}

-- the data of the first chunk of a WAVE, where that is the format
abbrev pub first_format : List ℕ → List ℕ
first_format front = if bytes_eq (take 4 front) (codes "RIFF") && bytes_eq (take 8 (drop 8 front)) (codes "WAVEfmt ") then drop 20 front else []

-- an extensible format whose GUID is not one that has a tag in its first two bytes
abbrev pub has_unknown_guid : List ℕ → Bool
has_unknown_guid body = half_at 0 body == extensible_tag && not (bytes_eq (take 14 (drop 26 body)) (drop 2 pcm_guid))

-- whole numbers of a width of the profile, of which a frame has not as many bytes as its channels take
abbrev pub has_wrong_align : List ℕ → Bool
has_wrong_align body = is_some (wav_coding (half_at 14 body)) && not (half_at 12 body == half_at 2 body * (half_at 14 body / 8))

-- what is wrong with the format, where its first 40 bytes are there, or the first 16 of a plain one
abbrev pub fault_of_format : List ℕ → FormatFault
fault_of_format body =
    if nat_lt (length body) 16 then Other else
    if half_at 0 body == plain_tag then (if has_wrong_align body then BlockAlign else Other) else
    if nat_lt (length body) 40 then Other else
    if has_unknown_guid body then UnknownGuid else
    if half_at 0 body == extensible_tag && has_wrong_align body then BlockAlign else Other

-- the same of the first bytes of a file
abbrev pub format_fault : List ℕ → FormatFault
format_fault front = fault_of_format (first_format front)

-- the format of these bytes, where they are known, by the first of them that came
abbrev pub IsFormatOf : Option (List ℕ) → FormatFault → Type 0
IsFormatOf known fault = (front : List ℕ) × IfKnown known (λ bytes. front ≡ take (length front) bytes) × (fault ≡ format_fault front)

-- what to do
abbrev pub format_advice : FormatFault → List ℕ
format_advice BlockAlign = codes "the head has a block align that is not channels times bytes of a sample: sox IN -t au - | soxchain - OUT .. may read it"
format_advice UnknownGuid = codes "the format is extensible, and its GUID is not known: sox IN -t au - | soxchain - OUT .. may read it"
format_advice Other = codes "samples have to be whole numbers of 8, 16, 24 or 32 bits: sox IN -t au -e signed-integer -b 32 - | soxchain - OUT .."
