-- The head of a sound, on the whole list of bytes (RIFF WAVE, Sun AU, this project's profile).
use Rattle.std.specs.Prelude.{◌≡◌, ℕ, ◌≤◌, List, length, take, drop, codes, Option, None, Some, Result, Ok, Err, if◌then◌else◌, nat_lt}
use Rattle.std.specs.Str.{bytes_eq}
use Rattle.fx_sound.specs.declared.head.Head.{Head}
use Rattle.fx_sound.specs.declared.head.Kind.{Kind}
use Rattle.fx_sound.specs.declared.head.Kind.TheVariants.{Wav, Au}
use Rattle.fx_sound.specs.declared.head.HeadFault.{HeadFault}
use Rattle.fx_sound.specs.declared.head.HeadFault.TheVariants.{UnknownType, Truncated}
use Rattle.fx_sound.specs.declared.fields.HeadFields.{HeadFields}
use Rattle.fx_sound.specs.Au.{after_snd}
use Rattle.fx_sound.specs.Source.{Held, Takes, to_come}
use Rattle.fx_sound.specs.Wave.{after_riff}

-- the kind that the first four bytes name
abbrev pub kind_of : List ℕ → Option Kind
kind_of name =
    if bytes_eq name (codes "RIFF") then Some Wav else
    if bytes_eq name (codes ".snd") then Some Au else None

-- that kind, unless the other was expected
abbrev pub allowed : Option Kind → Option Kind → Option Kind
allowed expected None = None
allowed None (Some kind) = Some kind
allowed (Some Wav) (Some Wav) = Some Wav
allowed (Some Wav) (Some Au) = None
allowed (Some Au) (Some Wav) = None
allowed (Some Au) (Some Au) = Some Au

-- the content of a head, and where the sound after it begins
pub record Spelt : Type 0 where
  pub kind : Kind
  pub fields : HeadFields

-- the head after the first four bytes
abbrev pub after_kind : Kind → List ℕ → Result HeadFields HeadFault
after_kind Wav rest = after_riff rest
after_kind Au rest = after_snd rest

abbrev pub spelt_as : Kind → Result HeadFields HeadFault → Result Spelt HeadFault
spelt_as kind (Err e) = Err e
spelt_as kind (Ok fields) = Ok (record { kind = kind; fields = fields })

abbrev pub with_kind : Option Kind → List ℕ → Result Spelt HeadFault
with_kind None rest = Err UnknownType
with_kind (Some kind) rest = spelt_as kind (after_kind kind rest)

-- the head at the front of these bytes, or its first fault
unfoldable pub head_of : Option Kind → List ℕ → Result Spelt HeadFault
head_of expected bytes =
    if nat_lt (length bytes) 4 then Err Truncated else
    with_kind (allowed expected (kind_of (take 4 bytes))) (drop 4 bytes)

-- the content of this head, where the sound begins at that offset
abbrev pub spelling : Head → ℕ → Spelt
spelling h offset = record {
  kind = h.kind;
  fields = record { format = record { rate = h.rate; channels = h.channels; coding = h.coding }; announced = h.announced; offset = offset };
}

-- the bytes begin with this head, and those before the sound, which begins at 2^24 or before, were taken
pub record ReadsHead {R : Type 0} (rest : R → Option (List ℕ)) (delivered : R → ℕ) (expected : Option Kind) (bytes : List ℕ) (old new : Held R) (h : Head) : Type 0 where
  pub offset : ℕ
  pub near : offset ≤ 0x1000000
  pub spelt : head_of expected bytes ≡ Ok (spelling h offset)
  pub there : offset ≤ length bytes
  pub others : to_come rest new ≡ Some (drop offset bytes)
  pub tells : Takes delivered old new offset
