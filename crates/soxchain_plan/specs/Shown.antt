-- How a plan is shown (this project's profile): as human-readable lines, or as one JSON object (RFC 8259) on a line.
use Rattle.std.specs.Prelude.{ℕ, zero, suc, ◌+◌, List, [], ◌∷◌, ◌++◌, codes, decimal, flat_map, Option, Some, None}
use Rattle.fx_sound.specs.declared.head.Kind.{Kind}
use Rattle.fx_sound.specs.declared.head.Kind.TheVariants.{Wav, Au}
use Rattle.soxchain_plan.specs.declared.outline.EffectOutline.{EffectOutline}
use Rattle.soxchain_plan.specs.declared.outline.Outline.{Outline}
use Rattle.soxchain_plan.specs.declared.outline.SizeInHead.{SizeInHead}
use Rattle.soxchain_plan.specs.declared.outline.SizeInHead.TheVariants.{Zero, Unknown, Known}
use Rattle.soxchain_plan.specs.declared.outline.SoundOutline.{SoundOutline}
use Rattle.soxchain_plan.specs.declared.style.Style.{Style}
use Rattle.soxchain_plan.specs.declared.style.Style.TheVariants.{Text, Json}
use Rattle.soxchain_plan.specs.Outlines.{milliseconds}
use Rattle.soxchain_plan.specs.Quoted.{kind_text}

-- how many frames there are, at the end of a line
abbrev pub frames_text : Option ℕ → List ℕ
frames_text (Some frames) = codes ", " ++ decimal frames ++ codes " frames\n"
frames_text None = codes ", length not known\n"

-- a line on a sound
unfoldable pub sound_line : List ℕ → SoundOutline → List ℕ
sound_line title sound =
    title ++ codes ": " ++ kind_text sound.kind ++ codes ", " ++ decimal sound.rate ++ codes " frames a second, channels "
    ++ decimal sound.channels ++ codes ", " ++ decimal sound.bits ++ codes " bits" ++ frames_text sound.frames

-- a line on the effect of this number
unfoldable pub effect_line : ℕ → EffectOutline → List ℕ
effect_line number effect =
    codes "effect " ++ decimal number ++ codes " " ++ effect.name.now ++ codes ": holds at most " ++ decimal effect.hold
    ++ codes " frames, " ++ decimal effect.bytes ++ codes " bytes; gives " ++ decimal effect.late ++ codes " frames late ("
    ++ decimal (milliseconds effect.late effect.rate) ++ codes " ms)" ++ frames_text effect.frames

-- a line on each effect, the first of which has this number
abbrev pub effect_lines : ℕ → List EffectOutline → List ℕ
effect_lines number [] = []
effect_lines number (effect ∷ effects) = effect_line number effect ++ effect_lines (number + 1) effects

-- a line on the whole chain
abbrev pub chain_line : Outline → List ℕ
chain_line outline = codes "chain: holds at most " ++ decimal outline.hold ++ codes " frames, " ++ decimal outline.bytes ++ codes " bytes\n"

-- a line where the output has no frame
abbrev pub empty_line : Option ℕ → List ℕ
empty_line None = []
empty_line (Some zero) = codes "warning: the output has no frame\n"
empty_line (Some (suc frames)) = []

-- a line on a WAVE whose head announces no bytes of sound, or none that are known: the size is believed
abbrev pub size_line : Kind → SizeInHead → List ℕ
size_line Wav Zero = codes "warning: the head of IN announces 0 bytes of sound: soxchain reads none, whatever follows\n"
size_line Wav Unknown = codes "warning: the head of IN announces no size: soxchain reads to the end of the file, with whatever follows the sound\n"
size_line Wav Known = []
size_line Au size = []

-- a line where bytes of IN follow the end that its head announces
abbrev pub beyond_line : Option ℕ → List ℕ
beyond_line None = []
beyond_line (Some zero) = []
beyond_line (Some (suc bytes)) = codes "warning: " ++ decimal (suc bytes) ++ codes " bytes of IN follow the end that its head announces: soxchain does not read them\n"

-- human-readable lines
abbrev pub outline_text : Outline → List ℕ
outline_text outline =
    sound_line (codes "in") outline.input ++ effect_lines 1 outline.effects.items ++ chain_line outline
    ++ sound_line (codes "out") outline.output ++ empty_line outline.output.frames
    ++ size_line outline.input.kind outline.size ++ beyond_line outline.beyond

-- how many frames there are, as the last member of an object
abbrev pub frames_json : Option ℕ → List ℕ
frames_json (Some frames) = codes "\"frames\": " ++ decimal frames ++ codes "}"
frames_json None = codes "\"frames\": null}"

-- a sound as an object
unfoldable pub sound_json : SoundOutline → List ℕ
sound_json sound =
    codes "{\"kind\": \"" ++ kind_text sound.kind ++ codes "\", \"rate\": " ++ decimal sound.rate ++ codes ", \"channels\": "
    ++ decimal sound.channels ++ codes ", \"bits\": " ++ decimal sound.bits ++ codes ", " ++ frames_json sound.frames

-- an effect as an object
unfoldable pub effect_json : EffectOutline → List ℕ
effect_json effect =
    codes "{\"name\": \"" ++ effect.name.now ++ codes "\", \"hold\": " ++ decimal effect.hold ++ codes ", \"bytes\": "
    ++ decimal effect.bytes ++ codes ", \"late\": " ++ decimal effect.late ++ codes ", \"late_ms\": "
    ++ decimal (milliseconds effect.late effect.rate) ++ codes ", " ++ frames_json effect.frames

-- effects as the elements of an array
abbrev pub effects_json : List EffectOutline → List ℕ
effects_json [] = []
effects_json (effect ∷ effects) = effect_json effect ++ flat_map (λ next. codes ", " ++ effect_json next) effects

-- whether the output has no frame; null where its length is not known
abbrev pub empty_json : Option ℕ → List ℕ
empty_json None = codes "null"
empty_json (Some zero) = codes "true"
empty_json (Some (suc frames)) = codes "false"

-- what the head says of the size of its sound, as a string
abbrev pub size_json : SizeInHead → List ℕ
size_json Zero = codes "\"zero\""
size_json Unknown = codes "\"unknown\""
size_json Known = codes "\"known\""

-- the number of these bytes; null where it is not known
abbrev pub beyond_json : Option ℕ → List ℕ
beyond_json None = codes "null"
beyond_json (Some bytes) = decimal bytes

-- the plan as an object, on a line
abbrev pub outline_json : Outline → List ℕ
outline_json outline =
    codes "{\"in\": " ++ sound_json outline.input ++ codes ", \"effects\": [" ++ effects_json outline.effects.items
    ++ codes "], \"hold\": " ++ decimal outline.hold ++ codes ", \"bytes\": " ++ decimal outline.bytes ++ codes ", \"out\": "
    ++ sound_json outline.output ++ codes ", \"empty\": " ++ empty_json outline.output.frames
    ++ codes ", \"size_in_head\": " ++ size_json outline.size
    ++ codes ", \"beyond_head\": " ++ beyond_json outline.beyond ++ codes "}\n"

-- the plan in a style
abbrev pub shown : Style → Outline → List ℕ
shown Text outline = outline_text outline
shown Json outline = outline_json outline
