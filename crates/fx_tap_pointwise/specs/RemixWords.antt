-- The words of `remix` (sox(1), EFFECTS, remix): optionally `-a` or `-m`, then 1 to 16 out-specs; `-p` is not supported.
use Rattle.std.specs.Prelude.{ℕ, ◌+◌, ◌==◌, ◌&&◌, nat_le, nat_lt, nat_eq, Bool, true, false, if◌then◌else◌, List, [], ◌∷◌, ◌++◌, codes, length, map, Some, None, is_some, drop, Vec, Result, Ok, Err, String}
use Rattle.std.specs.Str.{bytes_eq}
use Rattle.smallvec.specs.SmallVec.{SmallVec}
use Rattle.std.specs.List.{list_all, list_any, slice_split}
use Rattle.fx_plan_words.specs.declared.fault.Mark.{Mark}
use Rattle.fx_plan_words.specs.declared.fault.PlanCause.{PlanCause}
use Rattle.fx_plan_words.specs.declared.fault.WordsRefusal.{WordsRefusal}
use Rattle.fx_plan_words.specs.declared.fault.PlanCause.TheVariants.{WrongCount, NotInProfile, OutOfRange, TooManyChannels}
use Rattle.fx_tap_pointwise.specs.declared.remix.words.in_spec.InSpec.{InSpec}
use Rattle.fx_tap_pointwise.specs.declared.remix.words.in_spec.SumContribution.{SumContribution}
use Rattle.fx_tap_pointwise.specs.declared.out_spec.Weight.{Weight}
use Rattle.fx_tap_pointwise.specs.declared.out_spec.Weight.TheVariants as weights
use Rattle.fx_tap_pointwise.specs.declared.remix.words.Mixing.{Mixing}
use Rattle.fx_tap_pointwise.specs.declared.remix.words.Mixing.TheVariants as mixings
use Rattle.fx_plan_words.specs.Faults.{ReadsWords, Word, mark, when, fault_at, word_texts}
use Rattle.fx_tap_pointwise.specs.InSpecs.{in_spec, channels_from}

abbrev pub is_comma : ℕ → Bool
is_comma c = c == 44

-- the parts of an out-spec
abbrev pub spec_parts : Word → List Word
spec_parts word = slice_split is_comma word

-- the parts of an out-spec: the faults of those that are refused, and what the others add to the sum
abbrev pub part_faults : ℕ → ℕ → List Word → List Mark
part_faults channels number [] = []
part_faults channels number (part ∷ parts) = fault_at number (in_spec channels part) ++ part_faults channels number parts

abbrev pub added : Result InSpec PlanCause → List SumContribution
added (Ok found) = channels_from found
added (Err cause) = []

abbrev pub contributions : ℕ → List Word → List SumContribution
contributions channels [] = []
contributions channels (part ∷ parts) = added (in_spec channels part) ++ contributions channels parts

-- the weight of a channel: its gain, or by default a share, or one where the same out-spec has a gain
abbrev pub default_weight : Mixing → Bool → Weight
default_weight mixings.Usual beside_gain = if beside_gain then weights.One else weights.Share
default_weight mixings.Automatic beside_gain = weights.Share
default_weight mixings.Manual beside_gain = weights.One
default_weight mixings.Power beside_gain = weights.Share

abbrev pub weight_of : Weight → SumContribution → ℕ × Weight
weight_of default c = (c.channel, elim c.gain [ Some gain ↦ weights.Given gain | None ↦ default ])

abbrev pub has_gain : SumContribution → Bool
has_gain c = is_some c.gain

abbrev pub weighed_words : Mixing → List SumContribution → List (ℕ × Weight)
weighed_words mixing sum = map (weight_of (default_weight mixing (list_any has_gain sum))) sum

-- a channel of the sum is one of `channels` channels
abbrev pub is_there : ℕ → SumContribution → Bool
is_there channels c = nat_lt c.channel channels

-- an out-spec of at most 64 channels, each one of `channels` channels
abbrev pub is_mix : ℕ → List (ℕ × Weight) → Bool
is_mix channels spec = nat_le (length spec) 64 && list_all (λ (c : ℕ × Weight). nat_lt c.0 channels) spec

-- an out-spec: `0` is silence, anything else is parts between commas
abbrev pub is_silence : Word → Bool
is_silence word = bytes_eq word (codes "0")

abbrev pub summed : ℕ → Word → List SumContribution
summed channels word = if is_silence word then [] else contributions channels (slice_split is_comma word)

abbrev pub spec_fault : ℕ → ℕ → Word → List Mark
spec_fault channels number word =
    if is_silence word then []
    else (part_faults channels number (slice_split is_comma word)
    ++ when (nat_lt 64 (length (summed channels word))) (mark OutOfRange number))

abbrev pub spec_faults : ℕ → ℕ → List Word → List Mark
spec_faults channels number [] = []
spec_faults channels number (word ∷ words) = spec_fault channels number word ++ spec_faults channels (number + 1) words

-- the out-specs as lists
abbrev pub specs_in : List (SmallVec (ℕ × Weight)) → List (List (ℕ × Weight))
specs_in specs = map (λ spec. spec.items) specs

abbrev pub specs_value : {Z : Type 0} → Vec (SmallVec (ℕ × Weight)) Z → List (List (ℕ × Weight))
specs_value specs = specs_in specs.items

abbrev pub out_specs : ℕ → Mixing → List Word → List (List (ℕ × Weight))
out_specs channels mixing words = map (λ word. weighed_words mixing (summed channels word)) words

-- the option that a first word is
abbrev pub option_in : Word → Mixing
option_in word =
    if bytes_eq word (codes "-a") then mixings.Automatic
    else (if bytes_eq word (codes "-m") then mixings.Manual
    else (if bytes_eq word (codes "-p") then mixings.Power
    else mixings.Usual))

abbrev pub mixing_of : List Word → Mixing
mixing_of [] = mixings.Usual
mixing_of (word ∷ words) = option_in word

-- how many words stand before the out-specs, and the out-specs
abbrev pub options_before : Mixing → ℕ
options_before mixings.Usual = 0
options_before mixing = 1

abbrev pub specs_of : List Word → List Word
specs_of words = drop (options_before (mixing_of words)) words

abbrev pub is_power : Mixing → Bool
is_power mixings.Power = true
is_power mixing = false

-- the faults of out-specs after `before` words after the name
abbrev pub faults_after : ℕ → ℕ → Mixing → List Word → List Mark
faults_after channels before mixing specs =
    when (nat_eq (length specs) 0) (mark WrongCount 1)
    ++ (when (nat_lt 16 (length specs)) (mark TooManyChannels (18 + before))
    ++ (when (is_power mixing) (mark NotInProfile 2)
    ++ spec_faults channels (2 + before) specs))

unfoldable pub remix_faults : ℕ → List Word → List Mark
remix_faults channels words = faults_after channels (options_before (mixing_of words)) (mixing_of words) (specs_of words)

abbrev pub remixed : ℕ → List Word → List (List (ℕ × Weight))
remixed channels words = out_specs channels (mixing_of words) (specs_of words)

-- the out-specs that the texts of these words are, or one of their faults
abbrev pub ReadsSpecs : {Y Z : Type 0} → Result (Vec (SmallVec (ℕ × Weight)) Z) WordsRefusal → (List Word → List Mark) → (List Word → List (List (ℕ × Weight))) → List (String Y) → Type 0
ReadsSpecs result faults value words = ReadsWords specs_value result (faults (word_texts words)) (value (word_texts words))
