-- What three memoryless effects in sequence make of frames (this project's profile).
use Rattle.std.specs.Prelude.{ℕ, ℤ, ◌≡◌, ◌*◌, ◌≤◌, List, length}
use Rattle.std.specs.List.{All}
use Rattle.fx_frame_base.specs.Frame.{Samples}
use Rattle.fx_frame_base.specs.Lists.{pieces}
use Rattle.fx_frame_base.specs.Pipeline.{EachThrough}
use Rattle.fx_frame_base.specs.Stage.{Acts, Given}
use Rattle.fx_frame.specs.Made.{clips_in, made_of}
use Rattle.fx_tap_pointwise.specs.Mapped.{MapState, map_acts}
use Rattle.fx_tap_pointwise.specs.declared.around.ClipsByStage.{ClipsByStage}
use Rattle.fx_tap_pointwise.specs.declared.mapped.PairWidths.{PairWidths}

-- three mappings in sequence: the first `count` frames of the output are those made of the first `count` of the input
pub record IsMadeByThree (first_map middle_map last_map : Samples → Given) (inputs outputs count : ℕ) (input output : List ℤ) (first middle last : ℕ) : Type 0 where
  pub made : pieces outputs count output ≡ made_of last_map (made_of middle_map (made_of first_map (pieces inputs count input)))
  -- how many samples each of them clipped
  pub first_counted : first ≡ clips_in first_map (pieces inputs count input)
  pub middle_counted : middle ≡ clips_in middle_map (made_of first_map (pieces inputs count input))
  pub last_counted : last ≡ clips_in last_map (made_of middle_map (made_of first_map (pieces inputs count input)))
  -- how many channels the frames between them have
  pub before_sides : All (λ (s : Samples). length s ≡ inputs) (made_of first_map (pieces inputs count input))
  pub after_sides : All (λ (s : Samples). length s ≡ outputs) (made_of middle_map (made_of first_map (pieces inputs count input)))
  pub first_bound : first ≤ 16 * count
  pub middle_bound : middle ≤ 16 * count
  pub last_bound : last ≤ 16 * count

-- the same, of frames of these channels, where these are the counts
abbrev pub GroupIsMade : (Samples → Given) → (Samples → Given) → (Samples → Given) → PairWidths → ℕ → List ℤ → List ℤ → ClipsByStage → Type 0
GroupIsMade first_map middle_map last_map widths count input output clips = IsMadeByThree first_map middle_map last_map widths.inputs widths.outputs count input output clips.first clips.middle clips.last

-- three stages in sequence: these frames went into the first, and those came out of the last
abbrev pub ThroughThree : {A B C M N O : Type 0} → Acts A M → Acts B N → Acts C O → List Samples → List Samples → A → A → B → B → C → C → Type 0
ThroughThree first middle last coming made first_old first_new middle_old middle_new last_old last_new =
    (before after : List Samples) × EachThrough first coming before first_old first_new × EachThrough middle before after middle_old middle_new × EachThrough last after made last_old last_new

-- `count` frames at the front of the input went into three stages in sequence, and as many at the front of the output came out
abbrev pub PassedAround : {L M N : Type 0} → (L → ℕ) → (L → ℕ) → (L → Samples → Given) → (M → ℕ) → (M → ℕ) → (M → Samples → Given) → (N → ℕ) → (N → ℕ) → (N → Samples → Given)
    → ℕ → List ℤ → List ℤ → MapState L → MapState L → MapState M → MapState M → MapState N → MapState N → Type 0
PassedAround first_inputs first_outputs first_mapped middle_inputs middle_outputs middle_mapped last_inputs last_outputs last_mapped count input output first_old first_new middle_old middle_new last_old last_new =
    ThroughThree (map_acts first_inputs first_outputs first_mapped) (map_acts middle_inputs middle_outputs middle_mapped) (map_acts last_inputs last_outputs last_mapped)
    (pieces (first_inputs first_old.mapping) count input) (pieces (middle_outputs middle_old.mapping) count output) first_old first_new middle_old middle_new last_old last_new
