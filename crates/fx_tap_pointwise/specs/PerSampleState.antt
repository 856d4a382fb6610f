-- How the stages of effects behave that round each sample alone (this project's profile).
use Rattle.std.specs.Prelude.{ℕ, ℤ, Bool, List, Result}
use Rattle.fx_frame_base.specs.declared.stage.ThawFault.{ThawFault}
use Rattle.fx_frame_base.specs.Frame.{Samples}
use Rattle.fx_frame_base.specs.Lists.{pieces}
use Rattle.fx_frame_base.specs.Pipeline.{EachThrough}
use Rattle.fx_frame_base.specs.Stage.{Acts, RestoresAlways}
use Rattle.fx_tap_pointwise.specs.Mapped.{IsMapState, MapState, map_acts}
use Rattle.fx_tap_pointwise.specs.PerSample.{SampleArguments}
use Rattle.fx_frame.specs.Made.{rounded_given}

-- how the stages of such an effect behave
abbrev pub sample_acts : {S : Type 0} → (S → ℤ → ℤ × Bool) → Acts (MapState (SampleArguments S)) (SampleArguments S)
sample_acts rounded = map_acts (λ m. m.channels) (λ m. m.channels) (λ m frame. rounded_given (rounded m.sampling) frame)

-- each sound stage of these arguments that stored these frames and counted these numbers is restored
abbrev pub RestoresEach : {S : Type 0} → Acts (MapState (SampleArguments S)) (SampleArguments S) → ℕ → S → List Samples → List ℕ → Result (MapState (SampleArguments S)) ThawFault → Type 0
RestoresEach {S} acts channels sampling = RestoresAlways acts (IsMapState (λ (m : SampleArguments S). m.channels)) (record { channels = channels; sampling = sampling })

-- two stages in sequence: these frames went into the first, and those came out of the second
abbrev pub ThroughBoth : {A B M N : Type 0} → Acts A M → Acts B N → List Samples → List Samples → A → A → B → B → Type 0
ThroughBoth first second coming made first_old first_new second_old second_new =
    (between : List Samples) × EachThrough first coming between first_old first_new × EachThrough second between made second_old second_new

-- `count` frames at the front of the input went into two stages in sequence, and as many at the front of the output came out
abbrev pub RanBoth : {S T : Type 0} → (S → ℤ → ℤ × Bool) → (T → ℤ → ℤ × Bool) → ℕ → List ℤ → List ℤ → MapState (SampleArguments S) → MapState (SampleArguments S) → MapState (SampleArguments T) → MapState (SampleArguments T) → Type 0
RanBoth first second count input output first_old first_new second_old second_new =
    ThroughBoth (sample_acts first) (sample_acts second) (pieces first_old.mapping.channels count input) (pieces first_old.mapping.channels count output) first_old first_new second_old second_new
