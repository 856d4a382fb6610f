-- Frames that go through stages in sequence one after another, with no checks between two of them (this project's profile).
use Rattle.std.specs.Prelude.{ℕ, ℤ, ◌+◌, ◌*◌, ◌<◌, ◌≤◌, ◌≡◌, true, false, Option, Some, None, List, [], ◌∷◌, drop, length, option_to_list, take, if◌then◌else◌}
use Rattle.fx_frame_base.specs.Feed.{IsNoneDue}
use Rattle.fx_frame_base.specs.Frame.{IsChannelCount, Samples}
use Rattle.fx_frame_base.specs.Holds.{kinds}
use Rattle.fx_frame_base.specs.Lists.{pieces}
use Rattle.fx_frame_base.specs.Pipeline.{outputs_of}
pub use Rattle.fx_frame_base.specs.Pipeline.{AllAhead, AllKeep, AllOneToOne}
use Rattle.fx_frame_base.specs.Stage.{Acts}
use Rattle.fx_frame_base.specs.declared.feed.Passed.{Passed}
use Rattle.fx_chain_flow.specs.Composed.{due_of}
use Rattle.fx_chain_flow.specs.Feed.{FlowFed, FlowGave, GaveLast}
use Rattle.fx_chain_flow.specs.StageCall.{At, StageCall}
use Rattle.fx_chain_flow.specs.Order.{InOrder}
use Rattle.fx_chain_flow.specs.Parts.{AllDetermined, Parts, ended_of, given_by, moves_of}
use Rattle.fx_chain_flow.specs.Pipeline.{AllHeld, AllLined}
use Rattle.fx_chain_flow.specs.Sound.{IsSound, max_frames}
use Rattle.fx_chain_flow.specs.declared.runs.CommonForecast.{CommonForecast}
use Rattle.fx_chain_flow.specs.declared.runs.Passage.{Passage}
use Rattle.fx_chain_flow.specs.declared.runs.Widths.{Widths}

module _ {S R : Type 0} (acts : Acts S R) where
  -- the flow of these stages, with nothing in the inlet and no end
  abbrev pub flow_of : ℕ → List S → ℕ → Parts S
  flow_of channels stages left = record { stages = stages; inlet = None; ended = false; left = left; channels = channels }

  -- `count` more frames may come to the flow of these stages, whose inlet `left` frames have left
  pub record MayRun (channels count : ℕ) (stages : List S) (left : ℕ) : Type 0 where
    pub sound : IsSound acts (flow_of channels stages left)
    pub bound : left + count ≤ max_frames

  -- before each of `count` frames no more was due than one for each that came before it
  abbrev pub GivesOneEach : List S → ℕ → ℕ → Type 0
  GivesOneEach stages left count = (n : ℕ) → n < count → due_of (kinds acts stages) (left + n) ≤ given_by acts left stages + n

  -- these frames came to the flow, and went through the stages; those came out
  pub record RanOn (channels : ℕ) (xs gs : List Samples) (old new : List S) (left : ℕ) : Type 0 where
    pub fed : FlowFed acts (flow_of channels old left) xs gs (flow_of channels new (left + length xs))
    pub gave : FlowGave acts (flow_of channels old left) xs gs (flow_of channels new (left + length xs))
    pub sound : IsSound acts (flow_of channels new (left + length xs))
    pub moves : moves_of acts (flow_of channels old left) + ended_of acts old ≤ moves_of acts (flow_of channels new (left + length xs)) + ended_of acts new
    pub each : GivesOneEach old left (length xs)
    pub last : length gs ≡ length xs → 1 ≤ length gs → GaveLast acts (flow_of channels old left) xs gs (flow_of channels new (left + length xs))

  -- the same, however many frames had left the inlet, where so many more may come
  abbrev pub RanAtAny : ℕ → ℕ → List Samples → List Samples → List S → List S → Type 0
  RanAtAny channels count xs gs old new = (left : ℕ) → MayRun channels count old left → RanOn channels xs gs old new left

  -- so many frames went past the inlet, and those came out, by calls in order
  abbrev pub RanInOrder : (List S → StageCall → List S → Type 0) → (List Samples → List Samples → List Samples → S → S → Type 0) → ℕ → ℕ → List Samples → List Samples → List S → List S → Type 0
  RanInOrder handed passed_while channels count xs gs old new =
      (left : ℕ) → InOrder acts handed passed_while (flow_of channels old left) xs gs [] 0 (flow_of channels new (left + count))

  -- the same, of frames at the front of the input and the output that have as many channels
  abbrev pub RanSamplesInOrder : (List S → StageCall → List S → Type 0) → (List Samples → List Samples → List Samples → S → S → Type 0) → ℕ → ℕ → List ℤ → List ℤ → List S → List S → Type 0
  RanSamplesInOrder handed passed_while channels count input output old new = RanInOrder handed passed_while channels count (pieces channels count input) (pieces channels count output) old new

  -- the frame that came out of the last stage, if one did, where frames of `channels` channels go in; its samples come first in these
  -- places
  abbrev pub frame_out : ℕ → List S → Passage → List ℤ → Option Samples
  frame_out channels stages passage places = if passage.is_given then Some (take (outputs_of channels (kinds acts stages)) places) else None

  -- the frame that comes first in the places before went past the inlet, and that after came out if one did, by calls in order
  abbrev pub FrameInOrder : (List S → StageCall → List S → Type 0) → (List Samples → List Samples → List Samples → S → S → Type 0) → ℕ → Passage → List ℤ → List ℤ → List S → List S → Type 0
  FrameInOrder handed passed_while channels passage before after old new =
      RanInOrder handed passed_while channels 1 (take channels before ∷ []) (option_to_list (frame_out channels old passage after)) old new

  -- the first stage gives none for the next `count` frames
  abbrev pub IsNoneDueOfFirst : ℕ → List S → Type 0
  IsNoneDueOfFirst count stages = 1 ≤ count → At (IsNoneDue acts count) 0 stages

  -- of the next frames it is known what stages in sequence do
  pub record IsCommonForecast (next : CommonForecast) (stages : List S) : Type 0 where
    -- for each of `one_to_one` frames, at most those that are passed, each stage gives one
    pub one_to_one : AllOneToOne acts next.one_to_one stages
    pub within : next.one_to_one ≤ next.ahead
    -- for `none_due` frames the first stage gives none
    pub none_due : IsNoneDueOfFirst next.none_due stages

  -- `count` frames at the front of the input, whose samples these are, may go through stages in sequence that keep the channels and
  -- give one for each, and the output has space for as many. A frame has 1 to 16 channels. Each stage has given what is due, holds
  -- the frames of its line alone, and has not had enough before the last frame.
  pub record MayRunOneToOne (channels count : ℕ) (samples free : List ℤ) (stages : List S) : Type 0 where
    pub frame : IsChannelCount channels
    pub keep : AllKeep channels (kinds acts stages)
    pub input : count * channels ≤ length samples
    pub output : count * channels ≤ length free
    pub may_run : (left : ℕ) × MayRun channels count stages left
    pub determined : AllDetermined acts stages
    pub lined : AllLined acts stages
    pub ahead : AllAhead acts count stages
    pub one_to_one : AllOneToOne acts count stages

  -- `count` frames at the front of the input, whose samples these are, may go through stages in sequence, and the output has
  -- space for as many. A frame has 1 to 16 channels, and the widths are those of the stages. Each stage has given what is due,
  -- holds the frames of its line alone, and has not had enough before the last frame.
  pub record MayRunPipeline (widths : Widths) (count : ℕ) (samples free : List ℤ) (stages : List S) : Type 0 where
    pub frame : IsChannelCount widths.inputs
    pub outputs : widths.outputs ≡ outputs_of widths.inputs (kinds acts stages)
    pub keep : widths.keeps ≡ true → AllKeep widths.inputs (kinds acts stages)
    pub input : count * widths.inputs ≤ length samples
    pub output : count * widths.outputs ≤ length free
    pub may_run : (left : ℕ) × MayRun widths.inputs count stages left
    pub determined : AllDetermined acts stages
    pub lined : AllLined acts stages
    pub ahead : AllAhead acts count stages

  -- Of `count` frames at the front of the input, whose samples these are, the first ones went through stages in sequence, at
  -- least one where there is any. Those that came out, at most one for each and none without samples, stand at the front of the
  -- output; the rest of it is unchanged.
  pub record RanPipeline (handed : List S → StageCall → List S → Type 0) (passed_while : List Samples → List Samples → List Samples → S → S → Type 0) (widths : Widths) (count : ℕ) (samples before after : List ℤ) (old new : List S) (passed : Passed) : Type 0 where
    pub ran : RanAtAny widths.inputs count (pieces widths.inputs passed.taken samples) (pieces widths.outputs passed.given after) old new
    pub read : passed.taken ≤ count
    pub written : passed.given ≤ passed.taken
    pub small : passed.given ≤ passed.given * widths.outputs
    pub some : 1 ≤ count → 1 ≤ passed.taken
    pub rest_unchanged : drop (passed.given * widths.outputs) after ≡ drop (passed.given * widths.outputs) before
    pub order : RanInOrder handed passed_while widths.inputs passed.taken (pieces widths.inputs passed.taken samples) (pieces widths.outputs passed.given after) old new
    pub held : AllHeld acts new
