-- The stage of `echos`: lines in series, its invariant, and what it is still to give (this project's profile).
use Rattle.std.specs.Prelude.{ℕ, ℤ, pos, ◌+◌, ◌*◌, ◌^◌, ◌<◌, ◌≤◌, ◌≡◌, ◌+ℤ◌, ◌*ℤ◌, false, ◌&&◌, Option, Some, None, List, [], ◌∷◌, ◌++◌, length, map, min, replicate, take, is_none, slice_index_or, nat_eq, cond, unsigned_abs, drop, Result}
use Rattle.std.specs.List.{All}
use Rattle.std.specs.Int.{w64}
use Rattle.fx_tap_delays.specs.DelayExtents.{Tap, sum_of_delays}
use Rattle.fx_fixed.specs.Rounding.{rounding}
use Rattle.fx_frame_base.specs.declared.stage.ThawFault.{ThawFault}
use Rattle.fx_frame_base.specs.declared.stage_core.StageCore.{StageCore}
use Rattle.fx_frame_base.specs.Frame.{Samples, silence}
use Rattle.fx_frame_base.specs.Holds.{total}
use Rattle.fx_frame_base.specs.StageCore.{IsCore, core_counts, pending_frames, pending_given}
use Rattle.fx_frame_line.specs.Line.{Frames, IsLine, pushed, pushed_out, channel_of, empty}
use Rattle.fx_frame_base.specs.Stage.{Acts, Given, Restores}
use Rattle.fx_tap_delays.specs.Echo.{EchoArguments, IsEcho}
use Rattle.fx_frame_base.specs.Lists.{pieces, tabulate}
use Rattle.fx_tap_sums.specs.Products.{sum_of_products}
use Rattle.fx_frame_base.specs.Given.{given_samples}
use Rattle.fx_tap_delays.specs.Echos.{decays, echos, echos_kind}

-- a frame and what the line before output, added
abbrev pub fed : ℕ → Samples → Samples → Samples
fed channels x before = tabulate (λ k. slice_index_or x k (pos 0) +ℤ slice_index_or before k (pos 0)) 0 channels

-- a frame, or silence
abbrev pub or_silence : ℕ → Option Samples → Samples
or_silence channels None = replicate channels (pos 0)
or_silence channels (Some f) = f

-- a line after a frame was pushed
abbrev pub after_push : Frames ℤ → Samples → Frames ℤ
after_push l f = record { items = pushed l f; capacity = l.capacity; channels = l.channels }

-- what the lines output when a frame comes, one after the other
abbrev pub line_outputs : ℕ → List (Frames ℤ) → Samples → Samples → List Samples
line_outputs channels [] x before = []
line_outputs channels (l ∷ ls) x before = or_silence channels (pushed_out l (fed channels x before)) ∷ line_outputs channels ls x (or_silence channels (pushed_out l (fed channels x before)))

-- the lines after a frame came
abbrev pub lines_after : ℕ → List (Frames ℤ) → Samples → Samples → List (Frames ℤ)
lines_after channels [] x before = []
lines_after channels (l ∷ ls) x before = after_push l (fed channels x before) ∷ lines_after channels ls x (or_silence channels (pushed_out l (fed channels x before)))

-- the lines after these frames came, one after the other
abbrev pub series_lines_after : ℕ → List (Frames ℤ) → List Samples → List (Frames ℤ)
series_lines_after channels lines [] = lines
series_lines_after channels lines (x ∷ xs) = series_lines_after channels (lines_after channels lines x (replicate channels (pos 0))) xs

-- what the lines output for the frame at a place of those that come
abbrev pub line_outputs_at : ℕ → List (Frames ℤ) → List Samples → ℕ → List Samples
line_outputs_at channels lines xs i = line_outputs channels (series_lines_after channels lines (take i xs)) (slice_index_or xs i []) (replicate channels (pos 0))

-- the frame that is given for a frame and what the lines output
abbrev pub frame_of_lines : EchoArguments → Samples → List Samples → Given
frame_of_lines a x line_output = given_samples (tabulate (λ k. rounding (a.echo.gain_out *ℤ ((a.echo.gain_in *ℤ slice_index_or x k (pos 0)) +ℤ sum_of_products (decays a.echo.taps) (channel_of line_output k (pos 0)))) (10 ^ 12 * 10 ^ 12)) 0 a.channels)

-- what is given for frames that come
abbrev pub through_lines : EchoArguments → List (Frames ℤ) → List Samples → List Given
through_lines a lines [] = []
through_lines a lines (x ∷ xs) = frame_of_lines a x (line_outputs a.channels lines x (replicate a.channels (pos 0))) ∷ through_lines a (lines_after a.channels lines x (replicate a.channels (pos 0))) xs

-- what an `Echos` stores
pub record EchosState : Type 0 where
  pub arguments : EchoArguments
  pub lines : List (Frames ℤ)
  pub core : StageCore
  -- how many frames are to be given after the pending one
  pub tail : ℕ

-- what a frame that comes needs of the line at place j: no sample is greater than j + 1 samples added
pub record IsSeriesLine (channels j : ℕ) (l : Frames ℤ) : Type 0 where
  pub channels_are : l.channels ≡ channels
  pub small : All (All (λ x. unsigned_abs x ≤ (j + 1) * 2 ^ 31)) l.items

-- the invariant of the line at place j, with `delay` places, after `came` frames came
pub record IsEchoLine (channels came j delay : ℕ) (l : Frames ℤ) : Type 0 where
  pub line : IsLine w64 l
  pub channels_are : l.channels ≡ channels
  pub capacity : l.capacity ≡ delay
  pub some : 1 ≤ delay
  pub held : length l.items ≡ min came delay
  pub small : All (All (λ x. unsigned_abs x ≤ (j + 1) * 2 ^ 31)) l.items

-- how many frames went through the lines
abbrev pub came_of : EchosState → ℕ
came_of s = s.core.given + length (pending_frames s.core)

-- the delay of the line at place j
abbrev pub delay_at : List Tap → ℕ → ℕ
delay_at taps j = (slice_index_or taps j (0, pos 0)).0

abbrev pub line_at : List (Frames ℤ) → ℕ → Frames ℤ
line_at lines j = slice_index_or lines j (empty 0 0)

-- the invariant of the stage
pub record IsEchos (s : EchosState) : Type 0 where
  pub arguments : IsEcho s.arguments
  pub whole : sum_of_delays s.arguments.echo.taps ≤ 2 ^ 28
  pub as_many : length s.lines ≡ length s.arguments.echo.taps
  pub lines : (j : ℕ) → j < length s.lines → IsEchoLine s.arguments.channels (came_of s) j (delay_at s.arguments.echo.taps j) (line_at s.lines j)
  pub counted : came_of s + s.tail ≡ s.core.taken + cond s.core.ended (sum_of_delays s.arguments.echo.taps) 0
  pub not_ended : s.core.ended ≡ false → s.tail ≡ 0
  -- what holds of each core
  pub core : IsCore s.arguments.channels 16 s.core

-- the frames that come, with silence where the sound has ended
abbrev pub echos_coming : EchosState → List Samples → List Samples
echos_coming s z = cond s.core.ended (replicate s.tail (silence s.arguments.channels)) (z ++ replicate (sum_of_delays s.arguments.echo.taps) (silence s.arguments.channels))

-- the frames of all lines, from the first line to the last
abbrev pub frames_of_lines : List (Frames ℤ) → List Samples
frames_of_lines [] = []
frames_of_lines (l ∷ ls) = l.items ++ frames_of_lines ls

-- the capacities of all lines, added
abbrev pub echo_places : List (Frames ℤ) → ℕ
echo_places [] = 0
echo_places (l ∷ ls) = l.capacity + echo_places ls

abbrev pub echos_acts : Acts EchosState EchoArguments
echos_acts = record {
  recipe = λ s. s.arguments;
  kind_of = echos_kind;
  meaning = echos;
  rest = λ s z. pending_given s.core ++ through_lines s.arguments s.lines (echos_coming s z);
  counts = λ s. core_counts s.core;
  dry = λ s. is_none s.core.pending && nat_eq s.tail 0;
  stored = λ s. frames_of_lines s.lines ++ pending_frames s.core;
  capacity = λ s. echo_places s.lines;
  state_counters = λ s. record { first = s.tail; second = length (pending_frames s.core); third = s.core.pending_clips };
}

-- the invariant of the lines of these taps after `came` frames came
abbrev pub AreEchoLines : ℕ → ℕ → List Tap → List (Frames ℤ) → Type 0
AreEchoLines channels came taps lines = (j : ℕ) → j < length lines → IsEchoLine channels came j (delay_at taps j) (line_at lines j)

-- what a frame that comes needs of the lines
abbrev pub AreSeriesLines : ℕ → List (Frames ℤ) → Type 0
AreSeriesLines channels lines = (j : ℕ) → j < length lines → IsSeriesLine channels j (line_at lines j)

-- each line has a capacity of at least so many frames
abbrev pub HaveCapacity : ℕ → List (Frames ℤ) → Type 0
HaveCapacity count lines = (j : ℕ) → j < length lines → count ≤ (line_at lines j).capacity

-- channel k of what the lines output, each times its decay, added
abbrev pub decayed_sum : List Tap → List Samples → ℕ → ℤ
decayed_sum taps line_output k = sum_of_products (decays taps) (channel_of line_output k (pos 0))

-- the frame that is given for one that goes through the lines
abbrev pub frame_from_lines : EchoArguments → List (Frames ℤ) → Samples → Given
frame_from_lines a lines x = frame_of_lines a x (line_outputs a.channels lines x (silence a.channels))

-- the first `count` frames of the output are those given for the first `count` of the input, which go through the lines
abbrev pub SendsThrough : EchoArguments → List (Frames ℤ) → ℕ → ℕ → List ℤ → List ℤ → Type 0
SendsThrough a lines channels count input output = pieces channels count output ≡ map (λ (g : Given). g.samples) (through_lines a lines (pieces channels count input))

-- how many of their samples were clipped
abbrev pub clips_through : EchoArguments → List (Frames ℤ) → ℕ → ℕ → List ℤ → ℕ
clips_through a lines channels count input = total (λ (g : Given). g.clips) (through_lines a lines (pieces channels count input))

-- the sums of a sample and of what the lines output for its frame, each times its weight, for each channel of `count` frames
abbrev pub AreLineSums : List ℤ → ℕ → List (Frames ℤ) → ℕ → List ℤ → List ℤ → Type 0
AreLineSums weights channels lines count frames sums =
    (i k : ℕ) → i < count → k < channels → slice_index_or sums (i * channels + k) (pos 0)
    ≡ (slice_index_or weights 0 (pos 0) *ℤ slice_index_or frames (i * channels + k) (pos 0)) +ℤ sum_of_products (drop 1 weights) (channel_of (line_outputs_at channels lines (pieces channels count frames) i) k (pos 0))

-- what `thaw` of `echos` returns
abbrev pub RestoresEchos : EchoArguments → List Samples → List ℕ → Result EchosState ThawFault → Type 0
RestoresEchos a frames numbers result = Restores echos_acts IsEchos a frames numbers result
