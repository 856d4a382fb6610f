-- The stage of `fir`: what it stores, its invariant, and what it is still to give (this project's profile).
use Rattle.std.specs.Prelude.{ℕ, ℤ, pos, ◌+◌, ◌-◌, ◌^◌, ◌≤◌, ◌≡◌, false, ◌&&◌, List, ◌++◌, length, min, reverse, Result, is_none, nat_eq, nat_le, slice_index_or, cond, unsigned_abs, All}
use Rattle.std.specs.Int.{w32}
use Rattle.fx_fixed.specs.Rounding.{rounding}
use Rattle.fx_fixed.specs.declared.gains.TheConstants.{UNIT}
use Rattle.fx_frame_base.specs.Frame.{Samples}
use Rattle.fx_frame_base.specs.declared.stage_core.StageCore.{StageCore}
use Rattle.fx_frame_base.specs.StageCore.{IsCore, core_counts, pending_frames, pending_given}
use Rattle.fx_frame_line.specs.Line.{Frames, IsLine}
use Rattle.fx_frame_base.specs.Stage.{Given, Acts, Restores}
use Rattle.fx_frame.specs.Numbers.{AreCoreNumbers}
use Rattle.fx_frame.specs.declared.numbers.TailNumbers.{TailNumbers}
use Rattle.fx_frame.specs.Tapped.{Taps}
use Rattle.fx_frame_base.specs.Lists.{tabulate}
use Rattle.fx_frame_base.specs.declared.stage.ThawFault.{ThawFault}
use Rattle.fx_tap_sums.specs.Products.{sum_of_products}
use Rattle.fx_frame_base.specs.Given.{given_samples}
use Rattle.fx_tap_fir.specs.Fir.{FirArguments, centre, filtered_at, filtered, fir_kind}

-- `count` samples of a window from place m on backwards; outside of it there is silence
abbrev pub samples_of_window : List ℤ → ℕ → ℕ → List ℤ
samples_of_window window m count = tabulate (λ k. cond (nat_le k m) (slice_index_or window (m - k) (pos 0)) (pos 0)) 0 count

-- the output frame for a frame and as many before it as there are further coefficients
abbrev pub fir_taps : Taps FirArguments
fir_taps = record {
  channels = λ r. r.channels;
  reach = λ r. length r.coefficients - 1;
  max_clips = λ r. 16;
  made = λ r history. given_samples (tabulate (λ c. rounding (sum_of_products (tabulate (λ k. history k c) 0 (length r.coefficients)) r.coefficients) UNIT) 0 r.channels);
}

-- what a `Fir` stores
pub record FirState : Type 0 where
  pub channels : ℕ
  -- the coefficients, the last one first
  pub backwards : List ℤ
  pub line : Frames ℤ
  -- the pending frame and the counters
  pub core : StageCore
  -- how many frames are to be given after the pending one
  pub tail : ℕ

-- what it was made with
abbrev pub arguments_of : FirState → FirArguments
arguments_of s = record { channels = s.channels; coefficients = reverse s.backwards }

-- the invariant of the stage
pub record IsFir (s : FirState) : Type 0 where
  pub line : IsLine w32 s.line
  pub channels : s.line.channels ≡ s.channels
  pub capacity : s.line.capacity + 1 ≡ length s.backwards
  pub count : length s.backwards ≤ 1024
  pub small : All (λ c. unsigned_abs c ≤ 10 ^ 15) s.backwards
  pub held : length s.line.items ≡ min s.core.taken s.line.capacity
  pub counted : s.core.given + length (pending_frames s.core) + s.tail ≡ cond s.core.ended s.core.taken (s.core.taken - centre (length s.backwards))
  pub tail_held : s.tail ≤ length s.line.items
  pub tail_bound : s.tail ≤ centre (length s.backwards)
  pub not_ended : s.core.ended ≡ false → s.tail ≡ 0
  -- what holds of each core
  pub core : IsCore s.channels 16 s.core

-- the invariant of the counts of a stage with `count` coefficients and `stored` stored frames
pub record AreFirCounts (count stored : ℕ) (n : TailNumbers) : Type 0 where
  pub core : AreCoreNumbers 16 n.core
  pub all : n.stored ≡ stored
  pub held : n.stored ≡ n.core.pending_count + min n.core.taken (count - 1)
  pub running : n.core.ended ≡ 0 → n.core.given + n.core.pending_count + n.tail ≡ n.core.taken - centre count
  pub through : 1 ≤ n.core.ended → n.core.given + n.core.pending_count + n.tail ≡ n.core.taken
  pub tail_held : n.tail ≤ min n.core.taken (count - 1)
  pub tail_bound : n.tail ≤ centre count
  pub not_ended : n.core.ended ≡ 0 → n.tail ≡ 0

-- what is given for frames that follow those of the line
abbrev pub fir_after : FirArguments → List Samples → List Samples → List Given
fir_after r items z = tabulate (filtered_at r (items ++ z)) (length items - centre (length r.coefficients)) (min (length items) (centre (length r.coefficients)) + length z)

-- the last frames, after the end
abbrev pub fir_tail : FirArguments → List Samples → ℕ → List Given
fir_tail r items tail = tabulate (filtered_at r items) (length items - tail) tail

abbrev pub fir_acts : Acts FirState FirArguments
fir_acts = record {
  recipe = arguments_of;
  kind_of = fir_kind;
  meaning = filtered;
  rest = λ s z. pending_given s.core ++ cond s.core.ended (fir_tail (arguments_of s) s.line.items s.tail) (fir_after (arguments_of s) s.line.items z);
  counts = λ s. core_counts s.core;
  dry = λ s. is_none s.core.pending && nat_eq s.tail 0;
  stored = λ s. s.line.items ++ pending_frames s.core;
  capacity = λ s. s.line.capacity;
  state_counters = λ s. record { first = s.tail; second = length (pending_frames s.core); third = s.core.pending_clips };
}

-- each sound `fir` with these arguments that stored these frames and counted these numbers is restored, unless memory is refused
abbrev pub RestoresFir : FirArguments → List Samples → List ℕ → Result FirState ThawFault → Type 0
RestoresFir = Restores fir_acts IsFir
