-- A stage whose output frame depends on the input frame and on frames at fixed distances before it (this project's profile).
use Rattle.std.specs.Prelude.{ℕ, ℤ, ◌+◌, ◌-◌, ◌*◌, ◌≤◌, ◌≡◌, false, ◌&&◌, List, ◌++◌, length, drop, map, min, replicate, is_none, nat_eq, cond}
use Rattle.std.proofs.Common.{arith}
use Rattle.std.specs.Int.{w32}
use Rattle.fx_frame_base.specs.Frame.{Samples, silence}
use Rattle.fx_frame_line.specs.Line.{Frames, IsLine}
use Rattle.fx_frame_base.specs.Holds.{total}
use Rattle.fx_frame_base.specs.Stage.{Given, Acts}
use Rattle.fx_frame_base.specs.StageCore.{IsCore, core_counts, pending_frames, pending_given}
use Rattle.fx_frame_base.specs.declared.stage_core.StageCore.{StageCore}
use Rattle.fx_frame.specs.Kinds.{tap_kind}
use Rattle.fx_frame.specs.Numbers.{AreCoreNumbers}
use Rattle.fx_frame.specs.declared.numbers.TailNumbers.{TailNumbers}
use Rattle.fx_frame.specs.History.{History, sample_before}
use Rattle.fx_frame_base.specs.Lists.{pieces, tabulate}

-- how effects with such arguments make frames
pub record Taps (M : Type 0) : Type 0 where
  pub channels : M → ℕ
  -- the reach: how many earlier frames an output frame depends on
  pub reach : M → ℕ
  -- how many of its samples may be clipped
  pub max_clips : M → ℕ
  -- the output frame for a history
  pub made : M → History → Given

-- the last `count` frames
abbrev pub last_of : ℕ → List Samples → List Samples
last_of count frames = drop (length frames - count) frames

-- two histories agree up to that distance
abbrev pub Agree : ℕ → History → History → Type 0
Agree reach p q = (d k : ℕ) → d ≤ reach → p d k ≡ q d k

-- no output frame depends on frames before the reach
abbrev pub IsNear : {M : Type 0} → Taps M → Type 0
IsNear {M} taps = (m : M) (p q : History) → Agree (taps.reach m) p q → taps.made m p ≡ taps.made m q

-- what a stage with such arguments stores
pub record TapState (M : Type 0) : Type 0 where
  pub core : StageCore
  pub line : Frames ℤ
  -- how many frames are to be given after the pending one
  pub tail : ℕ
  pub arguments : M

-- the invariant of the counts of a stage of reach `reach`, with at most `maximum` clips a frame and `stored` stored frames
pub record AreTapCounts (reach maximum stored : ℕ) (n : TailNumbers) : Type 0 where
  pub core : AreCoreNumbers maximum n.core
  pub all : n.stored ≡ stored
  pub counted : n.core.given + n.core.pending_count + n.tail ≡ n.core.taken + n.core.ended * reach
  pub held : n.stored ≡ n.core.pending_count + min (n.core.given + n.core.pending_count) reach
  pub not_ended : n.core.ended ≡ 0 → n.tail ≡ 0

module _ {M : Type 0} (taps : Taps M) where
  -- what is given for a whole sound
  abbrev pub tapped : M → List Samples → List Given
  tapped m x = tabulate (λ n. taps.made m (sample_before x n)) 0 (length x + taps.reach m)

  -- the invariant of a stage
  pub record IsTapState (s : TapState M) : Type 0 where
    -- what holds of each core
    pub core : IsCore (taps.channels s.arguments) (taps.max_clips s.arguments) s.core
    pub line : IsLine w32 s.line
    pub channels : s.line.channels ≡ taps.channels s.arguments
    pub capacity : s.line.capacity ≡ taps.reach s.arguments
    pub counted : s.core.given + length (pending_frames s.core) + s.tail ≡ s.core.taken + cond s.core.ended s.line.capacity 0
    -- each earlier frame is in the line, or was pushed out of it
    pub held : length s.line.items ≡ min (s.core.given + length (pending_frames s.core)) s.line.capacity
    pub not_ended : s.core.ended ≡ false → s.tail ≡ 0

  -- what is given for frames that follow those of the line
  abbrev pub given_after : M → List Samples → List Samples → List Given
  given_after m items coming = tabulate (λ n. taps.made m (sample_before (items ++ coming) n)) (length items) (length coming)

  -- the frames that are given for them
  abbrev pub frames_after : M → List Samples → List Samples → List Samples
  frames_after m items coming = map (λ (g : Given). g.samples) (given_after m items coming)

  -- how many of their samples were clipped
  abbrev pub clips_after : M → List Samples → List Samples → ℕ
  clips_after m items coming = total (λ (g : Given). g.clips) (given_after m items coming)

  -- the first `count` frames of the output are those made of the first `count` of the input, which follow those of the line
  abbrev pub MakesBlock : M → List Samples → ℕ → List ℤ → List ℤ → Type 0
  MakesBlock m items count input output = pieces (taps.channels m) count output ≡ frames_after m items (pieces (taps.channels m) count input)

  -- how many of their samples were clipped
  abbrev pub clips_in_block : M → List Samples → ℕ → List ℤ → ℕ
  clips_in_block m items count input = clips_after m items (pieces (taps.channels m) count input)

  -- the frames that come, with silence where the sound has ended
  abbrev pub coming_of : TapState M → List Samples → List Samples
  coming_of s z = cond s.core.ended (replicate s.tail (silence (taps.channels s.arguments))) (z ++ replicate s.line.capacity (silence (taps.channels s.arguments)))

  abbrev pub tap_acts : Acts (TapState M) M
  tap_acts = record {
    recipe = λ s. s.arguments;
    kind_of = λ m. tap_kind (taps.channels m) (taps.reach m);
    meaning = tapped;
    rest = λ s z. pending_given s.core ++ given_after s.arguments s.line.items (coming_of s z);
    counts = λ s. core_counts s.core;
    dry = λ s. is_none s.core.pending && nat_eq s.tail 0;
    stored = λ s. s.line.items ++ pending_frames s.core;
    capacity = λ s. s.line.capacity;
    state_counters = λ s. record { first = s.tail; second = length (pending_frames s.core); third = s.core.pending_clips };
  }

-- more frames taken never mean fewer frames given
pub tap_rises : (reach m n : ℕ) → m ≤ n → m + reach ≤ n + reach
tap_rises reach m n h = omega arith
