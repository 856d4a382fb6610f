-- The stage of `pad`: what it stores, its invariant, and what it is still to give (this project's profile).
use Rattle.std.specs.Prelude.{ℕ, ℤ, ◌+◌, ◌-◌, ◌≤◌, ◌≡◌, min, nat_le, nat_eq, Bool, true, false, ◌&&◌, if◌then◌else◌, List, [], ◌∷◌, ◌++◌, filter, flat_map, length, map, replicate, sum_by, Option, Some, None, is_none}
use Rattle.std.proofs.Common.{arith}
use Rattle.std.specs.List.{enumerate_from}
use Rattle.std.specs.Int.{w32}
use Rattle.fx_fixed.specs.Extents.{largest}
use Rattle.fx_cut.specs.PadExtents.{pad_distance}
use Rattle.fx_fixed.specs.declared.positions.At.{At}
use Rattle.fx_frame_base.specs.Frame.{Samples, silence}
use Rattle.fx_frame_line.specs.Line.{Frames, IsLine}
use Rattle.fx_frame_base.specs.Stage.{Acts, coming}
use Rattle.fx_frame_base.specs.StageCore.{IsUnclippedCore, core_counts, pending_frames}
use Rattle.fx_frame_base.specs.declared.stage_core.StageCore.{StageCore}
use Rattle.fx_frame_base.specs.Given.{plain}
use Rattle.fx_cut.specs.Pad.{lengths, placed, silent_at, pad_due, IsPads, PadArguments, pad_kind, pad_meaning}

-- what a `Pad` stores
pub record PadState : Type 0 where
  pub core : StageCore
  pub recipe : PadArguments
  -- how many silent frames are to be given before the pending frame
  pub silent : ℕ
  pub line : Frames ℤ

-- what is given for the frames from frame n on, in a sound of `len` frames that ends with them
abbrev pub padded_from : ℕ → ℕ → List (ℕ × At) → ℕ → List Samples → List Samples
padded_from channels len pads n x =
    flat_map (λ e. replicate (silent_at (placed len pads) e.0) (silence channels) ++ e.1 ∷ []) (enumerate_from n x)
    ++ replicate (silent_at (placed len pads) len) (silence channels)

-- what is still to be given where the line holds the frames from frame n on, and these frames come
abbrev pub pad_rest : ℕ → List (ℕ × At) → ℕ → List Samples → List Samples → List Samples
pad_rest channels pads n items z = padded_from channels (n + length (items ++ z)) pads n (items ++ z)

-- the same where the newest frame of the line is the last of `taken` frames
abbrev pub pad_after : PadArguments → ℕ → List Samples → List Samples → List Samples
pad_after r taken items z = pad_rest r.channels r.pads (taken - length items) items z

-- what comes after the pending frame: after the end, nothing where there is none
abbrev pub unless_last : Bool → Option Samples → List Samples → List Samples
unless_last true None later = []
unless_last true (Some x) later = later
unless_last false pending later = later

-- what is still to be given: silence, the pending frame, and what is given for the frames of the line and those that come
abbrev pub pad_left : PadState → List Samples → List Samples
pad_left s z = replicate s.silent (silence s.recipe.channels) ++ (pending_frames s.core ++ unless_last s.core.ended s.core.pending (pad_after s.recipe s.core.taken s.line.items (coming s.core.ended z)))

-- how many silent frames stand at a place or after it
abbrev pub silence_from : List (ℕ × ℕ) → ℕ → ℕ
silence_from pads n = sum_by (λ p. p.0) (filter (λ p. nat_le n p.1) pads)

-- all frames of a sound of `taken` frames, and all silence that is put into it
abbrev pub all_padded : List (ℕ × At) → ℕ → ℕ
all_padded pads taken = taken + silence_from (placed taken pads) 0

-- the invariant of the stage
pub record IsPad (s : PadState) : Type 0 where
  -- what holds of each core of a stage that clips no sample
  pub core : IsUnclippedCore s.recipe.channels s.core
  pub line : IsLine w32 s.line
  pub channels : s.line.channels ≡ s.recipe.channels
  pub capacity : s.line.capacity ≡ largest (map pad_distance s.recipe.pads)
  pub pads : IsPads s.recipe.pads
  pub held : length s.line.items + length (pending_frames s.core) ≤ s.core.taken
  pub within : (z : List Samples) → s.core.given + length (pad_left s z) ≤ s.core.taken + length z + lengths s.recipe.pads
  pub full : s.core.ended ≡ false → length s.line.items ≡ min s.core.taken s.line.capacity
  pub counted : s.core.ended ≡ false → s.core.given + s.silent + length (pending_frames s.core) ≡ pad_due s.recipe.pads s.core.taken
  pub over : s.core.ended ≡ true → s.core.pending ≡ None → s.line.items ≡ []
  pub gone : s.core.ended ≡ true → s.core.given + length (pad_left s []) ≡ all_padded s.recipe.pads s.core.taken

-- how many frames come after the pending one, after the end of a sound of `taken` frames, the last of which are in the line
abbrev pub later_count : List (ℕ × At) → ℕ → ℕ → ℕ → ℕ
later_count pads taken lined pending_count = if nat_eq pending_count 0 then 0 else lined + silence_from (placed taken pads) (taken - lined)

-- the invariant of its counts: frames taken and given, in the line and pending, and silent frames to be given
pub record IsPadCount (pads : List (ℕ × At)) (taken given silent lined pending_count : ℕ) (ended : Bool) : Type 0 where
  pub full : ended ≡ false → lined ≡ min taken (largest (map pad_distance pads))
  pub counted : ended ≡ false → given + silent + pending_count ≡ pad_due pads taken
  pub over : ended ≡ true → pending_count ≡ 0 → lined ≡ 0
  pub gone : ended ≡ true → given + silent + pending_count + later_count pads taken lined pending_count ≡ all_padded pads taken

-- how the stages of `pad` behave
abbrev pub pad_acts : Acts PadState PadArguments
pad_acts = record {
  recipe = λ s. s.recipe;
  kind_of = pad_kind;
  meaning = pad_meaning;
  rest = λ s z. map plain (pad_left s z);
  counts = λ s. core_counts s.core;
  dry = λ s. is_none s.core.pending && nat_eq s.silent 0;
  stored = λ s. s.line.items ++ pending_frames s.core;
  capacity = λ s. s.line.capacity;
  state_counters = λ s. record { first = s.silent; second = length (pending_frames s.core); third = 0 };
}

-- more frames taken never mean fewer frames given
pub pad_rises : (r : PadArguments) (m n : ℕ) → m ≤ n → m + lengths r.pads ≤ n + lengths r.pads
pad_rises r m n h = omega arith
