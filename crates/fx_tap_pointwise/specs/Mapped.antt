-- The stage of a memoryless effect (this project's profile).
use Rattle.std.specs.Prelude.{ℕ, ℤ, Result, ◌+◌, ◌≤◌, ◌≡◌, false, List, ◌++◌, None, length, map, is_none}
use Rattle.fx_frame_base.specs.declared.stage.ThawFault.{ThawFault}
use Rattle.fx_frame_base.specs.Frame.{Samples}
use Rattle.fx_frame_base.specs.Lists.{pieces}
use Rattle.fx_frame_base.specs.Stage.{Given, Acts, coming, RestoresAlways, max_taken}
use Rattle.fx_frame_base.specs.StageCore.{IsCore, core_counts, pending_frames, pending_given}
use Rattle.fx_frame_base.specs.declared.stage_core.StageCore.{StageCore}
use Rattle.fx_frame.specs.Kinds.{map_kind}
use Rattle.fx_frame.specs.Made.{made_of}

-- what such a stage stores
pub record MapState (M : Type 0) : Type 0 where
  pub mapping : M
  pub core : StageCore

-- the invariant of the stage
pub record IsMapState {M : Type 0} (outputs : M → ℕ) (s : MapState M) : Type 0 where
  -- what holds of each core
  pub core : IsCore (outputs s.mapping) 16 s.core
  pub counted : s.core.given + length (pending_frames s.core) ≡ s.core.taken

-- it gives for each frame the output frame of the mapping
abbrev pub map_acts : {M : Type 0} → (M → ℕ) → (M → ℕ) → (M → Samples → Given) → Acts (MapState M) M
map_acts inputs outputs mapped = record {
  recipe = λ s. s.mapping;
  kind_of = λ m. map_kind (inputs m) (outputs m);
  meaning = λ m x. map (mapped m) x;
  rest = λ s z. pending_given s.core ++ map (mapped s.mapping) (coming s.core.ended z);
  counts = λ s. core_counts s.core;
  dry = λ s. is_none s.core.pending;
  stored = λ s. pending_frames s.core;
  capacity = λ s. 0;
  state_counters = λ s. record { first = s.core.pending_clips; second = 0; third = 0 };
}

-- `count` frames may be passed to such a stage in one call
pub record MayMapFrames {M : Type 0} (count : ℕ) (s : MapState M) : Type 0 where
  pub dry : s.core.pending ≡ None
  -- it was not given the end
  pub not_ended : s.core.ended ≡ false
  -- with these frames it has taken no more than it may
  pub bound : s.core.taken + count ≤ max_taken

-- such a stage, which takes frames of so many channels, may be passed what the one before it gives, of so many channels
pub record ComesAfter {M N : Type 0} (before : MapState M) (outputs : ℕ) (s : MapState N) (inputs : ℕ) : Type 0 where
  pub dry : s.core.pending ≡ None
  -- it was not given the end
  pub not_ended : s.core.ended ≡ false
  -- it has taken what that one gave
  pub taken : s.core.taken ≡ before.core.given
  pub channels : inputs ≡ outputs

-- the stage gives frames of as many channels as it takes
abbrev pub KeepsChannels : {M : Type 0} → (M → ℕ) → (M → ℕ) → MapState M → Type 0
KeepsChannels inputs outputs s = outputs s.mapping ≡ inputs s.mapping

-- the first `count` frames of the output are those that the mapping makes of the first `count` of the input
abbrev pub MapsBlock : {M : Type 0} → (M → ℕ) → (M → ℕ) → (M → Samples → Given) → M → ℕ → List ℤ → List ℤ → Type 0
MapsBlock inputs outputs mapped m count input output = pieces (outputs m) count output ≡ made_of (mapped m) (pieces (inputs m) count input)

-- each sound stage of this mapping that stored these frames and counted these numbers is restored
abbrev pub RestoresMapped : {M : Type 0} → (M → ℕ) → (M → ℕ) → (M → Samples → Given) → M → List Samples → List ℕ → Result (MapState M) ThawFault → Type 0
RestoresMapped inputs outputs mapped = RestoresAlways (map_acts inputs outputs mapped) (IsMapState outputs)
