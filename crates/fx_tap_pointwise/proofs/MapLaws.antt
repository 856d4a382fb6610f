-- What a stage that maps each frame alone counted, where it froze.
use Rattle.std.proofs.Common.{ℕ, ◌≡◌, ◌+◌, Option, Some, None, List, length, refl, sym, ap, ◌∙◌, option_to_list, slice_index_or}
use Rattle.fx_frame_base.specs.Frame.{Samples}
use Rattle.fx_frame_base.specs.Stage.{Freezes, Given}
use Rattle.fx_tap_pointwise.specs.Mapped.{IsMapState, MapState, map_acts}
use Rattle.fx_frame.specs.Numbers.{AreCoreNumbers, core_of}
use Rattle.fx_frame.specs.declared.numbers.CoreNumbers.{CoreNumbers}
use Rattle.fx_frame.proofs.CoreLaws.{AreCoreNumbers-of, core_of-numbers}

-- what the eight numbers of such a stage say of its core
abbrev pub core_by_name : List ℕ → CoreNumbers
core_by_name ns = record {
  taken = slice_index_or ns 0 0;
  given = slice_index_or ns 1 0;
  ended = slice_index_or ns 2 0;
  clips = slice_index_or ns 3 0;
  pending_count = slice_index_or ns 4 0;
  pending_clips = slice_index_or ns 5 0;
}

-- what holds of the eight numbers of a stage that stores so many frames
pub record AreMapCounts (stored : ℕ) (ns : List ℕ) : Type 0 where
  pub core : AreCoreNumbers 16 (core_by_name ns)
  pub all : slice_index_or ns 4 0 ≡ stored
  pub second_counter : slice_index_or ns 6 0 ≡ 0
  pub third_counter : slice_index_or ns 7 0 ≡ 0
  pub counted : slice_index_or ns 1 0 + slice_index_or ns 4 0 ≡ slice_index_or ns 0 0

-- a pending frame is known by what is stored of it
pub pending-is : {A : Type 0} (a b : Option A) → option_to_list a ≡ option_to_list b → a ≡ b
pending-is None None e = refl
pending-is None (Some y) e = absurd (cc)
pending-is (Some x) None e = absurd (cc)
pending-is (Some x) (Some y) e = cc

module _ {M : Type 0} (inputs outputs : M → ℕ) (mapped : M → Samples → Given) (s : MapState M) (frames : List Samples) (numbers : List ℕ) (froze : Freezes (map_acts inputs outputs mapped) s frames numbers) where
  -- a stage that froze to these frames and numbers has such counts
  pub counts-are : IsMapState outputs s → AreMapCounts (length frames) numbers
  counts-are is = rw froze.counted record {
    core = AreCoreNumbers-of _ _ s.core is.core;
    all = ap length (sym froze.stored);
    second_counter = refl;
    third_counter = refl;
    counted = is.counted;
  }

  -- and it is the stage that is made of them
  pub thawed-is : (m : M) (pending : Option Samples) → s.mapping ≡ m → frames ≡ option_to_list pending
      → record { mapping = m; core = core_of (core_by_name numbers) pending } ≡ s
  thawed-is m pending same stored =
      let pending_is : pending ≡ s.core.pending = pending-is pending s.core.pending (sym stored ∙ froze.stored) in
      rw (← same, pending_is, froze.counted, core_of-numbers s.core) refl
