-- The effect `pad` (sox(1), EFFECTS, pad): silence at positions. A pad at a start position after the end of the sound is
-- dropped first (this project's profile).
use Rattle.std.specs.Prelude.{ℕ, ◌+◌, ◌-◌, ◌^◌, ◌≤◌, ◌==◌, nat_le, nat_lt, Bool, true, if◌then◌else◌, List, [], ◌∷◌, ◌++◌, filter, flat_map, length, map, replicate, slice_get, sum_by, zip, None, option_to_list}
use Rattle.std.specs.List.{range_with_len}
use Rattle.fx_fixed.specs.Extents.{largest}
use Rattle.fx_cut.specs.PadExtents.{pad_distance, pad_length}
use Rattle.fx_fixed.specs.Positions.{places_after}
use Rattle.fx_fixed.specs.declared.positions.At.{At}
use Rattle.fx_fixed.specs.declared.positions.At.TheVariants.{Start, End}
use Rattle.fx_frame_base.specs.Frame.{Samples, silence}
use Rattle.fx_frame_base.specs.Given.{plain}
use Rattle.fx_frame_base.specs.Stage.{StageKind, Given}

-- the positions of pads, each of which is a length and a position
abbrev pub ats : List (ℕ × At) → List At
ats pads = map (λ p. p.1) pads

-- the lengths of pads together
abbrev pub lengths : List (ℕ × At) → ℕ
lengths pads = sum_by pad_length pads

-- a pad is not after the end of a sound of `len` frames
abbrev pub is_inside : ℕ → ℕ × At → Bool
is_inside len (n, Start p) = nat_le p len
is_inside len (n, End b) = true

-- the lengths of the pads that are not after the end, each with its place, where none lies before a place
abbrev pub placed_after : ℕ → ℕ → List (ℕ × At) → List (ℕ × ℕ)
placed_after len last pads = zip (map (λ p. p.0) (filter (is_inside len) pads)) (places_after len last (map (λ p. p.1) (filter (is_inside len) pads)))

abbrev pub placed : ℕ → List (ℕ × At) → List (ℕ × ℕ)
placed len pads = placed_after len 0 pads

-- how many silent frames stand before frame n
abbrev pub silent_at : List (ℕ × ℕ) → ℕ → ℕ
silent_at pads n = sum_by (λ p. if p.1 == n then p.0 else 0) pads

-- before each frame, and after the last one, the silence of the pads there
abbrev pub padded : ℕ → List (ℕ × At) → List Samples → List Samples
padded channels pads x = flat_map (λ n. replicate (silent_at (placed (length x) pads) n) (silence channels) ++ option_to_list (slice_get x n)) (range_with_len 0 (length x + 1))

-- the pads before the first one that is counted from the end, with their places
abbrev pub pads_from_start : List (ℕ × At) → List (ℕ × ℕ)
pads_from_start [] = []
pads_from_start ((n, Start p) ∷ pads) = (n, p) ∷ pads_from_start pads
pads_from_start ((n, End b) ∷ pads) = []

-- how many frames are given after `s` taken frames, with no end: those before each end position, and the pads before them
abbrev pub pad_due : List (ℕ × At) → ℕ → ℕ
pad_due pads s = s - largest (map pad_distance pads) + sum_by (λ p. p.0) (filter (λ p. nat_lt p.1 (s - largest (map pad_distance pads))) (pads_from_start pads))

-- the positions from the start that stand before the first one from the end are in order, from a place on
abbrev pub RisesFrom : ℕ → List At → Type 0
RisesFrom m [] = Unit {0}
RisesFrom m (Start p ∷ ps) = (m ≤ p) × RisesFrom p ps
RisesFrom m (End b ∷ ps) = Unit {0}

-- pads in order, whose lengths together are at most those of 64 pads of 2^40 frames
pub record IsPads (pads : List (ℕ × At)) : Type 0 where
  pub rising : RisesFrom 0 (ats pads)
  pub short : lengths pads ≤ 2 ^ 46

-- what a `Pad` is made with
pub record PadArguments : Type 0 where
  pub channels : ℕ
  pub pads : List (ℕ × At)

-- those with so many channels and these pads
abbrev pub pad_with : ℕ → List (ℕ × At) → PadArguments
pad_with channels pads = record { channels = channels; pads = pads }

-- what it takes and gives, and when each frame is due
abbrev pub pad_kind : PadArguments → StageKind
pad_kind r = record { inputs = r.channels; outputs = r.channels; line = largest (map pad_distance r.pads); limit = 2 ^ 56; due = pad_due r.pads; maximum = λ n. n + lengths r.pads; enough = None }

-- what it gives for a sound
abbrev pub pad_meaning : PadArguments → List Samples → List Given
pad_meaning r x = map plain (padded r.channels r.pads x)
