-- Positions as text, by sox(1), Effects, and this project's profile, and where they lie in a sound.
use Rattle.std.specs.Prelude.{ℕ, ◌+◌, ◌-◌, ◌^◌, ◌==◌, ◌||◌, nat_lt, if◌then◌else◌, List, [], ◌∷◌, max, Result, Ok, Err}
use Rattle.fx_fixed.specs.Decimals.{is_sign}
use Rattle.fx_fixed.specs.Times.{frames_between, terms_of}
use Rattle.fx_fixed.specs.declared.positions.Anchor.{Anchor}
use Rattle.fx_fixed.specs.declared.positions.At.{At}
use Rattle.fx_fixed.specs.declared.positions.At.TheVariants.{Start, End}
use Rattle.fx_fixed.specs.declared.terms.Terms.{Terms}
use Rattle.fx_fixed.specs.declared.times.TimeFault.{TimeFault}
use Rattle.fx_fixed.specs.declared.times.TimeFault.TheVariants.{TooFar}

-- the anchor of a position: `=` is the start, `+` the previous position, `-` the end
abbrev pub anchor_of : Anchor → List ℕ → Anchor
anchor_of default [] = default
anchor_of default (c ∷ cs) =
    if c == 61 then Anchor.Start
    else (if c == 43 then Anchor.Previous
    else (if c == 45 then Anchor.End
    else default))

-- a position without the sign that names its anchor
abbrev pub distance_of : List ℕ → List ℕ
distance_of [] = []
distance_of (c ∷ cs) = if (c == 61) || is_sign c then cs else c ∷ cs

-- a position from the start: not before it, and not too far
abbrev pub start_by : Result ℕ TimeFault → Result At TimeFault
start_by (Ok frames) = Ok (Start frames)
start_by (Err fault) = Err fault

abbrev pub start_at : ℕ → ℕ → Result At TimeFault
start_at ahead back = start_by (frames_between ahead back)

-- a position before the end: at the end where it would lie after it, and not too far
abbrev pub end_at : ℕ → ℕ → Result At TimeFault
end_at ahead back = if nat_lt (2 ^ 40) (ahead - back) then Err TooFar else Ok (End (ahead - back))

-- the first term goes in the anchor's direction; the later ones move the position itself
abbrev pub position_by : Anchor → At → Terms → Result At TimeFault
position_by Anchor.Start previous terms = start_at (terms.first + terms.added) terms.taken
position_by Anchor.Previous (Start p) terms = start_at (p + terms.first + terms.added) terms.taken
position_by Anchor.Previous (End b) terms = end_at (b + terms.taken) (terms.first + terms.added)
position_by Anchor.End previous terms = end_at (terms.first + terms.taken) terms.added

abbrev pub position_from : Anchor → At → Result Terms TimeFault → Result At TimeFault
position_from anchor previous (Ok terms) = position_by anchor previous terms
position_from anchor previous (Err fault) = Err fault

-- the position that a text names, or its first fault
abbrev pub position_of : ℕ → Anchor → At → List ℕ → Result At TimeFault
position_of rate default previous text =
    position_from (anchor_of default text) previous (terms_of rate (distance_of text))

-- where a position lies in a sound of `total` frames
abbrev pub place_of : ℕ → At → ℕ
place_of total (Start p) = p
place_of total (End b) = total - b

-- where positions lie in effect, one after the other: none before the previous one
abbrev pub places_after : ℕ → ℕ → List At → List ℕ
places_after total last [] = []
places_after total last (position ∷ positions) =
    let place = max last (place_of total position) in
    place ∷ places_after total place positions

abbrev pub places_of : ℕ → List At → List ℕ
places_of total positions = places_after total 0 positions
