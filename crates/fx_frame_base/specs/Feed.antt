-- Frames passed to a stage many at a time, and taken from it likewise (this project's profile).
use Rattle.std.specs.Prelude.{ℕ, ℤ, ◌+◌, ◌-◌, ◌*◌, ◌<◌, ◌≤◌, ◌≡◌, true, false, List, [], ◌∷◌, ◌++◌, drop, length}
use Rattle.fx_frame_base.specs.declared.feed.Forecast.{Forecast}
use Rattle.fx_frame_base.specs.declared.feed.Passing.{Passing}
use Rattle.fx_frame_base.specs.declared.feed.Passing.TheVariants.{Kept, Through, More}
use Rattle.fx_frame_base.specs.Frame.{Samples}
use Rattle.fx_frame_base.specs.Lists.{pieces}
use Rattle.fx_frame_base.specs.Stage.{Acts, Gave, StageKind, Took, hold_of, is_enough, kind, spent}

-- this is known of the next frames of a stage that takes and gives so, after `taken` frames
pub record IsForecast (k : StageKind) (taken : ℕ) (next : Forecast) : Type 0 where
  -- those taken are not enough
  pub ahead : (n : ℕ) → n < next.ahead → is_enough k.enough (taken + n) ≡ false
  -- for each of them one more is due
  pub one_to_one : (n : ℕ) → n ≤ next.one_to_one → k.due (taken + n) ≡ k.due taken + n
  -- none is due for them
  pub none_due : (n : ℕ) → n ≤ next.none_due → k.due (taken + n) ≡ k.due taken

module _ {S R : Type 0} (acts : Acts S R) where
  -- it holds no more frames than its hold
  abbrev pub IsHeld : S → Type 0
  IsHeld s = length (acts.stored s) ≤ hold_of (kind acts s)

  -- for each of `count` further frames, one more is due
  abbrev pub IsOneToOne : ℕ → S → Type 0
  IsOneToOne count s = (n : ℕ) → n ≤ count → (kind acts s).due ((acts.counts s).taken + n) ≡ (kind acts s).due (acts.counts s).taken + n

  -- for each of `count` further frames, none is due
  abbrev pub IsNoneDue : ℕ → S → Type 0
  IsNoneDue count s = (n : ℕ) → n ≤ count → (kind acts s).due ((acts.counts s).taken + n) ≡ (kind acts s).due (acts.counts s).taken

  -- for `count` further frames, those taken are not enough
  abbrev pub IsAhead : ℕ → S → Type 0
  IsAhead count s = (n : ℕ) → n < count → is_enough (kind acts s).enough ((acts.counts s).taken + n) ≡ false

  -- it may take all frames of a block
  abbrev pub MayTakeAll : S → List ℤ → Type 0
  MayTakeAll s block = (n : ℕ) → n * (kind acts s).inputs ≤ length block → (acts.counts s).taken + n ≤ (kind acts s).limit

  -- `count` frames leave space for one more in a block
  abbrev pub LeavesSpace : S → ℕ → List ℤ → Type 0
  LeavesSpace s count block = count * (kind acts s).outputs + (kind acts s).outputs ≤ length block

  -- what follows `count` frames of a block is unchanged
  abbrev pub KeepsRest : S → ℕ → List ℤ → List ℤ → Type 0
  KeepsRest s count old new = drop (count * (kind acts s).outputs) new ≡ drop (count * (kind acts s).outputs) old

  -- each of the `taken` frames was taken while the free space had a place for one frame more than was due before it
  abbrev pub TookWithinSpace : S → ℕ → ℕ → Type 0
  TookWithinSpace s taken free = (n : ℕ) → n < taken → ((kind acts s).due ((acts.counts s).taken + n) - (acts.counts s).given + 1) * (kind acts s).outputs ≤ free

  -- a stage that was dry, not ended and not spent, and had given all that was due, took a frame
  pub record TookNext (s s' : S) (frame : Samples) : Type 0 where
    pub dry : acts.dry s ≡ true
    pub due : (acts.counts s).given ≡ (kind acts s).due (acts.counts s).taken
    pub not_ended : (acts.counts s).ended ≡ false
    pub not_spent : spent acts s ≡ false
    pub took : Took acts s s' frame
    pub held : IsHeld s'

  -- a stage took these frames one after another, and gave none
  abbrev pub TookAll : List Samples → S → S → Type 0
  TookAll [] s s' = s' ≡ s
  TookAll (x ∷ xs) s s' = (next : S) × TookNext s next x × TookAll xs next s'

  -- a stage that was not dry gave a frame
  pub record GaveNext (s s' : S) (frame : Samples) : Type 0 where
    pub gave : Gave acts s s' frame
    pub held : IsHeld s'

  -- a stage took a frame, and gave the one that it then gave, if it gave one
  abbrev pub PassedOn : Passing → S → S → Samples → Samples → Type 0
  PassedOn Kept s s' frame left = TookNext s s' frame × (acts.dry s' ≡ true)
  PassedOn Through s s' frame given = (mid : S) × TookNext s mid frame × GaveNext mid s' given × (acts.dry s' ≡ true)
  PassedOn More s s' frame given = (mid : S) × TookNext s mid frame × GaveNext mid s' given × (acts.dry s' ≡ false)

  -- a sequence of calls of `take` and `give`: the stage took these frames, gave those, and ended in the last state
  pub data Fed (first : S) : List Samples → List Samples → S → Type 0 where
    nothing : Fed first [] [] first
    taken : (xs gs : List Samples) (x : Samples) (s s' : S) → Fed first xs gs s → TookNext s s' x → Fed first (xs ++ x ∷ []) gs s'
    given : (xs gs : List Samples) (g : Samples) (s s' : S) → Fed first xs gs s → GaveNext s s' g → Fed first xs (gs ++ g ∷ []) s'

  -- it took `took` frames from the front of one block, and put the `gave` frames that it gave at the front of another
  abbrev pub FedBlock : S → S → ℕ → List ℤ → ℕ → List ℤ → Type 0
  FedBlock s s' took input gave output = Fed s (pieces (kind acts s).inputs took input) (pieces (kind acts s).outputs gave output) s'

  -- where the output has space for one more frame, a stage that goes on used up the input
  abbrev pub UsesInput : S → S → ℕ → List ℤ → ℕ → List ℤ → Type 0
  UsesInput s s' took input gave output =
      LeavesSpace s gave output → (acts.counts s').ended ≡ false → spent acts s' ≡ false → length input < took * (kind acts s).inputs + (kind acts s).inputs
