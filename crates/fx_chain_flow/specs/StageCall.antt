-- The calls by which a flow hands frames to its stages and takes them from these (this project's profile).
use Rattle.std.specs.Prelude.{ℕ, ℤ, zero, suc, ◌+◌, ◌<◌, ◌≤◌, ◌≡◌, Bool, true, false, List, [], ◌∷◌}
use Rattle.fx_frame_base.specs.declared.feed.Passed.{Passed}
use Rattle.fx_frame_base.specs.declared.feed.Passing.{Passing}
use Rattle.fx_frame_base.specs.declared.feed.Passing.TheVariants.{Kept, Through, More}
use Rattle.fx_frame_base.specs.Feed.{IsHeld, IsNoneDue, IsOneToOne, PassedOn, TookAll}
use Rattle.fx_frame_base.specs.Frame.{Samples}
use Rattle.fx_frame_base.specs.Holds.{kinds}
use Rattle.fx_frame_base.specs.Lists.{pieces}
use Rattle.fx_frame_base.specs.Pipeline.{EachThrough, outputs_of}
use Rattle.fx_frame_base.specs.Stage.{Acts, Ended, Gave, IsDry, IsLined, Took, is_enough, kind, spent}
use Rattle.fx_chain_flow.specs.Parts.{Matching}

-- one call
pub data StageCall : Type 0 where
  -- the stage at a place took these frames, and gave those
  at_stage : (place : ℕ) (taken given : List Samples) → StageCall
  -- the stage at a place was given the end
  end_to : (place : ℕ) → StageCall
  -- these frames came and went through all stages in one call, each through all before the next, or as groups that the stages
  -- have space for; those came out
  through_all : (taken given : List Samples) → StageCall

-- the frames that a stage gave for the one that it was passed
abbrev pub given_on : Passing → Samples → List Samples
given_on Kept frame = []
given_on Through frame = frame ∷ []
given_on More frame = frame ∷ []

-- the stage at a place is so
abbrev pub At : {S : Type 0} → (S → Type 0) → ℕ → List S → Type 0
At IsSo place [] = ⊥
At IsSo zero (s ∷ stages) = IsSo s
At IsSo (suc place) (s ∷ stages) = At IsSo place stages

-- the stage at a place changed so, and the others are unchanged
abbrev pub ChangedAt : {S : Type 0} → (S → S → Type 0) → ℕ → List S → List S → Type 0
ChangedAt Changed zero (s ∷ stages) (s' ∷ stages') = Changed s s' × (stages' ≡ stages)
ChangedAt Changed (suc place) (s ∷ stages) (s' ∷ stages') = (s' ≡ s) × ChangedAt Changed place stages stages'
ChangedAt Changed place old new = ⊥

module _ {S R : Type 0} (acts : Acts S R) where
  -- a stage has a frame to give
  abbrev pub MayGive : S → Type 0
  MayGive s = acts.dry s ≡ false

  -- a stage may be given the end
  abbrev pub MayEnd : S → Type 0
  MayEnd s = (acts.dry s ≡ true) × ((acts.counts s).ended ≡ false)

  -- a stage may take a frame of so many channels
  pub record MayTake (width : ℕ) (s : S) : Type 0 where
    pub dry : acts.dry s ≡ true
    pub not_ended : (acts.counts s).ended ≡ false
    pub channels : width ≡ (kind acts s).inputs
    pub below_limit : (acts.counts s).taken < (kind acts s).limit

  -- a stage may be passed a frame of so many channels; where channels are kept, it gives one of as many
  pub record MayBePassed (keeps : Bool) (width : ℕ) (s : S) : Type 0 where
    pub takes : MayTake width s
    pub not_spent : spent acts s ≡ false
    pub keep : keeps ≡ true → (kind acts s).outputs ≡ (kind acts s).inputs

  -- a stage may be passed `count` frames of so many channels, and gives one of as many for each
  pub record MayBePassedMany (width count : ℕ) (s : S) : Type 0 where
    pub dry : acts.dry s ≡ true
    pub not_ended : (acts.counts s).ended ≡ false
    pub inputs : width ≡ (kind acts s).inputs
    pub outputs : (kind acts s).outputs ≡ (kind acts s).inputs
    pub one_to_one : IsOneToOne acts count s
    pub ahead : (n : ℕ) → n < count → is_enough (kind acts s).enough ((acts.counts s).taken + n) ≡ false
    pub below_limit : (acts.counts s).taken + count ≤ (kind acts s).limit

  -- a stage may take `count` frames of so many channels, for which none is due
  pub record MayTakeMany (width count : ℕ) (s : S) : Type 0 where
    pub dry : acts.dry s ≡ true
    pub not_ended : (acts.counts s).ended ≡ false
    pub inputs : width ≡ (kind acts s).inputs
    pub outputs : (kind acts s).outputs ≤ 16
    pub none_due : IsNoneDue acts count s
    pub ahead : (n : ℕ) → n < count → is_enough (kind acts s).enough ((acts.counts s).taken + n) ≡ false
    pub below_limit : (acts.counts s).taken + count ≤ (kind acts s).limit

  -- a stage took these frames and gave none, and is dry
  pub record TookMany (xs : List Samples) (s s' : S) : Type 0 where
    pub took : TookAll acts xs s s'
    pub dry : acts.dry s' ≡ true
    pub determined : IsDry acts s'

  -- a stage gave this frame, and holds no more than it may
  abbrev pub GaveWithin : Samples → S → S → Type 0
  GaveWithin frame s s' = Gave acts s s' frame × IsHeld acts s'

  -- a stage took this frame, and holds no more than it may
  abbrev pub TookWithin : Samples → S → S → Type 0
  TookWithin frame s s' = Took acts s s' frame × IsHeld acts s'

  -- a stage was given the end, and holds no more than it may
  abbrev pub EndedWithin : S → S → Type 0
  EndedWithin s s' = Ended acts s s' × IsHeld acts s'

  -- a stage was passed this frame; where it is dry then, it has given what is due
  abbrev pub WasPassed : Passing → Samples → Samples → S → S → Type 0
  WasPassed passing frame left s s' = PassedOn acts passing s s' frame left × (acts.dry s' ≡ true → IsDry acts s')

  -- a stage was passed these frames, gave one of those for each, and holds its line alone
  abbrev pub WasPassedMany : List Samples → List Samples → S → S → Type 0
  WasPassedMany xs ys s s' = EachThrough acts xs ys s s' × IsLined acts s'

  -- a stage was passed `count` frames of `channels` channels, of these samples, and gave those in their place
  abbrev pub WasPassedSamples : ℕ → ℕ → List ℤ → List ℤ → S → S → Type 0
  WasPassedSamples channels count before after s s' = WasPassedMany (pieces channels count before) (pieces channels count after) s s'

  -- One call, of these, led the frames at the front of the input through stages in sequence, and those that came out to the front of
  -- the output. Frames of `channels` channels go in.
  abbrev pub HandedThrough : (List S → StageCall → List S → Type 0) → List ℤ → List ℤ → Passed → List S → List S → Type 0
  HandedThrough handed input output passed old new = (channels : ℕ) → Matching channels (kinds acts old)
      → handed old (through_all (pieces channels passed.taken input) (pieces (outputs_of channels (kinds acts old)) passed.given output)) new
