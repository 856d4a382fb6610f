use Rattle.std.specs.Prelude.{ℕ, zero, suc, ◌+◌, ◌<◌, ◌≤◌, Bool, true, false, ◌&&◌, ◌||◌, List, [], ◌∷◌, ◌≡◌, length, Option, Some, None, option_to_list, cond}
use Rattle.fx_frame_base.specs.Frame.{Samples}
use Rattle.fx_frame_base.specs.Stage.{StageKind, Acts, IsNew, Gave, Took, Ended, IsDry, kind, spent}
use Rattle.fx_frame_base.specs.Holds.{total}
use Rattle.fx_chain_flow.specs.Composed.{Whole, clips_given, frames_of}

-- Stages in sequence, each of which takes what the one before gives (this project's profile).

-- channels match from each stage to the next
abbrev pub Matching : ℕ → List StageKind → Type 0
Matching channels [] = Unit {0}
Matching channels (k ∷ ks) = (k.inputs ≡ channels) × Matching k.outputs ks

-- no stage takes more than its limit where n frames come
abbrev pub Within : List StageKind → ℕ → Type 0
Within [] n = Unit {0}
Within (k ∷ ks) n = (n ≤ k.limit) × Within ks (k.maximum n)

-- the maximum number of frames that leave the inlet and the stages where n frames come
abbrev pub work : List StageKind → ℕ → ℕ
work [] n = n
work (k ∷ ks) n = n + work ks (k.maximum n)

-- the maximum number of frames that the last gives where n frames come
abbrev pub max_of : List StageKind → ℕ → ℕ
max_of [] n = n
max_of (k ∷ ks) n = max_of ks (k.maximum n)

-- a flow, as its callers see it
pub record Parts (S : Type 0) : Type 0 where
  pub stages : List S
  pub inlet : Option Samples
  -- the end was given
  pub ended : Bool
  -- the frames that left the inlet
  pub left : ℕ
  -- channels of the frames taken
  pub channels : ℕ

-- the frames that came
abbrev pub taken_of : {S : Type 0} → Parts S → ℕ
taken_of f = f.left + length (option_to_list f.inlet)

module _ {S R : Type 0} (acts : Acts S R) where
  -- the frames that the last stage gives, if these frames come and then the end
  abbrev pub through : List S → List Samples → List Samples
  through [] z = z
  through (s ∷ stages) z = through stages (frames_of (acts.rest s z))

  -- for each stage how many frames it gives in all, and the clips in them, if these frames come and then the end
  abbrev pub wholes : List S → List Samples → List Whole
  wholes [] z = []
  wholes (s ∷ stages) z =
      record { given = (acts.counts s).given + length (acts.rest s z); clips = (acts.counts s).clips + clips_given (acts.rest s z) }
      ∷ wholes stages (frames_of (acts.rest s z))

  -- how many frames the last stage gave
  abbrev pub given_by : ℕ → List S → ℕ
  given_by n [] = n
  given_by n (s ∷ stages) = given_by (acts.counts s).given stages

  -- the frames that the stages gave
  abbrev pub given_of : List S → ℕ
  given_of stages = total (λ s. (acts.counts s).given) stages

  -- the frames that left the inlet or a stage
  abbrev pub moves_of : Parts S → ℕ
  moves_of f = f.left + given_of f.stages

  -- how many stages are ended
  abbrev pub ended_of : List S → ℕ
  ended_of stages = total (λ s. cond (acts.counts s).ended 1 0) stages

  -- some stage gives nothing more, whatever input follows
  abbrev pub any_spent : List S → Bool
  any_spent [] = false
  any_spent (s ∷ stages) = spent acts s || any_spent stages

  abbrev pub AllDry : List S → Type 0
  AllDry [] = Unit {0}
  AllDry (s ∷ stages) = (acts.dry s ≡ true) × AllDry stages

  -- each is dry, with what follows from that
  abbrev pub AllDetermined : List S → Type 0
  AllDetermined [] = Unit {0}
  AllDetermined (s ∷ stages) = (acts.dry s ≡ true) × IsDry acts s × AllDetermined stages

  abbrev pub AllEnded : List S → Type 0
  AllEnded [] = Unit {0}
  AllEnded (s ∷ stages) = ((acts.counts s).ended ≡ true) × AllEnded stages

  -- it is new
  abbrev pub AllNew : List S → Type 0
  AllNew [] = Unit {0}
  AllNew (s ∷ stages) = IsNew acts (acts.recipe s) s × AllNew stages

  -- stage i is the last that is not dry
  abbrev pub IsLastWet : ℕ → List S → Type 0
  IsLastWet i [] = ⊥
  IsLastWet zero (s ∷ stages) = (acts.dry s ≡ false) × AllDetermined stages
  IsLastWet (suc i) (s ∷ stages) = IsLastWet i stages

  -- the stages from this place on are dry, and the one before it, if any, is not
  abbrev pub IsWetEnd : ℕ → List S → Type 0
  IsWetEnd zero stages = AllDetermined stages
  IsWetEnd (suc i) stages = IsLastWet i stages

  -- stage i is the first that is not ended
  abbrev pub IsFirstOpen : ℕ → List S → Type 0
  IsFirstOpen i [] = ⊥
  IsFirstOpen zero (s ∷ stages) = (acts.counts s).ended ≡ false
  IsFirstOpen (suc i) (s ∷ stages) = ((acts.counts s).ended ≡ true) × IsFirstOpen i stages

  -- each stage has taken what the one before gave, and is ended only where the one before is ended and dry
  abbrev pub Joined : ℕ → Bool → List S → Type 0
  Joined n over [] = Unit {0}
  Joined n over (s ∷ stages) =
      ((acts.counts s).taken ≡ n)
      × ((acts.counts s).ended ≡ true → over ≡ true)
      × ((acts.counts s).given ≤ (kind acts s).maximum n)
      × Joined (acts.counts s).given ((acts.counts s).ended && acts.dry s) stages

  -- stage i may give its frame to the next one
  abbrev pub CanHandOver : ℕ → List S → Type 0
  CanHandOver i [] = ⊥
  CanHandOver zero (s ∷ []) = acts.dry s ≡ false
  CanHandOver zero (s ∷ t ∷ stages) =
      (acts.dry s ≡ false) × (acts.dry t ≡ true) × ((acts.counts t).ended ≡ false)
      × ((kind acts s).outputs ≡ (kind acts t).inputs)
      × ((acts.counts t).taken ≡ (acts.counts s).given) × ((kind acts s).maximum (acts.counts s).taken ≤ (kind acts t).limit)
  CanHandOver (suc i) (s ∷ stages) = CanHandOver i stages

  -- stage i gave a frame
  abbrev pub GaveAt : ℕ → Samples → List S → List S → Type 0
  GaveAt zero frame (s ∷ stages) (s' ∷ stages') = Gave acts s s' frame × (stages' ≡ stages)
  GaveAt (suc i) frame (s ∷ stages) (s' ∷ stages') = (s' ≡ s) × GaveAt i frame stages stages'
  GaveAt i frame old new = ⊥

  -- stage i gave a frame, out or to the next one
  abbrev pub HandedOver : ℕ → Option Samples → List S → List S → Type 0
  HandedOver zero (Some frame) (s ∷ []) (s' ∷ []) = Gave acts s s' frame
  HandedOver zero None (s ∷ t ∷ stages) (s' ∷ t' ∷ stages') = (frame : Samples) × Gave acts s s' frame × Took acts t t' frame × (stages' ≡ stages)
  HandedOver (suc i) out (s ∷ stages) (s' ∷ stages') = (s' ≡ s) × HandedOver i out stages stages'
  HandedOver i out old new = ⊥

  -- the first stage may take a frame
  abbrev pub CanFeed : Samples → List S → Type 0
  CanFeed frame [] = Unit {0}
  CanFeed frame (s ∷ stages) =
      (acts.dry s ≡ true) × ((acts.counts s).ended ≡ false) × (length frame ≡ (kind acts s).inputs) × ((acts.counts s).taken < (kind acts s).limit)

  -- the first stage took the frame; with no stage it went out
  abbrev pub PipelineFed : Samples → Option Samples → List S → List S → Type 0
  PipelineFed frame (Some out) [] [] = out ≡ frame
  PipelineFed frame None (s ∷ stages) (s' ∷ stages') = Took acts s s' frame × (stages' ≡ stages)
  PipelineFed frame out old new = ⊥

  -- stage i was given the end
  abbrev pub EndPassed : ℕ → List S → List S → Type 0
  EndPassed zero (s ∷ stages) (s' ∷ stages') = Ended acts s s' × (stages' ≡ stages)
  EndPassed (suc i) (s ∷ stages) (s' ∷ stages') = (s' ≡ s) × EndPassed i stages stages'
  EndPassed i old new = ⊥
