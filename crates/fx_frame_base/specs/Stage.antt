use Rattle.std.specs.Prelude.{ℕ, ◌+◌, ◌^◌, ◌<◌, ◌≤◌, ◌&&◌, cond, nat_le, Bool, true, false, List, [], ◌∷◌, length, MatchResult, Ok, Option, Result, Some, None, ◌≡◌}
use Rattle.fx_frame_base.specs.declared.stage.ThawFault.{ThawFault}
use Rattle.fx_frame_base.specs.declared.stage.ThawFault.TheVariants.{Memory}
use Rattle.fx_frame_base.specs.Frame.{Samples}

-- How stages behave (this project's profile).

-- a frame that is given, and how many of its samples were clipped
pub record Given : Type 0 where
  pub samples : Samples
  pub clips : ℕ

-- the maximum number of frames that a stage takes, where its arguments set no smaller limit
abbrev pub max_taken : ℕ
max_taken = 2 ^ 56

-- what the arguments of a stage determine for its whole lifetime
pub record StageKind : Type 0 where
  -- the channels of the frames taken and of the frames given
  pub inputs : ℕ
  pub outputs : ℕ
  -- the capacity of its line, or of its lines together
  pub line : ℕ
  -- the frames that it may take
  pub limit : ℕ
  -- how many frames it has given when it is dry after that many taken frames, with no end
  pub due : ℕ → ℕ
  -- the maximum number of frames that it gives for that many
  pub maximum : ℕ → ℕ
  -- after that many frames nothing more is given, whatever input follows
  pub enough : Option ℕ

-- the frames that it may hold: those of the line and one pending frame
abbrev pub hold_of : StageKind → ℕ
hold_of k = k.line + 1

-- the taken frames are enough
abbrev pub is_enough : Option ℕ → ℕ → Bool
is_enough None taken = false
is_enough (Some enough) taken = nat_le enough taken

-- the frames that count: none after the end
abbrev pub coming : Bool → List Samples → List Samples
coming true z = []
coming false z = z

-- what is counted, and whether the end came
pub record Counts : Type 0 where
  pub taken : ℕ
  pub given : ℕ
  pub clips : ℕ
  pub ended : Bool

-- the counts of a new stage
abbrev pub no_counts : Counts
no_counts = record { taken = 0; given = 0; clips = 0; ended = false }

-- the counts after one more frame was taken
abbrev pub after_taking : Counts → Counts
after_taking c = record c { taken = c.taken + 1 }

-- the counts after a frame with `n` clips was given
abbrev pub after_giving : ℕ → Counts → Counts
after_giving n c = record c { given = c.given + 1; clips = c.clips + n }

-- the counts after the end came
abbrev pub after_end : Counts → Counts
after_end c = record c { ended = true }

-- the old remainder is the frame, followed by the new remainder
pub record Gives (old new : List Samples → List Given) (old_counts new_counts : Counts) (frame : Samples) : Type 0 where
  pub clips : ℕ
  pub first : (z : List Samples) → old z ≡ record { samples = frame; clips = clips } ∷ new z
  pub counted : new_counts ≡ after_giving clips old_counts

-- the three state counters of a stage
pub record StateCounters : Type 0 where
  pub first : ℕ
  pub second : ℕ
  pub third : ℕ

-- those of a new stage
abbrev pub no_state_counters : StateCounters
no_state_counters = record { first = 0; second = 0; third = 0 }

-- the eight numbers of a stage that stores `stored` frames
abbrev pub numbered : Counts → ℕ → StateCounters → List ℕ
numbered c stored state_counters = c.taken ∷ c.given ∷ cond c.ended 1 0 ∷ c.clips ∷ stored ∷ state_counters.first ∷ state_counters.second ∷ state_counters.third ∷ []

-- how the stages of a type behave, given the recipes that they are made with
pub record Acts (S R : Type 0) : Type 0 where
  -- the arguments that a stage was made with
  pub recipe : S → R
  pub kind_of : R → StageKind
  -- the whole output for a whole input, by the definition of the effect
  pub meaning : R → List Samples → List Given
  -- the frames still to be given, if these frames come and then the end
  pub rest : S → List Samples → List Given
  pub counts : S → Counts
  -- no frame is to be given now
  pub dry : S → Bool
  -- the frames that it holds: its line from the oldest on, then the pending one
  pub stored : S → List Samples
  -- the capacity of its line now, or of its lines together
  pub capacity : S → ℕ
  -- its other counts
  pub state_counters : S → StateCounters

module _ {S R : Type 0} (acts : Acts S R) where
  abbrev pub kind : S → StageKind
  kind s = acts.kind_of (acts.recipe s)

  -- nothing more is given, whatever input follows
  abbrev pub spent : S → Bool
  spent s = acts.dry s && is_enough (kind s).enough (acts.counts s).taken

  abbrev pub numbers_of : S → List ℕ
  numbers_of s = numbered (acts.counts s) (length (acts.stored s)) (acts.state_counters s)

  -- its three state counters among them
  abbrev pub state_counters_of : S → List ℕ
  state_counters_of s = (acts.state_counters s).first ∷ (acts.state_counters s).second ∷ (acts.state_counters s).third ∷ []

  -- a stage that was made with a recipe is new
  pub record IsNew (r : R) (s : S) : Type 0 where
    pub recipe : acts.recipe s ≡ r
    pub rest : (z : List Samples) → acts.rest s z ≡ acts.meaning r z
    pub counts : acts.counts s ≡ no_counts
    pub dry : acts.dry s ≡ true
    pub stored : acts.stored s ≡ []
    pub state_counters : acts.state_counters s ≡ no_state_counters

  -- these are the frames and numbers of a stage
  pub record Freezes (s : S) (frames : List Samples) (numbers : List ℕ) : Type 0 where
    pub stored : frames ≡ acts.stored s
    pub counted : numbers ≡ numbers_of s

  -- each sound stage with these arguments that has these frames and numbers is restored, unless memory is refused
  abbrev pub Restores : (S → Type 0) → R → List Samples → List ℕ → Result S ThawFault → Type 0
  Restores IsSound arguments frames numbers result =
      (s : S) → IsSound s → acts.recipe s ≡ arguments → Freezes s frames numbers → MatchResult result (λ t. t ≡ s) (λ e. e ≡ Memory)

  -- the same where no memory is taken
  abbrev pub RestoresAlways : (S → Type 0) → R → List Samples → List ℕ → Result S ThawFault → Type 0
  RestoresAlways IsSound arguments frames numbers result =
      (s : S) → IsSound s → acts.recipe s ≡ arguments → Freezes s frames numbers → result ≡ Ok s

  -- a stage that was not dry gave a frame
  pub record Gave (s s' : S) (frame : Samples) : Type 0 where
    pub was_wet : acts.dry s ≡ false
    pub gives : Gives (acts.rest s) (acts.rest s') (acts.counts s) (acts.counts s') frame
    pub channels : length frame ≡ (kind s).outputs
    -- no frame is given before it is due
    pub due : (acts.counts s).ended ≡ false → (acts.counts s').given ≤ (kind s).due (acts.counts s').taken
    pub maximum : (acts.counts s').given ≤ (kind s).maximum (acts.counts s').taken
    pub recipe_stays : acts.recipe s' ≡ acts.recipe s

  -- a dry stage took a frame
  pub record Took (s s' : S) (frame : Samples) : Type 0 where
    pub rest : (z : List Samples) → acts.rest s' z ≡ acts.rest s (frame ∷ z)
    pub counted : acts.counts s' ≡ after_taking (acts.counts s)
    pub recipe_stays : acts.recipe s' ≡ acts.recipe s

  -- a dry stage was given the end: from now on only the empty list is possible input
  pub record Ended (s s' : S) : Type 0 where
    pub rest : (z : List Samples) → acts.rest s' z ≡ acts.rest s []
    pub counted : acts.counts s' ≡ after_end (acts.counts s)
    pub recipe_stays : acts.recipe s' ≡ acts.recipe s

  -- a dry stage has given all that is due, and after the end all
  pub record IsDry (s : S) : Type 0 where
    pub due : (acts.counts s).ended ≡ false → (acts.counts s).given ≡ (kind s).due (acts.counts s).taken
    pub over : (acts.counts s).ended ≡ true → (z : List Samples) → acts.rest s z ≡ []

  -- a stage that is not dry has not yet given all that is due, and after the end not all
  pub record IsWet (s : S) : Type 0 where
    pub due : (acts.counts s).ended ≡ false → (acts.counts s).given < (kind s).due (acts.counts s).taken
    pub over : (acts.counts s).ended ≡ true → (z : List Samples) → 0 < length (acts.rest s z)

  -- its counts stay within what its arguments allow
  pub record IsWithin (s : S) : Type 0 where
    pub taken : (acts.counts s).taken ≤ (kind s).limit
    pub given : (acts.counts s).given ≤ (kind s).maximum (acts.counts s).taken

  -- it holds no more frames than the capacity of its line
  abbrev pub IsLined : S → Type 0
  IsLined s = length (acts.stored s) ≤ (kind s).line
