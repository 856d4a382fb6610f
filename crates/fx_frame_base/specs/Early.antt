-- Frames that go through a stage and those after it, where they leave the stage before as many others come (this project's profile).
use Rattle.std.specs.Prelude.{ℕ, ℤ, ◌+◌, ◌*◌, ◌≤◌, ◌≡◌, true, false, List, [], ◌∷◌, drop, length}
use Rattle.fx_frame_base.specs.Feed.{IsAhead, IsOneToOne}
use Rattle.fx_frame_base.specs.Frame.{IsChannelCount, Samples}
use Rattle.fx_frame_base.specs.Holds.{kinds}
use Rattle.fx_frame_base.specs.Lists.{pieces}
use Rattle.fx_frame_base.specs.Pipeline.{AllAhead, AllKeep, AllOneToOne, AreReady, EachThrough}
use Rattle.fx_frame_base.specs.Stage.{Acts, kind}

module _ {T Q : Type 0} (acts : Acts T Q) (passed_while : List Samples → List Samples → List Samples → T → T → Type 0) where
  -- These frames went through stages in sequence, and those came out, one for each. Each stage passed all of them in one call, while
  -- a line held the first ones.
  abbrev pub PassedWhile : List Samples → List Samples → List Samples → List T → List T → Type 0
  PassedWhile held xs ys [] [] = ys ≡ xs
  PassedWhile held xs ys (s ∷ stages) (s' ∷ stages') = (between : List Samples) × EachThrough acts xs between s s' × passed_while held xs between s s' × PassedWhile held between ys stages stages'
  PassedWhile held xs ys old new = ⊥

  -- one stage passed `count` frames of a block, and put those that it gave in their places, while a line held the first ones
  abbrev pub WhileHeld : List Samples → ℕ → List ℤ → List ℤ → T → T → Type 0
  WhileHeld held count old new s s' = passed_while held (pieces (kind acts s).inputs count old) (pieces (kind acts s).inputs count new) s s'

  -- stages in sequence passed `count` frames of a block of so many channels, and put those that came out in their places
  abbrev pub PassedInPlace : List Samples → ℕ → ℕ → List ℤ → List ℤ → List T → List T → Type 0
  PassedInPlace held channels count old new = PassedWhile held (pieces channels count old) (pieces channels count new)

module _ {S R T Q : Type 0} (acts : Acts S R) (after : Acts T Q) where
  -- `count` frames, whose samples these are, may go through a stage that as many frames may leave early, and those that it gives for
  -- them through the stages after it. All keep the channels and give one frame for each, and the output has space for just these.
  pub record MayPassEarly (early : S → ℕ) (count : ℕ) (input output : List ℤ) (s : S) (rest : List T) : Type 0 where
    pub some : 1 ≤ count
    pub dry : acts.dry s ≡ true
    pub not_ended : (acts.counts s).ended ≡ false
    pub one_to_one : IsOneToOne acts count s
    pub ahead : IsAhead acts count s
    pub frame : IsChannelCount (kind acts s).inputs
    pub same_channels : (kind acts s).outputs ≡ (kind acts s).inputs
    pub below_limit : (acts.counts s).taken + count ≤ (kind acts s).limit
    pub lined : count ≤ early s
    pub long : length input ≡ count * (kind acts s).inputs
    pub free : length output ≡ length input
    -- the stages after it have taken what it gave, and have not had enough
    pub ready : (maximum : ℕ) × ((acts.counts s).taken + count ≤ maximum) × AreReady after (kind acts s).inputs (acts.counts s).given ((kind acts s).maximum maximum) rest
    pub keep : AllKeep (kind acts s).inputs (kinds after rest)
    pub rest_one_to_one : AllOneToOne after count rest
    pub rest_ahead : AllAhead after count rest

  -- They went through it, and those that it gave through the stages after it; the last ones came out. With each call of these stages
  -- a line held what it had stored without the `count` oldest frames, for these were on their way. That the line is its own is not
  -- stated, nor when it took the frames that came.
  pub record PassedEarly (passed_while : List Samples → List Samples → List Samples → T → T → Type 0) (count : ℕ) (input output : List ℤ) (s : S) (rest : List T) (s' : S) (rest' : List T) : Type 0 where
    pub between : List Samples
    pub through : EachThrough acts (pieces (kind acts s).inputs count input) between s s'
    pub stored : count ≤ length (acts.stored s)
    pub others : PassedWhile after passed_while (drop count (acts.stored s)) between (pieces (kind acts s).inputs count output) rest rest'
