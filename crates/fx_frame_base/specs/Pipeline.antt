-- Stages in sequence that frames go through, each frame through all of them before the next (this project's profile).
use Rattle.std.specs.Prelude.{ℕ, ℤ, ◌+◌, ◌≤◌, ◌≡◌, true, false, List, [], ◌∷◌}
use Rattle.fx_frame_base.specs.declared.feed.Passing.TheVariants.{Through}
use Rattle.fx_frame_base.specs.Feed.{IsAhead, IsOneToOne, PassedOn}
use Rattle.fx_frame_base.specs.Frame.{Samples}
use Rattle.fx_frame_base.specs.Lists.{pieces}
use Rattle.fx_frame_base.specs.Stage.{Acts, IsDry, StageKind, kind, spent}

-- the channels of the frames that come out where frames of `channels` channels go in
abbrev pub outputs_of : ℕ → List StageKind → ℕ
outputs_of channels [] = channels
outputs_of channels (k ∷ ks) = outputs_of k.outputs ks

-- each gives frames of `channels` channels
abbrev pub AllKeep : ℕ → List StageKind → Type 0
AllKeep channels [] = Unit {0}
AllKeep channels (k ∷ ks) = (k.outputs ≡ channels) × AllKeep channels ks

module _ {S R : Type 0} (acts : Acts S R) where
  -- A frame of `channels` channels may be passed to the first, and what it gives for it to the next, and so on: each has taken
  -- what the one before gave, of at most `maximum` frames in all.
  abbrev pub AreReady : ℕ → ℕ → ℕ → List S → Type 0
  AreReady channels taken maximum [] = Unit {0}
  AreReady channels taken maximum (s ∷ stages) =
      (acts.dry s ≡ true) × ((acts.counts s).ended ≡ false) × (spent acts s ≡ false) × (channels ≡ (kind acts s).inputs)
      × ((acts.counts s).taken ≡ taken) × (maximum ≤ (kind acts s).limit)
      × AreReady (kind acts s).outputs (acts.counts s).given ((kind acts s).maximum maximum) stages

  -- `count` frames may be passed so
  abbrev pub AreReadyFor : ℕ → ℕ → List S → Type 0
  AreReadyFor channels count stages = (taken maximum : ℕ) × (taken + count ≤ maximum) × AreReady channels taken maximum stages

  -- for `count` more frames none has had enough
  abbrev pub AllAhead : ℕ → List S → Type 0
  AllAhead count [] = Unit {0}
  AllAhead count (s ∷ stages) = IsAhead acts count s × AllAhead count stages

  -- for `count` more frames each gives one for each
  abbrev pub AllOneToOne : ℕ → List S → Type 0
  AllOneToOne count [] = Unit {0}
  AllOneToOne count (s ∷ stages) = IsOneToOne acts count s × AllOneToOne count stages

  -- a stage took these frames, and gave one of those for each before it took the next
  abbrev pub EachThrough : List Samples → List Samples → S → S → Type 0
  EachThrough [] [] s s' = s' ≡ s
  EachThrough (x ∷ xs) (y ∷ ys) s s' = (next : S) × PassedOn acts Through s next x y × IsDry acts next × EachThrough xs ys next s'
  EachThrough xs ys s s' = ⊥

  -- the same of `count` frames of a block, in the places of which it put those that it gave
  abbrev pub EachInPlace : ℕ → List ℤ → List ℤ → S → S → Type 0
  EachInPlace count old new s s' = EachThrough (pieces (kind acts s).inputs count old) (pieces (kind acts s).inputs count new) s s'

  -- these frames went through stages in sequence, and those came out, one for each
  abbrev pub PipelineThrough : List Samples → List Samples → List S → List S → Type 0
  PipelineThrough xs ys [] [] = ys ≡ xs
  PipelineThrough xs ys (s ∷ stages) (s' ∷ stages') = (between : List Samples) × EachThrough xs between s s' × PipelineThrough between ys stages stages'
  PipelineThrough xs ys old new = ⊥
