-- Frames that lie one after another, mapped each alone.
use Rattle.std.proofs.Common.{◌≡◌, ◌+◌, ◌*◌, ◌≤◌, ℕ, Bool, false, List, [], ◌∷◌, ◌++◌, length, map, take, refl, sym, ap, ◌∙◌, arith, add-zero, subst, ℤ, None, Some}
use Rattle.std.specs.List.{All}
use Rattle.std.proofs.lemmas.List.Elements.{All-head, All-tail}
use Rattle.std.proofs.lemmas.List.{map-append, length-map, length-take-le}
use Rattle.fx_frame_base.specs.declared.feed.Passing.TheVariants.{Through}
use Rattle.fx_frame_base.specs.Feed.{Fed, GaveNext, PassedOn, TookNext}
use Rattle.fx_frame_base.specs.Frame.{Samples}
use Rattle.fx_frame_base.specs.Lists.{pieces}
use Rattle.fx_frame_base.specs.Pipeline.{EachThrough}
use Rattle.fx_frame_base.specs.Stage.{Acts, Given, IsDry}
use Rattle.fx_frame_base.specs.StageCore.{after_passing}
use Rattle.fx_frame_base.specs.declared.stage_core.StageCore.{StageCore}
use Rattle.fx_frame_base.proofs.Cores.{IsPassedCore, is-passed-core, passed_core}
use Rattle.fx_frame_base.proofs.FedLaws.{Fed-through, total-append}
use Rattle.fx_frame_base.proofs.Puts.{pieces-take}
use Rattle.fx_frame_base.proofs.Pieces.{length-pieces, pieces-front}
use Rattle.fx_tap_pointwise.specs.Mapped.{IsMapState, MapState, map_acts}
use Rattle.fx_frame.specs.Made.{clips_in, made_of, rounded_given}
use Rattle.fx_frame_base.specs.Rounded.{samples_of}
use Rattle.fx_frame.proofs.SamplePieces.{pieces-samples, pieces-sides}

-- the same where the samples are those of so many frames, and others lie after
pub pieces-rounded : (f : ℤ → ℤ × Bool) (size n : ℕ) (xs out rest_unchanged new : List ℤ) → n * size ≤ length xs → out ≡ samples_of (map f (take (n * size) xs)) → new ≡ out ++ rest_unchanged → pieces size n new ≡ made_of (rounded_given f) (pieces size n xs)
pieces-rounded f size n xs out rest_unchanged new h e w =
    let long : length (take (n * size) xs) ≡ n * size = length-take-le (n * size) xs h in
    let same : length out ≡ n * size = ap length e ∙ simp length-map long in
    rw w (pieces-front size n out rest_unchanged same ∙ ap (pieces size n) e ∙ pieces-samples f size n (take (n * size) xs) ∙ ap (made_of (rounded_given f)) (pieces-take size n xs h))

-- the frames made so far, and one more
pub made_of-more : (mapped : Samples → Given) (xs : List Samples) (x : Samples) → made_of mapped (xs ++ x ∷ []) ≡ made_of mapped xs ++ (mapped x).samples ∷ []
made_of-more mapped xs x = map-append (λ y. (mapped y).samples) xs (x ∷ [])

pub clips_in-more : (mapped : Samples → Given) (xs : List Samples) (x : Samples) → clips_in mapped (xs ++ x ∷ []) ≡ clips_in mapped xs + (mapped x).clips
clips_in-more mapped xs x = omega (arith, total-append (λ y. (mapped y).clips) xs (x ∷ []))

-- a sound stage that is dry, and was not given the end, has given a frame for each that it took
pub is-even : {M : Type 0} (outputs : M → ℕ) (s : MapState M) → IsMapState outputs s → s.core.pending ≡ None → s.core.ended ≡ false → IsPassedCore s.core
is-even outputs s is none running =
    let counted = rw none at is.counted in
    is-passed-core s.core none (is.core.idle (rw none refl)) running (omega (arith, counted))

module _ {M : Type 0} (inputs outputs : M → ℕ) (mapped : M → Samples → Given) (m : M) where
  -- the stage of this mapping with such a core
  abbrev pub stage : StageCore → MapState M
  stage c = record { mapping = m; core = c }

  abbrev pub acts : Acts (MapState M) M
  acts = map_acts inputs outputs mapped

  one-passed : (count clips : ℕ) (x : Samples) → length (mapped m x).samples ≡ outputs m
      → PassedOn acts Through (stage (passed_core count clips)) (stage (passed_core (count + 1) (clips + (mapped m x).clips))) x (mapped m x).samples
  one-passed count clips x sides =
      let first : MapState M = stage (passed_core count clips) in
      let mid : MapState M = stage (record { pending = Some (mapped m x).samples; pending_clips = (mapped m x).clips; taken = count + 1; given = count; clips = clips; ended = false }) in
      let last : MapState M = stage (passed_core (count + 1) (clips + (mapped m x).clips)) in
      let took : TookNext acts first mid x = record { dry = refl; due = refl; not_ended = refl; not_spent = refl; took = record { rest = λ z. refl; counted = refl; recipe_stays = refl }; held = omega arith } in
      let gave : GaveNext acts mid last (mapped m x).samples = record {
        gave = record {
          was_wet = refl;
          gives = record { clips = (mapped m x).clips; first = λ z. refl; counted = refl };
          channels = sides;
          due = λ e. omega arith;
          maximum = omega arith;
          recipe_stays = refl;
        };
        held = omega arith;
      } in
      (mid, took, gave, refl)

  -- one frame, passed on in its place
  pub frame-passed : (c : StageCore) (x y : Samples) (clips : ℕ) → IsPassedCore c → y ≡ (mapped m x).samples → clips ≡ (mapped m x).clips → length (mapped m x).samples ≡ outputs m
      → PassedOn acts Through (stage c) (stage (after_passing 1 clips c)) x y
  frame-passed c x y clips passed made counted sides =
      let Passes : StageCore → Type 0 = λ d. PassedOn acts Through (stage d) (stage (after_passing 1 (mapped m x).clips d)) x (mapped m x).samples in
      rw (made, counted) (subst Passes (sym passed) (one-passed c.taken c.clips x sides))

  passed-dry : (count clips : ℕ) → IsDry acts (stage (passed_core count clips))
  passed-dry count clips = record { due = λ e. refl; over = λ e. absurd (cc (e)) }

  maps-through : (xs : List Samples) (count clips : ℕ) → All (λ (y : Samples). length y ≡ outputs m) (made_of (mapped m) xs)
      → EachThrough acts xs (made_of (mapped m) xs) (stage (passed_core count clips)) (stage (passed_core (count + length xs) (clips + clips_in (mapped m) xs)))
  maps-through [] count clips sides = rw (add-zero, add-zero) refl
  maps-through (x ∷ xs) count clips sides =
      let more = maps-through xs (count + 1) (clips + (mapped m x).clips) (All-tail (λ (y : Samples). length y ≡ outputs m) (mapped m x).samples (made_of (mapped m) xs) sides) in
      let places : count + 1 + length xs ≡ count + length (x ∷ xs) = omega arith in
      let clipped : clips + (mapped m x).clips + clips_in (mapped m) xs ≡ clips + clips_in (mapped m) (x ∷ xs) = omega arith in (
        stage (passed_core (count + 1) (clips + (mapped m x).clips)),
        one-passed count clips x (All-head (λ (y : Samples). length y ≡ outputs m) (mapped m x).samples (made_of (mapped m) xs) sides),
        passed-dry (count + 1) (clips + (mapped m x).clips),
        rw (places, clipped) at more,
      )

  -- a block of frames, each given before the next is taken: the counters are added to once
  pub block-through : (c : StageCore) (n clips : ℕ) (xs ys : List Samples) → IsPassedCore c → length xs ≡ n → All (λ (y : Samples). length y ≡ outputs m) ys → ys ≡ made_of (mapped m) xs → clips ≡ clips_in (mapped m) xs
      → EachThrough acts xs ys (stage c) (stage (after_passing n clips c))
  block-through c n clips xs ys passed many sides made counted =
      let sided = rw made at sides in
      let Passes : StageCore → Type 0 = λ d. EachThrough acts xs (made_of (mapped m) xs) (stage d) (stage (after_passing (length xs) (clips_in (mapped m) xs) d)) in
      let through : Passes c = subst Passes (sym passed) (maps-through xs c.taken c.clips sided) in
      rw (made, counted) (rw many at through)

  -- the same of the samples of a block
  pub block-fed : (c : StageCore) (n clips : ℕ) (input output : List ℤ) → IsPassedCore c → n * outputs m ≤ length output
      → pieces (outputs m) n output ≡ made_of (mapped m) (pieces (inputs m) n input) → clips ≡ clips_in (mapped m) (pieces (inputs m) n input)
      → Fed acts (stage c) (pieces (inputs m) n input) (pieces (outputs m) n output) (stage (after_passing n clips c))
  block-fed c n clips input output passed long made counted =
      let through = block-through c n clips _ _ passed (length-pieces (inputs m) n input) (pieces-sides (outputs m) n output long) made counted in
      Fed-through acts _ _ _ _ through

-- a block of frames of which each is given before the next is taken, by a stage that is dry
pub dry-through : {M : Type 0} (inputs outputs : M → ℕ) (mapped : M → Samples → Given) (s : MapState M) (n clips : ℕ) (xs ys : List Samples) → IsMapState outputs s → s.core.pending ≡ None → s.core.ended ≡ false → length xs ≡ n → All (λ (y : Samples). length y ≡ outputs s.mapping) ys → ys ≡ made_of (mapped s.mapping) xs → clips ≡ clips_in (mapped s.mapping) xs
    → EachThrough (map_acts inputs outputs mapped) xs ys s (record s { core = after_passing n clips s.core })
dry-through inputs outputs mapped s n clips xs ys is none running many sides made counted =
    block-through inputs outputs mapped s.mapping s.core n clips xs ys (is-even outputs s is none running) many sides made counted
