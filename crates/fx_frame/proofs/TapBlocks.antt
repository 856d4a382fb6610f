-- Frames that lie one after another, each made of itself and of those before it.
use Rattle.std.proofs.Common.{◌≡◌, ◌+◌, ◌-◌, ◌*◌, ◌≤◌, ℕ, ℤ, false, List, [], ◌∷◌, ◌++◌, length, map, min, refl, sym, ap, ◌∙◌, arith, add-zero, append-nil, append_assoc, length-append, length-drop, subst, replicate, get_or, pos, slice_set, None, ◌^◌}
use Rattle.std.specs.Int.{w32}
use Rattle.std.specs.List.{All}
use Rattle.std.proofs.lemmas.List.Elements.{All-head, All-tail}
use Rattle.std.proofs.lemmas.List.{map-append}
use Rattle.fx_frame_base.specs.declared.stage_core.StageCore.{StageCore}
use Rattle.fx_frame_base.specs.declared.feed.Passing.TheVariants.{Through}
use Rattle.fx_frame_base.specs.Feed.{Fed, GaveNext, PassedOn, TookNext}
use Rattle.fx_frame_base.specs.Frame.{Samples, silence}
use Rattle.fx_frame_line.specs.Line.{Frames, IsLine}
use Rattle.fx_frame_base.specs.Lists.{pieces}
use Rattle.fx_frame_base.specs.Pipeline.{EachThrough}
use Rattle.fx_frame_base.specs.Stage.{Acts, Given, IsDry}
use Rattle.fx_frame_base.specs.Holds.{total}
use Rattle.fx_frame_base.specs.StageCore.{after_offering, after_passing}
use Rattle.fx_frame_base.proofs.Cores.{IsCore-passed, is-passed-core, passed_core}
use Rattle.fx_frame_base.proofs.FedLaws.{Fed-through, total-append}
use Rattle.fx_frame_line.proofs.RingLaws.{keep-twice}
use Rattle.fx_frame_base.proofs.Pieces.{length-pieces}
use Rattle.fx_frame.specs.Tapped.{Taps, TapState, IsNear, IsTapState, given_after, clips_after, frames_after, last_of, tap_acts}
use Rattle.fx_frame.specs.History.{sample_before}
use Rattle.fx_frame.proofs.SamplePieces.{pieces-sides}
use Rattle.fx_frame.proofs.TapLaws.{rest_unchanged-step}

-- the samples of one channel, and of two
pub one-sample : (xs : List ℤ) → length xs ≡ 1 → get_or xs 0 (pos 0) ∷ [] ≡ xs
one-sample [] h = absurd (omega arith)
one-sample (x ∷ []) h = refl
one-sample (x ∷ y ∷ xs) h = absurd (omega arith)

pub two-samples : (xs : List ℤ) → length xs ≡ 2 → get_or xs 0 (pos 0) ∷ get_or xs 1 (pos 0) ∷ [] ≡ xs
two-samples [] h = absurd (omega arith)
two-samples (x ∷ []) h = absurd (omega arith)
two-samples (x ∷ y ∷ []) h = refl
two-samples (x ∷ y ∷ z ∷ xs) h = absurd (omega arith)

-- a slice of one sample, or of two, after each was written
pub set-one : (xs ys : List ℤ) → length xs ≡ 1 → length ys ≡ 1 → slice_set ys 0 (get_or xs 0 (pos 0)) ≡ xs
set-one xs [] h k = absurd (omega arith)
set-one xs (y ∷ []) h k = one-sample xs h
set-one xs (y ∷ z ∷ ys) h k = absurd (omega arith)

pub set-two : (xs ys : List ℤ) → length xs ≡ 2 → length ys ≡ 2 → slice_set (slice_set ys 0 (get_or xs 0 (pos 0))) 1 (get_or xs 1 (pos 0)) ≡ xs
set-two xs [] h k = absurd (omega arith)
set-two xs (y ∷ []) h k = absurd (omega arith)
set-two xs (y ∷ z ∷ []) h k = two-samples xs h
set-two xs (y ∷ z ∷ w ∷ ys) h k = absurd (omega arith)

-- more frames after the last ones
pub last-joined : (c : ℕ) (items xs ys : List Samples) → last_of c (last_of c (items ++ xs) ++ ys) ≡ last_of c (items ++ (xs ++ ys))
last-joined c items xs ys = keep-twice c (items ++ xs) ys ∙ ap (last_of c) (append_assoc items xs ys)

-- one more
pub last-more : (c : ℕ) (items xs : List Samples) (x : Samples) → last_of c (last_of c (items ++ xs) ++ x ∷ []) ≡ last_of c (items ++ (xs ++ x ∷ []))
last-more c items xs x = last-joined c items xs (x ∷ [])

-- the first of more frames goes through the line
pub last-first : (c : ℕ) (items xs : List Samples) (x : Samples) → last_of c (last_of c (items ++ x ∷ []) ++ xs) ≡ last_of c (items ++ x ∷ xs)
last-first c items xs x = last-joined c items (x ∷ []) xs

-- no more than those there are
pub length-last : (c : ℕ) (xs : List Samples) → length (last_of c xs) ≡ min (length xs) c
length-last c xs = omega (arith, length-drop (length xs - c) xs)

-- a line that has room for them holds them all
pub last-whole : (c : ℕ) (items : List Samples) → length items ≤ c → last_of c (items ++ []) ≡ items
last-whole c items h =
    let none : length items - c ≡ 0 = omega arith in
    rw (append-nil, none) refl

-- the state after a block of frames went by
pub IsTapState-block : {M : Type 0} (taps : Taps M) (s : TapState M) (line : Frames ℤ) (n clips : ℕ) (xs : List Samples) → IsTapState taps s → s.core.pending ≡ None → s.core.ended ≡ false → s.core.taken + n ≤ 2 ^ 56 → length xs ≡ n
    → IsLine w32 line → line.items ≡ last_of s.line.capacity (s.line.items ++ xs) → line.capacity ≡ s.line.capacity → line.channels ≡ s.line.channels → clips ≤ n * taps.max_clips s.arguments
    → IsTapState taps (record s { core = after_passing n clips s.core; line = line })
IsTapState-block taps s line n clips xs is none running bound many lined items capacity channels little =
    let counted : s.core.given + 0 + s.tail ≡ s.core.taken + 0 = rw (none, running) at is.counted in
    let before : length s.line.items ≡ min (s.core.given + 0) s.line.capacity = rw none at is.held in
    let after : length line.items ≡ min (length (s.line.items ++ xs)) s.line.capacity = ap length items ∙ length-last s.line.capacity (s.line.items ++ xs) in
    let all : length (s.line.items ++ xs) ≡ length s.line.items + n = length-append s.line.items xs ∙ ap (λ k. length s.line.items + k) many in
    record {
      core = IsCore-passed _ _ n clips s.core is.core bound little;
      line = lined;
      channels = channels ∙ is.channels;
      capacity = capacity ∙ is.capacity;
      counted = rw (none, running) (omega (arith, counted));
      held = rw none (omega (arith, before, after, all, capacity));
      not_ended = is.not_ended;
    }

module _ {M : Type 0} (taps : Taps M) (near : IsNear taps) where
  -- what is given for some frames, and for others after them
  pub rest_unchanged-joined : (m : M) (c : ℕ) (xs ys items : List Samples) → length items ≤ c → taps.reach m ≤ c → given_after taps m items (xs ++ ys) ≡ given_after taps m items xs ++ given_after taps m (last_of c (items ++ xs)) ys
  rest_unchanged-joined m c [] ys items held long = rw (last-whole c items held) refl
  rest_unchanged-joined m c (x ∷ xs) ys items held long =
      let next : List Samples = last_of c (items ++ x ∷ []) in
      let free : length next ≤ c = let n = length-last c (items ++ x ∷ []) in omega arith in
      let more = rest_unchanged-joined m c xs ys next free long in
      let same : last_of c (next ++ xs) ≡ last_of c (items ++ x ∷ xs) = last-first c items xs x in
      rest_unchanged-step taps near m items (xs ++ ys) x c held long
      ∙ ap (λ gs. taps.made m (sample_before (items ++ x ∷ []) (length items)) ∷ gs) (rw same at more)
      ∙ ap (λ gs. gs ++ given_after taps m (last_of c (items ++ x ∷ xs)) ys) (sym (rest_unchanged-step taps near m items xs x c held long))

  pub frames-joined : (m : M) (c : ℕ) (xs ys items : List Samples) → length items ≤ c → taps.reach m ≤ c → frames_after taps m items (xs ++ ys) ≡ frames_after taps m items xs ++ frames_after taps m (last_of c (items ++ xs)) ys
  frames-joined m c xs ys items held long =
      ap (map (λ (g : Given). g.samples)) (rest_unchanged-joined m c xs ys items held long) ∙ map-append (λ (g : Given). g.samples) (given_after taps m items xs) (given_after taps m (last_of c (items ++ xs)) ys)

  pub clips-joined : (m : M) (c : ℕ) (xs ys items : List Samples) → length items ≤ c → taps.reach m ≤ c → clips_after taps m items (xs ++ ys) ≡ clips_after taps m items xs + clips_after taps m (last_of c (items ++ xs)) ys
  clips-joined m c xs ys items held long =
      ap (total (λ (g : Given). g.clips)) (rest_unchanged-joined m c xs ys items held long) ∙ total-append (λ (g : Given). g.clips) (given_after taps m items xs) (given_after taps m (last_of c (items ++ xs)) ys)

  -- and for one more
  pub frames-more : (m : M) (c : ℕ) (xs items : List Samples) (x : Samples) → length items ≤ c → taps.reach m ≤ c
      → frames_after taps m items (xs ++ x ∷ []) ≡ frames_after taps m items xs ++ (taps.made m (sample_before (last_of c (items ++ xs) ++ x ∷ []) (length (last_of c (items ++ xs))))).samples ∷ []
  frames-more m c xs items x held long = frames-joined m c xs (x ∷ []) items held long

  pub clips-more : (m : M) (c : ℕ) (xs items : List Samples) (x : Samples) → length items ≤ c → taps.reach m ≤ c
      → clips_after taps m items (xs ++ x ∷ []) ≡ clips_after taps m items xs + (taps.made m (sample_before (last_of c (items ++ xs) ++ x ∷ []) (length (last_of c (items ++ xs))))).clips
  clips-more m c xs items x held long = clips-joined m c xs (x ∷ []) items held long ∙ ap (λ n. clips_after taps m items xs + n) (add-zero _)

  module _ (m : M) where
    abbrev pub acts : Acts (TapState M) M
    acts = tap_acts taps

    -- such a stage with no pending frame, which has given what it took
    abbrev pub ready : Frames ℤ → ℕ → ℕ → TapState M
    ready line count clips = record { core = passed_core count clips; line = line; tail = 0; arguments = m }

    -- the line after these frames
    abbrev pub through : Frames ℤ → List Samples → Frames ℤ
    through line xs = record { items = last_of line.capacity (line.items ++ xs); capacity = line.capacity; channels = line.channels }

    -- what is made of a frame after those of the line
    abbrev pub made_after : Frames ℤ → Samples → Given
    made_after line x = taps.made m (sample_before (line.items ++ x ∷ []) (length line.items))

    -- a frame was taken, and what is made of it is pending
    abbrev pub holding : Frames ℤ → ℕ → ℕ → Samples → TapState M
    holding line count clips x = record { core = after_offering (made_after line x).samples (made_after line x).clips (passed_core count clips); line = through line (x ∷ []); tail = 0; arguments = m }

    one-passed : (line : Frames ℤ) (count clips : ℕ) (x : Samples) → line.capacity ≡ taps.reach m → length line.items ≤ line.capacity → length (made_after line x).samples ≡ taps.channels m
        → PassedOn acts Through (ready line count clips) (ready (through line (x ∷ [])) (count + 1) (clips + (made_after line x).clips)) x (made_after line x).samples
    one-passed line count clips x size within sides =
        let first : TapState M = ready line count clips in
        let mid : TapState M = holding line count clips x in
        let last : TapState M = ready (through line (x ∷ [])) (count + 1) (clips + (made_after line x).clips) in
        let bound : length (last_of line.capacity (line.items ++ x ∷ [])) ≤ taps.reach m = let n = length-last line.capacity (line.items ++ x ∷ []) in omega arith in
        let took : TookNext acts first mid x = record {
          dry = refl;
          due = refl;
          not_ended = refl;
          not_spent = refl;
          took = record {
            rest = λ z. sym (rest_unchanged-step taps near m line.items (z ++ replicate line.capacity (silence (taps.channels m))) x line.capacity within (omega arith));
            counted = refl;
            recipe_stays = refl;
          };
          held = omega (arith, bound, length-append (last_of line.capacity (line.items ++ x ∷ [])) ((made_after line x).samples ∷ []));
        } in
        let gave : GaveNext acts mid last (made_after line x).samples = record {
          gave = record {
            was_wet = refl;
            gives = record { clips = (made_after line x).clips; first = λ z. refl; counted = refl };
            channels = sides;
            due = λ e. omega arith;
            maximum = omega arith;
            recipe_stays = refl;
          };
          held = omega (arith, bound, length-append (last_of line.capacity (line.items ++ x ∷ [])) []);
        } in
        (mid, took, gave, refl)

    -- a stage with no pending frame that has not ended is ready
    ready-is : (s : TapState M) → s.arguments ≡ m → IsTapState taps s → s.core.pending ≡ None → s.core.ended ≡ false → s ≡ ready s.line s.core.taken s.core.clips
    ready-is s e is none running =
        let no_tail : s.tail ≡ 0 = is.not_ended running in
        let counted : s.core.given + 0 + s.tail ≡ s.core.taken + 0 = rw (none, running) at is.counted in
        let same : s.core ≡ passed_core s.core.taken s.core.clips = is-passed-core s.core none (is.core.idle (rw none refl)) running (omega (arith, counted, no_tail)) in
        let rest : record s { core = passed_core s.core.taken s.core.clips } ≡ ready s.line s.core.taken s.core.clips = rw (no_tail, e) refl in
        ap (λ (c : StageCore). record s { core = c }) same ∙ rest

    -- one frame, passed on in its place
    pub frame-passed : (s : TapState M) (line : Frames ℤ) (x y : Samples) (clips : ℕ) → s.arguments ≡ m → IsTapState taps s → s.core.pending ≡ None → s.core.ended ≡ false
        → length y ≡ taps.channels m → y ≡ (made_after s.line x).samples → clips ≡ (made_after s.line x).clips
        → line.items ≡ last_of s.line.capacity (s.line.items ++ x ∷ []) → line.capacity ≡ s.line.capacity → line.channels ≡ s.line.channels
        → PassedOn acts Through s (record s { core = after_passing 1 clips s.core; line = line }) x y
    frame-passed s line x y clips e is none running wide made counted items capacity channels =
        let went : ◌≡◌ {A = Frames ℤ} (record { items = line.items; capacity = line.capacity; channels = line.channels }) (through s.line (x ∷ [])) = rw (items, capacity, channels) refl in
        let now : line ≡ through s.line (x ∷ []) = went in
        let next : TapState M = ready (through s.line (x ∷ [])) (s.core.taken + 1) (s.core.clips + (made_after s.line x).clips) in
        let start : s ≡ ready s.line s.core.taken s.core.clips = ready-is s e is none running in
        let left : record s { core = after_passing 1 clips s.core; line = line } ≡ ready line (s.core.taken + 1) (s.core.clips + clips) = ap (λ (u : TapState M). record u { core = after_passing 1 clips u.core; line = line }) start in
        let last : record s { core = after_passing 1 clips s.core; line = line } ≡ next =
        left ∙ ap (λ (j : ℕ). ready line (s.core.taken + 1) (s.core.clips + j)) counted ∙ ap (λ (l : Frames ℤ). ready l (s.core.taken + 1) (s.core.clips + (made_after s.line x).clips)) now in
        let sides : length (made_after s.line x).samples ≡ taps.channels m = sym (ap length made) ∙ wide in
        let passed : PassedOn acts Through (ready s.line s.core.taken s.core.clips) next x (made_after s.line x).samples = one-passed s.line s.core.taken s.core.clips x (is.capacity ∙ ap taps.reach e) is.line.within sides in
        let From : TapState M → Type 0 = λ u. PassedOn acts Through u next x (made_after s.line x).samples in
        let To : TapState M → Type 0 = λ u. PassedOn acts Through s u x (made_after s.line x).samples in
        rw made (subst To (sym last) (subst From (sym start) passed))

    ready-dry : (line : Frames ℤ) (count clips : ℕ) → IsDry acts (ready line count clips)
    ready-dry line count clips = record { due = λ e. refl; over = λ e. absurd (cc (e)) }

    -- each given before the next is taken
    taps-through : (xs : List Samples) (line : Frames ℤ) (count clips : ℕ) → line.capacity ≡ taps.reach m → length line.items ≤ line.capacity → All (λ (y : Samples). length y ≡ taps.channels m) (frames_after taps m line.items xs)
        → EachThrough acts xs (frames_after taps m line.items xs) (ready line count clips) (ready (through line xs) (count + length xs) (clips + clips_after taps m line.items xs))
    taps-through [] line count clips size within sides = rw (add-zero, add-zero, last-whole line.capacity line.items within) refl
    taps-through (x ∷ xs) line count clips size within sides =
        let next : Frames ℤ = through line (x ∷ []) in
        let made : Given = made_after line x in
        let steps : given_after taps m line.items (x ∷ xs) ≡ made ∷ given_after taps m next.items xs = rest_unchanged-step taps near m line.items xs x line.capacity within (omega arith) in
        let frames : frames_after taps m line.items (x ∷ xs) ≡ made.samples ∷ frames_after taps m next.items xs = ap (map (λ (g : Given). g.samples)) steps in
        let clipped : clips_after taps m line.items (x ∷ xs) ≡ made.clips + clips_after taps m next.items xs = ap (total (λ (g : Given). g.clips)) steps in
        let each : All (λ (y : Samples). length y ≡ taps.channels m) (made.samples ∷ frames_after taps m next.items xs) = subst (λ (l : List Samples). All (λ (y : Samples). length y ≡ taps.channels m) l) frames sides in
        let free : length next.items ≤ next.capacity = let n = length-last line.capacity (line.items ++ x ∷ []) in omega arith in
        let more = taps-through xs next (count + 1) (clips + made.clips) size free (All-tail (λ (y : Samples). length y ≡ taps.channels m) made.samples (frames_after taps m next.items xs) each) in
        let places : count + 1 + length xs ≡ count + length (x ∷ xs) = omega arith in
        let sums : clips + made.clips + clips_after taps m next.items xs ≡ clips + clips_after taps m line.items (x ∷ xs) = omega (arith, clipped) in
        let end : TapState M = ready (through line (x ∷ xs)) (count + length (x ∷ xs)) (clips + clips_after taps m line.items (x ∷ xs)) in
        let same : ready (through next xs) (count + 1 + length xs) (clips + made.clips + clips_after taps m next.items xs) ≡ end =
        ap (λ (n : ℕ). ready (through next xs) n (clips + made.clips + clips_after taps m next.items xs)) places ∙ ap (λ (n : ℕ). ready (through next xs) (count + length (x ∷ xs)) n) sums
        ∙ ap (λ (l : List Samples). ready (record { items = l; capacity = line.capacity; channels = line.channels }) (count + length (x ∷ xs)) (clips + clips_after taps m line.items (x ∷ xs))) (last-first line.capacity line.items xs x) in
        let whole : EachThrough acts (x ∷ xs) (made.samples ∷ frames_after taps m next.items xs) (ready line count clips) end = (
          ready next (count + 1) (clips + made.clips),
          one-passed line count clips x size within (All-head (λ (y : Samples). length y ≡ taps.channels m) made.samples (frames_after taps m next.items xs) each),
          ready-dry next (count + 1) (clips + made.clips),
          subst (λ (u : TapState M). EachThrough acts xs (frames_after taps m next.items xs) (ready next (count + 1) (clips + made.clips)) u) same more,
        ) in
        subst (λ (l : List Samples). EachThrough acts (x ∷ xs) l (ready line count clips) end) (sym frames) whole

    -- a block of frames: the counters are added to once
    module _ (s : TapState M) (line : Frames ℤ) (n clips : ℕ) (input output : List ℤ) (e : s.arguments ≡ m) (is : IsTapState taps s) (none : s.core.pending ≡ None) (running : s.core.ended ≡ false)
        (long : n * taps.channels m ≤ length output)
        (made : pieces (taps.channels m) n output ≡ frames_after taps m s.line.items (pieces (taps.channels m) n input)) (counted : clips ≡ clips_after taps m s.line.items (pieces (taps.channels m) n input))
        (items : line.items ≡ last_of s.line.capacity (s.line.items ++ pieces (taps.channels m) n input)) (capacity : line.capacity ≡ s.line.capacity) (channels : line.channels ≡ s.line.channels) where
      -- each given before the next is taken
      pub block-through : EachThrough acts (pieces (taps.channels m) n input) (pieces (taps.channels m) n output) s (record s { core = after_passing n clips s.core; line = line })
      block-through =
          let xs : List Samples = pieces (taps.channels m) n input in
          let same : ◌≡◌ {A = Frames ℤ} (record { items = line.items; capacity = line.capacity; channels = line.channels }) (through s.line xs) = rw (items, capacity, channels) refl in
          let went : line ≡ through s.line xs = same in
          let sides : All (λ (y : Samples). length y ≡ taps.channels m) (frames_after taps m s.line.items xs) = rw (← made) (pieces-sides (taps.channels m) n output long) in
          let fed : EachThrough acts xs (frames_after taps m s.line.items xs) (ready s.line s.core.taken s.core.clips) (ready (through s.line xs) (s.core.taken + length xs) (s.core.clips + clips_after taps m s.line.items xs)) = taps-through xs s.line s.core.taken s.core.clips (is.capacity ∙ ap taps.reach e) is.line.within sides in
          let many : length xs ≡ n = length-pieces (taps.channels m) n input in
          let start : s ≡ ready s.line s.core.taken s.core.clips = ready-is s e is none running in
          let left : record s { core = after_passing n clips s.core; line = line } ≡ ready line (s.core.taken + n) (s.core.clips + clips) = ap (λ (u : TapState M). record u { core = after_passing n clips u.core; line = line }) start in
          let last : record s { core = after_passing n clips s.core; line = line } ≡ (ready (through s.line xs) (s.core.taken + length xs) (s.core.clips + clips_after taps m s.line.items xs)) =
          left ∙ ap (λ (j : ℕ). ready line (s.core.taken + j) (s.core.clips + clips)) (sym many) ∙ ap (λ (j : ℕ). ready line (s.core.taken + length xs) (s.core.clips + j)) counted ∙ ap (λ (l : Frames ℤ). ready l (s.core.taken + length xs) (s.core.clips + clips_after taps m s.line.items xs)) went in
          rw (made, last) (subst (λ (u : TapState M). EachThrough acts xs (frames_after taps m s.line.items xs) u (ready (through s.line xs) (s.core.taken + length xs) (s.core.clips + clips_after taps m s.line.items xs))) (sym start) fed)

      pub block-fed : Fed acts s (pieces (taps.channels m) n input) (pieces (taps.channels m) n output) (record s { core = after_passing n clips s.core; line = line })
      block-fed = Fed-through acts _ _ s (record s { core = after_passing n clips s.core; line = line }) block-through
