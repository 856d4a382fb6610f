-- Frames that a pad without a line passes many at a time, as far as no silence stands before them.
use Rattle.std.proofs.Common.{◌≡◌, ◌+◌, ◌-◌, ◌*◌, ◌<◌, ◌≤◌, ◌^◌, ℕ, ℤ, zero, suc, true, false, List, [], ◌∷◌, length, refl, subst, sym, ap, ◌∙◌, arith, add-zero, map, Some, None, option_to_list}
use Rattle.std.proofs.lemmas.List.{nil_from_length}
use Rattle.std.specs.List.{All}
use Rattle.std.proofs.lemmas.List.Elements.{All-head, All-tail}
use Rattle.fx_fixed.specs.Extents.{largest}
use Rattle.fx_cut.specs.PadExtents.{pad_distance}
use Rattle.fx_fixed.specs.declared.positions.At.{At}
use Rattle.fx_frame_base.specs.declared.feed.Passing.TheVariants.{Through}
use Rattle.fx_frame_base.specs.Feed.{Fed, GaveNext, PassedOn, TookNext, TookWithinSpace, nothing, taken, given}
use Rattle.fx_frame_base.specs.Frame.{Samples}
use Rattle.fx_frame_base.specs.Lists.{pieces}
use Rattle.fx_frame_base.specs.Stage.{IsDry}
use Rattle.fx_frame_base.specs.StageCore.{after_passing, pending_frames}
use Rattle.fx_frame_base.proofs.FedLaws.{Fed-then}
use Rattle.fx_frame_base.proofs.Capacities.{free-each}
use Rattle.fx_frame_base.proofs.Pieces.{length-pieces}
use Rattle.fx_cut.specs.Pad.{pad_due, pads_from_start, silent_at}
use Rattle.fx_cut.specs.PadState.{PadState, IsPad, pad_acts, pad_left}
use Rattle.fx_cut.proofs.Fallen.{fallen, stays}
use Rattle.fx_cut.proofs.PadLaws.{upto_more}
use Rattle.fx_cut.proofs.PadSteps.{Took-fallen, due-pad, left-fallen, reached}
use Rattle.fx_frame.proofs.SamplePieces.{pieces-sides}

-- where no silence stands before the next frames, one more is due for each
pub due-clear_frames : (pads : List (ℕ × At)) (s n : ℕ) → largest (map pad_distance pads) ≡ 0 → ((i : ℕ) → i < n → silent_at (pads_from_start pads) (s + i) ≡ 0) → pad_due pads (s + n) ≡ pad_due pads s + n
due-clear_frames pads s zero no-ends clear_frames = ap (pad_due pads) (add-zero s) ∙ sym (add-zero (pad_due pads s))
due-clear_frames pads s (suc n) no-ends clear_frames =
    let next : s + suc n - 0 ≡ s + n + 1 = omega arith in
    let last : s + n - 0 ≡ s + n = omega arith in
    let more = upto_more (s + n) (pads_from_start pads) in
    let none = clear_frames n (omega arith) in
    let before = due-clear_frames pads s n no-ends (λ i l. clear_frames i (omega arith)) in
    let others = rw (no-ends, last) at before in
    rw (no-ends, next) (omega (arith, more, none, others))

-- so many frames later, with no frame to give
abbrev pub later : PadState → ℕ → PadState
later s n = record s { silent = 0; core = record s.core { pending = None; taken = s.core.taken + n; given = s.core.given + n } }

-- the state after it took and gave so many frames in one call
abbrev pub passed : PadState → ℕ → PadState
passed s n = record s { core = after_passing n 0 s.core }

-- what a pad without a line meets before so many frames with no silence before them
pub record AreClear (s : PadState) (n : ℕ) : Type 0 where
  pub is : IsPad s
  pub short : s.line.capacity ≡ 0
  pub empty : s.core.pending ≡ None
  pub none : s.silent ≡ 0
  pub running : s.core.ended ≡ false
  pub clear_frames : (i : ℕ) → i < n → silent_at (pads_from_start s.recipe.pads) (s.core.taken + i) ≡ 0
  pub bound : s.core.taken + n ≤ 2 ^ 56

module _ (s : PadState) (n : ℕ) (x : Samples) (a : AreClear s (suc n)) where
  no-line : s.line.items ≡ []
  no-line = let short = a.short in let full = a.is.full a.running in nil_from_length s.line.items (omega arith)

  no-ends : largest (map pad_distance s.recipe.pads) ≡ 0
  no-ends = sym a.is.capacity ∙ a.short

  here : silent_at (pads_from_start s.recipe.pads) s.core.taken ≡ 0
  here = let q = a.clear_frames 0 (omega arith) in rw add-zero at q

  dry : pad_acts.dry s ≡ true
  dry = rw (a.empty, a.none) refl

  out : Some x ≡ fallen s.line.capacity s.line.items x
  out = rw (a.short, no-line) refl

  stay : s.line.items ≡ stays s.line.capacity s.line.items x
  stay = rw (a.short, no-line) refl

  place : s.core.taken - 0 ≡ s.core.taken
  place = omega arith

  silent : 0 ≡ silent_at (pads_from_start s.recipe.pads) (s.core.taken - length s.line.items)
  silent = rw (no-line, place) (sym here)

  due : pad_due s.recipe.pads (s.core.taken + 1) ≡ pad_due s.recipe.pads s.core.taken + 1
  due =
      let next : s.core.taken + 1 - 0 ≡ s.core.taken + 1 = omega arith in
      let more = upto_more s.core.taken (pads_from_start s.recipe.pads) in
      let h = here in
      rw (no-ends, next, place) (omega (arith, more, h))

  pub is-next : IsPad (later s 1)
  is-next =
      let is = a.is in
      let bound = a.bound in
      let short = a.short in
      let none = a.none in
      let lined : length s.line.items ≡ 0 = ap length no-line in
      let pending : length (pending_frames s.core) ≡ 0 = ap (λ h. length (option_to_list h)) a.empty in
      let counted = is.counted a.running in
      let next = due in
      record {
        core = record { bound = omega arith; no_clips = is.core.no_clips; no_pending_clips = is.core.no_pending_clips; fits = λ y e. absurd (cc) };
        line = is.line;
        channels = is.channels;
        capacity = is.capacity;
        pads = is.pads;
        held = omega arith;
        within = λ z.
            let m = is.within (x ∷ z) in
            let left = ap length (left-fallen s x is dry a.running s.line x 0 out stay silent z) in
            let left' = rw a.running at left in
            let same : length (x ∷ pad_left (later s 1) z) ≡ length (pad_left s (x ∷ z)) = rw a.running left' in
            omega arith;
        full = λ r. omega arith;
        counted = λ r. omega arith;
        over = λ r. absurd (cc (r, a.running));
        gone = λ r. absurd (cc (r, a.running));
      }

  pub clear_frames-next : AreClear (later s 1) n
  clear_frames-next = record {
    is = is-next;
    short = a.short;
    empty = refl;
    none = refl;
    running = a.running;
    clear_frames = λ i h. let e : s.core.taken + (i + 1) ≡ s.core.taken + 1 + i = omega arith in let q = a.clear_frames (i + 1) (omega arith) in rw e at q;
    bound = let bound = a.bound in omega arith;
  }

  -- it is taken, and given
  one-taken : TookNext pad_acts s (reached s s.line 0 x) x
  one-taken = record {
    dry = dry;
    due = due-pad s a.is a.running dry;
    not_ended = a.running;
    not_spent = rw dry refl;
    took = Took-fallen s x a.is dry a.running s.line x 0 out stay silent;
    held = rw no-line (omega arith);
  }

  one-given : length x ≡ s.recipe.channels → GaveNext pad_acts (reached s s.line 0 x) (later s 1) x
  one-given sides =
      let is = is-next in
      let counted = is.counted a.running in
      let old = a.is.counted a.running in
      let within = is.within [] in
      record {
        gave = record {
          was_wet = refl;
          gives = record { clips = 0; first = λ z. rw a.running refl; counted = rw (add-zero s.core.clips) refl };
          channels = sides;
          due = λ e. omega arith;
          maximum = omega arith;
          recipe_stays = refl;
        };
        held = rw no-line (omega arith);
      }

  pub one-fed : length x ≡ s.recipe.channels → Fed pad_acts s (x ∷ []) (x ∷ []) (later s 1)
  one-fed sides = given (x ∷ []) [] x (reached s s.line 0 x) (later s 1) (taken [] [] x s (reached s s.line 0 x) nothing one-taken) (one-given sides)

  -- passed in its place
  pub one-passed : length x ≡ s.recipe.channels → PassedOn pad_acts Through s (passed s 1) x x × IsPad (passed s 1)
  one-passed sides =
      let same : ◌≡◌ {A = PadState} (passed s 1) (later s 1) = rw (a.empty, a.none, add-zero s.core.clips) refl in
      subst (λ (u : PadState). PassedOn pad_acts Through s u x x × IsPad u) (sym same) ((reached s s.line 0 x, one-taken, one-given sides, refl), is-next)

-- before the end, where it has nothing to give it has given what is due
pub determined-pad : (s : PadState) → IsPad s → s.core.ended ≡ false → pad_acts.dry s ≡ true → IsDry pad_acts s
determined-pad s is running dry =
    record { due = λ r. due-pad s is r dry; over = λ r. absurd (cc (r, running)) }

pub clear_frames-fed : (xs : List Samples) (s : PadState) → AreClear s (length xs) → All (λ (x : Samples). length x ≡ s.recipe.channels) xs → Fed pad_acts s xs xs (later s (length xs)) × IsPad (later s (length xs))
clear_frames-fed [] s a sides =
    let same : ◌≡◌ {A = PadState} (later s 0) s = rw (add-zero s.core.taken, add-zero s.core.given, ← a.empty, ← a.none) refl in
    rw same (nothing, a.is)
clear_frames-fed (x ∷ xs) s a sides =
    let one = one-fed s (length xs) x a (All-head (λ (y : Samples). length y ≡ s.recipe.channels) x xs sides) in
    let rest = clear_frames-fed xs (later s 1) (clear_frames-next s (length xs) x a) (All-tail (λ (y : Samples). length y ≡ s.recipe.channels) x xs sides) in
    let count : s.core.taken + suc (length xs) ≡ s.core.taken + 1 + length xs = omega arith in
    let made : s.core.given + suc (length xs) ≡ s.core.given + 1 + length xs = omega arith in
    rw (count, made) (Fed-then pad_acts s (later s 1) (later (later s 1) (length xs)) (x ∷ []) (x ∷ []) xs xs one rest.0, rest.1)

-- so many frames in front of the input
pub clear_frames-passed : (s : PadState) (n : ℕ) (input out : List ℤ) → AreClear s n → n * s.recipe.channels ≤ length input → pieces s.recipe.channels n out ≡ pieces s.recipe.channels n input
    → Fed pad_acts s (pieces s.recipe.channels n input) (pieces s.recipe.channels n out) (passed s n) × IsPad (passed s n)
clear_frames-passed s n input out a free same =
    let ch : ℕ = s.recipe.channels in
    let many : length (pieces ch n input) ≡ n = length-pieces ch n input in
    let all = clear_frames-fed (pieces ch n input) s (rw many a) (pieces-sides ch n input free) in
    let last : ◌≡◌ {A = PadState} (passed s n) (later s n) = rw (a.empty, a.none, add-zero s.core.clips) refl in
    rw (last, same) (rw many at all)

-- each of them was taken while the output had space for one more
pub took-with-free : (s : PadState) (n free : ℕ) → AreClear s n → n * s.recipe.channels ≤ free → TookWithinSpace pad_acts s n free
took-with-free s n free a fits =
    let counted = a.is.counted a.running in
    let pending : length (pending_frames s.core) ≡ 0 = ap (λ h. length (option_to_list h)) a.empty in
    let none = a.none in
    free-each pad_acts s n free (λ i bound. let due = due-clear_frames s.recipe.pads s.core.taken i (sym a.is.capacity ∙ a.short) (λ j h. a.clear_frames j (omega arith)) in omega (arith, due, counted, pending, none)) fits
