-- The steps of a pad.
use Rattle.std.proofs.Common.{◌≡◌, ℕ, ℤ, zero, suc, ◌+◌, ◌-◌, ◌<◌, ◌≤◌, ◌^◌, Bool, true, false, ◌&&◌, ◌⊎◌, inl, inr, List, [], ◌∷◌, ◌++◌, map, length, drop, refl, sym, ◌∙◌, ap, arith, length-append, append-nil, sub-one, Option, Some, None, option_to_list, is_none, nat_eq, nat_lt, filter, replicate, slice_get, sum_by}
use Rattle.std.specs.Int.{w32}
use Rattle.std.proofs.lemmas.Bool.{false≢true, and_parts, cases_lt, eqb-true}
use Rattle.std.proofs.lemmas.List.{length-replicate}
use mathlib.Core.Path.{ap₂}
use Rattle.fx_fixed.specs.Extents.{largest}
use Rattle.fx_cut.specs.PadExtents.{pad_distance}
use Rattle.fx_fixed.specs.declared.positions.At.{At}
use Rattle.fx_frame_base.specs.Frame.{Samples, silence}
use Rattle.fx_frame_base.specs.PendingFrame.{IsPending}
use Rattle.fx_frame_line.specs.Line.{Frames, IsLine}
use Rattle.fx_frame_base.specs.Stage.{Gave, Took, Ended, coming}
use Rattle.fx_frame_base.specs.StageCore.{new_core, pending_frames}
use Rattle.fx_frame_base.specs.Given.{plain}
use Rattle.fx_cut.specs.Pad.{PadArguments, IsPads, lengths, pad_due, padded, pads_from_start, placed, silent_at}
use Rattle.fx_cut.specs.PadState.{PadState, IsPad, all_padded, pad_acts, pad_after, pad_left, pad_rest, padded_from, silence_from, unless_last}
use Rattle.fx_cut.proofs.Fallen.{fallen, stays, no_fall, stays-free, is_full, oldest-first}
use Rattle.fx_frame_base.proofs.Flags.{none-is}
use Rattle.fx_cut.proofs.PadLaws.{upto_more, length_from, length_padded, none-due, silence-bound, silence-parts}
use Rattle.fx_cut.proofs.PadRest.{pad_new, pad_taken, pad_oldest, pad_drained}
use Rattle.fx_frame.proofs.DryLaws.{dry-tail}

-- where it is dry nothing is pending, and no silence is to be given
pub dry-pending : (pending : Option Samples) (silent : ℕ) → (is_none pending && nat_eq silent 0) ≡ true → (pending ≡ None) × (silent ≡ 0)
dry-pending pending silent h =
    let p = and_parts (is_none pending) (nat_eq silent 0) h in
    (none-is pending p.0, eqb-true silent 0 p.1)

-- the frame that leaves the line, and the others
popped-length : (items items' : List Samples) (pending : Option Samples) → pending ≡ slice_get items 0 → items' ≡ drop 1 items → length items' + length (option_to_list pending) ≡ length items
popped-length [] items' pending e e' = rw (e, e') refl
popped-length (x ∷ items) items' pending e e' = rw (e, e') (omega arith)

popped-none : (items items' : List Samples) (pending : Option Samples) → pending ≡ slice_get items 0 → items' ≡ drop 1 items → pending ≡ None → items' ≡ []
popped-none [] items' pending e e' none = e'
popped-none (x ∷ items) items' pending e e' none = absurd (cc)

-- what is to be given where it is dry, before the end
left-now : (s : PadState) → pad_acts.dry s ≡ true → s.core.ended ≡ false → (z : List Samples) → pad_left s z ≡ pad_after s.recipe s.core.taken s.line.items z
left-now s dry running z =
    let d = dry-pending s.core.pending s.silent dry in
    rw (d.0, d.1, running) refl

-- before the end, where it has nothing to give it has given what is due
pub due-pad : (s : PadState) → IsPad s → s.core.ended ≡ false → pad_acts.dry s ≡ true → s.core.given ≡ pad_due s.recipe.pads s.core.taken
due-pad s is running dry =
    let d = dry-pending s.core.pending s.silent dry in
    let empty : length (pending_frames s.core) ≡ 0 = ap (λ h. length (option_to_list h)) d.0 in
    let none = d.1 in
    let counted = is.counted running in
    omega (arith, counted, empty, none)

-- the state after a frame came, and stays in the line
abbrev pub lined : PadState → Frames ℤ → PadState
lined s line = record s { line = line; core = record s.core { taken = s.core.taken + 1 } }

-- the same where the oldest falls out
abbrev pub reached : PadState → Frames ℤ → ℕ → Samples → PadState
reached s line silent oldest = record s { line = line; silent = silent; core = record s.core { pending = Some oldest; pending_clips = 0; taken = s.core.taken + 1 } }

module _ (s : PadState) (frame : Samples) (is : IsPad s) (dry : pad_acts.dry s ≡ true) (running : s.core.ended ≡ false) where
  none : s.core.pending ≡ None
  none = (dry-pending s.core.pending s.silent dry).0

  silent_frames : s.silent ≡ 0
  silent_frames = (dry-pending s.core.pending s.silent dry).1

  -- it stays in the line
  left-inside : (line : Frames ℤ) → None ≡ fallen s.line.capacity s.line.items frame → line.items ≡ stays s.line.capacity s.line.items frame → (z : List Samples)
      → pad_left (lined s line) z ≡ pad_left s (frame ∷ z)
  left-inside line e items z =
      let l = no_fall _ _ _ e in
      let i : line.items ≡ s.line.items ++ frame ∷ [] = items ∙ stays-free _ _ _ l in
      let h = is.held in
      let n : s.core.taken + 1 - length (s.line.items ++ frame ∷ []) ≡ s.core.taken - length s.line.items = omega (arith, length-append s.line.items (frame ∷ [])) in
      rw (none, silent_frames, running, i, n) (sym (pad_taken s.recipe.channels s.recipe.pads (s.core.taken - length s.line.items) s.line.items frame z))

  -- the oldest falls out
  pub left-fallen : (line : Frames ℤ) (o : Samples) (silent : ℕ) → Some o ≡ fallen s.line.capacity s.line.items frame → line.items ≡ stays s.line.capacity s.line.items frame
      → silent ≡ silent_at (pads_from_start s.recipe.pads) (s.core.taken - length s.line.items) → (z : List Samples)
      → pad_left (reached s line silent o) z ≡ pad_left s (frame ∷ z)
  left-fallen line o silent e items k z =
      let within : length s.line.items ≤ s.line.capacity = is.line.within in
      let split : s.line.items ++ frame ∷ [] ≡ o ∷ line.items = oldest-first _ _ _ _ e within ∙ ap (λ l. o ∷ l) (sym items) in
      let full = is_full _ _ _ _ e in
      let cap = is.capacity in
      let h = is.held in
      let long : length line.items ≡ length s.line.items = omega (arith, ap length split, length-append s.line.items (frame ∷ [])) in
      let ends : largest (map pad_distance s.recipe.pads) ≤ length line.items = omega arith in
      let n : ℕ = s.core.taken - length s.line.items in
      let next : s.core.taken + 1 - length line.items ≡ n + 1 = omega arith in
      rw (none, silent_frames, running, k, next) (sym (
      pad_taken s.recipe.channels s.recipe.pads n s.line.items frame z
      ∙ ap (λ l. pad_rest s.recipe.channels s.recipe.pads n l z) split
      ∙ pad_oldest s.recipe.channels s.recipe.pads n o line.items z is.pads.rising ends))

  pub Took-inside : (line : Frames ℤ) → None ≡ fallen s.line.capacity s.line.items frame → line.items ≡ stays s.line.capacity s.line.items frame → Took pad_acts s (lined s line) frame
  Took-inside line e items = record { rest = λ z. ap (map plain) (left-inside line e items z); counted = refl; recipe_stays = refl }

  pub Took-fallen : (line : Frames ℤ) (o : Samples) (silent : ℕ) → Some o ≡ fallen s.line.capacity s.line.items frame → line.items ≡ stays s.line.capacity s.line.items frame
      → silent ≡ silent_at (pads_from_start s.recipe.pads) (s.core.taken - length s.line.items) → Took pad_acts s (reached s line silent o) frame
  Took-fallen line o silent e items k = record { rest = λ z. ap (map plain) (left-fallen line o silent e items k z); counted = refl; recipe_stays = refl }

  pub IsPad-inside : (line : Frames ℤ) → None ≡ fallen s.line.capacity s.line.items frame → line.items ≡ stays s.line.capacity s.line.items frame
      → IsLine w32 line → line.capacity ≡ s.line.capacity → line.channels ≡ s.line.channels → s.core.taken < 2 ^ 56 → IsPad (lined s line)
  IsPad-inside line e items is-line capacity channels below =
      let l = no_fall _ _ _ e in
      let i : line.items ≡ s.line.items ++ frame ∷ [] = items ∙ stays-free _ _ _ l in
      let long : length line.items ≡ length s.line.items + 1 = ap length i ∙ length-append s.line.items (frame ∷ []) in
      let w = is.held in
      let f = is.full running in
      let cap = is.capacity in
      let early : s.core.taken + 1 - largest (map pad_distance s.recipe.pads) ≡ s.core.taken - largest (map pad_distance s.recipe.pads) = omega arith in
      record {
        core = record { bound = omega arith; no_clips = is.core.no_clips; no_pending_clips = is.core.no_pending_clips; fits = is.core.fits };
        line = is-line;
        channels = channels ∙ is.channels;
        capacity = capacity ∙ is.capacity;
        pads = is.pads;
        held = omega arith;
        within = λ z. let m = is.within (frame ∷ z) in let n : length (pad_left (lined s line) z) ≡ length (pad_left s (frame ∷ z)) = ap length (left-inside line e items z) in omega arith;
        full = λ r. rw capacity (omega arith);
        counted = λ r. rw early (is.counted running);
        over = λ r. absurd (cc (r, running));
        gone = λ r. absurd (cc (r, running));
      }

  pub IsPad-fallen : (line : Frames ℤ) (o : Samples) (silent : ℕ) → Some o ≡ fallen s.line.capacity s.line.items frame → line.items ≡ stays s.line.capacity s.line.items frame
      → IsLine w32 line → line.capacity ≡ s.line.capacity → line.channels ≡ s.line.channels → s.core.taken < 2 ^ 56
      → silent ≡ silent_at (pads_from_start s.recipe.pads) (s.core.taken - length s.line.items) → IsPending s.recipe.channels (Some o) → IsPad (reached s line silent o)
  IsPad-fallen line o silent e items is-line capacity channels below k fits =
      let within : length s.line.items ≤ s.line.capacity = is.line.within in
      let split : s.line.items ++ frame ∷ [] ≡ o ∷ line.items = oldest-first _ _ _ _ e within ∙ ap (λ l. o ∷ l) (sym items) in
      let full = is_full _ _ _ _ e in
      let long : length line.items ≡ length s.line.items = omega (arith, ap length split, length-append s.line.items (frame ∷ [])) in
      let w = is.held in
      let f = is.full running in
      let cap = is.capacity in
      let n : ℕ = s.core.taken - largest (map pad_distance s.recipe.pads) in
      let same : s.core.taken - length s.line.items ≡ n = omega arith in
      let next : s.core.taken + 1 - largest (map pad_distance s.recipe.pads) ≡ n + 1 = omega arith in
      let empty : length (pending_frames s.core) ≡ 0 = ap (λ h. length (option_to_list h)) none in
      let nothing : s.silent ≡ 0 = silent_frames in
      let counted = is.counted running in
      let k' : silent ≡ silent_at (pads_from_start s.recipe.pads) n = rw same at k in
      let more = upto_more n (pads_from_start s.recipe.pads) in
      record {
        core = record { bound = omega arith; no_clips = is.core.no_clips; no_pending_clips = refl; fits = fits };
        line = is-line;
        channels = channels ∙ is.channels;
        capacity = capacity ∙ is.capacity;
        pads = is.pads;
        held = omega arith;
        within = λ z. let m = is.within (frame ∷ z) in let n : length (pad_left (reached s line silent o) z) ≡ length (pad_left s (frame ∷ z)) = ap length (left-fallen line o silent e items k z) in omega arith;
        full = λ r. rw capacity (omega arith);
        counted = λ r. rw next (omega (arith, more, k', counted, empty, nothing));
        over = λ r. absurd (cc (r, running));
        gone = λ r. absurd (cc (r, running));
      }

-- ---- after the end

-- what is to be given after the end
left-ended : (r : PadArguments) (silent : ℕ) (pending : Option Samples) (taken : ℕ) (items : List Samples) (ended : Bool) (z : List Samples) → ended ≡ true
    → replicate silent (silence r.channels) ++ (option_to_list pending ++ unless_last ended pending (pad_after r taken items (coming ended z)))
    ≡ replicate silent (silence r.channels) ++ (option_to_list pending ++ unless_last true pending (pad_after r taken items []))
left-ended r silent pending taken items false z e = absurd (false≢true e)
left-ended r silent pending taken items true z e = refl

-- the state after the oldest frame was taken out of the line, after its silence
abbrev pub drawn : PadState → Frames ℤ → ℕ → Option Samples → ℕ → ℕ → Bool → PadState
drawn s line silent pending given clips ended = record s { line = line; silent = silent; core = record s.core { pending = pending; pending_clips = 0; given = given; clips = clips; ended = ended } }

module _ (s : PadState) (line : Frames ℤ) (silent : ℕ) (pending : Option Samples) (given clips : ℕ) (ended : Bool) (is : IsPad s) (over : ended ≡ true) (no_clips : clips ≡ 0)
    (oldest : pending ≡ slice_get s.line.items 0) (items : line.items ≡ drop 1 s.line.items) (silent_frames : silent ≡ silent_at (placed s.core.taken s.recipe.pads) (s.core.taken - length s.line.items)) where
  left-drawn : (z : List Samples) → pad_left (drawn s line silent pending given clips ended) z ≡ pad_after s.recipe s.core.taken s.line.items []
  left-drawn z =
      let h : length s.line.items ≤ s.core.taken = let w = is.held in omega arith in
      left-ended s.recipe silent pending s.core.taken line.items ended z over
      ∙ ap (λ k. replicate k (silence s.recipe.channels) ++ (option_to_list pending ++ unless_last true pending (pad_after s.recipe s.core.taken line.items []))) silent_frames
      ∙ sym (pad_drained s.recipe s.core.taken s.line.items line.items pending oldest items h)

  pub IsPad-drawn : IsLine w32 line → line.capacity ≡ s.line.capacity → line.channels ≡ s.line.channels → IsPending s.recipe.channels pending
      → given + length (pad_after s.recipe s.core.taken s.line.items []) ≡ all_padded s.recipe.pads s.core.taken → IsPad (drawn s line silent pending given clips ended)
  IsPad-drawn is-line capacity channels fits all =
      let held = is.held in
      let bound = silence-bound s.core.taken s.recipe.pads in
      let popped = popped-length s.line.items line.items pending oldest items in
      record {
        core = record { bound = is.core.bound; no_clips = no_clips; no_pending_clips = refl; fits = fits };
        line = is-line;
        channels = channels ∙ is.channels;
        capacity = capacity ∙ is.capacity;
        pads = is.pads;
        held = omega arith;
        within = λ z. let n : length (pad_left (drawn s line silent pending given clips ended) z) ≡ length (pad_after s.recipe s.core.taken s.line.items []) = ap length (left-drawn z) in omega (arith, n, all, bound);
        full = λ r. absurd (cc (r, over));
        counted = λ r. absurd (cc (r, over));
        over = λ e none. popped-none s.line.items line.items pending oldest items none;
        gone = λ e. ap (λ l. given + length l) (left-drawn []) ∙ all;
      }

  -- the end came
  pub Ended-pad : pad_acts.dry s ≡ true → s.core.ended ≡ false → given ≡ s.core.given → Ended pad_acts s (drawn s line silent pending given clips ended)
  Ended-pad dry running same =
      record {
        rest = λ z. ap (map plain) (left-drawn z ∙ sym (left-now s dry running []));
        counted = rw (same, over, no_clips, is.core.no_clips) refl;
        recipe_stays = refl;
      }

  -- the pending frame was given
  pub Gave-drawn : (frame : Samples) → s.core.pending ≡ Some frame → s.silent ≡ 0 → s.core.ended ≡ true → given ≡ s.core.given + 1 → ended ≡ s.core.ended → Gave pad_acts s (drawn s line silent pending given clips ended) frame
  Gave-drawn frame e none was same unchanged =
      let first : (z : List Samples) → pad_left s z ≡ frame ∷ pad_left (drawn s line silent pending given clips ended) z = λ z.
      left-ended s.recipe s.silent s.core.pending s.core.taken s.line.items s.core.ended z was
      ∙ ap₂ (λ k o. replicate k (silence s.recipe.channels) ++ (option_to_list o ++ unless_last true o (pad_after s.recipe s.core.taken s.line.items []))) none e
      ∙ ap (λ l. frame ∷ l) (sym (left-drawn z)) in
      let long : length (pad_left s []) ≡ suc (length (pad_left (drawn s line silent pending given clips ended) [])) = ap length (first []) in
      let within : s.core.given + length (pad_left s []) ≤ s.core.taken + 0 + lengths s.recipe.pads = is.within [] in
      record {
        was_wet = ap (λ o. is_none o && nat_eq s.silent 0) e;
        gives = record { clips = 0; first = λ z. ap (map plain) (first z); counted = rw (same, unchanged, no_clips, is.core.no_clips) refl };
        channels = (is.core.fits frame e).1;
        due = λ running. absurd (cc (running, was));
        maximum = omega arith;
        recipe_stays = refl;
      }

-- what is left at the end, where the line holds the last frames from one on that no pad from the end reaches
pub left-dry : (s : PadState) → IsPad s → pad_acts.dry s ≡ true → s.core.ended ≡ false → s.core.given + length (pad_after s.recipe s.core.taken s.line.items []) ≡ all_padded s.recipe.pads s.core.taken
left-dry s is dry running =
    let ps : List (ℕ × At) = s.recipe.pads in
    let items : List Samples = s.line.items in
    let m : ℕ = s.core.taken - length items in
    let nothing = dry-pending s.core.pending s.silent dry in
    let pending_count : length (pending_frames s.core) ≡ 0 = ap (λ h. length (option_to_list h)) nothing.0 in
    let full = is.full running in
    let reach = is.capacity in
    let place : s.core.taken - largest (map pad_distance ps) ≡ m = omega arith in
    let counted : s.core.given + s.silent + length (pending_frames s.core) ≡ m + sum_by (λ p. p.0) (filter (λ p. nat_lt p.1 m) (pads_from_start ps)) = is.counted running ∙ ap (λ n. n + sum_by (λ p. p.0) (filter (λ p. nat_lt p.1 n) (pads_from_start ps))) place in
    let far : (m ≡ 0) ⊎ (m + largest (map pad_distance ps) ≤ s.core.taken) = apart (cases_lt (largest (map pad_distance ps)) s.core.taken) in
    let parts = silence-parts s.core.taken ps m is.pads.rising far in
    let nil : items ++ [] ≡ items = append-nil items in
    let whole : m + length items ≡ s.core.taken = omega arith in
    let later : length (pad_after s.recipe s.core.taken items []) ≡ length items + silence_from (placed s.core.taken ps) m =
    ap (λ l. length (padded_from s.recipe.channels (m + length l) ps m l)) nil
    ∙ ap (λ t. length (padded_from s.recipe.channels t ps m items)) whole
    ∙ length_from s.recipe.channels s.core.taken ps m items whole in
    omega (arith, nothing.1, pending_count, counted, parts, later, whole)
  where
    apart : (largest (map pad_distance s.recipe.pads) < s.core.taken) ⊎ (s.core.taken ≤ largest (map pad_distance s.recipe.pads)) → (s.core.taken - length s.line.items ≡ 0) ⊎ (s.core.taken - length s.line.items + largest (map pad_distance s.recipe.pads) ≤ s.core.taken)
    apart (inl l) = let full = is.full running in let reach = is.capacity in inr (omega (arith, l, full, reach))
    apart (inr g) = let full = is.full running in let reach = is.capacity in inl (omega (arith, g, full, reach))

-- what is left when the pending frame was given after the end
pub left-given : (s : PadState) (frame : Samples) → IsPad s → s.core.pending ≡ Some frame → s.silent ≡ 0 → s.core.ended ≡ true → s.core.given + 1 + length (pad_after s.recipe s.core.taken s.line.items []) ≡ all_padded s.recipe.pads s.core.taken
left-given s frame is e none was =
    let first : pad_left s [] ≡ frame ∷ pad_after s.recipe s.core.taken s.line.items [] =
    left-ended s.recipe s.silent s.core.pending s.core.taken s.line.items s.core.ended [] was
    ∙ ap₂ (λ k o. replicate k (silence s.recipe.channels) ++ (option_to_list o ++ unless_last true o (pad_after s.recipe s.core.taken s.line.items []))) none e in
    let long : length (pad_left s []) ≡ suc (length (pad_after s.recipe s.core.taken s.line.items [])) = ap length first in
    let gone : s.core.given + length (pad_left s []) ≡ all_padded s.recipe.pads s.core.taken = is.gone was in
    omega (arith, long, gone)

-- ---- silence is given

silent-first : (n : ℕ) (x : Samples) (after : List Samples) → 0 < n → replicate n x ++ after ≡ x ∷ (replicate (n - 1) x ++ after)
silent-first zero x after h = absurd (omega arith)
silent-first (suc n) x after h = rw sub-one refl

-- the state after a silent frame was given
abbrev silenced : PadState → PadState
silenced s = record s { silent = s.silent - 1; core = record s.core { given = s.core.given + 1; clips = s.core.clips + 0 } }

pub Gave-silence : (s : PadState) → IsPad s → 0 < s.silent → Gave pad_acts s (silenced s) (silence s.recipe.channels)
Gave-silence s is some =
    let first : (z : List Samples) → pad_left s z ≡ silence s.recipe.channels ∷ pad_left (silenced s) z = λ z. silent-first s.silent _ _ some in
    let long : length (pad_left s []) ≡ suc (length (pad_left (silenced s) [])) = ap length (first []) in
    let within : s.core.given + length (pad_left s []) ≤ s.core.taken + 0 + lengths s.recipe.pads = is.within [] in
    record {
      was_wet = dry-tail s.core.pending s.silent some;
      gives = record { clips = 0; first = λ z. ap (map plain) (first z); counted = refl };
      channels = length-replicate _ _;
      due = λ running. let k = is.counted running in omega arith;
      maximum = omega arith;
      recipe_stays = refl;
    }

-- a new stage
pub IsPad-new : (r : PadArguments) (line : Frames ℤ) → IsLine w32 line → line.items ≡ [] → line.channels ≡ r.channels → line.capacity ≡ largest (map pad_distance r.pads) → IsPads r.pads
    → IsPad (record { core = new_core; recipe = r; silent = 0; line = line })
IsPad-new r line is-line items channels capacity pads =
    let empty : length line.items ≡ 0 = ap length items in
    record {
      core = record { bound = omega arith; no_clips = refl; no_pending_clips = refl; fits = λ x e. absurd (cc) };
      line = is-line;
      channels = channels;
      capacity = capacity;
      pads = pads;
      held = omega arith;
      within = λ z.
          let e : pad_after r 0 line.items z ≡ pad_rest r.channels r.pads 0 [] z = ap (λ l. pad_after r 0 l z) items in
          let n : length (pad_after r 0 line.items z) ≡ length (padded r.channels r.pads z) = ap length (e ∙ sym (pad_new r.channels r.pads z)) in
          let maximum = length_padded r.channels r.pads z in
          omega arith;
      full = λ e. omega arith;
      counted = λ e. sym (none-due r.pads);
      over = λ e none. items;
      gone = λ e. absurd (cc);
    }
