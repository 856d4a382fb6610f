-- A frame that is passed to a stage that selects frames.
use Rattle.std.proofs.Common.{◌≡◌, ◌+◌, ◌-◌, ◌<◌, ◌≤◌, ◌^◌, true, false, [], ◌∷◌, length, refl, subst, sym, ap, arith, length-append, ℤ, Some, None, add-zero, is_none, option_to_list}
use Rattle.std.specs.Int.{w32}
use Rattle.fx_frame_base.specs.declared.feed.Passing.TheVariants.{Kept, Through}
use Rattle.fx_frame_base.specs.Feed.{GaveNext, IsHeld, PassedOn, TookNext}
use Rattle.fx_frame_base.specs.Frame.{IsFrame, Samples}
use Rattle.fx_frame_base.specs.PendingFrame.{IsPending}
use Rattle.fx_frame_base.specs.Given.{plain}
use Rattle.fx_frame_line.specs.Line.{Frames, IsLine}
use Rattle.fx_frame_base.specs.Stage.{Gave, IsDry, spent}
use Rattle.fx_frame_base.specs.StageCore.{pending_frames}
use Rattle.fx_cut.specs.Selected.{AreDetermined, IsSelectedState, Selects, SelectedState, determined_in, selected_acts, selected_here}
use Rattle.fx_cut.proofs.Fallen.{fallen, stays}
use Rattle.fx_frame_base.proofs.Flags.{none-is}
use Rattle.fx_cut.proofs.PendingLemmas.{at_most_one}
use Rattle.fx_cut.proofs.SelectSteps.{IsSelect-fallen, IsSelect-inside, Took-fallen, Took-inside, came, due-given, stayed}

module _ {M : Type 0} (selects : Selects M) where
  -- it holds no more than it may
  pub held-select : (s : SelectedState M) → IsSelectedState selects s → IsHeld (selected_acts selects) s
  held-select s is =
      let one : length (pending_frames s.core) ≤ 1 = at_most_one s.core.pending in
      let within : length s.line.items ≤ s.line.capacity = is.line.within in
      let cap = is.capacity in
      omega (arith, length-append s.line.items (pending_frames s.core))

  -- the pending frame is given before the end
  pub Gave-before : (s : SelectedState M) (frame : Samples) → IsSelectedState selects s → s.core.pending ≡ Some frame → s.core.ended ≡ false → Gave (selected_acts selects) s (record s { core = record s.core { pending = None; given = s.core.given + 1 } }) frame
  Gave-before s frame is e running =
      let one : length (pending_frames s.core) ≡ 1 = ap (λ h. length (option_to_list h)) e in
      let w = is.within in
      record {
        was_wet = ap is_none e;
        gives = record { clips = 0; first = λ z. rw e refl; counted = rw (add-zero s.core.clips) refl };
        channels = (is.core.fits frame e).1;
        due = λ r. let counted = is.counted r in omega (arith, counted, one);
        maximum = omega arith;
        recipe_stays = refl;
      }

  -- the state after it
  pub IsSelect-before : (s : SelectedState M) (frame : Samples) → IsSelectedState selects s → s.core.pending ≡ Some frame → s.core.ended ≡ false → IsSelectedState selects (record s { core = record s.core { pending = None; given = s.core.given + 1 } })
  IsSelect-before s frame is e running =
      let one : length (pending_frames s.core) ≡ 1 = ap (λ h. length (option_to_list h)) e in
      let w = is.within in
      record {
        core = record { bound = is.core.bound; no_clips = is.core.no_clips; no_pending_clips = is.core.no_pending_clips; fits = λ x q. absurd (cc (q)) };
        line = is.line;
        channels = is.channels;
        capacity = is.capacity;
        within = omega arith;
        full = is.full;
        counted = λ r. let counted = is.counted r in omega (arith, counted, one);
        over = λ r. absurd (cc (r, running));
        gone = λ r. absurd (cc (r, running));
      }

  -- before the end, where it has no frame to give it has given what is due
  pub determined-select : (s : SelectedState M) → IsSelectedState selects s → s.core.ended ≡ false → is_none s.core.pending ≡ true → IsDry (selected_acts selects) s
  determined-select s is running dry =
      record { due = λ r. due-given selects s is r dry; over = λ r. absurd (cc (r, running)) }

  module _ (ok : AreDetermined selects) (s : SelectedState M) (frame y : Samples) (is : IsSelectedState selects s) (dry : is_none s.core.pending ≡ true) (running : s.core.ended ≡ false) (unspent : spent (selected_acts selects) s ≡ false) (line : Frames ℤ) (items : line.items ≡ stays s.line.capacity s.line.items frame) (lined : IsLine w32 line) (capacity : line.capacity ≡ s.line.capacity) (channels : line.channels ≡ s.line.channels) (below : s.core.taken < 2 ^ 56) where
    -- it stays in the line
    pub passed-inside : None ≡ fallen s.line.capacity s.line.items frame → PassedOn (selected_acts selects) Kept s (stayed selects s line) frame y × IsSelectedState selects (stayed selects s line)
    passed-inside e =
        let now = IsSelect-inside selects ok s frame is dry running line e items lined capacity channels below in
        ((record { dry = dry; due = due-given selects s is running dry; not_ended = running; not_spent = unspent; took = Took-inside selects ok s frame is dry running line e items; held = held-select (stayed selects s line) now }, dry), now)

    -- the oldest falls out, and is not given
    pub passed-out : (o : Samples) → Some o ≡ fallen s.line.capacity s.line.items frame → selects.gives s.arguments (determined_in selects s.arguments (s.core.taken - length s.line.items)) (s.core.taken - length s.line.items) ≡ false
        → PassedOn (selected_acts selects) Kept s (stayed selects s line) frame y × IsSelectedState selects (stayed selects s line)
    passed-out o e left =
        let none : [] ≡ selected_here selects s.arguments (determined_in selects s.arguments (s.core.taken - length s.line.items)) (s.core.taken - length s.line.items) o = rw left refl in
        let same : stayed selects s line ≡ came selects s line None = rw (none-is s.core.pending dry, is.core.no_pending_clips) refl in
        let now = IsSelect-fallen selects ok s frame is dry running line o None e items lined capacity channels below none (λ z q. absurd (cc (q))) in
        rw same ((record { dry = dry; due = due-given selects s is running dry; not_ended = running; not_spent = unspent; took = Took-fallen selects ok s frame is dry running line o None e items none; held = held-select (came selects s line None) now }, dry), now)

    -- the oldest falls out, and is given
    pub passed-given : (o g : Samples) → Some o ≡ fallen s.line.capacity s.line.items frame → selects.gives s.arguments (determined_in selects s.arguments (s.core.taken - length s.line.items)) (s.core.taken - length s.line.items) ≡ true
        → plain g ≡ selects.made s.arguments (determined_in selects s.arguments (s.core.taken - length s.line.items)) (s.core.taken - length s.line.items) o → length g ≡ selects.channels s.arguments → IsFrame g
        → PassedOn (selected_acts selects) Through s (record s { line = line; core = record s.core { taken = s.core.taken + 1; given = s.core.given + 1 } }) frame g × IsSelectedState selects (record s { line = line; core = record s.core { taken = s.core.taken + 1; given = s.core.given + 1 } })
    passed-given o g e here made width framed =
        let none : s.core.pending ≡ None = none-is s.core.pending dry in
        let is-made : plain g ∷ [] ≡ selected_here selects s.arguments (determined_in selects s.arguments (s.core.taken - length s.line.items)) (s.core.taken - length s.line.items) o = rw here (ap (λ f. f ∷ []) made) in
        let pending : IsPending (selects.channels s.arguments) (Some g) = λ z q. let same : g ≡ z = cc in (rw (← same) framed, rw (← same) width) in
        let mid : SelectedState M = came selects s line (Some g) in
        let now : IsSelectedState selects mid = IsSelect-fallen selects ok s frame is dry running line o (Some g) e items lined capacity channels below is-made pending in
        let last : SelectedState M = record mid { core = record mid.core { pending = None; given = mid.core.given + 1 } } in
        let after : IsSelectedState selects last = IsSelect-before mid g now refl running in
        let first : TookNext (selected_acts selects) s mid frame = record { dry = dry; due = due-given selects s is running dry; not_ended = running; not_spent = unspent; took = Took-fallen selects ok s frame is dry running line o (Some g) e items is-made; held = held-select mid now } in
        let second : GaveNext (selected_acts selects) mid last g = record { gave = Gave-before mid g now refl running; held = held-select last after } in
        let same : ◌≡◌ {A = SelectedState M} (record s { line = line; core = record s.core { taken = s.core.taken + 1; given = s.core.given + 1 } }) last = rw (none, is.core.no_pending_clips) refl in
        subst (λ (u : SelectedState M). PassedOn (selected_acts selects) Through s u frame g × IsSelectedState selects u) (sym same) ((mid, first, second, refl), after)
