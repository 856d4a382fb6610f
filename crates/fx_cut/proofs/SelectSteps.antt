-- The steps of a stage that selects frames.
use Rattle.std.proofs.Common.{◌≡◌, ℕ, ℤ, zero, suc, ◌+◌, ◌-◌, ◌<◌, ◌≤◌, ◌^◌, Bool, true, false, cond, List, [], ◌∷◌, ◌++◌, map, length, drop, refl, sym, ◌∙◌, ap, arith, add-zero, length-append, append_assoc, append-nil, Option, Some, None, option_to_list, is_none, slice_get}
use Rattle.std.specs.Int.{w32}
use Rattle.std.proofs.lemmas.Bool.{cases_lt, false≢true}
use Rattle.std.proofs.lemmas.List.{length-map, nil_from_length}
use mathlib.Core.Logic.{inl, inr}
use mathlib.Core.Path.{ap₂}
use Rattle.fx_frame_base.specs.Frame.{Samples}
use Rattle.fx_frame_base.specs.PendingFrame.{IsPending}
use Rattle.fx_frame_line.specs.Line.{Frames, IsLine}
use Rattle.fx_frame_base.specs.Stage.{Given, Took}
use Rattle.fx_frame_base.specs.StageCore.{pending_frames}
use Rattle.fx_frame_base.specs.declared.stage_core.StageCore.{StageCore}
use Rattle.fx_frame_base.specs.Given.{plain}
use Rattle.fx_frame_base.proofs.Flags.{flag-le}
use Rattle.fx_cut.specs.Selected.{AreDetermined, IsSelectedState, Selects, SelectedState, given_before, determined_in, selected_acts, selected_after, selected_from, selected_here}
use Rattle.fx_cut.proofs.Fallen.{fallen, stays, no_fall, stays-free, is_full, oldest-first, first-popped}
use Rattle.fx_cut.proofs.PendingLemmas.{at_most_one, empty-pending}
use Rattle.fx_cut.specs.Ranges.{count_same, kept_next}

-- a state by its parts
abbrev pub state : {M : Type 0} → StageCore → Frames ℤ → M → SelectedState M
state core line m = record { core = core; line = line; arguments = m }

module _ {M : Type 0} (selects : Selects M) where
  -- what is still to be given where the line holds the frames from place n on, and these frames come
  abbrev rest_at : M → ℕ → List Samples → List Samples → List Given
  rest_at m n items z = selected_from selects m (n + length (items ++ z)) n (items ++ z)

  -- how many are given of a frame
  pub here-count : (m : M) (frames n : ℕ) (frame : Samples) → length (selected_here selects m frames n frame) ≡ cond (selects.gives m frames n) 1 0
  here-count m frames n frame = go (selects.gives m frames n)
    where
      go : (b : Bool) → length (cond b (selects.made m frames n frame ∷ []) []) ≡ cond b 1 0
      go true = refl
      go false = refl

  rest-taken : (m : M) (n : ℕ) (items : List Samples) (frame : Samples) (z : List Samples) → rest_at m n items (frame ∷ z) ≡ rest_at m n (items ++ frame ∷ []) z
  rest-taken m n items frame z = ap (λ y. selected_from selects m (n + length y) n y) (sym (append_assoc items (frame ∷ []) z))

  -- ---- after the end

  -- the oldest frame leaves the line
  pub drained : (m : M) (frames : ℕ) (items items' : List Samples) (o : Samples) → Some o ≡ slice_get items 0 → items' ≡ drop 1 items → length items ≤ frames
      → selected_after selects m frames items [] ≡ selected_here selects m frames (frames - length items) o ++ selected_after selects m frames items' []
  drained m frames items items' o e e' h =
      let split : items ≡ o ∷ items' = first-popped items items' o e e' in
      let n : ℕ = frames - length (o ∷ items') in
      let h' : length (o ∷ items') ≤ frames = rw split at h in
      let len : ℕ = n + length (o ∷ (items' ++ [])) in
      let nil : length (items' ++ []) ≡ length items' = ap length (append-nil items') in
      let whole : len ≡ frames = omega arith in
      let next : n + 1 ≡ frames - length items' = omega arith in
      let len' : len ≡ (n + 1) + length (items' ++ []) = omega arith in
      rw split (
      ap₂ (λ t l. selected_here selects m t n o ++ selected_from selects m l (n + 1) (items' ++ [])) whole len'
      ∙ ap (λ k. selected_here selects m frames n o ++ rest_at m k items' []) next
      )

  -- and is counted, where it is given
  pub given-popped : (m : M) (frames : ℕ) (items items' : List Samples) (o : Samples) (pending : Option Samples) → Some o ≡ slice_get items 0 → items' ≡ drop 1 items → length items ≤ frames
      → map plain (option_to_list pending) ≡ selected_here selects m frames (frames - length items) o
      → given_before selects m frames (frames - length items) + length (option_to_list pending) ≡ given_before selects m frames (frames - length items')
  given-popped m frames items items' o pending e e' h kept =
      let long : length items ≡ length (o ∷ items') = ap length (first-popped items items' o e e') in
      let next : frames - length items' ≡ frames - length items + 1 = omega arith in
      let one : length (option_to_list pending) ≡ cond (selects.gives m frames (frames - length items)) 1 0 =
      sym (length-map (option_to_list pending) plain) ∙ ap length kept ∙ here-count m frames (frames - length items) o in
      ap (λ k. given_before selects m frames (frames - length items) + k) one
      ∙ sym (kept_next (selects.gives m frames) (frames - length items))
      ∙ ap (given_before selects m frames) (sym next)

  -- after the end, the next frame that is given is pending
  pub IsSelect-over : (s : SelectedState M) (line : Frames ℤ) (pending : Option Samples) (given : ℕ) → IsSelectedState selects s → given + length s.line.items ≤ s.core.taken
      → given ≡ given_before selects s.arguments s.core.taken (s.core.taken - length s.line.items)
      → given_before selects s.arguments s.core.taken (s.core.taken - length s.line.items) + length (option_to_list pending) ≡ given_before selects s.arguments s.core.taken (s.core.taken - length line.items)
      → (pending ≡ None → line.items ≡ []) → length (option_to_list pending) + length line.items ≤ length s.line.items → IsPending s.line.channels pending
      → IsLine w32 line → line.capacity ≡ s.line.capacity → line.channels ≡ s.line.channels
      → IsSelectedState selects (record s { line = line; core = record s.core { pending = pending; pending_clips = 0; given = given; ended = true } })
  IsSelect-over s line pending given is low before kept empty fewer fits lined capacity channels = record {
    core = record { bound = is.core.bound; no_clips = is.core.no_clips; no_pending_clips = refl; fits = rw is.channels at fits };
    line = lined;
    channels = channels ∙ is.channels;
    capacity = capacity ∙ is.capacity;
    within = omega arith;
    full = λ r. absurd (false≢true (sym r));
    counted = λ r. absurd (false≢true (sym r));
    over = λ e none. empty none;
    gone = λ e. ap (λ n. n + length (option_to_list pending)) before ∙ kept;
  }

  -- before the end, where it has no frame to give it has given what is due
  pub due-given : (s : SelectedState M) → IsSelectedState selects s → s.core.ended ≡ false → is_none s.core.pending ≡ true → s.core.given ≡ selects.due s.arguments s.core.taken
  due-given s is running dry =
      let empty : length (pending_frames s.core) ≡ 0 = ap length (empty-pending s.core.pending dry) in
      let counted = is.counted running in
      omega (arith, counted, empty)

  -- the state after a frame came and the pending frame stayed as it was
  abbrev pub stayed : SelectedState M → Frames ℤ → SelectedState M
  stayed s line = record s { line = line; core = record s.core { taken = s.core.taken + 1 } }

  -- the state after a frame came, with this pending frame or none
  abbrev pub came : SelectedState M → Frames ℤ → Option Samples → SelectedState M
  came s line pending = record s { line = line; core = record s.core { pending = pending; pending_clips = 0; taken = s.core.taken + 1 } }

  -- ---- where what is given is determined after the reach

  module _ (ok : AreDetermined selects) where
    here-determined : (m : M) (frames n : ℕ) (o : Samples) → n + selects.reach m < frames → selected_here selects m frames n o ≡ selected_here selects m (determined_in selects m n) n o
    here-determined m frames n o h = ap₂ (λ b g. cond b (g ∷ []) []) (ok.gives m frames n h) (ok.made m frames n o h)

    rest-let-go : (m : M) (n : ℕ) (o : Samples) (items z : List Samples) → selects.reach m ≤ length items
        → rest_at m n (o ∷ items) z ≡ selected_here selects m (determined_in selects m n) n o ++ rest_at m (n + 1) items z
    rest-let-go m n o items z h =
        let len : ℕ = n + length (o ∷ (items ++ z)) in
        let e : len ≡ (n + 1) + length (items ++ z) = omega arith in
        ap₂ (λ g l. g ++ selected_from selects m l (n + 1) (items ++ z)) (here-determined m len n o (omega (arith, length-append items z))) e

    -- one more frame is due where that is given which falls out of the line
    pub due-next : (m : M) (taken : ℕ) → selects.reach m ≤ taken
        → selects.due m (taken + 1) ≡ selects.due m taken + cond (selects.gives m (determined_in selects m (taken - selects.reach m)) (taken - selects.reach m)) 1 0
    due-next m taken h =
        let next : taken + 1 - selects.reach m ≡ taken - selects.reach m + 1 = omega arith in
        let more = kept_next (λ n. selects.gives m (determined_in selects m n) n) (taken - selects.reach m) in
        ok.due m (taken + 1) ∙ rw next (more ∙ ap (λ k. k + cond (selects.gives m (determined_in selects m (taken - selects.reach m)) (taken - selects.reach m)) 1 0) (sym (ok.due m taken)))

    pub due-early : (m : M) (taken : ℕ) → taken < selects.reach m → selects.due m (taken + 1) ≡ selects.due m taken
    due-early m taken h =
        let one : taken + 1 - selects.reach m ≡ 0 = omega arith in
        let none : taken - selects.reach m ≡ 0 = omega arith in
        ok.due m (taken + 1) ∙ rw one (sym (rw none at (ok.due m taken)))

    -- where the next frames to fall out are given, one more is due for each
    pub due-along : (m : M) (s n : ℕ) → selects.reach m ≤ s → ((i : ℕ) → i < n → selects.gives m (determined_in selects m (s - selects.reach m + i)) (s - selects.reach m + i) ≡ true) → selects.due m (s + n) ≡ selects.due m s + n
    due-along m s zero h k = ap (selects.due m) (add-zero s) ∙ sym (add-zero (selects.due m s))
    due-along m s (suc n) h k =
        let next : s + suc n ≡ s + n + 1 = omega arith in
        let last : s + n - selects.reach m ≡ s - selects.reach m + n = omega arith in
        let more = rw last at (due-next m (s + n) (omega arith)) in
        let one : ◌≡◌ {A = ℕ} (cond (selects.gives m (determined_in selects m (s - selects.reach m + n)) (s - selects.reach m + n)) 1 0) 1 = ap (λ b. cond b 1 0) (k n (omega arith)) in
        let others = due-along m s n h (λ i l. k i (omega arith)) in
        ap (selects.due m) next ∙ omega (arith, more, one, others)

    -- while the line fills, and where the next frames to fall out are omitted, none is due
    pub due-none : (m : M) (s n : ℕ) → ((i : ℕ) → i < n - (selects.reach m - s) → selects.gives m (determined_in selects m (s - selects.reach m + i)) (s - selects.reach m + i) ≡ false) → selects.due m (s + n) ≡ selects.due m s
    due-none m s zero omitted = ap (selects.due m) (add-zero s)
    due-none m s (suc n) omitted =
        let next : s + suc n ≡ s + n + 1 = omega arith in
        let others = due-none m s n (λ i l. omitted i (omega (arith, l))) in
        elim (cases_lt (s + n) (selects.reach m)) [
          | inl less ↦ rw next (due-early m (s + n) less ∙ others)
          | inr more ↦
              let last : s + n - selects.reach m ≡ s - selects.reach m + (n - (selects.reach m - s)) = omega (arith, more) in
              let one = rw last at (due-next m (s + n) more) in
              let none : ◌≡◌ {A = ℕ} (cond (selects.gives m (determined_in selects m (s - selects.reach m + (n - (selects.reach m - s)))) (s - selects.reach m + (n - (selects.reach m - s)))) 1 0) 0 = ap (λ b. cond b 1 0) (omitted (n - (selects.reach m - s)) (omega (arith, more))) in
              rw next (omega (arith, one, none, others))
        ]

    -- no more than one more is due for each frame that falls out
    pub due-maximum : (m : M) (s n : ℕ) → selects.due m (s + n) ≤ selects.due m s + (n - (selects.reach m - s))
    due-maximum m s zero = let same : s + 0 ≡ s = omega arith in rw same (omega arith)
    due-maximum m s (suc n) =
        let next : s + suc n ≡ s + n + 1 = omega arith in
        let others = due-maximum m s n in
        elim (cases_lt (s + n) (selects.reach m)) [
          | inl less ↦ rw next (omega (arith, others, due-early m (s + n) less))
          | inr more ↦ rw next (omega (arith, others, more, due-next m (s + n) more, flag-le (selects.gives m (determined_in selects m (s + n - selects.reach m)) (s + n - selects.reach m))))
        ]

    -- where the end comes, all that is due was given
    pub given-due : (s : SelectedState M) → IsSelectedState selects s → s.core.ended ≡ false → s.core.given + length (pending_frames s.core) ≡ given_before selects s.arguments s.core.taken (s.core.taken - length s.line.items)
    given-due s is running =
        let f = is.full running in
        let cap = is.capacity in
        let m : M = s.arguments in
        let same : s.core.taken - length s.line.items ≡ s.core.taken - selects.reach m = omega arith in
        is.counted running
        ∙ ok.due m s.core.taken
        ∙ count_same (λ n. selects.gives m (determined_in selects m n) n) (selects.gives m s.core.taken) 0 (s.core.taken - selects.reach m) (λ i low high. sym (ok.gives m s.core.taken i (omega arith)))
        ∙ ap (given_before selects m s.core.taken) (sym same)

    -- ---- nothing more

    none_from : (m : M) (frames n : ℕ) (x : List Samples) → ((place : ℕ) → n ≤ place → selects.gives m frames place ≡ false) → selected_from selects m frames n x ≡ []
    none_from m frames n [] h = refl
    none_from m frames n (f ∷ x) h =
        ap (λ b. cond b (selects.made m frames n f ∷ []) [] ++ selected_from selects m frames (n + 1) x) (h n (omega arith))
        ∙ none_from m frames (n + 1) x (λ place l. h place (omega arith))

    pub spent-rest : (s : SelectedState M) (maximum : ℕ) → IsSelectedState selects s → s.core.pending ≡ None → selects.enough s.arguments ≡ Some maximum → maximum ≤ s.core.taken → (z : List Samples) → (selected_acts selects).rest s z ≡ []
    spent-rest s maximum is none enough late z =
        let law = ok.enough s.arguments maximum enough in
        let cap = is.capacity in
        let free = is.line.within in
        let zero-reach : selects.reach s.arguments ≡ 0 = law.0 in
        let empty : s.line.items ≡ [] = nil_from_length s.line.items (omega (arith, zero-reach)) in
        rw (none, empty) (none_from s.arguments _ (s.core.taken - 0) _ (λ place l. law.1 _ place (omega arith)))

    -- ---- a frame comes

    module _ (s : SelectedState M) (frame : Samples) (is : IsSelectedState selects s) (dry : is_none s.core.pending ≡ true) (running : s.core.ended ≡ false) where
      held : length s.line.items ≤ s.core.taken
      held = let h = is.within in omega arith

      -- it stays in the line
      pub Took-inside : (line : Frames ℤ) → None ≡ fallen s.line.capacity s.line.items frame → line.items ≡ stays s.line.capacity s.line.items frame → Took (selected_acts selects) s (stayed s line) frame
      Took-inside line e items =
          let l = no_fall _ _ _ e in
          let i : line.items ≡ s.line.items ++ frame ∷ [] = items ∙ stays-free _ _ _ l in
          let h : length s.line.items ≤ s.core.taken = held in
          let n : s.core.taken + 1 - length (s.line.items ++ frame ∷ []) ≡ s.core.taken - length s.line.items = omega (arith, length-append s.line.items (frame ∷ [])) in
          record {
            rest = λ z. rw (running, i, n) (ap (λ r. map plain (pending_frames s.core) ++ r) (sym (rest-taken s.arguments (s.core.taken - length s.line.items) s.line.items frame z)));
            counted = refl;
            recipe_stays = refl;
          }

      -- the oldest falls out
      pub Took-fallen : (line : Frames ℤ) (o : Samples) (pending : Option Samples) → Some o ≡ fallen s.line.capacity s.line.items frame → line.items ≡ stays s.line.capacity s.line.items frame
          → map plain (option_to_list pending) ≡ selected_here selects s.arguments (determined_in selects s.arguments (s.core.taken - length s.line.items)) (s.core.taken - length s.line.items) o → Took (selected_acts selects) s (came s line pending) frame
      Took-fallen line o pending e items kept =
          let m : M = s.arguments in
          let within : length s.line.items ≤ s.line.capacity = is.line.within in
          let split : s.line.items ++ frame ∷ [] ≡ o ∷ line.items = oldest-first _ _ _ _ e within ∙ ap (λ l. o ∷ l) (sym items) in
          let full = is_full _ _ _ _ e in
          let cap = is.capacity in
          let h : length s.line.items ≤ s.core.taken = held in
          let long : length line.items ≡ length s.line.items = omega (arith, ap length split, length-append s.line.items (frame ∷ [])) in
          let ends : selects.reach m ≤ length line.items = omega arith in
          let n : ℕ = s.core.taken - length s.line.items in
          let next : s.core.taken + 1 - length line.items ≡ n + 1 = omega arith in
          record {
            rest = λ z. rw (running, empty-pending s.core.pending dry, kept, next) (sym (
                rest-taken m n s.line.items frame z
                ∙ ap (λ l. rest_at m n l z) split
                ∙ rest-let-go m n o line.items z ends));
            counted = refl;
            recipe_stays = refl;
          }

      pub IsSelect-inside : (line : Frames ℤ) → None ≡ fallen s.line.capacity s.line.items frame → line.items ≡ stays s.line.capacity s.line.items frame
          → IsLine w32 line → line.capacity ≡ s.line.capacity → line.channels ≡ s.line.channels → s.core.taken < 2 ^ 56 → IsSelectedState selects (stayed s line)
      IsSelect-inside line e items lined capacity channels below =
          let l = no_fall _ _ _ e in
          let i : line.items ≡ s.line.items ++ frame ∷ [] = items ∙ stays-free _ _ _ l in
          let long : length line.items ≡ length s.line.items + 1 = ap length i ∙ length-append s.line.items (frame ∷ []) in
          let w = is.within in
          let f = is.full running in
          let cap = is.capacity in
          let early = due-early s.arguments s.core.taken (omega arith) in
          record {
            core = record { bound = omega arith; no_clips = is.core.no_clips; no_pending_clips = is.core.no_pending_clips; fits = is.core.fits };
            line = lined;
            channels = channels ∙ is.channels;
            capacity = capacity ∙ is.capacity;
            within = omega arith;
            full = λ r. rw capacity (omega arith);
            counted = λ r. is.counted running ∙ sym early;
            over = λ r. absurd (cc (r, running));
            gone = λ r. absurd (cc (r, running));
          }

      pub IsSelect-fallen : (line : Frames ℤ) (o : Samples) (pending : Option Samples) → Some o ≡ fallen s.line.capacity s.line.items frame → line.items ≡ stays s.line.capacity s.line.items frame
          → IsLine w32 line → line.capacity ≡ s.line.capacity → line.channels ≡ s.line.channels → s.core.taken < 2 ^ 56
          → map plain (option_to_list pending) ≡ selected_here selects s.arguments (determined_in selects s.arguments (s.core.taken - length s.line.items)) (s.core.taken - length s.line.items) o
          → IsPending (selects.channels s.arguments) pending → IsSelectedState selects (came s line pending)
      IsSelect-fallen line o pending e items lined capacity channels below kept fits =
          let m : M = s.arguments in
          let within : length s.line.items ≤ s.line.capacity = is.line.within in
          let split : s.line.items ++ frame ∷ [] ≡ o ∷ line.items = oldest-first _ _ _ _ e within ∙ ap (λ l. o ∷ l) (sym items) in
          let full = is_full _ _ _ _ e in
          let long : length line.items ≡ length s.line.items = omega (arith, ap length split, length-append s.line.items (frame ∷ [])) in
          let w = is.within in
          let f = is.full running in
          let cap = is.capacity in
          let n : ℕ = s.core.taken - selects.reach m in
          let same : s.core.taken - length s.line.items ≡ n = omega arith in
          let empty : length (pending_frames s.core) ≡ 0 = ap length (empty-pending s.core.pending dry) in
          let one : length (option_to_list pending) ≤ 1 = at_most_one pending in
          let counted = is.counted running in
          let next = due-next m s.core.taken (omega arith) in
          let given : length (option_to_list pending) ≡ cond (selects.gives m (determined_in selects m n) n) 1 0 =
          sym (length-map (option_to_list pending) plain) ∙ ap length (rw same at kept) ∙ here-count m (determined_in selects m n) n o in
          record {
            core = record { bound = omega arith; no_clips = is.core.no_clips; no_pending_clips = refl; fits = fits };
            line = lined;
            channels = channels ∙ is.channels;
            capacity = capacity ∙ is.capacity;
            within = omega arith;
            full = λ r. rw capacity (omega arith);
            counted = λ r. omega (arith, next, given, counted, empty);
            over = λ r. absurd (cc (r, running));
            gone = λ r. absurd (cc (r, running));
          }
