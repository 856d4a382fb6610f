-- Frames that are selected many at a time, as they fall out of the line.
use Rattle.std.proofs.Common.{◌≡◌, ◌+◌, ◌-◌, ◌*◌, ◌/◌, ◌<◌, ◌≤◌, ◌^◌, ℕ, ℤ, suc, Bool, true, false, cond, inl, inr, ◌⊎◌, List, [], ◌∷◌, ◌++◌, map, length, take, refl, sym, ap, ◌∙◌, arith, add-zero, length-take-le, FitsSigned, Some, None, is_none}
use Rattle.std.specs.Int.{w32}
use Rattle.std.specs.List.{All}
use Rattle.std.proofs.lemmas.Bool.{cases_lt}
use Rattle.std.proofs.lemmas.List.Elements.{All-cons, All-head, All-nil, All-tail, All-take}
use Rattle.std.proofs.lemmas.Nat.{le-div}
use Rattle.std.proofs.Math.Nat.{div-mul-le_self}
use Rattle.fx_frame_base.specs.declared.feed.Passing.TheVariants.{Through}
use Rattle.fx_frame_base.specs.Feed.{Fed, GaveNext, PassedOn, TookNext, TookWithinSpace, nothing, taken, given}
use Rattle.fx_frame_base.specs.Frame.{IsFrame, Samples}
use Rattle.fx_frame_base.specs.PendingFrame.{IsPending}
use Rattle.fx_frame_base.specs.Given.{plain}
use Rattle.fx_frame_line.specs.Line.{Frames, IsLine, IsSamples, pushed_all}
use Rattle.fx_frame_line.proofs.ManyFrames.{frames-samples}
use Rattle.fx_frame_base.specs.Lists.{pieces}
use Rattle.fx_frame_base.proofs.Puts.{pieces-take}
use Rattle.fx_frame_base.proofs.Pieces.{length-pieces}
use Rattle.fx_frame_base.specs.Stage.{Given, is_enough}
use Rattle.fx_frame_base.proofs.FedLaws.{Fed-then}
use Rattle.fx_frame_base.proofs.Capacities.{free-maximum}
use Rattle.fx_cut.specs.Selected.{AreDetermined, IsSelectedState, Selects, SelectedState, made_along, determined_in, selected_acts, selected_here}
use Rattle.fx_cut.proofs.Fallen.{fallen}
use Rattle.fx_cut.proofs.Onto.{gone, onto, onto-line, onto-long, onto-more, onto-none, out-full, out-more, out-free, out_of, same-line}
use Rattle.fx_cut.proofs.Pieces.{all-pieces}
use Rattle.fx_cut.proofs.SelectPassing.{Gave-before, IsSelect-before, held-select}
use Rattle.fx_cut.proofs.SelectSteps.{IsSelect-fallen, IsSelect-inside, Took-fallen, Took-inside, came, due-given, due-maximum, stayed}

pub no-frames : (gs : List Samples) (ws : List Given) → map plain gs ≡ ws → ws ≡ [] → gs ≡ []
no-frames [] ws e n = refl
no-frames (g ∷ gs) ws e n = absurd (cc (e, n))

no-counts : (b : Bool) (g k : ℕ) → k ≡ 0 → cond b (g + k) g ≡ g
no-counts true g k e = omega arith
no-counts false g k e = refl

counts-more : (b : Bool) (g k j n : ℕ) → n ≡ k + j → cond b (cond b (g + k) g + j) (cond b (g + k) g) ≡ cond b (g + n) g
counts-more true g k j n e = omega arith
counts-more false g k j n e = refl

module _ {M : Type 0} (selects : Selects M) where
  -- with no pending frame, this line and these counts
  abbrev pub cleared : SelectedState M → Frames ℤ → ℕ → ℕ → SelectedState M
  cleared s line t g = record s { line = line; core = record s.core { pending = None; pending_clips = 0; taken = t; given = g } }

  -- after these frames, with no pending frame, where all that fell out were given, or none
  abbrev pub later : Bool → SelectedState M → List Samples → SelectedState M
  later b s xs = cleared s (onto s.line xs) (s.core.taken + length xs) (cond b (s.core.given + gone s.line (length xs)) s.core.given)

  -- what the stage is after so many frames of the input, of which so many were given
  abbrev pub passed : SelectedState M → Frames ℤ → ℕ → ℕ → SelectedState M
  passed s line n k = record s { line = line; core = record s.core { taken = s.core.taken + n; given = s.core.given + k } }

  -- what a stage meets that gives, or leaves out, all the frames that fall out when so many come
  pub record Alike (b : Bool) (s : SelectedState M) (n : ℕ) : Type 0 where
    pub is : IsSelectedState selects s
    pub empty : s.core.pending ≡ None
    pub running : s.core.ended ≡ false
    pub gives : (i : ℕ) → i < gone s.line n → selects.gives s.arguments (determined_in selects s.arguments (s.core.taken - length s.line.items + i)) (s.core.taken - length s.line.items + i) ≡ b
    pub wanted : (i : ℕ) → i < n → is_enough (selects.enough s.arguments) (s.core.taken + i) ≡ false
    pub bound : s.core.taken + n ≤ 2 ^ 56

  -- what one frame leads to, where these are given
  abbrev Next : Bool → SelectedState M → Samples → List Samples → Type 0
  Next b s x gs = Fed (selected_acts selects) s (x ∷ []) gs (later b s (x ∷ [])) × IsSelectedState selects (later b s (x ∷ []))

  pub same-state : (s : SelectedState M) (l m : Frames ℤ) (t u g h : ℕ) → l ≡ m → t ≡ u → g ≡ h → cleared s l t g ≡ cleared s m u h
  same-state s l m t u g h e e' e'' = rw (e, e', e'') refl

  pub later-none : (b : Bool) (s : SelectedState M) → IsSelectedState selects s → s.core.pending ≡ None → later b s [] ≡ s
  later-none b s is e =
      let within = is.line.within in
      let none = onto-none s.line within in
      let gone-none : gone s.line 0 ≡ 0 = omega arith in
      let back : cleared s s.line s.core.taken s.core.given ≡ s = rw (e, is.core.no_pending_clips) refl in
      same-state s (onto s.line []) s.line (s.core.taken + 0) s.core.taken (cond b (s.core.given + gone s.line 0) s.core.given) s.core.given none.0 (add-zero s.core.taken) (no-counts b s.core.given (gone s.line 0) gone-none) ∙ back

  pub later-more : (b : Bool) (s : SelectedState M) (x : Samples) (xs : List Samples) → length s.line.items ≤ s.line.capacity → later b (later b s (x ∷ [])) xs ≡ later b s (x ∷ xs)
  later-more b s x xs within =
      let next : Frames ℤ = onto s.line (x ∷ []) in
      let long = onto-long s.line (x ∷ []) in
      let t : s.core.taken + 1 + length xs ≡ s.core.taken + length (x ∷ xs) = omega arith in
      let k : gone s.line (length (x ∷ xs)) ≡ gone s.line 1 + gone next (length xs) = omega arith in
      same-state s (onto next xs) (onto s.line (x ∷ xs)) (s.core.taken + 1 + length xs) (s.core.taken + length (x ∷ xs)) _ (cond b (s.core.given + gone s.line (length (x ∷ xs))) s.core.given) (onto-more s.line x xs within) t (counts-more b s.core.given (gone s.line 1) (gone next (length xs)) (gone s.line (length (x ∷ xs))) k)

  module _ (ok : AreDetermined selects) where
    module _ (b : Bool) (s : SelectedState M) (n : ℕ) (x : Samples) (a : Alike b s (suc n)) (sample : IsSamples w32 s.line.channels x) where
      dry : is_none s.core.pending ≡ true
      dry = ap is_none a.empty

      within : length s.line.items ≤ s.line.capacity
      within = a.is.line.within

      lined : IsLine w32 (onto s.line (x ∷ []))
      lined = onto-line s.line (x ∷ []) a.is.line (All-cons (IsSamples w32 s.line.channels) x [] sample (All-nil (IsSamples w32 s.line.channels)))

      some : is_enough (selects.enough s.arguments) s.core.taken ≡ false
      some = let k = a.wanted 0 (omega arith) in rw add-zero at k

      below : s.core.taken < 2 ^ 56
      below = let bound = a.bound in omega arith

      -- it stays in the line
      inside : length s.line.items < s.line.capacity → Next b s x []
      inside h =
          let free = out-free s.line x within h in
          let none : gone s.line 1 ≡ 0 = omega arith in
          let same : cond b (s.core.given + gone s.line 1) s.core.given ≡ s.core.given = no-counts b s.core.given (gone s.line 1) none in
          let mid : SelectedState M = stayed selects s (onto s.line (x ∷ [])) in
          let last : ◌≡◌ {A = SelectedState M} (later b s (x ∷ [])) mid = rw (same, a.empty, a.is.core.no_pending_clips) refl in
          let now = IsSelect-inside selects ok s x a.is dry a.running (onto s.line (x ∷ [])) free.0 refl lined refl refl below in
          let step : TookNext (selected_acts selects) s mid x = record {
            dry = dry;
            due = due-given selects s a.is a.running dry;
            not_ended = a.running;
            not_spent = rw a.empty some;
            took = Took-inside selects ok s x a.is dry a.running (onto s.line (x ∷ [])) free.0 refl;
            held = held-select selects mid now;
          } in
          rw last (taken [] [] x s mid nothing step, now)

      -- the oldest falls out
      module _ (h : s.line.capacity ≤ length s.line.items) where
        pub out : (o : Samples) × (Some o ≡ fallen s.line.capacity s.line.items x) × (out_of s.line (x ∷ []) ≡ o ∷ [])
        out = out-full s.line x within h

        one : gone s.line 1 ≡ 1
        one = let w = within in omega arith

        here : selects.gives s.arguments (determined_in selects s.arguments (s.core.taken - length s.line.items)) (s.core.taken - length s.line.items) ≡ b
        here =
            let some-out : 0 < gone s.line (suc n) = let w = within in omega arith in
            let k = a.gives 0 some-out in
            rw add-zero at k

        -- and is left out
        left : b ≡ false → Next b s x []
        left e =
            let mid : SelectedState M = came selects s (onto s.line (x ∷ [])) None in
            let not-here = here ∙ e in
            let none : [] ≡ selected_here selects s.arguments (determined_in selects s.arguments (s.core.taken - length s.line.items)) (s.core.taken - length s.line.items) out.0 = rw not-here refl in
            let now = IsSelect-fallen selects ok s x a.is dry a.running (onto s.line (x ∷ [])) out.0 None out.1 refl lined refl refl below none (λ y q. absurd (cc)) in
            let step : TookNext (selected_acts selects) s mid x = record {
              dry = dry;
              due = due-given selects s a.is a.running dry;
              not_ended = a.running;
              not_spent = rw a.empty some;
              took = Took-fallen selects ok s x a.is dry a.running (onto s.line (x ∷ [])) out.0 None out.1 refl none;
              held = held-select selects mid now;
            } in
            rw e (taken [] [] x s mid nothing step, now)

        -- and is given
        pub given-through : (g : Samples) → b ≡ true → plain g ≡ selects.made s.arguments (determined_in selects s.arguments (s.core.taken - length s.line.items)) (s.core.taken - length s.line.items) out.0 → IsSamples w32 s.line.channels g
            → PassedOn (selected_acts selects) Through s (later b s (x ∷ [])) x g × IsSelectedState selects (later b s (x ∷ []))
        given-through g e is-g g-samples =
            let now-here = here ∙ e in
            let made : plain g ∷ [] ≡ selected_here selects s.arguments (determined_in selects s.arguments (s.core.taken - length s.line.items)) (s.core.taken - length s.line.items) out.0 = rw now-here (ap (λ y. y ∷ []) is-g) in
            let count = g-samples.count in
            let lines = a.is.line in
            let some-channels = lines.some in
            let bound-channels = lines.bound in
            let whole : length g ≡ selects.channels s.arguments = count ∙ a.is.channels in
            let framed : IsFrame g = record { some = omega arith; bound = omega arith; fits = g-samples.fits } in
            let mid : SelectedState M = came selects s (onto s.line (x ∷ [])) (Some g) in
            let last : SelectedState M = record mid { core = record mid.core { pending = None; given = mid.core.given + 1 } } in
            let same : ◌≡◌ {A = SelectedState M} (later b s (x ∷ [])) last = rw (e, one) refl in
            let pending : IsPending (selects.channels s.arguments) (Some g) = λ y q. let w : g ≡ y = cc in (rw (← w) framed, rw (← w) whole) in
            let is-mid : IsSelectedState selects mid = IsSelect-fallen selects ok s x a.is dry a.running (onto s.line (x ∷ [])) out.0 (Some g) out.1 refl lined refl refl below made pending in
            let is-last = IsSelect-before selects mid g is-mid refl a.running in
            let step : TookNext (selected_acts selects) s mid x = record {
              dry = dry;
              due = due-given selects s a.is a.running dry;
              not_ended = a.running;
              not_spent = rw a.empty some;
              took = Took-fallen selects ok s x a.is dry a.running (onto s.line (x ∷ [])) out.0 (Some g) out.1 refl made;
              held = held-select selects mid is-mid;
            } in
            let gave : GaveNext (selected_acts selects) mid last g = record { gave = Gave-before selects mid g is-mid refl a.running; held = held-select selects last is-last } in
            rw same ((mid, step, gave, refl), is-last)

        full : (g : Samples) → b ≡ true → plain g ≡ selects.made s.arguments (determined_in selects s.arguments (s.core.taken - length s.line.items)) (s.core.taken - length s.line.items) out.0 → IsSamples w32 s.line.channels g → Next b s x (g ∷ [])
        full g e is-g g-samples =
            let passed-on = given-through g e is-g g-samples in
            (given (x ∷ []) [] g passed-on.0.0 (later b s (x ∷ [])) (taken [] [] x s passed-on.0.0 nothing passed-on.0.1) passed-on.0.2, passed-on.1)

      -- and the others find it so
      pub alike-next : IsSelectedState selects (later b s (x ∷ [])) → Alike b (later b s (x ∷ [])) n
      alike-next is-next =
          let w = within in
          let low = a.is.within in
          let long = onto-long s.line (x ∷ []) in
          let now : ℕ = length (onto s.line (x ∷ [])).items in
          record {
            is = is-next;
            empty = refl;
            running = a.running;
            gives = λ i h.
                let e : s.core.taken - length s.line.items + (gone s.line 1 + i) ≡ s.core.taken + 1 - now + i = omega arith in
                let k = a.gives (gone s.line 1 + i) (omega arith) in
                rw e at k;
            wanted = λ i h. let e : s.core.taken + (i + 1) ≡ s.core.taken + 1 + i = omega arith in let k = a.wanted (i + 1) (omega arith) in rw e at k;
            bound = let bound = a.bound in omega arith;
          }

    -- these are given for those that fall out
    abbrev Made : Bool → SelectedState M → List Samples → List Samples → Type 0
    Made b s xs gs = map plain gs ≡ cond b (made_along selects s.arguments (s.core.taken - length s.line.items) (out_of s.line xs)) []

    -- what frames lead to, where these are given
    abbrev Leads : Bool → List Samples → Type 0
    Leads b xs = (gs : List Samples) (s : SelectedState M) → Alike b s (length xs) → All (IsSamples w32 s.line.channels) xs → Made b s xs gs → All (IsSamples w32 s.line.channels) gs
        → Fed (selected_acts selects) s xs gs (later b s xs) × IsSelectedState selects (later b s xs)

    leads-none : (b : Bool) → Leads b []
    leads-none b gs s a samples made fit =
        let none = (onto-none s.line a.is.line.within).1 in
        let empty : gs ≡ [] = no-frames gs _ made (nothing-made b none) in
        rw (later-none b s a.is a.empty, empty) (nothing, a.is)
      where
        nothing-made : (c : Bool) → out_of s.line [] ≡ [] → cond c (made_along selects s.arguments (s.core.taken - length s.line.items) (out_of s.line [])) [] ≡ []
        nothing-made true e = ap (λ os. made_along selects s.arguments (s.core.taken - length s.line.items) os) e
        nothing-made false e = refl

    module _ (b : Bool) (x : Samples) (xs : List Samples) (rest : Leads b xs) (s : SelectedState M) (a : Alike b s (suc (length xs))) (samples : All (IsSamples w32 s.line.channels) (x ∷ xs)) where
      sample : IsSamples w32 s.line.channels x
      sample = All-head (IsSamples w32 s.line.channels) x xs samples

      others : All (IsSamples w32 s.line.channels) xs
      others = All-tail (IsSamples w32 s.line.channels) x xs samples

      more : out_of s.line (x ∷ []) ++ out_of (onto s.line (x ∷ [])) xs ≡ out_of s.line (x ∷ xs)
      more = out-more s.line x xs a.is.line.within

      -- the others after the first frame, for which these were given
      then : (fs hs : List Samples) → Next b s x fs → Made b (later b s (x ∷ [])) xs hs → All (IsSamples w32 s.line.channels) hs → Fed (selected_acts selects) s (x ∷ xs) (fs ++ hs) (later b s (x ∷ xs)) × IsSelectedState selects (later b s (x ∷ xs))
      then fs hs first made fit =
          let all = rest hs (later b s (x ∷ [])) (alike-next b s (length xs) x a sample first.1) others made fit in
          let last = later-more b s x xs a.is.line.within in
          rw (← last) (Fed-then (selected_acts selects) s (later b s (x ∷ [])) (later b (later b s (x ∷ [])) xs) (x ∷ []) fs xs hs first.0 all.0, all.1)

      free : (gs : List Samples) → length s.line.items < s.line.capacity → Made b s (x ∷ xs) gs → All (IsSamples w32 s.line.channels) gs → Fed (selected_acts selects) s (x ∷ xs) gs (later b s (x ∷ xs)) × IsSelectedState selects (later b s (x ∷ xs))
      free gs h made fit =
          let none = (out-free s.line x a.is.line.within h).1 in
          let low = a.is.within in
          let long = onto-long s.line (x ∷ []) in
          let place : s.core.taken - length s.line.items ≡ s.core.taken + 1 - length (onto s.line (x ∷ [])).items = omega arith in
          let outs : out_of s.line (x ∷ xs) ≡ out_of (onto s.line (x ∷ [])) xs = sym more ∙ ap (λ os. os ++ out_of (onto s.line (x ∷ [])) xs) none in
          let made' : Made b (later b s (x ∷ [])) xs gs =
          made ∙ ap (λ os. cond b (made_along selects s.arguments (s.core.taken - length s.line.items) os) []) outs ∙ ap (λ n. cond b (made_along selects s.arguments n (out_of (onto s.line (x ∷ [])) xs)) []) place in
          then [] gs (inside b s (length xs) x a sample h) made' fit

      falls : (gs : List Samples) → s.line.capacity ≤ length s.line.items → Made b s (x ∷ xs) gs → All (IsSamples w32 s.line.channels) gs → Fed (selected_acts selects) s (x ∷ xs) gs (later b s (x ∷ xs)) × IsSelectedState selects (later b s (x ∷ xs))
      falls gs h made fit = go b refl gs (made ∙ ap (λ os. cond b (made_along selects s.arguments (s.core.taken - length s.line.items) os) []) outs) fit
        where
          oldest : (o : Samples) × (Some o ≡ fallen s.line.capacity s.line.items x) × (out_of s.line (x ∷ []) ≡ o ∷ [])
          oldest = out b s (length xs) x a sample h

          outs : out_of s.line (x ∷ xs) ≡ oldest.0 ∷ out_of (onto s.line (x ∷ [])) xs
          outs = sym more ∙ ap (λ os. os ++ out_of (onto s.line (x ∷ [])) xs) oldest.2

          place : s.core.taken - length s.line.items + 1 ≡ s.core.taken + 1 - length (onto s.line (x ∷ [])).items
          place =
              let low = a.is.within in
              let w = a.is.line.within in
              let long = onto-long s.line (x ∷ []) in
              omega arith

          go : (c : Bool) → c ≡ b → (hs : List Samples) → map plain hs ≡ cond c (made_along selects s.arguments (s.core.taken - length s.line.items) (oldest.0 ∷ out_of (onto s.line (x ∷ [])) xs)) [] → All (IsSamples w32 s.line.channels) hs
              → Fed (selected_acts selects) s (x ∷ xs) hs (later b s (x ∷ xs)) × IsSelectedState selects (later b s (x ∷ xs))
          go false e hs m fit' =
              let empty : hs ≡ [] = no-frames hs [] m refl in
              then [] hs (left b s (length xs) x a sample h (sym e)) (rw (← e, empty) refl) fit'
          go true e [] m fit' = absurd (cc (m))
          go true e (g ∷ hs) m fit' =
              let first : plain g ≡ selects.made s.arguments (determined_in selects s.arguments (s.core.taken - length s.line.items)) (s.core.taken - length s.line.items) oldest.0 = cc (m) in
              let rest_unchanged : map plain hs ≡ made_along selects s.arguments (s.core.taken - length s.line.items + 1) (out_of (onto s.line (x ∷ [])) xs) = cc (m) in
              let made' : Made b (later b s (x ∷ [])) xs hs = rw (← e) (rest_unchanged ∙ ap (λ n. made_along selects s.arguments n (out_of (onto s.line (x ∷ [])) xs)) place) in
              then (g ∷ []) hs (full b s (length xs) x a sample h g (sym e) first (All-head (IsSamples w32 s.line.channels) g hs fit')) made' (All-tail (IsSamples w32 s.line.channels) g hs fit')

      leads-more : (gs : List Samples) → Made b s (x ∷ xs) gs → All (IsSamples w32 s.line.channels) gs → Fed (selected_acts selects) s (x ∷ xs) gs (later b s (x ∷ xs)) × IsSelectedState selects (later b s (x ∷ xs))
      leads-more gs made fit = go (cases_lt (length s.line.items) s.line.capacity)
        where
          go : (length s.line.items < s.line.capacity) ⊎ (s.line.capacity ≤ length s.line.items) → Fed (selected_acts selects) s (x ∷ xs) gs (later b s (x ∷ xs)) × IsSelectedState selects (later b s (x ∷ xs))
          go (inl l) = free gs l made fit
          go (inr g) = falls gs g made fit

    frame_run-fed : (b : Bool) (xs : List Samples) → Leads b xs
    frame_run-fed b [] = leads-none b
    frame_run-fed b (x ∷ xs) = λ gs s a samples made fit. leads-more b x xs (frame_run-fed b xs) s a samples gs made fit

    -- so many frames in front of the input came to the line, and those that fell out are given, or left out
    pub piece-passed : (b : Bool) (s : SelectedState M) (n k : ℕ) (line : Frames ℤ) (input fell made out : List ℤ) → Alike b s n → n * selects.channels s.arguments ≤ length input → k * selects.channels s.arguments ≤ length fell
        → let xs = pieces s.line.channels n (take (n * selects.channels s.arguments) input) in
        line.items ≡ pushed_all s.line xs → line.capacity ≡ s.line.capacity → line.channels ≡ s.line.channels → All (IsSamples w32 s.line.channels) xs
        → k ≡ cond b (gone s.line n) 0 → pieces s.line.channels k fell ≡ take k (s.line.items ++ xs)
        → map plain (pieces (selects.channels s.arguments) k made) ≡ made_along selects s.arguments (s.core.taken - length s.line.items) (pieces (selects.channels s.arguments) k (take (k * selects.channels s.arguments) fell))
        → All (FitsSigned w32) made → length made ≡ k * selects.channels s.arguments → pieces (selects.channels s.arguments) k out ≡ pieces (selects.channels s.arguments) k made
        → Fed (selected_acts selects) s (pieces (selects.channels s.arguments) n input) (pieces (selects.channels s.arguments) k out) (passed s line n k) × IsSelectedState selects (passed s line n k)
    piece-passed b s n k line input fell made out a free cut items capacity channels samples number is gave fits long put =
        let w : ℕ = selects.channels s.arguments in
        let same = a.is.channels in
        let xs : List Samples = pieces s.line.channels n (take (n * w) input) in
        let gs : List Samples = pieces w k made in
        let many : length xs ≡ n = length-pieces s.line.channels n (take (n * w) input) in
        let front : xs ≡ pieces w n input = ap (λ c. pieces c n (take (n * w) input)) same ∙ pieces-take w n input free in
        let out-is : pieces w k (take (k * w) fell) ≡ cond b (out_of s.line xs) [] =
        pieces-take w k fell cut ∙ ap (λ c. pieces c k fell) (sym same) ∙ is ∙ chosen b k xs number many in
        let all-made : map plain gs ≡ cond b (made_along selects s.arguments (s.core.taken - length s.line.items) (out_of s.line xs)) [] =
        gave ∙ ap (made_along selects s.arguments (s.core.taken - length s.line.items)) out-is ∙ inner b (out_of s.line xs) in
        let fit : All (IsSamples w32 s.line.channels) gs = rw same (frames-samples w32 w k made long fits) in
        let all = frame_run-fed b xs gs s (rw many a) samples all-made fit in
        let onto-is : line ≡ onto s.line xs = same-line line (onto s.line xs) items capacity channels in
        let empty : passed s line n k ≡ cleared s line (s.core.taken + n) (s.core.given + k) = rw (a.empty, a.is.core.no_pending_clips) refl in
        let last : passed s line n k ≡ later b s xs = empty ∙ same-state s line (onto s.line xs) (s.core.taken + n) (s.core.taken + length xs) (s.core.given + k) (cond b (s.core.given + gone s.line (length xs)) s.core.given) onto-is (ap (λ m. s.core.taken + m) (sym many)) (counts b k xs number many) in
        rw (put, ← front, last) all
      where
        chosen : (c : Bool) (k' : ℕ) (ys : List Samples) → k' ≡ cond c (gone s.line n) 0 → length ys ≡ n → take k' (s.line.items ++ ys) ≡ cond c (out_of s.line ys) []
        chosen true k' ys e m = rw (e, m) refl
        chosen false k' ys e m = rw e refl

        inner : (c : Bool) (os : List Samples) → made_along selects s.arguments (s.core.taken - length s.line.items) (cond c os []) ≡ cond c (made_along selects s.arguments (s.core.taken - length s.line.items) os) []
        inner true os = refl
        inner false os = refl

        counts : (c : Bool) (k' : ℕ) (ys : List Samples) → k' ≡ cond c (gone s.line n) 0 → length ys ≡ n → s.core.given + k' ≡ cond c (s.core.given + gone s.line (length ys)) s.core.given
        counts true k' ys e m = rw (e, m) refl
        counts false k' ys e m = rw e (add-zero s.core.given)

    -- each of so many frames was taken while the output had space for one more, where it has room for those that fall out
    pub took-with-free : (s : SelectedState M) (n free : ℕ) → IsSelectedState selects s → s.core.pending ≡ None → s.core.ended ≡ false → 0 < selects.channels s.arguments → selects.channels s.arguments ≤ free
        → n ≤ free / selects.channels s.arguments + (s.line.capacity - length s.line.items) → TookWithinSpace (selected_acts selects) s n free
    took-with-free s n free is empty running wide one fits =
        let w : ℕ = selects.channels s.arguments in
        let full = is.full running in
        let cap = is.capacity in
        let gave = due-given selects s is running (ap is_none empty) in
        let some : 1 ≤ free / w = le-div 1 free w wide (omega arith) in
        let whole : free / w - 1 + 1 ≡ free / w = omega arith in
        free-maximum (selected_acts selects) s n (free / w - 1) free (λ i bound. omega (arith, due-maximum selects ok s.arguments s.core.taken i, bound, fits, some, gave, full, cap)) (rw whole (div-mul-le_self free w))

-- the samples of frames that fell out of a line fit
pub fell-fit : (channels k : ℕ) (os : List Samples) (fell : List ℤ) → k * channels ≤ length fell → pieces channels k fell ≡ take k os → All (IsSamples w32 channels) os → All (FitsSigned w32) (take (k * channels) fell)
fell-fit channels k os fell free is samples =
    let front : pieces channels k (take (k * channels) fell) ≡ take k os = pieces-take channels k fell free ∙ is in
    let fit : All (All (FitsSigned w32)) (take k os) = λ i x h. (All-take (IsSamples w32 channels) k os samples i x h).fits in
    all-pieces (FitsSigned w32) channels k (take (k * channels) fell) (length-take-le (k * channels) fell free) (rw front fit)
