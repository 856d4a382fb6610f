-- What follows where a stage was fed.
use Rattle.std.proofs.Common.{◌≡◌, ◌+◌, ℕ, List, [], ◌∷◌, ◌++◌, length, map, refl, sym, ap, ◌∙◌, arith, length-append, append_assoc, append-nil}
use Rattle.std.proofs.lemmas.List.{map-append}
use Rattle.fx_frame_base.specs.declared.feed.Passing.{Passing}
use Rattle.fx_frame_base.specs.declared.feed.Passing.TheVariants.{Kept, Through, More}
use Rattle.fx_frame_base.specs.Feed.{Fed, GaveNext, IsHeld, PassedOn, TookNext, nothing, taken, given}
use Rattle.fx_frame_base.specs.Frame.{Samples}
use Rattle.fx_frame_base.specs.Holds.{total}
use Rattle.fx_frame_base.specs.Pipeline.{EachThrough}
use Rattle.fx_frame_base.specs.Stage.{Acts, Counts, Given, after_taking, kind}

pub total-append : {X : Type 0} (f : X → ℕ) (xs ys : List X) → total f (xs ++ ys) ≡ total f xs + total f ys
total-append f [] ys = omega arith
total-append f (x ∷ xs) ys = omega (arith, total-append f xs ys)

module _ {S R : Type 0} (acts : Acts S R) where
  -- what follows where a stage was fed: what was to be given is what was given and what is still to be given, clips included
  pub record GaveAll (first : S) (xs gs : List Samples) (s : S) : Type 0 where
    pub whole : List Given
    pub frames : map (λ (g : Given). g.samples) whole ≡ gs
    pub rest : (z : List Samples) → acts.rest first (xs ++ z) ≡ whole ++ acts.rest s z
    pub taken : (acts.counts s).taken ≡ (acts.counts first).taken + length xs
    pub given : (acts.counts s).given ≡ (acts.counts first).given + length gs
    pub clips : (acts.counts s).clips ≡ (acts.counts first).clips + total (λ (g : Given). g.clips) whole
    pub ended : (acts.counts s).ended ≡ (acts.counts first).ended
    pub recipe_stays : acts.recipe s ≡ acts.recipe first

module _ {S R : Type 0} (acts : Acts S R) where
  all-took : (first s s' : S) (xs gs : List Samples) (x : Samples) → GaveAll acts first xs gs s → TookNext acts s s' x → GaveAll acts first (xs ++ x ∷ []) gs s'
  all-took first s s' xs gs x all took =
      let counted = took.took.counted in
      record {
        whole = all.whole;
        frames = all.frames;
        rest = λ z. ap (acts.rest first) (append_assoc xs (x ∷ []) z) ∙ all.rest (x ∷ z) ∙ ap (λ w. all.whole ++ w) (sym (took.took.rest z));
        taken = omega (arith, ap (λ (n : Counts). n.taken) counted, all.taken, length-append xs (x ∷ []));
        given = ap (λ (n : Counts). n.given) counted ∙ all.given;
        clips = ap (λ (n : Counts). n.clips) counted ∙ all.clips;
        ended = ap (λ (n : Counts). n.ended) counted ∙ all.ended;
        recipe_stays = took.took.recipe_stays ∙ all.recipe_stays;
      }

  all-gave : (first s s' : S) (xs gs : List Samples) (g : Samples) → GaveAll acts first xs gs s → GaveNext acts s s' g → GaveAll acts first xs (gs ++ g ∷ []) s'
  all-gave first s s' xs gs g all gave =
      let gives = gave.gave.gives in
      let one : Given = record { samples = g; clips = gives.clips } in
      record {
        whole = all.whole ++ one ∷ [];
        frames = map-append (λ (w : Given). w.samples) all.whole (one ∷ []) ∙ ap (λ w. w ++ g ∷ []) all.frames;
        rest = λ z. all.rest z ∙ ap (λ w. all.whole ++ w) (gives.first z) ∙ sym (append_assoc all.whole (one ∷ []) (acts.rest s' z));
        taken = ap (λ (n : Counts). n.taken) gives.counted ∙ all.taken;
        given = omega (arith, ap (λ (n : Counts). n.given) gives.counted, all.given, length-append gs (g ∷ []));
        clips = omega (arith, ap (λ (n : Counts). n.clips) gives.counted, all.clips, total-append (λ (w : Given). w.clips) all.whole (one ∷ []));
        ended = ap (λ (n : Counts). n.ended) gives.counted ∙ all.ended;
        recipe_stays = gave.gave.recipe_stays ∙ all.recipe_stays;
      }

  -- the call did what `take` and `give` one by one would have done
  pub Fed-gives : (first s : S) (xs gs : List Samples) → Fed acts first xs gs s → GaveAll acts first xs gs s
  Fed-gives first s xs gs nothing = record { whole = []; frames = refl; rest = λ z. refl; taken = omega arith; given = omega arith; clips = omega arith; ended = refl; recipe_stays = refl }
  Fed-gives first s xs gs (taken ys hs x t t' fed took) = all-took first t t' ys hs x (Fed-gives first t ys hs fed) took
  Fed-gives first s xs gs (given ys hs g t t' fed gave) = all-gave first t t' ys hs g (Fed-gives first t ys hs fed) gave

  -- one run after another
  pub Fed-then : (first s t : S) (xs gs ys hs : List Samples) → Fed acts first xs gs s → Fed acts s ys hs t → Fed acts first (xs ++ ys) (gs ++ hs) t
  Fed-then first s t xs gs ys hs fed nothing = rw (append-nil, append-nil) fed
  Fed-then first s t xs gs ys hs fed (taken vs ws x u u' more took) = rw (← append_assoc) (taken _ _ x u u' (Fed-then first s u xs gs vs ws fed more) took)
  Fed-then first s t xs gs ys hs fed (given vs ws g u u' more gave) = rw (← append_assoc) (given _ _ g u u' (Fed-then first s u xs gs vs ws fed more) gave)

  -- frames of which each is given before the next is taken
  pub Fed-through : (xs ys : List Samples) (s s' : S) → EachThrough acts xs ys s s' → Fed acts s xs ys s'
  Fed-through [] [] s s' each = rw each nothing
  Fed-through (x ∷ xs) (y ∷ ys) s s' each =
      let passed = each.1 in
      let one : Fed acts s (x ∷ []) (y ∷ []) each.0 = given (x ∷ []) [] y passed.0 each.0 (taken [] [] x s passed.0 nothing passed.1) passed.2 in
      Fed-then s each.0 s' (x ∷ []) (y ∷ []) xs ys one (Fed-through xs ys each.0 s' each.3)
  Fed-through [] (y ∷ ys) s s' each = absurd each
  Fed-through (x ∷ xs) [] s s' each = absurd each

-- A stage that is one of several kinds is fed as the stage that it is.
module _ {S R T Q : Type 0} (acts : Acts S R) (whole : Acts T Q) (wrap : S → T) (name : R → Q) (recipes : (s : S) → whole.recipe (wrap s) ≡ name (acts.recipe s)) (kinds : (r : R) → whole.kind_of (name r) ≡ acts.kind_of r) (rests : (s : S) → whole.rest (wrap s) ≡ acts.rest s) (counts : (s : S) → whole.counts (wrap s) ≡ acts.counts s) (dry : (s : S) → whole.dry (wrap s) ≡ acts.dry s) (stored : (s : S) → whole.stored (wrap s) ≡ acts.stored s) where
  kind-along : (s : S) → kind whole (wrap s) ≡ kind acts s
  kind-along s = ap whole.kind_of (recipes s) ∙ kinds (acts.recipe s)

  held-along : (s : S) → IsHeld acts s → IsHeld whole (wrap s)
  held-along s h = rw (stored s, kind-along s) h

  took-along : (s s' : S) (x : Samples) → TookNext acts s s' x → TookNext whole (wrap s) (wrap s') x
  took-along s s' x t =
      record {
        dry = dry s ∙ t.dry;
        due = rw (counts s, kind-along s) t.due;
        not_ended = ap (λ (n : Counts). n.ended) (counts s) ∙ t.not_ended;
        not_spent = rw (dry s, counts s, kind-along s) t.not_spent;
        took = record {
          rest = λ z. rw (rests s', rests s) (t.took.rest z);
          counted = counts s' ∙ t.took.counted ∙ ap after_taking (sym (counts s));
          recipe_stays = recipes s' ∙ ap name t.took.recipe_stays ∙ sym (recipes s);
        };
        held = held-along s' t.held;
      }

  gave-along : (s s' : S) (g : Samples) → GaveNext acts s s' g → GaveNext whole (wrap s) (wrap s') g
  gave-along s s' g t =
      record {
        gave = record {
          was_wet = dry s ∙ t.gave.was_wet;
          gives = rw (rests s, rests s', counts s, counts s') t.gave.gives;
          channels = rw (kind-along s) t.gave.channels;
          due = rw (counts s, counts s', kind-along s) t.gave.due;
          maximum = rw (counts s', kind-along s) t.gave.maximum;
          recipe_stays = recipes s' ∙ ap name t.gave.recipe_stays ∙ sym (recipes s);
        };
        held = held-along s' t.held;
      }

  pub PassedOn-along : (r : Passing) (s s' : S) (x y : Samples) → PassedOn acts r s s' x y → PassedOn whole r (wrap s) (wrap s') x y
  PassedOn-along Kept s s' x y p = (took-along s s' x p.0, dry s' ∙ p.1)
  PassedOn-along Through s s' x y p = (wrap p.0, took-along s p.0 x p.1, gave-along p.0 s' y p.2, dry s' ∙ p.3)
  PassedOn-along More s s' x y p = (wrap p.0, took-along s p.0 x p.1, gave-along p.0 s' y p.2, dry s' ∙ p.3)

  pub Fed-along : (first s : S) (xs gs : List Samples) → Fed acts first xs gs s → Fed whole (wrap first) xs gs (wrap s)
  Fed-along first s xs gs nothing = nothing
  Fed-along first s xs gs (taken ys hs x t t' fed took) = taken ys hs x (wrap t) (wrap t') (Fed-along first t ys hs fed) (took-along t t' x took)
  Fed-along first s xs gs (given ys hs g t t' fed gave) = given ys hs g (wrap t) (wrap t') (Fed-along first t ys hs fed) (gave-along t t' g gave)

-- A stage that was dry and was fed one frame, with room for one: it took the frame, and gave one or none.
module _ {S R : Type 0} (acts : Acts S R) (first : S) where
  -- nothing was taken and nothing given
  pub Fed-none : (xs gs : List Samples) (s : S) → Fed acts first xs gs s → length xs ≡ 0 → length gs ≡ 0 → s ≡ first
  Fed-none xs gs s nothing e n = refl
  Fed-none xs gs s (taken ys hs x t t' fed took) e n = absurd (omega (arith, length-append ys (x ∷ []), e))
  Fed-none xs gs s (given ys hs g t t' fed gave) e n = absurd (omega (arith, length-append hs (g ∷ []), n))
