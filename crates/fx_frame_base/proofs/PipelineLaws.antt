-- Frames that went through stages in sequence.
use Rattle.std.proofs.Common.{ℕ, suc, ◌+◌, ◌≤◌, ◌≡◌, ◌∙◌, List, [], ◌∷◌, length, refl, ap, subst, arith}
use Rattle.fx_frame_base.specs.declared.feed.Passing.TheVariants.{Through}
use Rattle.fx_frame_base.specs.Frame.{Samples}
use Rattle.fx_frame_base.specs.Early.{PassedWhile}
use Rattle.fx_frame_base.specs.Feed.{PassedOn}
use Rattle.fx_frame_base.specs.Pipeline.{EachThrough, PipelineThrough}
use Rattle.fx_frame_base.specs.Stage.{Acts, Counts, IsDry, kind}
use Rattle.fx_frame_base.proofs.FedLaws.{PassedOn-along}

module _ {S R : Type 0} (acts : Acts S R) where
  -- none went through
  pub PipelineThrough-none : (stages : List S) → PipelineThrough acts [] [] stages stages
  PipelineThrough-none [] = refl
  PipelineThrough-none (s ∷ stages) = ([], refl, PipelineThrough-none stages)

  -- what went through stages while one before them held frames went through them
  pub PassedWhile-through : (passed_while : List Samples → List Samples → List Samples → S → S → Type 0) (held xs ys : List Samples) (old new : List S) → PassedWhile acts passed_while held xs ys old new → PipelineThrough acts xs ys old new
  PassedWhile-through passed_while held xs ys [] [] went = went
  PassedWhile-through passed_while held xs ys (s ∷ stages) (s' ∷ stages') went = (went.0, went.1, PassedWhile-through passed_while held went.0 ys stages stages' went.3)
  PassedWhile-through passed_while held xs ys [] (s' ∷ stages') went = absurd went
  PassedWhile-through passed_while held xs ys (s ∷ stages) [] went = absurd went

  -- it gave one for each
  pub EachThrough-long : (xs ys : List Samples) (s t : S) → EachThrough acts xs ys s t → length ys ≡ length xs
  EachThrough-long [] [] s t each = refl
  EachThrough-long (x ∷ xs) (y ∷ ys) s t each = ap suc (EachThrough-long xs ys each.0 t each.3)
  EachThrough-long [] (y ∷ ys) s t each = absurd each
  EachThrough-long (x ∷ xs) [] s t each = absurd each

  -- what one frame that was taken and given changes in what is counted
  pub one-through : (x y : Samples) (s next : S) → PassedOn acts Through s next x y → ((acts.counts next).given ≡ (acts.counts s).given + 1) × ((acts.counts next).taken ≡ (acts.counts s).taken + 1) × (acts.recipe next ≡ acts.recipe s) × ((acts.counts next).given ≤ (kind acts s).maximum ((acts.counts s).taken + 1))
  one-through x y s next passed =
      let took = passed.1.took.counted in
      let gave = passed.2.gave.gives.counted in
      let one : (acts.counts next).given ≡ (acts.counts s).given + 1 = ap (λ (n : Counts). n.given) gave ∙ ap (λ (n : Counts). n.given + 1) took in
      let count : (acts.counts next).taken ≡ (acts.counts s).taken + 1 = ap (λ (n : Counts). n.taken) gave ∙ ap (λ (n : Counts). n.taken) took in
      let maximum : (acts.counts next).given ≤ (kind acts s).maximum ((acts.counts s).taken + 1) = rw count at (subst (λ (r : R). (acts.counts next).given ≤ (acts.kind_of r).maximum (acts.counts next).taken) passed.1.took.recipe_stays passed.2.gave.maximum) in
      (one, count, passed.2.gave.recipe_stays ∙ passed.1.took.recipe_stays, maximum)

  -- a stage that gave one frame for each has given no more than it may
  each-maximum : (x : Samples) (xs ys : List Samples) (s s' : S) → EachThrough acts (x ∷ xs) ys s s' → ((acts.counts s').given ≡ (acts.counts s).given + suc (length xs)) × ((acts.counts s').given ≤ (kind acts s).maximum ((acts.counts s).taken + suc (length xs)))
  each-maximum x xs [] s s' each = absurd each
  each-maximum x [] (y ∷ []) s s' each = let one = one-through x y s each.0 each.1 in rw each.3 (one.0, one.3)
  each-maximum x [] (y ∷ z ∷ ys) s s' each = absurd each.3
  each-maximum x (z ∷ xs) (y ∷ ys) s s' each =
      let one = one-through x y s each.0 each.1 in
      let rest = each-maximum z xs ys each.0 s' each.3 in
      let total : (acts.counts s).taken + suc (suc (length xs)) ≡ (acts.counts each.0).taken + suc (length xs) = omega (arith, one.1) in
      (omega (arith, rest.0, one.0), rw total (subst (λ (r : R). (acts.counts s').given ≤ (acts.kind_of r).maximum ((acts.counts each.0).taken + suc (length xs))) one.2 rest.1))

  module _ (rises : (r : R) (m n : ℕ) → m ≤ n → (acts.kind_of r).maximum m ≤ (acts.kind_of r).maximum n) where
    -- a stage that gave one for each of at most `maximum` frames gave no more than its maximum for so many
    pub each-fewer : (xs ys : List Samples) (s s' : S) (taken maximum : ℕ) → EachThrough acts xs ys s s' → 1 ≤ length xs → (acts.counts s).taken ≡ taken → taken + length xs ≤ maximum → (acts.counts s).given + length xs ≤ (kind acts s).maximum maximum
    each-fewer [] ys s s' taken maximum each some e h = absurd (omega arith)
    each-fewer (x ∷ xs) ys s s' taken maximum each some e h =
        let all = each-maximum x xs ys s s' each in
        let up : (kind acts s).maximum ((acts.counts s).taken + suc (length xs)) ≤ (kind acts s).maximum maximum = rises (acts.recipe s) _ maximum (omega (arith, e, h)) in
        omega (arith, all.0, all.1, up)

-- Frames that went through a stage which is one of several kinds went through the stage that it is.
module _ {S R T Q : Type 0} (acts : Acts S R) (whole : Acts T Q) (wrap : S → T) (name : R → Q) (recipes : (s : S) → whole.recipe (wrap s) ≡ name (acts.recipe s)) (kinds : (r : R) → whole.kind_of (name r) ≡ acts.kind_of r) (rests : (s : S) → whole.rest (wrap s) ≡ acts.rest s) (counts : (s : S) → whole.counts (wrap s) ≡ acts.counts s) (dry : (s : S) → whole.dry (wrap s) ≡ acts.dry s) (stored : (s : S) → whole.stored (wrap s) ≡ acts.stored s) where
  is-dry-along : (s : S) → IsDry acts s → IsDry whole (wrap s)
  is-dry-along s h =
      let kind-along : kind whole (wrap s) ≡ kind acts s = ap whole.kind_of (recipes s) ∙ kinds (acts.recipe s) in
      record {
        due = rw (counts s, kind-along) h.due;
        over = rw (counts s, rests s) h.over;
      }

  pub EachThrough-along : (xs ys : List Samples) (s s' : S) → EachThrough acts xs ys s s' → EachThrough whole xs ys (wrap s) (wrap s')
  EachThrough-along [] [] s s' same = ap wrap same
  EachThrough-along (x ∷ xs) (y ∷ ys) s s' went =
      (wrap went.0, PassedOn-along acts whole wrap name recipes kinds rests counts dry stored Through s went.0 x y went.1, is-dry-along went.0 went.2, EachThrough-along xs ys went.0 s' went.3)
  EachThrough-along [] (y ∷ ys) s s' went = absurd went
  EachThrough-along (x ∷ xs) [] s s' went = absurd went
