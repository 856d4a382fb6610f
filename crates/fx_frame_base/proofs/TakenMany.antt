-- A stage that was fed frames for which none is due.
use Rattle.std.proofs.Common.{ℕ, ◌+◌, ◌*◌, ◌<◌, ◌≤◌, ◌≡◌, false, List, [], ◌∷◌, ◌++◌, length, refl, sym, ap, ◌∙◌, arith, length-append, inl, inr, add-one, subst, ℤ}
use Rattle.std.proofs.Math.Bool.{and-false}
use Rattle.std.proofs.Math.Nat.{eq-or-lt_of_le, le_of_mul-le-mul_right, lt_of_mul-lt-mul_right, suc-mul}
use Rattle.fx_frame_base.specs.Feed.{Fed, IsNoneDue, TookAll, TookNext, nothing, taken, given}
use Rattle.fx_frame_base.specs.Frame.{Samples}
use Rattle.fx_frame_base.specs.Lists.{pieces}
use Rattle.fx_frame_base.specs.Stage.{Acts, Counts, is_enough, kind, spent}
use Rattle.fx_frame_base.proofs.FedLaws.{Fed-gives}
use Rattle.fx_frame_base.proofs.Pieces.{length-pieces}

module _ {S R : Type 0} (acts : Acts S R) where
  -- one more frame was taken
  TookAll-then : (xs : List Samples) (x : Samples) (s t t' : S) → TookAll acts xs s t → TookNext acts t t' x → TookAll acts (xs ++ x ∷ []) s t'
  TookAll-then [] x s t t' all took = (t', subst (λ (u : S). TookNext acts u t' x) all took, refl)
  TookAll-then (y ∷ xs) x s t t' all took = (all.0, all.1, TookAll-then xs x all.0 t t' all.2 took)

  -- none was given, since none was due
  pub Fed-none-due : (first s : S) (xs gs : List Samples) → Fed acts first xs gs s → (acts.counts first).ended ≡ false → (acts.counts first).given ≡ (kind acts first).due (acts.counts first).taken
      → ((n : ℕ) → n ≤ length xs → (kind acts first).due ((acts.counts first).taken + n) ≡ (kind acts first).due (acts.counts first).taken)
      → (gs ≡ []) × TookAll acts xs first s
  Fed-none-due first s xs gs nothing open_ due none = (refl, refl)
  Fed-none-due first s xs gs (taken ys hs x t t' fed took) open_ due none =
      let before = Fed-none-due first t ys hs fed open_ due (λ n bound. none n (omega (arith, bound, length-append ys (x ∷ [])))) in
      (before.0, TookAll-then ys x first t t' before.1 took)
  Fed-none-due first s xs gs (given ys hs g t t' fed gave) open_ due none =
      let before = Fed-none-due first t ys hs fed open_ due none in
      let all = Fed-gives acts first t ys hs fed in
      let same : kind acts t ≡ kind acts first = ap acts.kind_of all.recipe_stays in
      let counted = gave.gave.gives.counted in
      let late = gave.gave.due (all.ended ∙ open_) in
      let at : (acts.counts t').taken ≡ (acts.counts first).taken + length ys = ap (λ (n : Counts). n.taken) counted ∙ all.taken in
      let given_there : (acts.counts t').given ≡ (acts.counts t).given + 1 = ap (λ (n : Counts). n.given) counted in
      let empty : length hs ≡ 0 = ap length before.0 in
      let stays = none (length ys) (omega arith) in
      absurd (omega (arith, rw (at, same) at late, given_there, all.given, empty, stays, due))

  -- what a stage was fed, with space for one frame, where none is due for as many frames as came
  pub record FedNoneDue (first s : S) (count n m : ℕ) (input output : List ℤ) : Type 0 where
    pub fed : Fed acts first (pieces (kind acts first).inputs n input) (pieces (kind acts first).outputs m output) s
    pub open_ : (acts.counts first).ended ≡ false
    pub due : (acts.counts first).given ≡ (kind acts first).due (acts.counts first).taken
    pub none : IsNoneDue acts count first
    pub ahead : (i : ℕ) → i < count → is_enough (kind acts first).enough ((acts.counts first).taken + i) ≡ false
    pub some : 1 ≤ (kind acts first).inputs
    pub came : length input ≡ count * (kind acts first).inputs
    pub read : n * (kind acts first).inputs ≤ length input
    pub used : m ≡ 0 → (acts.counts s).ended ≡ false → spent acts s ≡ false → length input < n * (kind acts first).inputs + (kind acts first).inputs

  -- nothing was given, and all frames that came were taken
  pub FedNoneDue-all : (first s : S) (count n m : ℕ) (input output : List ℤ) → FedNoneDue first s count n m input output → (m ≡ 0) × (n ≡ count) × TookAll acts (pieces (kind acts first).inputs count input) first s
  FedNoneDue-all first s count n m input output f =
      let size = (kind acts first).inputs in
      let long = length-pieces size n input in
      let fits : n * size ≤ count * size = omega (arith, f.read, f.came) in
      let within : n ≤ count = le_of_mul-le-mul_right fits f.some in
      let took = Fed-none-due first s _ _ f.fed f.open_ f.due (λ i bound. f.none i (omega (arith, bound, long, within))) in
      let empty : m ≡ 0 = sym (length-pieces (kind acts first).outputs m output) ∙ ap length took.0 in
      let all = Fed-gives acts first s _ _ f.fed in
      let same : kind acts s ≡ kind acts first = ap acts.kind_of all.recipe_stays in
      let at : (acts.counts s).taken ≡ (acts.counts first).taken + n = omega (arith, all.taken, long) in
      elim (eq-or-lt_of_le within) [
        | inl e ↦ (empty, e, rw e at took.1)
        | inr less ↦
            let unspent : spent acts s ≡ false = rw (same, at, f.ahead n less) (and-false (acts.dry s)) in
            let used = f.used empty (all.ended ∙ f.open_) unspent in
            let next : (n + 1) * size ≡ n * size + size = rw add-one (suc-mul n size) in
            let beyond : count * size < (n + 1) * size = omega (arith, used, next, f.came) in
            let over : count < n + 1 = lt_of_mul-lt-mul_right size beyond in
            absurd (omega (arith, over, less))
      ]
