-- A stage that gives one frame for each that it takes.
use Rattle.std.proofs.Common.{ℕ, ◌+◌, ◌*◌, ◌<◌, ◌≤◌, ◌≡◌, true, false, List, [], ◌∷◌, ◌++◌, length, take, drop, refl, sym, ap, ◌∙◌, arith, add-one, ℤ}
use Rattle.std.proofs.Math.Nat.{suc-mul}
use Rattle.std.proofs.lemmas.List.{append_assoc, drop-drop, length-append, length-drop, length-take-le}
use Rattle.fx_frame_base.specs.declared.feed.Passing.{Passing}
use Rattle.fx_frame_base.specs.declared.feed.Passing.TheVariants.{Kept, Through, More}
use Rattle.fx_frame_base.specs.Feed.{IsOneToOne, PassedOn}
use Rattle.fx_frame_base.specs.Frame.{Samples}
use Rattle.fx_frame_base.specs.Lists.{pieces}
use Rattle.fx_frame_base.specs.Pipeline.{EachThrough}
use Rattle.fx_frame_base.specs.Stage.{Acts, Counts, IsDry, IsWet, kind}
use Rattle.fx_frame_base.proofs.Puts.{drop-put, pieces-more, pieces-put}

-- what was put in between
pub put-between : {X : Type 0} (at size : ℕ) (out frame out' : List X) → length frame ≡ size → out' ≡ take at out ++ (frame ++ drop size (drop at out)) → out' ≡ take at out ++ frame ++ drop (at + length frame) out
put-between at size out frame out' sides e =
    e ∙ ap (λ l. take at out ++ (frame ++ l)) (drop-drop size at out ∙ ap (λ n. drop (at + n) out) (sym sides)) ∙ sym (append_assoc (take at out) frame (drop (at + length frame) out))

pub put-long : {X : Type 0} (at size : ℕ) (out frame : List X) → length frame ≡ size → at + size ≤ length out → length (take at out ++ (frame ++ drop size (drop at out))) ≡ length out
put-long at size out frame sides free =
    omega (arith, sides, free, length-append (take at out) (frame ++ drop size (drop at out)), length-append frame (drop size (drop at out)), length-take-le at out (omega (arith, free)), length-drop size (drop at out), length-drop at out)

module _ {S R : Type 0} (acts : Acts S R) where
  -- one frame more
  pub EachThrough-more : (xs ys : List Samples) (x y : Samples) (s t u : S) → EachThrough acts xs ys s t → PassedOn acts Through t u x y → IsDry acts u → EachThrough acts (xs ++ x ∷ []) (ys ++ y ∷ []) s u
  EachThrough-more [] [] x y s t u same passed dry = (u, rw same at passed, dry, refl)
  EachThrough-more (w ∷ xs) (v ∷ ys) x y s t u each passed dry = (each.0, each.1, each.2, EachThrough-more xs ys x y each.0 t u each.3 passed dry)
  EachThrough-more [] (v ∷ ys) x y s t u each passed dry = absurd each
  EachThrough-more (w ∷ xs) [] x y s t u each passed dry = absurd each

  module _ (first : S) (count : ℕ) (start : List ℤ) where
    -- how far it is
    pub record Evenly (s : S) (out : List ℤ) (n : ℕ) : Type 0 where
      pub each : EachThrough acts (pieces (kind acts first).inputs n start) (pieces (kind acts first).inputs n out) first s
      pub recipe : acts.recipe s ≡ acts.recipe first
      pub came : (acts.counts s).taken ≡ (acts.counts first).taken + n
      pub open_ : (acts.counts s).ended ≡ false
      pub dry : acts.dry s ≡ true
      pub determined : IsDry acts s
      pub rest_unchanged : drop (n * (kind acts first).inputs) out ≡ drop (n * (kind acts first).inputs) start
      pub long : length out ≡ length start

    pub Evenly-none : (acts.counts first).ended ≡ false → acts.dry first ≡ true → IsDry acts first → Evenly first start 0
    Evenly-none open_ dry determined = record { each = refl; recipe = refl; came = omega arith; open_ = open_; dry = dry; determined = determined; rest_unchanged = refl; long = refl }

    module _ (one_to_one : IsOneToOne acts count first) where
      -- one more is due for one more
      due-next : (s t : S) (out : List ℤ) (n : ℕ) → Evenly s out n → n < count → acts.recipe t ≡ acts.recipe s → (acts.counts t).taken ≡ (acts.counts s).taken + 1 → (kind acts t).due (acts.counts t).taken ≡ (acts.counts s).given + 1
      due-next s t out n evenly more stays count-is =
          let now : (acts.counts s).given ≡ (kind acts s).due (acts.counts s).taken = evenly.determined.due evenly.open_ in
          let here : (kind acts s).due (acts.counts s).taken ≡ (kind acts first).due (acts.counts first).taken + n =
          ap (λ (r : R). (acts.kind_of r).due (acts.counts s).taken) evenly.recipe ∙ ap (kind acts first).due evenly.came ∙ one_to_one n (omega (arith, more)) in
          let place : (acts.counts t).taken ≡ (acts.counts first).taken + (n + 1) = omega (arith, count-is, evenly.came) in
          let there : (kind acts t).due (acts.counts t).taken ≡ (kind acts first).due (acts.counts first).taken + (n + 1) =
          ap (λ (r : R). (acts.kind_of r).due (acts.counts t).taken) (stays ∙ evenly.recipe) ∙ ap (kind acts first).due place ∙ one_to_one (n + 1) (omega (arith, more)) in
          omega (arith, now, here, there)

      pub Evenly-next : (r : Passing) (s s' : S) (x y : Samples) (out out' : List ℤ) (n : ℕ) → Evenly s out n → n < count → PassedOn acts r s s' x y → (acts.dry s' ≡ true → IsDry acts s') → (acts.dry s' ≡ false → IsWet acts s')
          → x ≡ take (kind acts first).inputs (drop (n * (kind acts first).inputs) out) → length y ≡ (kind acts first).inputs → n * (kind acts first).inputs + (kind acts first).inputs ≤ length out
          → out' ≡ take (n * (kind acts first).inputs) out ++ y ++ drop (n * (kind acts first).inputs + length y) out → length out' ≡ length out → Evenly s' out' (n + 1)
      Evenly-next Kept s s' x y out out' n evenly more passed determined wet is sides free put long =
          let took = passed.0.took in
          let counted = took.counted in
          let due = due-next s s' out n evenly more took.recipe_stays (ap (λ (c : Counts). c.taken) counted) in
          let going : (acts.counts s').ended ≡ false = ap (λ (c : Counts). c.ended) counted ∙ evenly.open_ in
          let now = determined passed.1 in
          absurd (omega (arith, now.due going, due, ap (λ (c : Counts). c.given) counted))
      Evenly-next More s s' x y out out' n evenly more passed determined wet is sides free put long =
          let took = passed.1.took in
          let gave = passed.2.gave.gives.counted in
          let counted = took.counted in
          let due = due-next s s' out n evenly more (passed.2.gave.recipe_stays ∙ took.recipe_stays) (ap (λ (c : Counts). c.taken) gave ∙ ap (λ (c : Counts). c.taken) counted) in
          let going : (acts.counts s').ended ≡ false = ap (λ (c : Counts). c.ended) gave ∙ ap (λ (c : Counts). c.ended) counted ∙ evenly.open_ in
          let now = wet passed.3 in
          absurd (omega (arith, now.due going, due, ap (λ (c : Counts). c.given) gave, ap (λ (c : Counts). c.given) counted))
      Evenly-next Through s s' x y out out' n evenly more passed determined wet is sides free put long =
          let ch : ℕ = (kind acts first).inputs in
          let took = passed.1.took in
          let gave = passed.2.gave.gives.counted in
          let counted = took.counted in
          let read : x ≡ take ch (drop (n * ch) start) = is ∙ ap (take ch) evenly.rest_unchanged in
          record {
            each = rw (pieces-more ch n (n * ch) start refl, ← read, pieces-put ch n (n * ch) out y out' refl sides free put) (EachThrough-more _ _ x y first s s' evenly.each passed (determined passed.3));
            recipe = passed.2.gave.recipe_stays ∙ took.recipe_stays ∙ evenly.recipe;
            came = omega (arith, ap (λ (c : Counts). c.taken) gave, ap (λ (c : Counts). c.taken) counted, evenly.came);
            open_ = ap (λ (c : Counts). c.ended) gave ∙ ap (λ (c : Counts). c.ended) counted ∙ evenly.open_;
            dry = passed.3;
            determined = determined passed.3;
            rest_unchanged = rw (next-place n ch) (drop-put (n * ch) ch start out y out' sides free put evenly.rest_unchanged);
            long = long ∙ evenly.long;
          }
        where
          next-place : (m size : ℕ) → (m + 1) * size ≡ m * size + size
          next-place m size = rw add-one (omega (arith, suc-mul m size))
