-- A piece that a stage passed at once, and the frames after it.
use Rattle.std.proofs.Common.{◌≡◌, ◌≢◌, ◌<◌, ◌+◌, ◌-◌, ◌*◌, ◌/◌, ◌≤◌, ℕ, zero, suc, true, false, List, [], ◌∷◌, ◌++◌, length, take, drop, refl, sym, ap, ◌∙◌, arith, append_assoc, length-append, length-drop, subst, ℤ}
use Rattle.std.specs.List.{All}
use Rattle.std.proofs.lemmas.List.Elements.{All-append, All-head, All-nil, All-tail}
use Rattle.std.proofs.lemmas.List.{drop-drop, drop_at, length-take, length-take-le, nil_from_length, take-take, take-append-drop}
use Rattle.std.proofs.Math.Nat.{add-mul, div-mul-le_self, mul-le-mul_right, suc-mul, mul-le-mul_left, le_of_mul-le-mul_right}
use Rattle.fx_frame_base.specs.Feed.{Fed, TookWithinSpace}
use Rattle.fx_frame_base.specs.Lists.{pieces}
use Rattle.fx_frame_base.specs.Stage.{Acts, kind, spent}
use Rattle.fx_frame_base.proofs.FedLaws.{Fed-gives}
use Rattle.fx_frame_base.proofs.FeedParts.{Fed-rest_unchanged}
use Rattle.fx_frame_base.proofs.Capacities.{free-then}
use Rattle.fx_frame_base.proofs.Puts.{part-from, pieces-same, put-from}
use Rattle.fx_frame_base.proofs.Pieces.{length-pieces}
use borrow.Rule.Slice.PartMut.{put_mid}

module _ {X : Type 0} where
  -- the part of a slice from a place on
  abbrev pub part : (a : ℕ) (xs : List X) → List X
  part a xs = take (length xs - a) (drop a xs)

-- the first frame, and those after it
pub first-piece : {X : Type 0} (size n : ℕ) (xs : List X) → 1 ≤ n → pieces size n xs ≡ take size xs ∷ pieces size (n - 1) (drop size xs)
first-piece size zero xs h = absurd (omega arith)
first-piece size (suc n) xs h = let e : suc n - 1 ≡ n = omega arith in rw e refl

-- a slice after a frame was written at a place
pub put-piece : {X : Type 0} (at size : ℕ) (out f : List X) → length f ≡ size → put_mid at (at + size - at) out f ≡ take at out ++ f ++ drop (at + length f) out
put-piece at size out f long =
    let many : at + size - at ≡ length f = omega (arith, long) in
    ap (λ n. take at out ++ (f ++ drop n (drop at out))) many ∙ ap (λ l. take at out ++ (f ++ l)) (drop-drop (length f) at out) ∙ sym (append_assoc (take at out) f (drop (at + length f) out))

-- what holds of every element of whole frames holds of every sample
pub all-pieces : {X : Type 0} (P : X → Type 0) (size n : ℕ) (xs : List X) → length xs ≡ n * size → All (All P) (pieces size n xs) → All P xs
all-pieces {X} P size zero xs e all = let none : xs ≡ [] = nil_from_length xs (omega (arith, e)) in rw none (All-nil P)
all-pieces {X} P size (suc n) xs e all =
    let first = All-head (All P) (take size xs) (pieces size n (drop size xs)) all in
    let rest = all-pieces P size n (drop size xs) (omega (arith, e, suc-mul n size, length-drop size xs)) (All-tail (All P) (take size xs) (pieces size n (drop size xs)) all) in
    subst (All P) (take-append-drop size xs) (All-append P (take size xs) (drop size xs) first rest)

-- frames of at least one sample are no more than the samples
pub bound-frames : (n w len : ℕ) → 1 ≤ w → n * w ≤ len → n ≤ len
bound-frames n w len h k = let m : n * 1 ≤ n * w = mul-le-mul_left n h in omega arith

-- no more frames than there are
pub frames-free : (n w len : ℕ) → n ≤ len / w → n * w ≤ len
frames-free n w len h = let all : n * w ≤ len / w * w = mul-le-mul_right w h in omega (arith, all, div-mul-le_self len w)

-- as many frames as fit in those of a number
pub bound-pieces : (n m w : ℕ) → 1 ≤ w → n * w ≤ m * w → n ≤ m
bound-pieces n m w h k = le_of_mul-le-mul_right k (omega arith)

-- what lies after frames does not matter
pub pieces-cut : {X : Type 0} (size n m : ℕ) (xs : List X) → n * size ≤ length (take m xs) → pieces size n (take m xs) ≡ pieces size n xs
pieces-cut size n m xs h =
    let long : n * size ≤ length xs = omega (arith, h, length-take m xs) in
    pieces-same size n (take m xs) xs h long (take-take (n * size) m xs (omega (arith, h, length-take m xs)))

module _ {S R : Type 0} (acts : Acts S R) where
  -- what one call passed: so many frames of the input, and so many to the output
  pub record FedFront (first s : S) (input start out : List ℤ) (n k : ℕ) : Type 0 where
    pub fed : Fed acts first (pieces (kind acts first).inputs n input) (pieces (kind acts first).outputs k out) s
    pub read : n * (kind acts first).inputs ≤ length input
    pub written : k * (kind acts first).outputs ≤ length out
    pub rest_unchanged : drop (k * (kind acts first).outputs) out ≡ drop (k * (kind acts first).outputs) start
    pub same : length out ≡ length start
    pub free : TookWithinSpace acts first n (length start)

  -- and that it passed all that it could
  pub record FedOut (first s : S) (input out : List ℤ) (n k : ℕ) : Type 0 where
    pub dry : k * (kind acts first).outputs + (kind acts first).outputs ≤ length out → acts.dry s ≡ true
    pub used : k * (kind acts first).outputs + (kind acts first).outputs ≤ length out → (acts.counts s).ended ≡ false → spent acts s ≡ false → length input < n * (kind acts first).inputs + (kind acts first).inputs

  -- what took none of an input is the same of any other
  pub front-any : (first s : S) (input start out : List ℤ) (n k : ℕ) → FedFront first s [] start out n k → FedFront first s input start out n k
  front-any first s input start out n k one =
      let none = one.read in
      record { fed = rw (← pieces-cut (kind acts first).inputs n 0 input none) one.fed; read = omega arith; written = one.written; rest_unchanged = one.rest_unchanged; same = one.same; free = one.free }

  -- so many frames were passed
  module _ {first s : S} {input start mid : List ℤ} {n k : ℕ} (one : FedFront first s input start mid n k) where
    kind-stays : kind acts s ≡ kind acts first
    kind-stays = ap acts.kind_of (Fed-gives acts first s _ _ one.fed).recipe_stays

    counted : (acts.counts s).taken ≡ (acts.counts first).taken + n
    counted = (Fed-gives acts first s _ _ one.fed).taken ∙ ap (λ l. (acts.counts first).taken + l) (length-pieces (kind acts first).inputs n input)

    -- as many frames of the rest are there as of the whole
    read-both : (i : ℕ) → i * (kind acts s).inputs ≤ length (drop (n * (kind acts first).inputs) input) → (n + i) * (kind acts first).inputs ≤ length input
    read-both i h =
        let h' = rw kind-stays at h in
        let r = one.read in
        omega (arith, h', add-mul n i (kind acts first).inputs, length-drop (n * (kind acts first).inputs) input)

    -- and the rest of the slices is next
    module _ {ins outs : ℕ} (ins-is : ins ≡ (kind acts first).inputs) (outs-is : outs ≡ (kind acts first).outputs) where
      is-part : part (n * ins) input ≡ drop (n * (kind acts first).inputs) input
      is-part = rw (← ins-is) (part-from (n * ins) input)

      is-free : part (k * outs) mid ≡ drop (k * (kind acts first).outputs) mid
      is-free = rw (← outs-is) (part-from (k * outs) mid)

      -- it may be passed
      pub rest-channels : (1 ≤ (kind acts first).inputs) × ((kind acts first).inputs ≤ 16) → (1 ≤ (kind acts s).inputs) × ((kind acts s).inputs ≤ 16)
      rest-channels some = rw kind-stays some

      pub rest-below : ((i : ℕ) → i * (kind acts first).inputs ≤ length input → (acts.counts first).taken + i ≤ (kind acts first).limit) → (i : ℕ) → i * (kind acts s).inputs ≤ length (part (n * ins) input) → (acts.counts s).taken + i ≤ (kind acts s).limit
      rest-below below i h =
          let all = below (n + i) (read-both i (rw is-part at h)) in
          rw kind-stays (omega (arith, counted, all))

      module _ {t : S} {rest_unchanged : List ℤ} {m j : ℕ} (two : FedFront s t (part (n * ins) input) (part (k * outs) mid) rest_unchanged m j) where
        abbrev new : List ℤ
        new = take (k * (kind acts first).outputs) mid ++ rest_unchanged

        front : length (take (k * (kind acts first).outputs) mid) ≡ k * (kind acts first).outputs
        front = length-take-le (k * (kind acts first).outputs) mid one.written

        long : length new ≡ k * (kind acts first).outputs + length rest_unchanged
        long = omega (arith, front, length-append (take (k * (kind acts first).outputs) mid) rest_unchanged)

        -- what was left after the first call had space for those of the second
        free_lengths : TookWithinSpace acts first (n + m) (length start)
        free_lengths =
            let outs' : ℕ = (kind acts first).outputs in
            let all = Fed-gives acts first s _ _ one.fed in
            let gave : (acts.counts s).given ≡ (acts.counts first).given + k = all.given ∙ ap (λ l. (acts.counts first).given + l) (length-pieces outs' k mid) in
            let left : length (part (k * outs) mid) ≡ length start - k * outs' = ap length is-free ∙ ap length one.rest_unchanged ∙ length-drop (k * outs') start in
            free-then acts first s n k m (length start) all.recipe_stays counted gave (omega (arith, one.written, one.same)) one.free (rw left at two.free)

        -- the output stays as long
        whole : length new ≡ length mid
        whole = omega (arith, long, two.same, ap length is-free, one.written, length-drop (k * (kind acts first).outputs) mid)

        front-new : FedFront first t input start new (n + m) (k + j)
        front-new =
            let ins' : ℕ = (kind acts first).inputs in
            let outs' : ℕ = (kind acts first).outputs in
            let fed = rw (kind-stays, is-part) at two.fed in
            let wrote = rw kind-stays at two.written in
            let rest = rw (kind-stays, is-free) at two.rest_unchanged in
            let more : (k + j) * outs' ≡ k * outs' + j * outs' = add-mul k j outs' in
            record {
              fed = Fed-rest_unchanged acts ins' outs' n m k j input mid rest_unchanged new first s t one.written refl one.fed fed;
              read = read-both m (rw is-part at two.read);
              written = omega (arith, more, wrote, long);
              rest_unchanged = rw more (sym (drop-drop (j * outs') (k * outs') new) ∙ ap (drop (j * outs')) (drop_at (take (k * outs') mid) rest_unchanged (k * outs') front) ∙ rest ∙ ap (drop (j * outs')) one.rest_unchanged ∙ drop-drop (j * outs') (k * outs') start);
              same = omega (arith, whole, one.same);
              free = free_lengths;
            }

        out-new : FedOut s t (part (n * ins) input) rest_unchanged m j → FedOut first t input new (n + m) (k + j)
        out-new out =
            let ins' : ℕ = (kind acts first).inputs in
            let outs' : ℕ = (kind acts first).outputs in
            let more : (k + j) * outs' ≡ k * outs' + j * outs' = add-mul k j outs' in
            let dry = rw kind-stays at out.dry in
            let used = rw (kind-stays, is-part) at out.used in
            let r = one.read in
            record {
              dry = λ h. dry (omega (arith, h, more, long));
              used = λ h running some. let u = used (omega (arith, h, more, long)) running some in omega (arith, u, add-mul n m ins', length-drop (n * ins') input);
            }

        -- both together, where the rest was written in its place
        placed : put_mid (k * outs) (length mid - k * outs) mid rest_unchanged ≡ new
        placed = rw (put-from, outs-is) refl

        pub front-both : FedFront first t input start (put_mid (k * outs) (length mid - k * outs) mid rest_unchanged) (n + m) (k + j)
        front-both = rw placed front-new

        pub out-both : FedOut s t (part (n * ins) input) rest_unchanged m j → FedOut first t input (put_mid (k * outs) (length mid - k * outs) mid rest_unchanged) (n + m) (k + j)
        out-both out = rw placed (out-new out)

        -- they are no more than the samples
        pub bound-taken : 1 ≤ (kind acts first).inputs → n + m ≤ length input
        bound-taken some = bound-frames (n + m) (kind acts first).inputs (length input) some front-new.read

        pub bound-given : outs ≢ 0 → k + j ≤ length mid
        bound-given some = bound-frames (k + j) (kind acts first).outputs (length mid) (omega (arith, some, outs-is)) (rw whole at front-new.written)
