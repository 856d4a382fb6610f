-- Which pads stand before a frame, and how many frames that makes.
use Rattle.std.proofs.Common.{◌≡◌, ℕ, zero, suc, ◌+◌, ◌-◌, ◌<◌, ◌≤◌, max, Bool, true, false, cond, ltb, leb, eqb, List, [], ◌∷◌, ◌++◌, map, length, refl, sym, ◌∙◌, ap, subst, inl, inr, arith, length-append, append_assoc, ◌⊎◌, add-one, add-zero, zero-add, filter, sum_by, flat_map, zip, slice_get, option_to_list, replicate}
use Rattle.std.specs.List.{range_with_len, enumerate_from}
use Rattle.std.proofs.lemmas.Bool.{leb-false, ne_eqb, eq-eqb, cond-true, lt-ltb, le-ltb, cases_order, lt-leb, le-leb, leb-true}
use Rattle.std.proofs.lemmas.List.{length-replicate}
use Rattle.std.proofs.lemmas.List.Sums.{sum_by-cons, sum_by-append}
use Rattle.std.proofs.lemmas.List.Concat.{length-flat_map}
use Rattle.std.proofs.lemmas.Option.{slice_get_past}
use Rattle.fx_fixed.specs.Extents.{largest}
use Rattle.fx_cut.specs.PadExtents.{pad_distance}
use Rattle.fx_fixed.specs.Positions.{place_of, places_after}
use Rattle.fx_fixed.specs.declared.positions.At.{At}
use Rattle.fx_fixed.specs.declared.positions.At.TheVariants.{Start, End}
use Rattle.fx_frame_base.specs.Frame.{Samples, silence}
use Rattle.fx_cut.specs.Pad.{ats, lengths, is_inside, placed, placed_after, silent_at, padded, pads_from_start, pad_due, RisesFrom}
use Rattle.fx_cut.specs.PadState.{padded_from, silence_from}
use Rattle.fx_cut.specs.Ranges.{range_more}

-- ---- which pads lie before a frame

-- the silence of a pad before frame n
abbrev pub here : ℕ → ℕ × ℕ → ℕ
here n p = cond (eqb p.1 n) p.0 0

-- the pads that are taken, where the first one is or is not
abbrev placed_if : Bool → ℕ → ℕ → ℕ → At → List (ℕ × At) → List (ℕ × ℕ)
placed_if b len m k p ps = zip (map (λ p. p.0) (cond b ((k, p) ∷ filter (is_inside len) ps) (filter (is_inside len) ps)))
    (places_after len m (map (λ p. p.1) (cond b ((k, p) ∷ filter (is_inside len) ps) (filter (is_inside len) ps))))

here_not : (n k q : ℕ) → (q ≡ n → ⊥) → here n (k, q) ≡ 0
here_not n k q h = ap (λ b. cond b k 0) (ne_eqb q n h)

-- no pad from place m on lies before it
none_here : (len n m : ℕ) (ps : List (ℕ × At)) → n < m → sum_by (here n) (placed_after len m ps) ≡ 0
none_here len n m [] h = refl
none_here len n m ((k, p) ∷ ps) h = go (none_here len n m ps h) (none_here len n (max m (place_of len p)) ps (omega arith)) (is_inside len (k, p))
  where
    go : sum_by (here n) (placed_after len m ps) ≡ 0 → sum_by (here n) (placed_after len (max m (place_of len p)) ps) ≡ 0
        → (b : Bool) → sum_by (here n) (placed_if b len m k p ps) ≡ 0
    go skipped taken false = skipped
    go skipped taken true = sum_by-cons (here n) (k, max m (place_of len p)) (placed_after len (max m (place_of len p)) ps)
        ∙ omega (arith, here_not n k (max m (place_of len p)) (λ e. omega arith), taken)

RisesFrom-le : (l m : ℕ) (ps : List At) → l ≤ m → RisesFrom m ps → RisesFrom l ps
RisesFrom-le l m [] h r = tt
RisesFrom-le l m (Start p ∷ ps) h r = let r0 = r.0 in (omega arith, r.1)
RisesFrom-le l m (End b ∷ ps) h r = tt

-- before the end positions, the pads before them count
pub same_silence : (len n m : ℕ) (ps : List (ℕ × At)) → n + largest (map pad_distance ps) < len → RisesFrom m (ats ps)
    → sum_by (here n) (placed_after len m ps) ≡ sum_by (here n) (pads_from_start ps)
same_silence len n m [] h r = refl
same_silence len n m ((k, Start p) ∷ ps) h r =
    let mp : m ≤ p = r.0 in
    go (leb p len) refl
    (same_silence len n m ps (omega arith) (RisesFrom-le m p (ats ps) mp r.1))
    (same_silence len n (max m p) ps (omega arith) (let e : max m p ≡ p = omega arith in subst (λ q. RisesFrom q (ats ps)) (sym e) r.1))
    ∙ sym (sum_by-cons (here n) (k, p) (pads_from_start ps))
  where
    go : (b : Bool) → leb p len ≡ b → sum_by (here n) (placed_after len m ps) ≡ sum_by (here n) (pads_from_start ps)
        → sum_by (here n) (placed_after len (max m p) ps) ≡ sum_by (here n) (pads_from_start ps)
        → sum_by (here n) (placed_if b len m k (Start p) ps) ≡ here n (k, p) + sum_by (here n) (pads_from_start ps)
    go false e skipped taken = let beyond : len < p = leb-false p len e in omega (arith, skipped, here_not n k p (λ e. omega arith))
    go true e skipped taken = let mp : m ≤ p = r.0 in let q : max m p ≡ p = omega arith in
        sum_by-cons (here n) (k, max m p) (placed_after len (max m p) ps) ∙ cc (q, taken)
same_silence len n m ((k, End b) ∷ ps) h r =
    sum_by-cons (here n) (k, max m (len - b)) (placed_after len (max m (len - b)) ps)
    ∙ omega (arith, here_not n k (max m (len - b)) (λ e. omega arith), none_here len n (max m (len - b)) ps (omega arith))

-- ---- how many frames that is

-- the pads at one more place
pub upto_more : (m : ℕ) (pads : List (ℕ × ℕ)) → sum_by (λ p. p.0) (filter (λ p. ltb p.1 (m + 1)) pads) ≡ sum_by (λ p. p.0) (filter (λ p. ltb p.1 m) pads) + sum_by (here m) pads
upto_more m [] = refl
upto_more m ((k, p) ∷ pads) = go (cases_order p m) (upto_more m pads) ∙ ap (λ s. sum_by (λ p. p.0) (filter (λ p. ltb p.1 m) ((k, p) ∷ pads)) + s) (sym (sum_by-cons (here m) (k, p) pads))
  where
    yes : (n : ℕ) → p < n → sum_by (λ p. p.0) (filter (λ p. ltb p.1 n) ((k, p) ∷ pads)) ≡ k + sum_by (λ p. p.0) (filter (λ p. ltb p.1 n) pads)
    yes n h = ap (λ b. sum_by (λ p. p.0) (cond b ((k, p) ∷ filter (λ p. ltb p.1 n) pads) (filter (λ p. ltb p.1 n) pads))) (lt-ltb p n h) ∙ sum_by-cons (λ p. p.0) (k, p) (filter (λ p. ltb p.1 n) pads)

    no : (n : ℕ) → n ≤ p → sum_by (λ p. p.0) (filter (λ p. ltb p.1 n) ((k, p) ∷ pads)) ≡ sum_by (λ p. p.0) (filter (λ p. ltb p.1 n) pads)
    no n h = ap (λ b. sum_by (λ p. p.0) (cond b ((k, p) ∷ filter (λ p. ltb p.1 n) pads) (filter (λ p. ltb p.1 n) pads))) (le-ltb p n h)

    go : (p ≡ m) ⊎ ((p < m) ⊎ (m < p)) → sum_by (λ p. p.0) (filter (λ p. ltb p.1 (m + 1)) pads) ≡ sum_by (λ p. p.0) (filter (λ p. ltb p.1 m) pads) + sum_by (here m) pads
        → sum_by (λ p. p.0) (filter (λ p. ltb p.1 (m + 1)) ((k, p) ∷ pads)) ≡ sum_by (λ p. p.0) (filter (λ p. ltb p.1 m) ((k, p) ∷ pads)) + (here m (k, p) + sum_by (here m) pads)
    go (inl e) ih = let h : here m (k, p) ≡ k = cond-true (eqb p m) k 0 (eq-eqb p m e) in omega (arith, yes (m + 1) (omega arith), no m (omega arith), h, ih)
    go (inr (inl l)) ih = omega (arith, yes (m + 1) (omega arith), yes m l, here_not m k p (λ e. omega arith), ih)
    go (inr (inr g)) ih = omega (arith, no (m + 1) (omega arith), no m (omega arith), here_not m k p (λ e. omega arith), ih)

-- no silence stands before the first place
none_upto : (pads : List (ℕ × ℕ)) → 0 + sum_by (λ p. p.0) (filter (λ p. ltb p.1 0) pads) ≡ 0
none_upto [] = refl
none_upto ((k, p) ∷ pads) = ap (λ b. 0 + sum_by (λ p. p.0) (cond b ((k, p) ∷ filter (λ p. ltb p.1 0) pads) (filter (λ p. ltb p.1 0) pads))) (le-ltb p 0 (omega arith)) ∙ none_upto pads

silence_upto : (m : ℕ) (pads : List (ℕ × ℕ)) → sum_by (λ n. sum_by (here n) pads + 1) (range_with_len 0 m) ≡ m + sum_by (λ p. p.0) (filter (λ p. ltb p.1 m) pads)
silence_upto zero pads = sym (none_upto pads)
silence_upto (suc m) pads =
    ap (λ k. sum_by (λ n. sum_by (here n) pads + 1) (range_with_len 0 k)) (sym (add-one m))
    ∙ ap (sum_by (λ n. sum_by (here n) pads + 1)) (range_more m)
    ∙ sum_by-append (λ n. sum_by (here n) pads + 1) (range_with_len 0 m) (m ∷ [])
    ∙ (let e : sum_by (λ n. sum_by (here n) pads + 1) (range_with_len 0 m) + (0 + (sum_by (here m) pads + 1)) ≡ (m + 1) + sum_by (λ p. p.0) (filter (λ p. ltb p.1 (m + 1)) pads) = omega (arith, silence_upto m pads, upto_more m pads) in e)
    ∙ ap (λ k. k + sum_by (λ p. p.0) (filter (λ p. ltb p.1 k) pads)) (add-one m)

got_one : {X : Type 0} (x : List X) (n : ℕ) → n < length x → length (option_to_list (slice_get x n)) ≡ 1
got_one [] n h = absurd (omega arith)
got_one (f ∷ x) zero h = refl
got_one (f ∷ x) (suc n) h = got_one x n (omega arith)

sum_same : (f g : ℕ → ℕ) (a n : ℕ) → ((i : ℕ) → a ≤ i → i < a + n → f i ≡ g i) → sum_by f (range_with_len a n) ≡ sum_by g (range_with_len a n)
sum_same f g a zero h = refl
sum_same f g a (suc n) h = sum_by-cons f a (range_with_len (a + 1) n) ∙ omega (arith, h a (omega arith) (omega arith), sum_same f g (a + 1) n (λ i low high. h i (omega arith) (omega arith))) ∙ sym (sum_by-cons g a (range_with_len (a + 1) n))

-- the pads that are taken have no more silence than all
taken_le : (len m : ℕ) (ps : List (ℕ × At)) → sum_by (λ p. p.0) (placed_after len m ps) ≤ lengths ps
taken_le len m [] = omega arith
taken_le len m ((k, p) ∷ ps) = go (is_inside len (k, p)) (taken_le len m ps) (taken_le len (max m (place_of len p)) ps)
  where
    go : (b : Bool) → sum_by (λ p. p.0) (placed_after len m ps) ≤ lengths ps → sum_by (λ p. p.0) (placed_after len (max m (place_of len p)) ps) ≤ lengths ps
        → sum_by (λ p. p.0) (placed_if b len m k p ps) ≤ lengths ((k, p) ∷ ps)
    go false skipped taken = omega (arith, sum_by-cons (λ p. p.0) (k, p) ps)
    go true skipped taken = omega (arith, sum_by-cons (λ p. p.0) (k, p) ps, sum_by-cons (λ p. p.0) (k, max m (place_of len p)) (placed_after len (max m (place_of len p)) ps))

filtered_le : (m : ℕ) (pads : List (ℕ × ℕ)) → sum_by (λ p. p.0) (filter (λ p. ltb p.1 m) pads) ≤ sum_by (λ p. p.0) pads
filtered_le m [] = omega arith
filtered_le m ((k, p) ∷ pads) = go (ltb p m) (filtered_le m pads)
  where
    go : (b : Bool) → sum_by (λ p. p.0) (filter (λ p. ltb p.1 m) pads) ≤ sum_by (λ p. p.0) pads
        → sum_by (λ p. p.0) (cond b ((k, p) ∷ filter (λ p. ltb p.1 m) pads) (filter (λ p. ltb p.1 m) pads)) ≤ sum_by (λ p. p.0) ((k, p) ∷ pads)
    go false h = omega (arith, sum_by-cons (λ p. p.0) (k, p) pads)
    go true h = omega (arith, sum_by-cons (λ p. p.0) (k, p) pads, sum_by-cons (λ p. p.0) (k, p) (filter (λ p. ltb p.1 m) pads))

-- no more frames are given than came and the pads have
pub length_padded : (channels : ℕ) (ps : List (ℕ × At)) (x : List Samples) → length (padded channels ps x) ≤ length x + lengths ps
length_padded channels ps x =
    let len : ℕ = length x in
    let pads : List (ℕ × ℕ) = placed len ps in
    let part : ℕ → List Samples = λ n. replicate (sum_by (here n) pads) (silence channels) ++ option_to_list (slice_get x n) in
    let sized : (n : ℕ) → length (part n) ≡ sum_by (here n) pads + length (option_to_list (slice_get x n)) =
    λ n. length-append (replicate (sum_by (here n) pads) (silence channels)) (option_to_list (slice_get x n)) ∙ ap (λ k. k + length (option_to_list (slice_get x n))) (length-replicate (sum_by (here n) pads) (silence channels)) in
    let size : ℕ → ℕ = λ n. length (part n) in
    let before : sum_by size (range_with_len 0 len) ≡ len + sum_by (λ p. p.0) (filter (λ p. ltb p.1 len) pads) =
    sum_same size (λ n. sum_by (here n) pads + 1) 0 len (λ n low high. sized n ∙ ap (λ k. sum_by (here n) pads + k) (got_one x n (omega arith))) ∙ silence_upto len pads in
    let last : size len ≡ sum_by (here len) pads =
    sized len ∙ ap (λ o. sum_by (here len) pads + length (option_to_list o)) (slice_get_past x len (omega arith)) ∙ add-zero (sum_by (here len) pads) in
    let all : length (flat_map part (range_with_len 0 (len + 1))) ≡ sum_by size (range_with_len 0 len) + size len =
    length-flat_map part (range_with_len 0 (len + 1)) ∙ ap (sum_by size) (range_more len) ∙ sum_by-append size (range_with_len 0 len) (len ∷ []) ∙ ap (λ k. sum_by size (range_with_len 0 len) + k) (zero-add (size len)) in
    omega (arith, all, before, last, upto_more len pads, filtered_le (len + 1) pads, taken_le len 0 ps)

-- at first nothing is due
pub none-due : (ps : List (ℕ × At)) → pad_due ps 0 ≡ 0
none-due ps =
    let none : 0 - largest (map pad_distance ps) ≡ 0 = omega arith in
    rw none (none_upto (pads_from_start ps))

-- ---- how many frames come after a place

-- the pads at a place or after it
rest_unchanged-step : (n : ℕ) (pads : List (ℕ × ℕ)) → silence_from pads n ≡ sum_by (here n) pads + silence_from pads (n + 1)
rest_unchanged-step n [] = refl
rest_unchanged-step n ((k, p) ∷ pads) = go (cases_order p n) (rest_unchanged-step n pads) ∙ ap (λ s. s + silence_from ((k, p) ∷ pads) (n + 1)) (sym (sum_by-cons (here n) (k, p) pads))
  where
    yes : (m : ℕ) → m ≤ p → silence_from ((k, p) ∷ pads) m ≡ k + silence_from pads m
    yes m h = ap (λ b. sum_by (λ p. p.0) (cond b ((k, p) ∷ filter (λ p. leb m p.1) pads) (filter (λ p. leb m p.1) pads))) (le-leb m p h) ∙ sum_by-cons (λ p. p.0) (k, p) (filter (λ p. leb m p.1) pads)

    no : (m : ℕ) → p < m → silence_from ((k, p) ∷ pads) m ≡ silence_from pads m
    no m h = ap (λ b. sum_by (λ p. p.0) (cond b ((k, p) ∷ filter (λ p. leb m p.1) pads) (filter (λ p. leb m p.1) pads))) (lt-leb m p h)

    go : (p ≡ n) ⊎ ((p < n) ⊎ (n < p)) → silence_from pads n ≡ sum_by (here n) pads + silence_from pads (n + 1)
        → silence_from ((k, p) ∷ pads) n ≡ (here n (k, p) + sum_by (here n) pads) + silence_from ((k, p) ∷ pads) (n + 1)
    go (inl e) ih = let h : here n (k, p) ≡ k = cond-true (eqb p n) k 0 (eq-eqb p n e) in omega (arith, yes n (omega arith), no (n + 1) (omega arith), h, ih)
    go (inr (inl l)) ih = omega (arith, no n l, no (n + 1) (omega arith), here_not n k p (λ e. omega arith), ih)
    go (inr (inr g)) ih = omega (arith, yes n (omega arith), yes (n + 1) (omega arith), here_not n k p (λ e. omega arith), ih)

-- no pad that is taken lies after the end
inside-le : (len k : ℕ) (p : At) → is_inside len (k, p) ≡ true → place_of len p ≤ len
inside-le len k (Start p) h = leb-true p len h
inside-le len k (End b) h = omega arith

none_after : (len m : ℕ) (ps : List (ℕ × At)) → m ≤ len → silence_from (placed_after len m ps) (len + 1) ≡ 0
none_after len m [] h = refl
none_after len m ((k, p) ∷ ps) h = go (is_inside len (k, p)) refl (none_after len m ps h) (λ g. none_after len (max m (place_of len p)) ps g)
  where
    go : (b : Bool) → is_inside len (k, p) ≡ b → silence_from (placed_after len m ps) (len + 1) ≡ 0 → (max m (place_of len p) ≤ len → silence_from (placed_after len (max m (place_of len p)) ps) (len + 1) ≡ 0)
        → silence_from (placed_if b len m k p ps) (len + 1) ≡ 0
    go false e skipped taken = skipped
    go true e skipped taken =
        let q : ℕ = max m (place_of len p) in
        let i = inside-le len k p e in
        let g : q ≤ len = omega arith in
        ap (λ b. sum_by (λ p. p.0) (cond b ((k, q) ∷ filter (λ p. leb (len + 1) p.1) (placed_after len q ps)) (filter (λ p. leb (len + 1) p.1) (placed_after len q ps)))) (lt-leb (len + 1) q (omega arith)) ∙ taken g

-- all silence stands at the first place or after it
from_first : (pads : List (ℕ × ℕ)) → silence_from pads 0 ≡ sum_by (λ p. p.0) pads
from_first [] = refl
from_first ((k, p) ∷ pads) =
    ap (λ b. sum_by (λ p. p.0) (cond b ((k, p) ∷ filter (λ p. leb 0 p.1) pads) (filter (λ p. leb 0 p.1) pads))) (le-leb 0 p (omega arith))
    ∙ sum_by-cons (λ p. p.0) (k, p) (filter (λ p. leb 0 p.1) pads)
    ∙ ap (λ n. k + n) (from_first pads)
    ∙ sym (sum_by-cons (λ p. p.0) (k, p) pads)

-- and is no more than that of all pads
pub silence-bound : (len : ℕ) (ps : List (ℕ × At)) → silence_from (placed len ps) 0 ≤ lengths ps
silence-bound len ps = omega (arith, from_first (placed len ps), taken_le len 0 ps)

-- the silence before a place that no pad from the end reaches, and that after it, are all of it
pub silence-parts : (len : ℕ) (ps : List (ℕ × At)) (m : ℕ) → RisesFrom 0 (ats ps) → (m ≡ 0) ⊎ (m + largest (map pad_distance ps) ≤ len)
    → sum_by (λ p. p.0) (filter (λ p. ltb p.1 m) (pads_from_start ps)) + silence_from (placed len ps) m ≡ silence_from (placed len ps) 0
silence-parts len ps zero r h = omega (arith, none_upto (pads_from_start ps))
silence-parts len ps (suc m) r (inl e) = absurd (omega arith)
silence-parts len ps (suc m) r (inr h) =
    let before = silence-parts len ps m r (inr (omega arith)) in
    let same : sum_by (here m) (placed len ps) ≡ sum_by (here m) (pads_from_start ps) = same_silence len m 0 ps (omega arith) r in
    let next : suc m ≡ m + 1 = omega arith in
    let more : sum_by (λ p. p.0) (filter (λ p. ltb p.1 (suc m)) (pads_from_start ps)) ≡ sum_by (λ p. p.0) (filter (λ p. ltb p.1 m) (pads_from_start ps)) + sum_by (here m) (pads_from_start ps) = ap (λ n. sum_by (λ p. p.0) (filter (λ p. ltb p.1 n) (pads_from_start ps))) next ∙ upto_more m (pads_from_start ps) in
    let rest_unchanged : silence_from (placed len ps) m ≡ sum_by (here m) (placed len ps) + silence_from (placed len ps) (suc m) = rest_unchanged-step m (placed len ps) ∙ ap (λ n. sum_by (here m) (placed len ps) + silence_from (placed len ps) n) (sym next) in
    omega (arith, before, same, more, rest_unchanged)

-- the first frame, after its silence
pub pad_first : (channels len : ℕ) (ps : List (ℕ × At)) (n : ℕ) (frame : Samples) (x : List Samples)
    → padded_from channels len ps n (frame ∷ x) ≡ replicate (silent_at (placed len ps) n) (silence channels) ++ (frame ∷ padded_from channels len ps (n + 1) x)
pad_first channels len ps n frame x =
    append_assoc (replicate (silent_at (placed len ps) n) (silence channels) ++ frame ∷ [])
    (flat_map (λ e. replicate (silent_at (placed len ps) e.0) (silence channels) ++ e.1 ∷ []) (enumerate_from (n + 1) x)) (replicate (silent_at (placed len ps) len) (silence channels))
    ∙ append_assoc (replicate (silent_at (placed len ps) n) (silence channels)) (frame ∷ []) (padded_from channels len ps (n + 1) x)

-- what is given for the frames from frame n on
pub length_from : (channels len : ℕ) (ps : List (ℕ × At)) (n : ℕ) (x : List Samples) → n + length x ≡ len → length (padded_from channels len ps n x) ≡ length x + silence_from (placed len ps) n
length_from channels len ps n [] h =
    let e : n ≡ len = omega arith in
    let last : silence_from (placed len ps) len ≡ sum_by (here len) (placed len ps) = rest_unchanged-step len (placed len ps) ∙ ap (λ k. sum_by (here len) (placed len ps) + k) (none_after len 0 ps (omega arith)) ∙ add-zero (sum_by (here len) (placed len ps)) in
    length-replicate (silent_at (placed len ps) len) (silence channels) ∙ sym last ∙ ap (silence_from (placed len ps)) (sym e) ∙ sym (zero-add (silence_from (placed len ps) n))
length_from channels len ps n (f ∷ x) h =
    let pads : List (ℕ × ℕ) = placed len ps in
    let silent_frames : List Samples = replicate (silent_at pads n) (silence channels) in
    let more : length (padded_from channels len ps (n + 1) x) ≡ length x + silence_from pads (n + 1) = length_from channels len ps (n + 1) x (omega arith) in
    let whole : length (padded_from channels len ps n (f ∷ x)) ≡ length silent_frames + (1 + length (padded_from channels len ps (n + 1) x)) =
    ap length (pad_first channels len ps n f x) ∙ length-append silent_frames (f ∷ padded_from channels len ps (n + 1) x) ∙ ap (λ k. length silent_frames + k) (let e : suc (length (padded_from channels len ps (n + 1) x)) ≡ 1 + length (padded_from channels len ps (n + 1) x) = omega arith in e) in
    let size : length silent_frames ≡ sum_by (here n) pads = length-replicate (silent_at pads n) (silence channels) in
    omega (arith, whole, size, more, rest_unchanged-step n pads)
