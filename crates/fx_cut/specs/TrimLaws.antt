-- Which frames `trim` keeps, before the length of the sound is known.
use Rattle.std.proofs.Common.{◌≡◌, ℕ, ◌+◌, ◌-◌, ◌<◌, ◌≤◌, ◌%◌, max, false, cond, leb, eqb, List, [], ◌∷◌, refl, sym, ◌∙◌, ap, arith, length, true, map}
use Rattle.std.specs.Prelude.{count_by}
use Rattle.std.specs.List.{list_all}
use Rattle.std.proofs.lemmas.Bool.{lt-leb, le-leb, false≢true}
use Rattle.std.proofs.lemmas.List.Sums.{sum_by-cons}
use Rattle.fx_fixed.specs.Extents.{end_distance, largest}
use Rattle.fx_fixed.specs.Positions.{place_of, places_after, places_of}
use Rattle.fx_fixed.specs.declared.positions.At.{At}
use Rattle.fx_fixed.specs.declared.positions.At.TheVariants.{Start, End}
use Rattle.fx_cut.specs.Trim.{is_start, last_start, keeps, starts}

pub count_by-cons : (n q : ℕ) (qs : List ℕ) → count_by (λ q. leb q n) (q ∷ qs) ≡ cond (leb q n) 1 0 + count_by (λ q. leb q n) qs
count_by-cons n q qs = sum_by-cons (λ y. cond (leb y n) 1 0) q qs

-- no place from m on is at n or before it, where n is before m
pub none_before : (len n m : ℕ) (ps : List At) → n < m → count_by (λ q. leb q n) (places_after len m ps) ≡ 0
none_before len n m [] h = refl
none_before len n m (p ∷ ps) h =
    let q : ℕ = max m (place_of len p) in
    count_by-cons n q (places_after len q ps)
    ∙ (let e : leb q n ≡ false = lt-leb q n (omega arith) in
    ap (λ b. cond b 1 0 + count_by (λ q. leb q n) (places_after len q ps)) e ∙ omega (arith, none_before len n q ps (omega arith)))

-- before the end positions, only the positions before them count
pub crossed : (len n m : ℕ) (ps : List At) → n + largest (map end_distance ps) < len
    → count_by (λ q. leb q n) (places_after len m ps) ≡ count_by (λ q. leb q n) (places_after 0 m (starts ps))
crossed len n m [] h = refl
crossed len n m (Start p ∷ ps) h =
    count_by-cons n (max m p) (places_after len (max m p) ps)
    ∙ ap (λ k. cond (leb (max m p) n) 1 0 + k) (crossed len n (max m p) ps (omega (arith, h)))
    ∙ sym (count_by-cons n (max m p) (places_after 0 (max m p) (starts ps)))
crossed len n m (End b ∷ ps) h =
    let q : ℕ = max m (len - b) in
    count_by-cons n q (places_after len q ps)
    ∙ (let e : leb q n ≡ false = lt-leb q n (omega arith) in
    ap (λ t. cond t 1 0 + count_by (λ q. leb q n) (places_after len q ps)) e ∙ omega (arith, none_before len n q ps (omega arith)))

-- a frame that lies before each end position is kept whatever the length
pub kept-early : (len n : ℕ) (ps : List At) → n + largest (map end_distance ps) < len → keeps (places_of len ps) n ≡ keeps (places_of 0 (starts ps)) n
kept-early len n ps h = ap (λ k. eqb (k % 2) 1) (crossed len n 0 ps h)

-- from the greatest of the start positions on, all of them are at n or before it
all_crossed : (len n m : ℕ) (ps : List At) → list_all is_start ps ≡ true → last_start ps ≤ n → m ≤ n
    → count_by (λ q. leb q n) (places_after len m ps) ≡ length ps
all_crossed len n m [] s h k = refl
all_crossed len n m (End b ∷ ps) s h k = absurd (false≢true s)
all_crossed len n m (Start p ∷ ps) s h k =
    count_by-cons n (max m p) (places_after len (max m p) ps)
    ∙ (let e : leb (max m p) n ≡ true = le-leb (max m p) n (omega arith) in
    ap (λ b. cond b 1 0 + count_by (λ q. leb q n) (places_after len (max m p) ps)) e
    ∙ omega (arith, all_crossed len n (max m p) ps s (omega arith) (omega arith)))

-- after an even number of start positions nothing is kept
pub none-late : (len n : ℕ) (ps : List At) → list_all is_start ps ≡ true → length ps % 2 ≡ 0 → last_start ps ≤ n → keeps (places_of len ps) n ≡ false
none-late len n ps s even h = ap (λ k. eqb (k % 2) 1) (all_crossed len n 0 ps s h (omega arith)) ∙ ap (λ k. eqb k 1) even
