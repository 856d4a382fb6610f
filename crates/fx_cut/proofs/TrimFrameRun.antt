-- Up to the next position frames are alike.
use Rattle.std.proofs.Common.{◌≡◌, ◌+◌, ◌<◌, ◌≤◌, ◌%◌, ℕ, max, true, false, cond, leb, eqb, List, ◌∷◌, length, drop, get_or, ap, ◌∙◌, arith, count_by}
use Rattle.std.proofs.lemmas.Bool.{le-leb, lt-leb}
use Rattle.std.proofs.lemmas.List.{drop_more, drop_all}
use Rattle.fx_fixed.specs.Positions.{places_after, places_of}
use Rattle.fx_fixed.specs.declared.positions.At.{At}
use Rattle.fx_fixed.specs.declared.positions.At.TheVariants.{Start, End}
use Rattle.fx_cut.specs.Trim.{keeps, starts}
use Rattle.fx_cut.specs.TrimLaws.{count_by-cons, none_before}

-- the positions from one on
from : (ps : List At) (i : ℕ) → i < length ps → (a : At) → get_or ps i (Start 0) ≡ a → drop i ps ≡ a ∷ drop (i + 1) ps
from ps i h a g = drop_more ps i (Start 0) h ∙ ap (λ b. b ∷ drop (i + 1) ps) g

-- none of those that are left is at a place before the next one
pub before-next : (ps : List At) (i last p n : ℕ) → i < length ps → get_or ps i (Start 0) ≡ Start p → n < max last p → count_by (λ q. leb q n) (places_after 0 last (starts (drop i ps))) ≡ 0
before-next ps i last p n h g early =
    let none : leb (max last p) n ≡ false = lt-leb (max last p) n early in
    ap (λ l. count_by (λ q. leb q n) (places_after 0 last (starts l))) (from ps i h (Start p) g)
    ∙ count_by-cons n (max last p) (places_after 0 (max last p) (starts (drop (i + 1) ps)))
    ∙ ap (λ b. cond b 1 0 + count_by (λ q. leb q n) (places_after 0 (max last p) (starts (drop (i + 1) ps)))) none
    ∙ omega (arith, none_before 0 n (max last p) (starts (drop (i + 1) ps)) early)

-- the next one is at a place or before it
pub rest_unchanged-next : (ps : List At) (i last p n : ℕ) → i < length ps → get_or ps i (Start 0) ≡ Start p → max last p ≤ n
    → count_by (λ q. leb q n) (places_after 0 last (starts (drop i ps))) ≡ 1 + count_by (λ q. leb q n) (places_after 0 (max last p) (starts (drop (i + 1) ps)))
rest_unchanged-next ps i last p n h g late =
    let one : leb (max last p) n ≡ true = le-leb (max last p) n late in
    ap (λ l. count_by (λ q. leb q n) (places_after 0 last (starts l))) (from ps i h (Start p) g)
    ∙ count_by-cons n (max last p) (places_after 0 (max last p) (starts (drop (i + 1) ps)))
    ∙ ap (λ b. cond b 1 0 + count_by (λ q. leb q n) (places_after 0 (max last p) (starts (drop (i + 1) ps)))) one

pub no-start : (ps : List At) (i last n b : ℕ) → i < length ps → get_or ps i (Start 0) ≡ End b → count_by (λ q. leb q n) (places_after 0 last (starts (drop i ps))) ≡ 0
no-start ps i last n b h g = ap (λ l. count_by (λ q. leb q n) (places_after 0 last (starts l))) (from ps i h (End b) g)

pub no-more : (ps : List At) (i last n : ℕ) → length ps ≤ i → count_by (λ q. leb q n) (places_after 0 last (starts (drop i ps))) ≡ 0
no-more ps i last n h = ap (λ l. count_by (λ q. leb q n) (places_after 0 last (starts l))) (drop_all i ps h)

pub alike : (ps : List At) (n crossed rest : ℕ) → rest ≡ 0 → crossed + rest ≡ count_by (λ q. leb q n) (places_after 0 0 (starts ps)) → keeps (places_of 0 (starts ps)) n ≡ eqb (crossed % 2) 1
alike ps n crossed rest z e = let same : count_by (λ q. leb q n) (places_after 0 0 (starts ps)) ≡ crossed = omega (arith, e, z) in ap (λ k. eqb (k % 2) 1) same
