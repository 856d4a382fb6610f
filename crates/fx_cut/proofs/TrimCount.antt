-- How many frames the positions keep, position by position.
use Rattle.std.proofs.Common.{◌≡◌, ℕ, ◌+◌, ◌-◌, ◌<◌, ◌≤◌, ◌%◌, max, min, Bool, true, false, cond, not, leb, eqb, List, [], ◌∷◌, ◌++◌, refl, sym, ◌∙◌, ap, arith, zero-add, length, drop, get_or, count_by}
use Rattle.std.specs.List.{range_with_len}
use Rattle.std.proofs.lemmas.Bool.{lt-leb, le-leb}
use Rattle.std.proofs.lemmas.List.Sums.{sum_by-append}
use Rattle.std.proofs.lemmas.List.{drop_more, drop_all}
use mathlib.Core.Path.{ap₂}
use Rattle.fx_fixed.specs.Positions.{place_of, places_after, places_of}
use Rattle.fx_fixed.specs.declared.positions.At.{At}
use Rattle.fx_fixed.specs.declared.positions.At.TheVariants.{Start, End}
use Rattle.fx_cut.specs.Trim.{keeps, starts}
use Rattle.fx_cut.specs.TrimState.{kept_count}
use Rattle.fx_cut.specs.Ranges.{range_split, count_same, count_const}
use Rattle.fx_cut.specs.TrimLaws.{count_by-cons, none_before}

-- a frame is kept that lies after an odd number of positions, where the first of these is after an odd number or not
abbrev pub odd_from : Bool → ℕ → Bool
odd_from kept k = eqb ((cond kept 1 0 + k) % 2) 1

odd-one : (kept : Bool) (k : ℕ) → odd_from kept (1 + k) ≡ odd_from (not kept) k
odd-one true k = ap (λ n. eqb n 1) (let e : (1 + (1 + k)) % 2 ≡ (0 + k) % 2 = omega arith in e)
odd-one false k = ap (λ n. eqb n 1) (let e : (0 + (1 + k)) % 2 ≡ (1 + k) % 2 = omega arith in e)

odd-none : (kept : Bool) → odd_from kept 0 ≡ kept
odd-none true = refl
odd-none false = refl

-- how many frames from a place on to another are kept by positions in a sound of so many frames, none of which lies before that place
abbrev pub kept_from : Bool → ℕ → ℕ → ℕ → List At → ℕ
kept_from kept frames last end ps = count_by (λ n. odd_from kept (count_by (λ q. leb q n) (places_after frames last ps))) (range_with_len last (end - last))

pub kept-nil : (kept : Bool) (frames last end : ℕ) → kept_from kept frames last end [] ≡ cond kept (end - last) 0
kept-nil kept frames last end = count_same (λ n. odd_from kept 0) (λ n. kept) last (end - last) (λ i low high. odd-none kept) ∙ count_const kept last (end - last)

-- one more position
pub kept-more : (kept : Bool) (frames last end : ℕ) (a : At) (ps : List At) → last ≤ end
    → kept_from kept frames last end (a ∷ ps) ≡ cond kept (max last (min end (place_of frames a)) - last) 0 + kept_from (not kept) frames (max last (min end (place_of frames a))) end ps
kept-more kept frames last end a ps h =
    let p : ℕ = place_of frames a in
    let next : ℕ = max last (min end p) in
    let q : ℕ = max last p in
    let F : ℕ → Bool = λ n. odd_from kept (count_by (λ q. leb q n) (q ∷ places_after frames q ps)) in
    let G : ℕ → Bool = λ n. odd_from (not kept) (count_by (λ q. leb q n) (places_after frames next ps)) in
    let parts : end - last ≡ (next - last) + (end - next) = omega arith in
    let middle : last + (next - last) ≡ next = omega arith in
    ap (λ k. count_by F (range_with_len last k)) parts
    ∙ ap (count_by F) (range_split last (next - last) (end - next) ∙ ap (λ a. range_with_len last (next - last) ++ range_with_len a (end - next)) middle)
    ∙ sum_by-append (λ n. cond (F n) 1 0) (range_with_len last (next - last)) (range_with_len next (end - next))
    ∙ ap₂ ◌+◌
    (count_same F (λ n. kept) last (next - last) (λ i low high.
    let away : i < q = omega arith in
    let none : leb q i ≡ false = lt-leb q i away in
    ap (odd_from kept) (count_by-cons i q (places_after frames q ps) ∙ ap (λ b. cond b 1 0 + count_by (λ q. leb q i) (places_after frames q ps)) none ∙ zero-add (count_by (λ q. leb q i) (places_after frames q ps)) ∙ none_before frames i q ps away) ∙ odd-none kept)
    ∙ count_const kept last (next - last))
    (count_same F G next (end - next) (λ i low high.
    let same : q ≡ next = omega arith in
    let one : leb q i ≡ true = le-leb q i (omega arith) in
    ap (odd_from kept) (count_by-cons i q (places_after frames q ps) ∙ ap (λ b. cond b 1 0 + count_by (λ q. leb q i) (places_after frames q ps)) one)
    ∙ odd-one kept (count_by (λ q. leb q i) (places_after frames q ps))
    ∙ ap (λ l. odd_from (not kept) (count_by (λ q. leb q i) (places_after frames l ps))) same))

-- all of them
pub kept-all : (frames end : ℕ) (ps : List At) → kept_from false frames 0 end ps ≡ kept_count ps frames end
kept-all frames end ps =
    let whole : end - 0 ≡ end = omega arith in
    ap (λ k. count_by (λ n. odd_from false (count_by (λ q. leb q n) (places_after frames 0 ps))) (range_with_len 0 k)) whole
    ∙ count_same (λ n. odd_from false (count_by (λ q. leb q n) (places_after frames 0 ps))) (keeps (places_of frames ps)) 0 end
    (λ i low high. ap (λ k. eqb (k % 2) 1) (zero-add (count_by (λ q. leb q i) (places_after frames 0 ps))))

-- the same of the positions before the first one from the end
abbrev pub kept_in : Bool → ℕ → ℕ → List At → ℕ
kept_in kept last end ps = kept_from kept 0 last end (starts ps)

between-le : (kept : Bool) (n : ℕ) → cond kept n 0 ≤ n
between-le true n = omega arith
between-le false n = omega arith

-- ---- along a list of positions

-- after the last of them
pub count-over : (ps : List At) (i kept last end : ℕ) (is_kept : Bool) → length ps ≤ i → kept + kept_in is_kept last end (drop i ps) ≡ kept_in false 0 end ps
    → kept + cond is_kept (end - last) 0 ≡ count_by (keeps (places_of 0 (starts ps))) (range_with_len 0 end)
count-over ps i kept last end is_kept h e =
    ap (λ k. kept + k) (sym (kept-nil is_kept 0 last end)) ∙ ap (λ l. kept + kept_in is_kept last end l) (sym (drop_all i ps h)) ∙ e ∙ kept-all 0 end (starts ps)

-- at a position from the end
pub count-end : (ps : List At) (i kept last end b : ℕ) (is_kept : Bool) → i < length ps → get_or ps i (Start 0) ≡ End b → kept + kept_in is_kept last end (drop i ps) ≡ kept_in false 0 end ps
    → kept + cond is_kept (end - last) 0 ≡ count_by (keeps (places_of 0 (starts ps))) (range_with_len 0 end)
count-end ps i kept last end b is_kept h g e =
    ap (λ k. kept + k) (sym (kept-nil is_kept 0 last end)) ∙ ap (λ l. kept + kept_in is_kept last end l) (sym (drop_more ps i (Start 0) h ∙ ap (λ a. a ∷ drop (i + 1) ps) g)) ∙ e ∙ kept-all 0 end (starts ps)

-- at a position from the start
pub count-start : (ps : List At) (i kept last end p next : ℕ) (is_kept : Bool) → i < length ps → get_or ps i (Start 0) ≡ Start p → last ≤ end → next ≡ max last (min end p) → kept ≤ last
    → kept + kept_in is_kept last end (drop i ps) ≡ kept_in false 0 end ps
    → (kept + cond is_kept (next - last) 0 + kept_in (not is_kept) next end (drop (i + 1) ps) ≡ kept_in false 0 end ps) × (kept + cond is_kept (next - last) 0 ≤ next)
count-start ps i kept last end p next is_kept h g w n f e =
    let whole : kept + kept_in is_kept last end (Start p ∷ drop (i + 1) ps) ≡ kept_in false 0 end ps =
    ap (λ l. kept + kept_in is_kept last end l) (sym (drop_more ps i (Start 0) h ∙ ap (λ a. a ∷ drop (i + 1) ps) g)) ∙ e in
    let step = kept-more is_kept 0 last end (Start p) (starts (drop (i + 1) ps)) w in
    let bound = between-le is_kept (next - last) in
    (rw n (omega (arith, whole, step)), omega arith)

-- ---- the same of all positions

pub whole-over : (ps : List At) (frames i kept last end : ℕ) (is_kept : Bool) → length ps ≤ i → kept + kept_from is_kept frames last end (drop i ps) ≡ kept_from false frames 0 end ps
    → kept + cond is_kept (end - last) 0 ≡ kept_count ps frames end
whole-over ps frames i kept last end is_kept h e =
    ap (λ k. kept + k) (sym (kept-nil is_kept frames last end)) ∙ ap (λ l. kept + kept_from is_kept frames last end l) (sym (drop_all i ps h)) ∙ e ∙ kept-all frames end ps

pub whole-more : (ps : List At) (frames i kept last end next : ℕ) (a : At) (is_kept : Bool) → i < length ps → get_or ps i (Start 0) ≡ a → last ≤ end → next ≡ max last (min end (place_of frames a)) → kept ≤ last
    → kept + kept_from is_kept frames last end (drop i ps) ≡ kept_from false frames 0 end ps
    → (kept + cond is_kept (next - last) 0 + kept_from (not is_kept) frames next end (drop (i + 1) ps) ≡ kept_from false frames 0 end ps) × (kept + cond is_kept (next - last) 0 ≤ next)
whole-more ps frames i kept last end next a is_kept h g w n f e =
    let whole : kept + kept_from is_kept frames last end (a ∷ drop (i + 1) ps) ≡ kept_from false frames 0 end ps =
    ap (λ l. kept + kept_from is_kept frames last end l) (sym (drop_more ps i (Start 0) h ∙ ap (λ b. b ∷ drop (i + 1) ps) g)) ∙ e in
    let step = kept-more is_kept frames last end a (drop (i + 1) ps) w in
    let bound = between-le is_kept (next - last) in
    (rw n (omega (arith, whole, step)), omega arith)
