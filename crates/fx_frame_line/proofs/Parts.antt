-- A part of two lists that follow one another.
use Rattle.std.proofs.Common.{◌≡◌, ◌+◌, ◌*◌, ◌-◌, ◌<◌, ◌≤◌, ℕ, suc, min, get_or, List, [], ◌++◌, length, take, drop, refl, sym, ap, ◌∙◌, arith, length-append, length-drop, append-nil}
use Rattle.std.specs.Int.{div_ceil}
use Rattle.std.proofs.lemmas.Grind.{div_ceil_times}
use Rattle.std.proofs.Math.Nat.{suc-mul, add-mul, mul-le-mul_right}
use Rattle.std.proofs.lemmas.List.{drop_all, drop-append-le, take_at, drop_at, get_or-append-add}
use Rattle.std.proofs.Math.Seq.{take-append-add, drop-append-add}
use borrow.Rule.Slice.PartMut.{put_mid}

module _ {X : Type 0} where
  -- a part past the first list
  pub part-back : (front back : List X) (start n m : ℕ) → length front ≤ start → m ≡ n → take m (drop (start - length front) back) ≡ take n (drop start (front ++ back))
  part-back front back start n m h e-m =
      let e : start ≡ length front + (start - length front) = omega arith in
      rw e-m (ap (take n) (sym (drop-append-add front back (start - length front)) ∙ ap (λ m. drop m (front ++ back)) (sym e)))

  -- a part that begins in the first list and ends in the second, written in two steps
  pub part-both : (front back out : List X) (start rest : ℕ) → start ≤ length front → length front ≤ start + length out → start + length out ≤ length (front ++ back) → (a b : List X) → a ≡ drop start front → b ≡ take (start + length out - length front) back → rest ≡ length out - (length front - start) → put_mid (length front - start) rest (a ++ drop (length front - start) out) b ≡ take (length out) (drop start (front ++ back))
  part-both front back out start rest lo hi within a b e-a e-b e-rest =
      let n-front : length a ≡ length front - start = ap length e-a ∙ length-drop start front in
      let e : length out ≡ length a + (start + length out - length front) = omega arith in
      let cut : take (length out) (drop start (front ++ back)) ≡ a ++ b = ap (take (length out)) (drop-append-le start front back lo ∙ ap (λ ys. ys ++ back) (sym e-a)) ∙ ap (λ m. take m (a ++ back)) e ∙ take-append-add a back (start + length out - length front) ∙ ap (λ ys. a ++ ys) (sym e-b) in
      let first : take (length front - start) (a ++ drop (length front - start) out) ≡ a = take_at a (drop (length front - start) out) (length front - start) n-front in
      let after : drop (length front - start) (a ++ drop (length front - start) out) ≡ drop (length front - start) out = drop_at a (drop (length front - start) out) (length front - start) n-front in
      let none : drop rest (drop (length front - start) out) ≡ [] = drop_all rest (drop (length front - start) out) (omega (arith, length-drop (length front - start) out)) in
      rw (cut, first, after, none, append-nil) refl

-- the first so many of n places, step apart from the place from on, lie before the seam, and the others so far past it
pub record IsSplit (seam from step n first beyond : ℕ) : Type 0 where
  pub within : first ≤ n
  pub before : (k : ℕ) → k < first → from + k * step < seam
  pub after : first < n → beyond + seam ≡ from + first * step

pub split-found : (seam from step n left steps first beyond : ℕ) → 0 < step → left ≡ seam - from → steps ≡ div_ceil left step → first ≡ min steps n → beyond ≡ (from + first * step) - seam → IsSplit seam from step n first beyond
split-found seam from step n left steps first beyond some e-left e-steps e-first e-beyond =
    let bounds = div_ceil_times (seam - from) step some in
    let lo : seam - from ≤ steps * step = rw (e-steps, e-left) bounds.0 in
    let hi : steps * step < (seam - from) + step = rw (e-steps, e-left) bounds.1 in
    record {
      within = omega arith;
      before = λ k h.
          let next : suc k * step ≤ steps * step = mul-le-mul_right step (omega arith) in
          let up : suc k * step ≡ k * step + step = suc-mul k step in
          omega arith;
      after = λ h.
          let all : first ≡ steps = omega arith in
          let same : first * step ≡ steps * step = ap (λ m. m * step) all in
          omega arith;
    }

module _ {X : Type 0} where
  -- past the seam there is as much as is left
  pub split-left : (front back : List X) (from step n first beyond : ℕ) → IsSplit (length front) from step n first beyond → ((k : ℕ) → k < n → from + k * step < length (front ++ back)) → (k : ℕ) → k < n - first → beyond + k * step < length back
  split-left front back from step n first beyond s within k h =
      let after : beyond + length front ≡ from + first * step = s.after (omega arith) in
      let at : from + (k + first) * step < length (front ++ back) = within (k + first) (omega arith) in
      let parts : (k + first) * step ≡ k * step + first * step = add-mul k first step in
      omega (arith, length-append front back)

  -- what stands past the seam
  pub split-beyond : (front back : List X) (from step n first beyond k : ℕ) (d : X) → IsSplit (length front) from step n first beyond → k < n - first → get_or back (beyond + k * step) d ≡ get_or (front ++ back) (from + (first + k) * step) d
  split-beyond front back from step n first beyond k d s h =
      let after : beyond + length front ≡ from + first * step = s.after (omega arith) in
      let parts : (first + k) * step ≡ first * step + k * step = add-mul first k step in
      let place : from + (first + k) * step ≡ length front + (beyond + k * step) = omega arith in
      sym (ap (λ m. get_or (front ++ back) m d) place ∙ get_or-append-add front back (beyond + k * step) d)
