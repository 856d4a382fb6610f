-- Frames that were taken while there was space.
use Rattle.std.proofs.Common.{◌≡◌, ◌+◌, ◌-◌, ◌*◌, ◌<◌, ◌≤◌, ℕ, List, length, sym, ap, arith}
use Rattle.std.proofs.Math.Nat.{add-mul}
use Rattle.std.proofs.lemmas.Bool.{cases_lt}
use Rattle.std.proofs.lemmas.Nat.{mul-le}
use mathlib.Core.Logic.{inl, inr}
use Rattle.fx_frame_base.specs.Feed.{Fed, TookNext, TookWithinSpace}
use Rattle.fx_frame_base.specs.Frame.{Samples}
use Rattle.fx_frame_base.specs.Stage.{Acts, kind}
use Rattle.fx_frame_base.proofs.FedLaws.{Fed-gives}

-- so many frames, and one more, in as many places as those of all have
pub free-grows : (more frames size free : ℕ) → more + 1 ≤ frames → frames * size ≤ free → (more + 1) * size ≤ free
free-grows more frames size free less fits = let same : size ≤ size = omega arith in omega (arith, mul-le (more + 1) size frames size less same, fits)

module _ {S R : Type 0} (acts : Acts S R) where
  -- where so many frames more at most are due, and one more has room
  pub free-maximum : (s : S) (count more free : ℕ) → ((n : ℕ) → n < count → (kind acts s).due ((acts.counts s).taken + n) ≤ (acts.counts s).given + more) → (more + 1) * (kind acts s).outputs ≤ free
      → TookWithinSpace acts s count free
  free-maximum s count more free due fits n bound =
      let within = due n bound in
      free-grows ((kind acts s).due ((acts.counts s).taken + n) - (acts.counts s).given) (more + 1) (kind acts s).outputs free (omega (arith, within)) fits

  -- where no more is due than one frame for each that came, and all of them have room
  pub free-each : (s : S) (count free : ℕ) → ((n : ℕ) → n < count → (kind acts s).due ((acts.counts s).taken + n) ≤ (acts.counts s).given + n) → count * (kind acts s).outputs ≤ free
      → TookWithinSpace acts s count free
  free-each s count free due fits n bound =
      let within = due n bound in
      free-grows ((kind acts s).due ((acts.counts s).taken + n) - (acts.counts s).given) count (kind acts s).outputs free (omega (arith, within, bound)) fits

  -- where they were taken, there was room for one
  pub free-some : (s : S) (count free : ℕ) → TookWithinSpace acts s count free → 0 < count → (kind acts s).outputs ≤ free
  free-some s count free all some =
      let more : ℕ = (kind acts s).due ((acts.counts s).taken + 0) - (acts.counts s).given in
      omega (arith, all 0 some, add-mul more 1 (kind acts s).outputs)

  -- one frame more was taken
  pub free-next : (first s s' : S) (xs gs : List Samples) (x : Samples) (count written free : ℕ) → acts.recipe s ≡ acts.recipe first → (acts.counts s).taken ≡ (acts.counts first).taken + count
      → Fed acts first xs gs s → TookNext acts s s' x → written ≡ length gs * (kind acts first).outputs → written + (kind acts first).outputs ≤ free
      → TookWithinSpace acts first count free → TookWithinSpace acts first (count + 1) free
  free-next first s s' xs gs x count written free same counted fed took is fits_out before n bound = elim (cases_lt n count) [
    | inl less ↦ before n less
    | inr last ↦
        let here : (acts.counts first).taken + n ≡ (acts.counts s).taken = omega (arith, counted, last, bound) in
        let due : (kind acts first).due (acts.counts s).taken ≡ (acts.counts s).given = let due = rw (ap acts.kind_of same) at took.due in sym due in
        let gave = (Fed-gives acts first s xs gs fed).given in
        free-grows ((kind acts first).due ((acts.counts first).taken + n) - (acts.counts first).given) (length gs + 1) (kind acts first).outputs free
        (rw (here, due) (omega (arith, gave)))
        (omega (arith, is, fits_out, add-mul (length gs) 1 (kind acts first).outputs))
  ]

  -- frames were taken, and after those that they gave more
  pub free-then : (first s : S) (n k m free : ℕ) → acts.recipe s ≡ acts.recipe first → (acts.counts s).taken ≡ (acts.counts first).taken + n → (acts.counts s).given ≡ (acts.counts first).given + k
      → k * (kind acts first).outputs ≤ free → TookWithinSpace acts first n free → TookWithinSpace acts s m (free - k * (kind acts first).outputs) → TookWithinSpace acts first (n + m) free
  free-then first s n k m free same taken given fits one two i bound = elim (cases_lt i n) [
    | inl less ↦ one i less
    | inr more ↦
        let later = two (i - n) (omega (arith, more, bound)) in
        let here : (acts.counts s).taken + (i - n) ≡ (acts.counts first).taken + i = omega (arith, taken, more) in
        let fits_out : ((kind acts first).due ((acts.counts first).taken + i) - (acts.counts s).given + 1) * (kind acts first).outputs ≤ free - k * (kind acts first).outputs = rw (ap acts.kind_of same, here) at later in
        free-grows ((kind acts first).due ((acts.counts first).taken + i) - (acts.counts first).given) (k + ((kind acts first).due ((acts.counts first).taken + i) - (acts.counts s).given + 1)) (kind acts first).outputs free
        (omega (arith, given))
        (omega (arith, fits, fits_out, add-mul k ((kind acts first).due ((acts.counts first).taken + i) - (acts.counts s).given + 1) (kind acts first).outputs))
  ]
