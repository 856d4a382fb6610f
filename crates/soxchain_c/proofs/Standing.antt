-- The frames that a run reports were there.
use Rattle.std.proofs.Common.{◌≡◌, ℕ, ◌+◌, ◌*◌, ◌/◌, ◌%◌, ◌≤◌, Bool, true, false, cond, List, [], ◌∷◌, length, Option, ap, arith, ℤ, MatchBool, Result, Ok, Err}
use Rattle.std.proofs.Math.Nat.{div-add-mod', mul-le-mul_right}
use Rattle.fx_chain.specs.Theorem.{Ran, frames_read, kinds_of, sound_in, strays, until_enough}
use Rattle.fx_chain.proofs.Stating.{sound-count}
use Rattle.fx_chain_flow.specs.Composed.{enough_for}
use Rattle.fx_sound.specs.FrameCoding.{frame_size}
use Rattle.fx_plan.specs.Planning.{Planning}
use Rattle.fx_chain_run.specs.declared.report.Report.{Report}
use Rattle.fx_chain_run.specs.declared.report.RunFault.{RunFault}
use Rattle.fx_chain_run.specs.declared.report.RunFault.TheVariants.{ReadFailed, WriteFailed, TooLong}
use Rattle.fx_chain_run.specs.Report.{report_in}
use Rattle.fx_sound.specs.Sound.{within_sound}
use Rattle.soxchain_c.specs.Conversion.{AreThere}

-- whole frames and what is left after them are no more than all bytes
within-all : (frames stray size bytes : ℕ) → frames ≤ bytes / size → stray ≤ bytes % size → frames * size + stray ≤ bytes
within-all frames stray size bytes bound left = omega (arith, mul-le-mul_right size bound, left, div-add-mod' bytes size)

cond-maximum : (b : Bool) (n : ℕ) → cond b 0 n ≤ n
cond-maximum true n = omega arith
cond-maximum false n = omega arith

until-more : (b : Bool) (f : List ℤ) (xs ys : List (List ℤ)) → length xs ≤ length ys → length (cond b [] (f ∷ xs)) ≤ length (f ∷ ys)
until-more true f xs ys bound = omega arith
until-more false f xs ys bound = omega (arith, bound)

-- no more frames are read than there are
until-maximum : (p : Planning) (n : ℕ) (fs : List (List ℤ)) → length (until_enough (kinds_of p) n fs) ≤ length fs
until-maximum p n [] = omega arith
until-maximum p n (f ∷ fs) = until-more (enough_for (kinds_of p) n) f (until_enough (kinds_of p) (n + 1) fs) fs (until-maximum p (n + 1) fs)

-- the stray bytes, where they are counted and where not
ends-maximum : (P Q T : Type 0) (b : Bool) (stray n : ℕ) → MatchBool b (P × Q × (stray ≡ n)) (T × (stray ≡ 0)) → stray ≤ n
ends-maximum P Q T true stray n e = omega (arith, e.2)
ends-maximum P Q T false stray n e = omega (arith, e.1)

-- what a report names, where its frames are some of the sound's
there : (p : Planning) (bytes : List ℕ) (r : Report) → r.frames_in ≤ length (sound_in p.head bytes) → r.stray ≤ length (within_sound p.head.announced bytes) % frame_size p.head.coding p.head.channels → AreThere p bytes r
there p bytes r bound left = within-all r.frames_in r.stray _ _ (omega (arith, bound, sound-count p.head bytes)) left

-- the same of any run
pub there-ran : (p : Planning) (bytes : List ℕ) (first now : Option (List ℕ)) (result : Result Report RunFault) → Ran p bytes first now result → AreThere p bytes (report_in result)
there-ran p bytes first now (Ok r) ran =
    let read : r.frames_in ≡ length (frames_read p bytes) = ap (λ (x : Report). x.frames_in) ran.reports in
    let left : r.stray ≡ strays p bytes = ap (λ (x : Report). x.stray) ran.reports in
    let stray : ℕ = length (within_sound p.head.announced bytes) % frame_size p.head.coding p.head.channels in
    there p bytes r (omega (arith, read, until-maximum p 0 (sound_in p.head bytes)))
    (omega (arith, left, cond-maximum (enough_for (kinds_of p) (length (frames_read p bytes))) stray))
there-ran p bytes first now (Err (ReadFailed r)) ran =
    let none : r.stray ≡ 0 = ap (λ (x : Report). x.stray) ran.reports in
    there p bytes r ran.part (omega (arith, none))
there-ran p bytes first now (Err (TooLong r)) ran =
    let none : r.stray ≡ 0 = ap (λ (x : Report). x.stray) ran.0.reports in
    there p bytes r ran.0.part (omega (arith, none))
there-ran p bytes first now (Err (WriteFailed r)) ran = there p bytes r ran.part (ends-maximum _ _ _ _ _ _ ran.ends)
