-- A sample that is limited before whole steps are added to it.
use Rattle.std.proofs.Common.{◌≡◌, ◌-◌, ◌^◌, ◌∙◌, ap, sym, arith, ℤ, pos, neg_ℤ, ◌+ℤ◌, ◌-ℤ◌, Bool, true, false, nat_eq, to_z, of_z, w32, FitsSigned}
use Rattle.std.specs.Int.{int_max, int_min, saturate_signed}
use Rattle.std.proofs.lemmas.Grind.{common_steps}
use Rattle.std.proofs.lemmas.Int.{ints}
use Rattle.std.proofs.lemmas.Bool.{eq-eqb}
use Rattle.std.proofs.lemmas.Bool.Decides.{nat_tests}
use Rattle.fx_fixed.specs.Rounding.{is_sample}

-- the steps added to it make the clipped sum
pub limited-sum : (x steps r : ℤ) → FitsSigned w32 x → FitsSigned w32 steps
    → r ≡ int_max (neg_ℤ (pos (2 ^ 31)) -ℤ int_min steps (pos 0)) (int_min x (pos (2 ^ 31 - 1) -ℤ int_max steps (pos 0)))
    → r +ℤ steps ≡ saturate_signed w32 (x +ℤ steps)
limited-sum x steps r f g e = grind (arith, ints, common_steps)

pub limited-fits : (x steps r : ℤ) → FitsSigned w32 x → FitsSigned w32 steps
    → r ≡ int_max (neg_ℤ (pos (2 ^ 31)) -ℤ int_min steps (pos 0)) (int_min x (pos (2 ^ 31 - 1) -ℤ int_max steps (pos 0)))
    → FitsSigned w32 (r +ℤ steps)
limited-fits x steps r f g e = grind (arith, ints, common_steps)

-- it is another one just where the sum is clipped
limited-same : (x steps r : ℤ) → FitsSigned w32 x → FitsSigned w32 steps
    → r ≡ int_max (neg_ℤ (pos (2 ^ 31)) -ℤ int_min steps (pos 0)) (int_min x (pos (2 ^ 31 - 1) -ℤ int_max steps (pos 0)))
    → is_sample (x +ℤ steps) ≡ true → r ≡ x
limited-same x steps r f g e h = grind (arith, ints, common_steps)

limited-other : (x steps r : ℤ) → FitsSigned w32 x → FitsSigned w32 steps
    → r ≡ int_max (neg_ℤ (pos (2 ^ 31)) -ℤ int_min steps (pos 0)) (int_min x (pos (2 ^ 31 - 1) -ℤ int_max steps (pos 0)))
    → is_sample (x +ℤ steps) ≡ false → r ≡ x → ⊥
limited-other x steps r f g e h same = grind (arith, ints, common_steps)

pub limited-test : (x steps r : ℤ) → FitsSigned w32 x → FitsSigned w32 steps → to_z w32 (of_z w32 x) ≡ x → to_z w32 (of_z w32 r) ≡ r
    → r ≡ int_max (neg_ℤ (pos (2 ^ 31)) -ℤ int_min steps (pos 0)) (int_min x (pos (2 ^ 31 - 1) -ℤ int_max steps (pos 0)))
    → (same : Bool) → is_sample (x +ℤ steps) ≡ same → nat_eq (of_z w32 r) (of_z w32 x) ≡ same
limited-test x steps r f g wx wr e true h = eq-eqb _ _ (ap (of_z w32) (limited-same x steps r f g e h))
limited-test x steps r f g wx wr e false h =
    let other : of_z w32 r ≡ of_z w32 x → ⊥ = λ q. limited-other x steps r f g e h (sym wr ∙ ap (to_z w32) q ∙ wx) in
    grind (arith, nat_tests, other)
