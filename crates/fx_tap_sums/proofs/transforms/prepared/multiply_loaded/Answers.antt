use Rattle.std.proofs.Common.{arith, ◌≡◌, length, inl, inr}
use Rattle.fx_tap_sums.proofs.Prepared.{sum_at}
use Rattle.fx_tap_sums.proofs.transforms.prepared.multiply_loaded.Goals as goal

pub returns-then-values-eq1024-clause-sums : goal.returns-then-values-eq1024-clause-sums
returns-then-values-eq1024-clause-sums g c = λ ws w prepared loaded i max lt.
    let product = rw (c.deref.ensures.value, c.deref-then-values-eq1024-2.ensures.value) at c.multiply.ensures.product in
    sum_at g.row.P 8 ws w _ _ _ c.args.values.now c.multiply.new.values i c.requires.modulus (omega arith) prepared.small (omega (arith, c.if-values-eq1024.true)) loaded.1 loaded.0 lt product

pub returns-then-values-eq2048-clause-sums : goal.returns-then-values-eq2048-clause-sums
returns-then-values-eq2048-clause-sums g c = λ ws w prepared loaded i max lt.
    let product = rw (c.deref-then-values-eq2048.ensures.value, c.deref-then-values-eq2048-3.ensures.value) at c.multiply-then-values-eq2048.ensures.product in
    sum_at g.row.P 9 ws w _ _ _ c.args.values.now c.multiply-then-values-eq2048.new.values i c.requires.modulus (omega arith) prepared.medium (omega (arith, c.if-values-eq2048.true)) loaded.1 loaded.0 lt product

pub returns-else-values-eq3072-clause-sums : goal.returns-else-values-eq3072-clause-sums
returns-else-values-eq3072-clause-sums g c = λ ws w prepared loaded i max lt.
    let long : length c.args.values.now ≡ 4096 = elim c.requires.values [
      | inl small ↦ absurd (c.if-values-eq1024.false (omega (arith, small)))
      | inr others ↦ elim others [
        | inl medium ↦ absurd (c.if-values-eq2048.false (omega (arith, medium)))
        | inr larger ↦ elim larger [ inl thirds ↦ absurd (c.if-values-eq3072.false (omega (arith, thirds))) | inr large ↦ omega (arith, large) ]
      ]
    ] in
    let product = rw (c.deref-else-values-eq3072.ensures.value, c.deref-else-values-eq3072-3.ensures.value) at c.multiply-else-values-eq3072.ensures.product in
    sum_at g.row.P 10 ws w _ _ _ c.args.values.now c.multiply-else-values-eq3072.new.values i c.requires.modulus (omega arith) prepared.large long loaded.1 loaded.0 lt product
