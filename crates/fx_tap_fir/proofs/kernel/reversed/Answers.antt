use Rattle.std.proofs.Common.{◌≡◌, ◌≤◌, ◌+◌, ◌^◌, ◌++◌, ◌∷◌, ◌∙◌, ap, sym, rules, drop, unsigned_abs, to_z, of_z, append_assoc}
use Rattle.std.specs.Int.{w64}
use Rattle.std.proofs.lemmas.List.{drop_more}
use Rattle.std.proofs.lemmas.List.Elements.{All-push}
use Rattle.fx_tap_fir.proofs.kernel.reversed.Goals as goal

pub coefficients-preserved : goal.coefficients-preserved
coefficients-preserved c =
    let back : to_z w64 (of_z w64 c.trillionths.result) ≡ c.trillionths.result = search rules in
    record {
      value = rw (c.in_ok-push.ensures.items, back) (append_assoc c.coefficients.numbers.items _ _
          ∙ ap (λ l. c.coefficients.numbers.items ++ l) (ap (λ x. x ∷ drop (c.coefficients.coefficient-index + 1) c.args.coefficients.now) (c.trillionths.ensures.value ∙ c.coefficient-item.is) ∙ sym (drop_more c.args.coefficients.now c.coefficients.coefficient-index c.coefficient-item.result c.coefficients-test.true))
          ∙ c.coefficients.invariant.value);
      small = rw (c.in_ok-push.ensures.items, back) (All-push (λ x. unsigned_abs x ≤ 10 ^ 15) c.coefficients.numbers.items _ c.coefficients.invariant.small c.trillionths.ensures.bound);
    }
