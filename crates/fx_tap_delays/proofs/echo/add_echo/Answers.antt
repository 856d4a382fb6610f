use Rattle.std.proofs.Common.{◌≡◌, ◌<◌, pos, ◌+ℤ◌, ◌*ℤ◌, ap, sym, ◌∙◌, arith, slice_index_or}
use Rattle.fx_frame.proofs.DelayLaws.{sample-some, sample-none}
use Rattle.fx_tap_sums.proofs.SumLaws.{zero-echo}
use Rattle.fx_tap_delays.specs.Tapping.{history_after}
use Rattle.fx_tap_delays.proofs.echo.add_echo.Goals as goal

pub returns-in_default-clause-added : goal.returns-in_default-clause-added
returns-in_default-clause-added c =
    λ k l.
    let some : 0 < c.args.echo.0 = omega arith in
    let none : pos 0 ≡ history_after c.args.line.now.items c.args.frame c.args.echo.0 k =
    sample-none c.args.line.now.items c.args.frame c.args.echo.0 k some (sym c.in_default.is ∙ c.back.ensures) in
    zero-echo _ c.args.echo.1 _ none

pub returns-clause-added : goal.returns-clause-added
returns-clause-added c =
    λ k l.
    let some : 0 < c.args.echo.0 = omega arith in
    let e : slice_index_or c.in-Some.from k (pos 0) ≡ history_after c.args.line.now.items c.args.frame c.args.echo.0 k =
    sample-some c.args.line.now.items c.args.frame c.in-Some.from c.args.echo.0 k some c.in-Some.ensures in
    c.add_scaled.ensures.added k l ∙ ap (λ z. slice_index_or c.args.sums.now k (pos 0) +ℤ (c.args.echo.1 *ℤ z)) e
