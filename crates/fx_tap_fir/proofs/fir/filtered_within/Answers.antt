use Rattle.std.proofs.Common.{◌++◌, length, ap, ◌∙◌, refl, reverse}
use Rattle.fx_fixed.specs.Rounding.{rounding}
use Rattle.fx_fixed.specs.declared.gains.TheConstants.{UNIT}
use Rattle.fx_tap_fir.specs.FirState.{samples_of_window}
use Rattle.fx_tap_sums.specs.Products.{sum_of_products}
use Rattle.fx_tap_fir.proofs.WindowSums.{filtered-is}
use Rattle.fx_tap_fir.proofs.fir.filtered_within.Goals as goal

pub returns : goal.returns
returns c =
    c.weigh.ensures ∙ ap (λ l. rounding (sum_of_products (samples_of_window l c.args.place (length c.args.kernel.now)) (reverse c.args.kernel.now)) UNIT) c.fill_window.ensures
    ∙ filtered-is c.args.kernel.now (c.args.line.now.items ++ c.args.latest.now) c.args.place c.args.channel _ refl
