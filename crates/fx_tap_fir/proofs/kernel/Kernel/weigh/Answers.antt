use Rattle.std.proofs.Common.{rules, ◌≡◌, ◌+◌, ◌-◌, ◌∙◌, ap, sym, List, ℤ, length, drop, take, arith}
use Rattle.std.proofs.lemmas.List.{length-drop, take_all}
use Rattle.fx_fixed.specs.Rounding.{rounding}
use Rattle.fx_fixed.specs.declared.gains.TheConstants.{UNIT}
use Rattle.fx_tap_sums.specs.Products.{sum_of_products}
use Rattle.fx_tap_fir.proofs.WindowSums.{back_sum-is}
use Rattle.fx_tap_fir.proofs.kernel.Kernel.weigh.Goals as goal

pub returns-then-place-count : goal.returns-then-place-count
returns-then-place-count c =
    let b : List ℤ = c.self.inside.backwards.items in
    let window : List ℤ = c.args.window.now in
    let count : c.len-count.result ≡ length b = search rules in
    let whole : c.args.place + 1 - length b ≡ 0 = omega (arith, count, c.if-place-count.true) in
    let from : c.len-count.result - 1 - c.args.place ≡ length b - (c.args.place + 1) = omega (arith, count) in
    let e = rw whole at (back_sum-is window c.args.place b) in
    let made = rw (← c.self.view_is) at c.weigh_from.ensures in
    rw (← c.self.view_is) (made ∙ ap (λ z. rounding z UNIT) (ap (λ n. sum_of_products window (drop n b)) from ∙ sym e))

pub returns : goal.returns
returns c =
    let b : List ℤ = c.self.inside.backwards.items in
    let window : List ℤ = c.args.window.now in
    let count : c.len-count.result ≡ length b = search rules in
    let whole : length b - (c.args.place + 1) ≡ 0 = omega (arith, count, c.if-place-count.false) in
    let e = rw whole at (back_sum-is window c.args.place b) in
    let inside : List ℤ = drop (c.args.place + 1 - c.len-count.result) window in
    let long = length-drop (c.args.place + 1 - c.len-count.result) window in
    let all : take (length window - (c.args.place + 1 - c.len-count.result)) inside ≡ inside = take_all _ inside (omega (arith, long)) in
    let made = rw (← c.self.view_is, all) at c.weigh_from-2.ensures in
    rw (← c.self.view_is) (made ∙ ap (λ z. rounding z UNIT) (ap (λ n. sum_of_products (drop (c.args.place + 1 - n) window) b) count ∙ sym e))
