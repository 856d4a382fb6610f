use Rattle.std.proofs.Common.{rules, ◌≡◌, ◌+◌, ◌<◌, ◌∙◌, ap, ℕ, ℤ, pos, Bool, List, length, drop, arith, slice_index_or}
use Rattle.fx_fixed.specs.Rounding.{rounding}
use Rattle.fx_fixed.specs.declared.gains.TheConstants.{UNIT}
use Rattle.fx_tap_sums.specs.Weights.{Weights}
use Rattle.fx_tap_sums.specs.SmallWeights.{SumsAs}
use Rattle.fx_tap_sums.specs.Products.{sum_of_products}
use Rattle.fx_frame_base.specs.Rounded.{clips_rounded}
use Rattle.fx_tap_sums.proofs.KernelLaws.{rounded-as}
use Rattle.fx_frame_base.proofs.Tabulate.{tabulate-same}
use Rattle.fx_tap_fir.proofs.kernel.Kernel.filter_channel.Goals as goal

pub returns-in-Some-clause-put : goal.returns-in-Some-clause-put
returns-in-Some-clause-put c =
    let b : List ℤ = c.self.inside.backwards.items in
    let window : List ℤ = c.args.window.now in
    let w : Weights = c.in-Some.reduced in
    let delivered : SumsAs b UNIT w = rw c.in-Some.is at c.self.invariant.2 in
    let size : length c.convolve.new.sums ≡ length c.args.sums.now = search rules in
    rw (← c.self.view_is) (λ i l.
    let inside : i < length c.convolve.new.sums = rw size l in
    (rw c.denominator.ensures at c.round_channel.ensures.put i inside) ∙ ap (λ r. r.0) (rounded-as b (drop i window) UNIT w (slice_index_or c.convolve.new.sums i (pos 0)) delivered (c.convolve.ensures.sums i inside)))

pub returns-in-Some-clause-clips : goal.returns-in-Some-clause-clips
returns-in-Some-clause-clips c =
    let b : List ℤ = c.self.inside.backwards.items in
    let window : List ℤ = c.args.window.now in
    let w : Weights = c.in-Some.reduced in
    let delivered : SumsAs b UNIT w = rw c.in-Some.is at c.self.invariant.2 in
    let size : length c.convolve.new.sums ≡ length c.args.sums.now = search rules in
    let F : ℕ → ℤ × Bool = λ i. rounding (sum_of_products (drop i window) b) UNIT in
    let G : ℕ → ℤ × Bool = λ i. rounding (slice_index_or c.convolve.new.sums i (pos 0)) w.denominator in
    let counted = rw (c.denominator.ensures, size) at c.round_channel.ensures.clips in
    rw (← c.self.view_is) (counted ∙ ap clips_rounded (tabulate-same G F 0 0 (length c.args.sums.now) (λ i l.
    let inside : 0 + i < length c.convolve.new.sums = omega (arith, size, l) in
    rounded-as b (drop (0 + i) window) UNIT w (slice_index_or c.convolve.new.sums (0 + i) (pos 0)) delivered (c.convolve.ensures.sums (0 + i) inside))))
