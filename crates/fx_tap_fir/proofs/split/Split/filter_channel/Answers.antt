use Rattle.std.proofs.Common.{rules, ◌≡◌, ◌+◌, ◌<◌, ◌∙◌, ap, ℕ, ℤ, pos, Bool, List, length, drop, arith, slice_index_or}
use Rattle.fx_fixed.specs.Rounding.{rounding}
use Rattle.fx_fixed.specs.declared.gains.TheConstants.{UNIT}
use Rattle.fx_frame_base.specs.Rounded.{clips_rounded}
use Rattle.fx_tap_fir.specs.Split.{joined_split}
use Rattle.fx_tap_sums.specs.Products.{sum_of_products}
use Rattle.fx_frame_base.proofs.Tabulate.{tabulate-same}
use Rattle.fx_tap_fir.proofs.split.Split.filter_channel.Goals as goal

pub returns-clause-clips : goal.returns-clause-clips
returns-clause-clips c =
    let window : List ℤ = c.args.window.now in
    let hs : List ℤ = c.self.inside.high in
    let ls : List ℤ = c.self.inside.low in
    let size : length c.convolve.new.sums ≡ length c.args.sums.now = search rules in
    let beside : length c.convolve-2.new.sums ≡ length c.args.sums.now = search rules in
    let F : ℕ → ℤ × Bool = λ i. rounding (joined_split (sum_of_products (drop i window) hs) (sum_of_products (drop i window) ls)) UNIT in
    let G : ℕ → ℤ × Bool = λ i. rounding (joined_split (slice_index_or c.convolve-2.new.sums i (pos 0)) (slice_index_or c.convolve.new.sums i (pos 0))) UNIT in
    let counted = rw size at c.round_joined.ensures.clips in
    rw (← c.self.view_is) (counted ∙ ap clips_rounded (tabulate-same G F 0 0 (length c.args.sums.now) (λ i l.
    let first : 0 + i < length c.convolve.new.sums = omega (arith, size, l) in
    let second : 0 + i < length c.convolve-2.new.sums = omega (arith, beside, l) in
    ap (λ z. rounding (joined_split z (slice_index_or c.convolve.new.sums (0 + i) (pos 0))) UNIT) (c.convolve-2.ensures.sums (0 + i) second)
    ∙ ap (λ z. rounding (joined_split (sum_of_products (drop (0 + i) window) hs) z) UNIT) (c.convolve.ensures.sums (0 + i) first))))
