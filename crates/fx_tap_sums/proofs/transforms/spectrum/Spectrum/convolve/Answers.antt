use Rattle.std.proofs.Common.{arith, ap, ◌≡◌, ◌∙◌, ◌<◌, ◌≤◌, ◌+◌, ◌-◌, ◌^◌, ℕ, ℤ, pos, List, length, get_or, take, drop, unsigned_abs}
use Rattle.std.proofs.lemmas.List.{drop-drop, length-drop, take_all}
use Rattle.fx_tap_sums.specs.Products.{sum_of_products}
use Rattle.fx_tap_sums.proofs.Convolving.{mid_before, mid_at, mid_long, placed-more}
use Rattle.fx_tap_sums.proofs.transforms.spectrum.Spectrum.convolve.Goals as goal

pub pieces-preserved : goal.pieces-preserved
pieces-preserved c =
    let w = c.args.window.now in
    let ws : List ℤ = c.self.inside.weights.items in
    let is : c.args.self.now ≡ ws = cc in
    let long = ap length is in
    let at = c.pieces.at in
    let n = c.count_at_once-count.result in
    let sums = c.pieces.sums in
    let new = c.convolve_piece.new.sums in
    let m = at + n - at in
    let within : at + n ≤ length sums = omega arith in
    let size : length new ≡ n = omega arith in
    let taps : length ws ≡ c.len-taps.result = omega arith in
    let left = length-drop at w in
    let rest : take (length w - at) (drop at w) ≡ drop at w = take_all (length w - at) (drop at w) (omega (arith, left)) in
    let piece = rw rest at (c.convolve_piece.ensures.sums ws taps c.self.invariant.1) in
    let more : (k : ℕ) → k < n → get_or new k (pos 0) ≡ sum_of_products (drop (at + k) w) c.args.self.now = λ k l. rw (is, ← drop-drop k at w) (piece k (omega (arith, l, size))) in
    record {
      place = rw (mid_long at m sums new (omega (arith, size)) (omega (arith, within))) within;
      done = placed-more (λ i v. v ≡ sum_of_products (drop i w) c.args.self.now) n at _ (λ i l. mid_before at m i sums new (omega (arith, within)) l ∙ c.pieces.invariant.done i l) (λ k l. mid_at at m k sums new (omega (arith, within)) (omega (arith, l, size)) ∙ more k l);
      bound = placed-more (λ i v. unsigned_abs v ≤ 2 ^ 61) n at _ (λ i l. rw (mid_before at m i sums new (omega (arith, within)) l) (c.pieces.invariant.bound i l)) (λ k l. rw (mid_at at m k sums new (omega (arith, within)) (omega (arith, l, size))) (c.convolve_piece.ensures.bound k (omega (arith, l, size))));
    }
