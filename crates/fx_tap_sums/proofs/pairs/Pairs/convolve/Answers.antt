use Rattle.std.proofs.Common.{◌≡◌, ◌+◌, ◌-◌, length, drop, take, arith, refl}
use Rattle.std.proofs.lemmas.Grind.{common_steps}
use Rattle.std.proofs.lemmas.List.{length-drop, length-take-le, take_all}
use Rattle.fx_tap_sums.proofs.PairSamples.{next-halves}
use Rattle.fx_tap_sums.proofs.pairs.Pairs.convolve.Goals as goal

pub pieces-preserved : goal.pieces-preserved
pieces-preserved c =
    let window = c.args.window.now in
    let sums = c.pieces.sums in
    let at = c.pieces.at in
    let count = c.min-count.result in
    let window_left = length-drop at window in
    let sums_left = length-drop at sums in
    let rest : take (length window - at) (drop at window) ≡ drop at window = take_all (length window - at) (drop at window) (omega (arith, window_left)) in
    let long : length (take (at + count - at) (drop at sums)) ≡ at + count - at = length-take-le (at + count - at) (drop at sums) (omega (arith, sums_left)) in
    let many : at + count - at ≡ count = omega arith in
    let piece = rw (long, many, rest) at (c.if-not-convolve_piece.ensures.exact.0 refl) in
    record {
      place = grind (arith, common_steps);
      exact = λ some. next-halves window (length c.args.self.now) at count c.pieces.invariant.exact piece;
      done = grind (arith, common_steps);
      bound = grind (arith, common_steps);
    }
