use Rattle.std.proofs.Common.{rules, ◌≡◌, ◌+◌, ◌-◌, pos, slice_index_or, arith, FitsSigned, w16}
use Rattle.std.specs.Simd.Lanes.{chunk}
use Rattle.std.proofs.lemmas.Simd.{get_or-chunk}
use Rattle.fx_tap_sums.proofs.PairLanes.{each_of_eight, halves_back, loaded, loaded-fits}
use Rattle.fx_tap_sums.proofs.pairs.load_halves.Goals as goal

pub returns : goal.returns
returns c =
    let halves = c.args.halves.now in
    let at = c.args.at in
    let first : FitsSigned w16 (slice_index_or halves at (pos 0)) = search rules in
    let place : at ≡ at + 0 = omega arith in
    let each = each_of_eight (λ k. FitsSigned w16 (slice_index_or halves (at + k) (pos 0))) (rw place at first) (search rules) (search rules) (search rules) (search rules) (search rules) (search rules) (search rules) in
    let fit = loaded-fits halves at c.requires each in
    rw (loaded halves at (at + 8 - at) (omega arith) c.requires, halves_back (chunk at 8 halves) fit) (record { fits = fit; value = λ k l. get_or-chunk at 8 halves k (pos 0) l })
