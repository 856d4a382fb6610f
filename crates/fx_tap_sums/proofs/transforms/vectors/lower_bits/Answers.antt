use Rattle.std.proofs.Common.{refl, arith, ◌∙◌, ◌≡◌, ◌*◌, ◌%◌, ◌^◌, ◌<◌, slice_index_or}
use Rattle.std.proofs.lemmas.Nat.{and_mask}
use Rattle.std.proofs.Math.Nat.{mod-eq_of_lt}
use Rattle.std.proofs.Math.Pow.{pow-lt}
use Rattle.fx_tap_sums.proofs.Vectors.{four_of_both, lane_of_both, splat_at}
use Rattle.fx_tap_sums.proofs.transforms.vectors.lower_bits.Goals as goal

pub returns-clause-four : goal.returns-clause-four
returns-clause-four g c = four_of_both _ c.args.numbers _ c.requires.four refl

pub returns-clause-value : goal.returns-clause-value
returns-clause-value g c =
    let small : 2 ^ g.row.BITS < 2 ^ 64 = pow-lt c.requires.bits in
    let whole : 1 * 2 ^ g.row.BITS % 2 ^ 64 ≡ 2 ^ g.row.BITS = mod-eq_of_lt (omega (arith, small)) ∙ omega arith in
    λ k l. rw (lane_of_both _ c.args.numbers _ k c.requires.four refl l, splat_at _ k l, whole) (and_mask (slice_index_or c.args.numbers k 0) g.row.BITS)
