use Rattle.std.proofs.Common.{arith, ◌≡◌, ◌+◌, ◌-◌, ◌*◌, ◌^◌, ℕ, List, pos, neg_ℤ}
use Rattle.fx_tap_sums.specs.Quarters.{spread_at}
use Rattle.fx_tap_sums.specs.Residues.{AreFour, IsModulus}
use Rattle.fx_tap_sums.proofs.Quarters.{four_wider, spread_from}
use Rattle.fx_tap_sums.proofs.transforms.lanes.spread_two_levels.Goals as goal

-- what the first level makes fits the second one
both_fit : (p : ℕ) (one two : List ℕ) → IsModulus p → AreFour (2 ^ 32 - 4 * p + 2 * p) one → AreFour (2 ^ 32 - 4 * p + 2 * p) two → AreFour (2 ^ 32 - 2 * p) one × AreFour (2 ^ 32) two
both_fit p one two modulus first second = (four_wider (2 ^ 32 - 4 * p + 2 * p) (2 ^ 32 - 2 * p) one (omega (arith, modulus)) first, four_wider (2 ^ 32 - 4 * p + 2 * p) (2 ^ 32) two (omega (arith, modulus)) second)

twice : (p bound : ℕ) → (bound + 2 * p) + 2 * p ≡ bound + 4 * p
twice p bound = omega arith

pub spread_four-requires-3 : goal.spread_four-requires-3
spread_four-requires-3 g c =
    let b = 2 ^ 32 - 4 * g.row.P in
    (omega arith, (c.requires.modulus, both_fit g.row.P _ _ c.requires.modulus (c.spread_four.ensures.low b c.requires.first) (c.spread_four-2.ensures.low b c.requires.second)))

pub spread_four-requires-4 : goal.spread_four-requires-4
spread_four-requires-4 g c =
    let b = 2 ^ 32 - 4 * g.row.P in
    (omega arith, (c.requires.modulus, both_fit g.row.P _ _ c.requires.modulus (c.spread_four.ensures.high b c.requires.first) (c.spread_four-2.ensures.high b c.requires.second)))

pub returns-clause-first_less : goal.returns-clause-first_less
returns-clause-first_less g c = λ b are. rw (twice g.row.P b) at (c.spread_four-3.ensures.low (b + 2 * g.row.P) (c.spread_four.ensures.low b are))

pub returns-clause-second_less : goal.returns-clause-second_less
returns-clause-second_less g c = λ b are. rw (twice g.row.P b) at (c.spread_four-3.ensures.high (b + 2 * g.row.P) (c.spread_four.ensures.low b are))

pub returns-clause-third_less : goal.returns-clause-third_less
returns-clause-third_less g c = λ b are. rw (twice g.row.P b) at (c.spread_four-4.ensures.low (b + 2 * g.row.P) (c.spread_four.ensures.high b are))

pub returns-clause-fourth_less : goal.returns-clause-fourth_less
returns-clause-fourth_less g c = λ b are. rw (twice g.row.P b) at (c.spread_four-4.ensures.high (b + 2 * g.row.P) (c.spread_four.ensures.high b are))

pub returns-clause-first : goal.returns-clause-first
returns-clause-first g c = λ k l.
    let r = pos c.args.root in
    spread_from (pos g.row.P) _ (pos c.args.low_root) _ _ (spread_at r c.args.first c.args.third k) (spread_at r c.args.second c.args.fourth k) (c.spread_four-3.ensures.plus k l) (c.spread_four.ensures.plus k l) (c.spread_four-2.ensures.plus k l)

pub returns-clause-second : goal.returns-clause-second
returns-clause-second g c = λ k l.
    let r = pos c.args.root in
    spread_from (pos g.row.P) _ (neg_ℤ (pos c.args.low_root)) _ _ (spread_at r c.args.first c.args.third k) (spread_at r c.args.second c.args.fourth k) (c.spread_four-3.ensures.minus k l) (c.spread_four.ensures.plus k l) (c.spread_four-2.ensures.plus k l)

pub returns-clause-third : goal.returns-clause-third
returns-clause-third g c = λ k l.
    let r = neg_ℤ (pos c.args.root) in
    spread_from (pos g.row.P) _ (pos c.args.high_root) _ _ (spread_at r c.args.first c.args.third k) (spread_at r c.args.second c.args.fourth k) (c.spread_four-4.ensures.plus k l) (c.spread_four.ensures.minus k l) (c.spread_four-2.ensures.minus k l)

pub returns-clause-fourth : goal.returns-clause-fourth
returns-clause-fourth g c = λ k l.
    let r = neg_ℤ (pos c.args.root) in
    spread_from (pos g.row.P) _ (neg_ℤ (pos c.args.high_root)) _ _ (spread_at r c.args.first c.args.third k) (spread_at r c.args.second c.args.fourth k) (c.spread_four-4.ensures.minus k l) (c.spread_four.ensures.minus k l) (c.spread_four-2.ensures.minus k l)
