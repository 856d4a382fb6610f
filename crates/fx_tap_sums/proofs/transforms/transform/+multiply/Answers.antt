use Rattle.std.proofs.Common.{arith, ◌≡◌, ◌<◌, ◌≤◌, ◌+◌, ◌-◌, ◌*◌, ◌/◌, ◌^◌, ◌∙◌, refl, ℕ, length}
use Rattle.std.proofs.lemmas.Nat.{mul-le}
use Rattle.fx_tap_sums.proofs.Leaves.{product_by_quarters}
use Rattle.fx_tap_sums.proofs.Quarters.{EachLess, EachLong, Quarters, as_long, joined_less, Quartered, place_of_quarters, quartered, quarters_are, quarters_fit, quarters_long}
use Rattle.fx_tap_sums.proofs.Steps.{levels_bound, place_less}
use Rattle.fx_tap_sums.proofs.Writes.{remainders_wider}
use Rattle.fx_tap_sums.proofs.transforms.transform.+multiply.Given as given
use Rattle.fx_tap_sums.proofs.transforms.transform.+multiply.Goals.{After-spread_quarters}
use Rattle.fx_tap_sums.proofs.transforms.transform.+multiply.Goals as goal

pub multiply_thirty_two-requires : goal.multiply_thirty_two-requires
multiply_thirty_two-requires g t c =
    let v = c.args.values.now in
    let long : length v ≡ 32 = c.requires.power ∙ rw c.if-levels-eq3.true refl in
    let bound = place_less c.args.place (length v) 32 (omega (arith, long)) c.requires.place in
    let less : (22 - 2 * c.args.levels) * g.row.P ≡ 16 * g.row.P = rw c.if-levels-eq3.true refl in
    (omega arith, (c.requires.modulus, (c.requires.table, (c.requires.beside, (c.requires.are, (long, (omega (arith, c.requires.as_many, long), (omega (arith, bound), (c.requires.leaves, rw less at c.requires.values)))))))))

pub returns-then-levels-eq3-clause-product : goal.returns-then-levels-eq3-clause-product
returns-then-levels-eq3-clause-product g t c = rw c.if-levels-eq3.true c.multiply_thirty_two.ensures.product

pub multiply_sixty_four-requires : goal.multiply_sixty_four-requires
multiply_sixty_four-requires g t c =
    let v = c.args.values.now in
    let long : length v ≡ 64 = c.requires.power ∙ rw c.if-levels-eq4.true refl in
    let bound = place_less c.args.place (length v) 64 (omega (arith, long)) c.requires.place in
    let less : (22 - 2 * c.args.levels) * g.row.P ≡ 14 * g.row.P = rw c.if-levels-eq4.true refl in
    (omega arith, (c.requires.modulus, (c.requires.table, (c.requires.beside, (c.requires.are, (long, (omega (arith, c.requires.as_many, long), (omega (arith, bound), (c.requires.leaves, rw less at c.requires.values)))))))))

pub returns-then-levels-eq4-clause-product : goal.returns-then-levels-eq4-clause-product
returns-then-levels-eq4-clause-product g t c = rw c.if-levels-eq4.true c.multiply_sixty_four.ensures.product

some : (g : given.Over) (t : ℕ) (c : After-spread_quarters g t) → 5 ≤ c.args.levels
some g t c = omega (arith, c.requires.levels, c.if-levels-eq3.false, c.if-levels-eq4.false)

sizes : (g : given.Over) (t : ℕ) (c : After-spread_quarters g t) → Quartered c.args.levels (length c.args.values.now)
sizes g t c = let enough = some g t c in quartered c.args.levels (length c.args.values.now) c.requires.power (omega arith)

-- the values in quarters
values : (g : given.Over) (t : ℕ) (c : After-spread_quarters g t) → Quarters (length c.args.values.now / 2) (length c.args.values.now / 2 / 2) c.args.values.now c.split_at_mut-low.result.0.now c.split_at_mut-low.result.1.now c.split_at_mut-first.result.0.now c.split_at_mut-first.result.1.now c.split_at_mut-third.result.0.now c.split_at_mut-third.result.1.now
values g t c = record { front = c.split_at_mut-low.ensures.front; back = c.split_at_mut-low.ensures.back; first = c.split_at_mut-first.ensures.front; second = c.split_at_mut-first.ensures.back; third = c.split_at_mut-third.ensures.front; fourth = c.split_at_mut-third.ensures.back }

limit : (g : given.Over) (t : ℕ) (c : After-spread_quarters g t) → c.args.place < 128
limit g t c = place_of_quarters c.args.levels (length c.args.values.now) c.args.place c.requires.power (some g t c) c.requires.place

-- what two levels made of the values
spread_long : (g : given.Over) (t : ℕ) (c : After-spread_quarters g t) → EachLong (length c.args.values.now / 2 / 2) c.spread_quarters.new.first c.spread_quarters.new.second c.spread_quarters.new.third c.spread_quarters.new.fourth
spread_long g t c = let auto = c.spread_quarters.auto in let s = sizes g t c in as_long _ _ _ _ _ _ _ _ _ (quarters_long _ _ _ _ _ _ _ _ _ (values g t c) s.first.twice s.second.twice) auto.first auto.second auto.third auto.fourth

spread_less : (g : given.Over) (t : ℕ) (c : After-spread_quarters g t) → let b = (22 - 2 * c.args.levels) * g.row.P + 4 * g.row.P in EachLess b c.spread_quarters.new.first c.spread_quarters.new.second c.spread_quarters.new.third c.spread_quarters.new.fourth
spread_less g t c =
    let b : ℕ = (22 - 2 * c.args.levels) * g.row.P in
    let s = sizes g t c in
    let less = (quarters_are b _ _ _ _ _ _ _ _ _ (values g t c) s.first.twice s.second.twice c.requires.values).first in
    let e = c.spread_quarters.ensures in
    record { first = e.first_less b less; second = e.second_less b less; third = e.third_less b less; fourth = e.fourth_less b less }

pub spread_quarters-requires : goal.spread_quarters-requires
spread_quarters-requires g t c =
    let p = g.row.P in
    let levels = c.args.levels in
    let v = c.args.values.now in
    let bound : ℕ = (22 - 2 * levels) * p in
    let enough : 5 ≤ levels = omega (arith, c.requires.levels, c.if-levels-eq3.false, c.if-levels-eq4.false) in
    let size = quartered levels (length v) c.requires.power (omega (arith, enough)) in
    let quarters : Quarters (length v / 2) (length v / 2 / 2) v c.split_at_mut-low.result.0.now c.split_at_mut-low.result.1.now c.split_at_mut-first.result.0.now c.split_at_mut-first.result.1.now c.split_at_mut-third.result.0.now c.split_at_mut-third.result.1.now = record { front = c.split_at_mut-low.ensures.front; back = c.split_at_mut-low.ensures.back; first = c.split_at_mut-first.ensures.front; second = c.split_at_mut-first.ensures.back; third = c.split_at_mut-third.ensures.front; fourth = c.split_at_mut-third.ensures.back } in
    let l = quarters_long _ _ _ _ _ _ _ _ _ quarters size.first.twice size.second.twice in
    let limit = place_of_quarters levels (length v) c.args.place c.requires.power enough c.requires.place in
    let self : p ≤ p = omega arith in
    let less : bound ≤ 18 * p = mul-le (22 - 2 * levels) p 18 p (omega (arith, enough)) self in
    let fit = quarters_fit p _ _ _ _ _ _ _ _ _ c.requires.modulus quarters size.first.twice size.second.twice (remainders_wider bound (18 * p) v less c.requires.values) in
    (omega arith, (c.requires.modulus, (c.requires.table, (omega (arith, limit), ((2 ^ (levels - 2), l.first ∙ size.second.power), (omega (arith, l), (omega (arith, l), (omega (arith, l), fit))))))))

pub is_quarter-requires-clause-bound : goal.is_quarter-requires-clause-bound
is_quarter-requires-clause-bound g t c = levels_bound c.args.levels (length c.args.values.now) c.args.place c.requires.power c.requires.place

pub is_quarter-requires-clause-values : goal.is_quarter-requires-clause-values
is_quarter-requires-clause-values g t c = (spread_less g t (goal.at.is_quarter-requires-clause-values g t c).After-spread_quarters).first

pub is_quarter-requires-2-clause-bound : goal.is_quarter-requires-2-clause-bound
is_quarter-requires-2-clause-bound g t c = levels_bound c.args.levels (length c.args.values.now) c.args.place c.requires.power c.requires.place

pub is_quarter-requires-2-clause-values : goal.is_quarter-requires-2-clause-values
is_quarter-requires-2-clause-values g t c = (spread_less g t (goal.at.is_quarter-requires-2-clause-values g t c).After-spread_quarters).second

pub is_quarter-requires-3-clause-bound : goal.is_quarter-requires-3-clause-bound
is_quarter-requires-3-clause-bound g t c = levels_bound c.args.levels (length c.args.values.now) c.args.place c.requires.power c.requires.place

pub is_quarter-requires-3-clause-values : goal.is_quarter-requires-3-clause-values
is_quarter-requires-3-clause-values g t c = (spread_less g t (goal.at.is_quarter-requires-3-clause-values g t c).After-spread_quarters).third

pub is_quarter-requires-4-clause-bound : goal.is_quarter-requires-4-clause-bound
is_quarter-requires-4-clause-bound g t c = levels_bound c.args.levels (length c.args.values.now) c.args.place c.requires.power c.requires.place

pub is_quarter-requires-4-clause-values : goal.is_quarter-requires-4-clause-values
is_quarter-requires-4-clause-values g t c = (spread_less g t (goal.at.is_quarter-requires-4-clause-values g t c).After-spread_quarters).fourth

pub gather_quarters-requires : goal.gather_quarters-requires
gather_quarters-requires g t c =
    let s = (goal.at.gather_quarters-requires g t c).After-spread_quarters in
    let l = as_long _ _ _ _ _ _ _ _ _ (spread_long g t s) c.multiply.auto.values c.multiply-2.auto.values c.multiply-3.auto.values c.multiply-4.auto.values in
    (omega arith, (c.requires.modulus, (c.requires.beside, (omega (arith, limit g t s), ((2 ^ (c.args.levels - 2), l.first ∙ (sizes g t s).second.power), (omega (arith, l), (omega (arith, l), (omega (arith, l), (c.multiply.ensures.values, (c.multiply-2.ensures.values, (c.multiply-3.ensures.values, c.multiply-4.ensures.values)))))))))))

pub returns-clause-values : goal.returns-clause-values
returns-clause-values g t c =
    let e = c.gather_quarters.ensures in
    joined_less (4 * g.row.P) _ _ _ _ (record { first = e.first_less; second = e.second_less; third = e.third_less; fourth = e.fourth_less })

pub returns-clause-product : goal.returns-clause-product
returns-clause-product g t c =
    let s = (goal.at.returns-clause-product g t c).After-spread_quarters in
    let u_long = as_long _ _ _ _ _ _ _ _ _ (spread_long g t s) c.multiply.auto.values c.multiply-2.auto.values c.multiply-3.auto.values c.multiply-4.auto.values in
    let x = c.spread_quarters in
    let w = c.gather_quarters in
    let w_long = as_long _ _ _ _ _ w.new.first w.new.second w.new.third w.new.fourth u_long w.auto.first w.auto.second w.auto.third w.auto.fourth in
    product_by_quarters g.row.P c.args.levels (length c.args.values.now) c.args.place c.args.roots.now c.args.inverses.now _ _ _ _ _ _ _ _ _ _ _ _ _ _ x.new.first x.new.second x.new.third x.new.fourth
    c.multiply.new.values c.multiply-2.new.values c.multiply-3.new.values c.multiply-4.new.values w.new.first w.new.second w.new.third w.new.fourth
    (omega (arith, c.requires.modulus)) c.requires.power c.requires.levels c.requires.are (limit g t s) refl c.requires.as_many (values g t s)
    (record { front = c.split_at.ensures.front; back = c.split_at.ensures.back; first = c.split_at-2.ensures.front; second = c.split_at-2.ensures.back; third = c.split_at-3.ensures.front; fourth = c.split_at-3.ensures.back })
    (spread_long g t s) u_long w_long x.ensures.first x.ensures.second x.ensures.third x.ensures.fourth
    c.multiply.ensures.product c.multiply-2.ensures.product c.multiply-3.ensures.product c.multiply-4.ensures.product
    w.ensures.first w.ensures.second w.ensures.third w.ensures.fourth
