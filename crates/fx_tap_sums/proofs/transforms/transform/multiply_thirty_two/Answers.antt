use Rattle.std.proofs.Common.{arith, ◌≡◌, ◌+◌, ◌*◌, refl, sym}
use Rattle.fx_tap_sums.proofs.Writes.{remainders_wider}
use Rattle.fx_tap_sums.proofs.Leaves.{product_by_quarters}
use Rattle.fx_tap_sums.proofs.Quarters.{EachLess, EachLong, Quarters, as_long, joined_less, quarters_are, quarters_fit, quarters_long}
use Rattle.fx_tap_sums.proofs.Steps.{inverse_read, read_at}
use Rattle.fx_tap_sums.proofs.transforms.transform.multiply_thirty_two.Given as given
use Rattle.fx_tap_sums.proofs.transforms.transform.multiply_thirty_two.Goals.{After-split_at-3}
use Rattle.fx_tap_sums.proofs.transforms.transform.multiply_thirty_two.Goals as goal

-- the values in quarters
values : (g : given.Over) (c : After-split_at-3 g) → Quarters 16 8 c.args.values.now c.split_at_mut-low.result.0.now c.split_at_mut-low.result.1.now c.split_at_mut-first.result.0.now c.split_at_mut-first.result.1.now c.split_at_mut-third.result.0.now c.split_at_mut-third.result.1.now
values g c = record { front = c.split_at_mut-low.ensures.front; back = c.split_at_mut-low.ensures.back; first = c.split_at_mut-first.ensures.front; second = c.split_at_mut-first.ensures.back; third = c.split_at_mut-third.ensures.front; fourth = c.split_at_mut-third.ensures.back }

-- the leaves in quarters
leaves : (g : given.Over) (c : After-split_at-3 g) → Quarters 32 16 c.args.leaves.now c.split_at.result.0.now c.split_at.result.1.now c.split_at-2.result.0.now c.split_at-2.result.1.now c.split_at-3.result.0.now c.split_at-3.result.1.now
leaves g c = record { front = c.split_at.ensures.front; back = c.split_at.ensures.back; first = c.split_at-2.ensures.front; second = c.split_at-2.ensures.back; third = c.split_at-3.ensures.front; fourth = c.split_at-3.ensures.back }

leaves_long : (g : given.Over) (c : After-split_at-3 g) → EachLong 16 c.split_at-2.result.0.now c.split_at-2.result.1.now c.split_at-3.result.0.now c.split_at-3.result.1.now
leaves_long g c = quarters_long 32 16 _ _ _ _ _ _ _ (leaves g c) c.requires.as_many refl

leaves_less : (g : given.Over) (c : After-split_at-3 g) → EachLess g.row.P c.split_at-2.result.0.now c.split_at-2.result.1.now c.split_at-3.result.0.now c.split_at-3.result.1.now
leaves_less g c = quarters_are g.row.P 32 16 _ _ _ _ _ _ _ (leaves g c) c.requires.as_many refl c.requires.leaves

-- what two levels made of the values
spread_long : (g : given.Over) (c : After-split_at-3 g) → EachLong 8 c.spread_quarters.new.first c.spread_quarters.new.second c.spread_quarters.new.third c.spread_quarters.new.fourth
spread_long g c = let auto = c.spread_quarters.auto in as_long 8 _ _ _ _ _ _ _ _ (quarters_long 16 8 _ _ _ _ _ _ _ (values g c) c.requires.thirty_two refl) auto.first auto.second auto.third auto.fourth

spread_less : (g : given.Over) (c : After-split_at-3 g) → EachLess (20 * g.row.P) c.spread_quarters.new.first c.spread_quarters.new.second c.spread_quarters.new.third c.spread_quarters.new.fourth
spread_less g c =
    let p = g.row.P in
    let less = (quarters_are (16 * p) 16 8 _ _ _ _ _ _ _ (values g c) c.requires.thirty_two refl c.requires.values).first in
    let bound : 16 * p + 4 * p ≡ 20 * p = omega arith in
    let e = c.spread_quarters.ensures in
    record { first = rw bound at (e.first_less (16 * p) less); second = rw bound at (e.second_less (16 * p) less); third = rw bound at (e.third_less (16 * p) less); fourth = rw bound at (e.fourth_less (16 * p) less) }

pub spread_quarters-requires : goal.spread_quarters-requires
spread_quarters-requires g c =
    let p = g.row.P in
    let v = c.args.values.now in
    let quarters : Quarters 16 8 v c.split_at_mut-low.result.0.now c.split_at_mut-low.result.1.now c.split_at_mut-first.result.0.now c.split_at_mut-first.result.1.now c.split_at_mut-third.result.0.now c.split_at_mut-third.result.1.now = record { front = c.split_at_mut-low.ensures.front; back = c.split_at_mut-low.ensures.back; first = c.split_at_mut-first.ensures.front; second = c.split_at_mut-first.ensures.back; third = c.split_at_mut-third.ensures.front; fourth = c.split_at_mut-third.ensures.back } in
    let l = quarters_long 16 8 _ _ _ _ _ _ _ quarters c.requires.thirty_two refl in
    let fit = quarters_fit p 16 8 _ _ _ _ _ _ _ c.requires.modulus quarters c.requires.thirty_two refl (remainders_wider (16 * p) (18 * p) v (omega arith) c.requires.values) in
    (omega arith, (c.requires.modulus, (c.requires.table, (omega (arith, c.requires.place), ((2, omega (arith, l)), (omega (arith, l), (omega (arith, l), (omega (arith, l), fit))))))))

pub multiply_eight-requires : goal.multiply_eight-requires
multiply_eight-requires g c =
    let s = (goal.at.multiply_eight-requires g c).After-split_at-3 in
    let inverse = inverse_read g.row.P c.args.roots.now c.args.inverses.now (2 * (2 * c.args.place)) _ _ c.requires.are (omega (arith, c.requires.place)) c.requires.table c.requires.beside c.index-roots-left.is c.index-inverses-left.is in
    (omega arith, (c.requires.modulus, (inverse, ((spread_long g s).first, ((leaves_long g s).fourth, ((leaves_less g s).fourth, (spread_less g s).first))))))

pub multiply_eight-requires-2 : goal.multiply_eight-requires-2
multiply_eight-requires-2 g c =
    let s = (goal.at.multiply_eight-requires-2 g c).After-split_at-3 in
    let inverse = inverse_read g.row.P c.args.roots.now c.args.inverses.now (2 * (2 * c.args.place) + 1) _ _ c.requires.are (omega (arith, c.requires.place)) c.requires.table c.requires.beside c.index-roots-left-2.is c.index-inverses-left-2.is in
    (omega arith, (c.requires.modulus, (inverse, ((spread_long g s).second, ((leaves_long g s).third, ((leaves_less g s).third, (spread_less g s).second))))))

pub multiply_eight-requires-3 : goal.multiply_eight-requires-3
multiply_eight-requires-3 g c =
    let s = (goal.at.multiply_eight-requires-3 g c).After-split_at-3 in
    let inverse = inverse_read g.row.P c.args.roots.now c.args.inverses.now (2 * (2 * c.args.place + 1)) _ _ c.requires.are (omega (arith, c.requires.place)) c.requires.table c.requires.beside c.index-roots-right.is c.index-inverses-right.is in
    (omega arith, (c.requires.modulus, (inverse, ((spread_long g s).third, ((leaves_long g s).second, ((leaves_less g s).second, (spread_less g s).third))))))

pub multiply_eight-requires-4 : goal.multiply_eight-requires-4
multiply_eight-requires-4 g c =
    let s = (goal.at.multiply_eight-requires-4 g c).After-split_at-3 in
    let inverse = inverse_read g.row.P c.args.roots.now c.args.inverses.now (2 * (2 * c.args.place + 1) + 1) _ _ c.requires.are (omega (arith, c.requires.place)) c.requires.table c.requires.beside c.index-roots-right-2.is c.index-inverses-right-2.is in
    (omega arith, (c.requires.modulus, (inverse, ((spread_long g s).fourth, ((leaves_long g s).first, ((leaves_less g s).first, (spread_less g s).fourth))))))

pub gather_quarters-requires : goal.gather_quarters-requires
gather_quarters-requires g c =
    let l = as_long 8 _ _ _ _ _ _ _ _ (spread_long g (goal.at.gather_quarters-requires g c).After-split_at-3) c.multiply_eight.auto.values c.multiply_eight-2.auto.values c.multiply_eight-3.auto.values c.multiply_eight-4.auto.values in
    (omega arith, (c.requires.modulus, (c.requires.beside, (omega (arith, c.requires.place), ((2, omega (arith, l)), (omega (arith, l), (omega (arith, l), (omega (arith, l), (c.multiply_eight.ensures.values, (c.multiply_eight-2.ensures.values, (c.multiply_eight-3.ensures.values, c.multiply_eight-4.ensures.values)))))))))))

pub returns-clause-values : goal.returns-clause-values
returns-clause-values g c =
    let e = c.gather_quarters.ensures in
    joined_less (4 * g.row.P) _ _ _ _ (record { first = e.first_less; second = e.second_less; third = e.third_less; fourth = e.fourth_less })

pub returns-clause-product : goal.returns-clause-product
returns-clause-product g c =
    let s = (goal.at.returns-clause-product g c).After-split_at-3 in
    let u_long = as_long 8 _ _ _ _ _ _ _ _ (spread_long g s) c.multiply_eight.auto.values c.multiply_eight-2.auto.values c.multiply_eight-3.auto.values c.multiply_eight-4.auto.values in
    let roots = c.args.roots.now in
    let left = 2 * c.args.place in
    let right = 2 * c.args.place + 1 in
    let x = c.spread_quarters in
    let w = c.gather_quarters in
    let w_long = as_long 8 _ _ _ _ w.new.first w.new.second w.new.third w.new.fourth u_long w.auto.first w.auto.second w.auto.third w.auto.fourth in
    product_by_quarters g.row.P 3 32 c.args.place roots c.args.inverses.now _ _ _ _ _ _ _ _ _ _ _ _ _ _ x.new.first x.new.second x.new.third x.new.fourth
    c.multiply_eight.new.values c.multiply_eight-2.new.values c.multiply_eight-3.new.values c.multiply_eight-4.new.values w.new.first w.new.second w.new.third w.new.fourth
    (omega (arith, c.requires.modulus)) refl (omega arith) c.requires.are c.requires.place c.requires.thirty_two c.requires.as_many (values g s) (leaves g s) (spread_long g s) u_long w_long
    x.ensures.first x.ensures.second x.ensures.third x.ensures.fourth
    (c.multiply_eight.ensures.product roots (2 * left) (sym (read_at roots (2 * left) c.index-roots-left.result (omega (arith, c.requires.place, c.requires.table)) c.index-roots-left.is)))
    (c.multiply_eight-2.ensures.product roots (2 * left + 1) (sym (read_at roots (2 * left + 1) c.index-roots-left-2.result (omega (arith, c.requires.place, c.requires.table)) c.index-roots-left-2.is)))
    (c.multiply_eight-3.ensures.product roots (2 * right) (sym (read_at roots (2 * right) c.index-roots-right.result (omega (arith, c.requires.place, c.requires.table)) c.index-roots-right.is)))
    (c.multiply_eight-4.ensures.product roots (2 * right + 1) (sym (read_at roots (2 * right + 1) c.index-roots-right-2.result (omega (arith, c.requires.place, c.requires.table)) c.index-roots-right-2.is)))
    w.ensures.first w.ensures.second w.ensures.third w.ensures.fourth
