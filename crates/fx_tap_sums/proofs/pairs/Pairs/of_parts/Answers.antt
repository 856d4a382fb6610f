use Rattle.std.proofs.Common.{rules, arith, ◌≡◌, List, ℤ, length}
use Rattle.std.specs.Vec.{with_items}
use Rattle.std.proofs.lemmas.List.{take_at}
use Rattle.fx_tap_sums.proofs.PartSums.{interval-of-parts, tables-of-parts}
use Rattle.fx_tap_sums.proofs.pairs.Pairs.of_parts.Goals as goal

pub invariant_of-result : goal.invariant_of-result
invariant_of-result c =
    let ws = c.args.weights.now in
    let hs : List ℤ = c.split_into.new.high in
    let ls : List ℤ = c.split_into.new.low in
    let high_free : length hs ≡ c.resize.new.self.len = search rules in
    let low_free : length ls ≡ c.resize-2.new.self.len = search rules in
    let high_all : (with_items c.resize.new.self hs).items ≡ hs = take_at hs _ c.resize.new.self.len high_free in
    let low_all : (with_items c.resize-2.new.self ls).items ≡ ls = take_at ls _ c.resize-2.new.self.len low_free in
    let carried = rw (c.deref.ensures.value, low_all) at c.max_interval-interval.ensures.carried in
    let maximal = rw (c.deref.ensures.value, low_all) at c.max_interval-interval.ensures.maximal in
    let high_table = rw (c.deref-2.ensures.value, high_all) at c.in_ok-table.ensures in
    let low_table = rw (c.deref-3.ensures.value, low_all) at c.in_ok-low.ensures in
    rw c.in_ok-weights.ensures (omega arith, tt, (c.max_interval-interval.ensures.bound, tables-of-parts c.split_of-split.result ws hs ls c.in_ok-table.table.items c.in_ok-low.low.items c.max_interval-interval.result c.split_of-split.ensures.split c.split_of-split.ensures.within c.split_into.ensures (interval-of-parts c.split_of-split.result ws hs ls c.max_interval-interval.result c.split_into.ensures maximal) carried high_table low_table))
