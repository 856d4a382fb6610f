use Rattle.std.proofs.Common.{arith, rules, ap, ◌≡◌, ◌≤◌, ◌+◌, ◌-◌, ◌*◌, ◌^◌, ℕ, ℤ, pos, ◌*ℤ◌, List, ◌++◌, length, take, drop, map}
use Rattle.std.proofs.lemmas.List.{take_at, length-map}
use Rattle.std.proofs.lemmas.Nat.{mul-le}
use Rattle.fx_tap_sums.specs.Prepared.{padded_weights}
use Rattle.fx_tap_sums.specs.Residues.{AreRemainders, AreSame}
use Rattle.fx_tap_sums.specs.Transform.{IsTransform}
use Rattle.fx_tap_sums.proofs.CyclicSums.{padded_at, length-padded}
use Rattle.fx_tap_sums.proofs.Steps.{levels_bound}
use Rattle.fx_tap_sums.proofs.transforms.loading.transformed.Goals as goal

pub returns-clause-transform : goal.returns-clause-transform
returns-clause-transform g c =
    let f : ℤ → ℤ = λ w. pos c.args.scale *ℤ w in
    let ws = c.args.weights.now in
    let h : List ℤ = padded_weights c.args.count (map f ws) in
    let new : List ℕ = c.forward.new.values in
    let values = c.in_ok-values.values.items in
    let old_long = ap length c.deref_mut.ensures.value in
    let long : length new ≡ c.args.count = omega (arith, c.forward.auto.values, old_long, c.in_ok-values.ensures.long) in
    let free : length new ≡ c.in_ok-values.values.len = search rules in
    let all : take c.in_ok-values.values.len (new ++ drop (length new) values) ≡ new = take_at new (drop (length new) values) c.in_ok-values.values.len free in
    let mapped = length-map ws f in
    let same : AreSame g.row.P c.deref_mut.result.now h = rw c.deref_mut.ensures.value (λ i lt. rw (padded_at c.args.count (map f ws) i) (c.in_ok-values.ensures.same i lt)) in
    let h_long = length-padded c.args.count (map f ws) (omega (arith, mapped, c.requires.bound)) in
    let transform : IsTransform g.row.P c.args.roots.now c.args.levels c.args.place h new = c.forward.ensures.transform h (omega arith) same in
    rw all transform

pub forward-requires : goal.forward-requires
forward-requires g c =
    let p : ℕ = g.row.P in
    let levels : ℕ = c.args.levels in
    let old = c.deref_mut.result.now in
    let old_long = ap length c.deref_mut.ensures.value in
    let long : length old ≡ c.args.count = omega (arith, old_long, c.in_ok-values.ensures.long) in
    let power : length old ≡ 4 * 2 ^ levels = omega (arith, long, c.requires.count) in
    let bound : (c.args.place + 1) * length old ≤ 4096 = rw long c.requires.place in
    let limit : levels ≤ 10 = levels_bound levels (length old) c.args.place power bound in
    let capacity : 1 * p ≤ (22 - 2 * levels) * p = mul-le 1 p (22 - 2 * levels) p (omega (arith, limit)) (omega arith) in
    let less : AreRemainders p old = rw c.deref_mut.ensures.value c.in_ok-values.ensures.remainders in
    (omega arith, (c.requires.modulus, (c.requires.table, (power, (omega (arith, bound), (λ i lt. omega (arith, capacity, less i lt)))))))
