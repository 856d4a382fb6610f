use Rattle.std.proofs.Common.{arith, ◌≡◌, ◌<◌, ◌≤◌, ◌+◌, ◌*◌, ◌∙◌, ◌++◌, ap, sym, ℕ, pos, neg_ℤ, ◌+ℤ◌, ◌*ℤ◌, List, drop, get_or, length}
use Rattle.std.proofs.lemmas.Int.{ints}
use Rattle.std.proofs.lemmas.List.{length-append}
use Rattle.fx_tap_sums.specs.Products.{sum_of_products}
use Rattle.fx_tap_sums.specs.Residues.{Same}
use Rattle.fx_tap_sums.specs.Transform.{root_at}
use Rattle.fx_tap_sums.proofs.ThirdSums.{AreCut, AreThirds, cut_first, cut_long, cut_second, cut_third, half_first, half_second, of_parts, part_less, sums_of_thirds}
use Rattle.fx_tap_sums.proofs.Steps.{read_at}
use Rattle.fx_tap_sums.proofs.Writes.{remainders_both}
use Rattle.fx_tap_sums.proofs.transforms.prepared.multiply_thirds.Given as given
use Rattle.fx_tap_sums.proofs.transforms.prepared.multiply_thirds.Goals.{After-split_thirds}
use Rattle.fx_tap_sums.proofs.transforms.prepared.multiply_thirds.Goals as goal

-- the values in thirds, and what becomes of them
thirds : (g : given.Over) (c : After-split_thirds g) →
    AreThirds g.row.P c.of-half.result c.of-turned_half.result c.args.values.now c.split_at_mut-first.result.0.now c.split_at_mut-first.result.1.now c.split_at_mut-front.result.1.now c.split_thirds.new.first c.split_thirds.new.second c.split_thirds.new.third
thirds g c =
    let parts : AreCut c.args.values.now c.split_at_mut-front.result.0.now c.split_at_mut-front.result.1.now c.split_at_mut-first.result.0.now c.split_at_mut-first.result.1.now = record { front_is = c.split_at_mut-front.ensures.front; third_is = c.split_at_mut-front.ensures.back; first_is = c.split_at_mut-first.ensures.front; second_is = c.split_at_mut-first.ensures.back } in
    let parts_long = cut_long _ _ _ _ _ parts c.requires.values in
    let s0_long = c.split_thirds.auto.first ∙ parts_long.0 in
    record {
      first_long = parts_long.0;
      second_long = parts_long.1;
      third_long = parts_long.2;
      first_is = cut_first _ _ _ _ _ parts;
      second_is = cut_second _ _ _ _ _ parts;
      third_is = cut_third _ _ _ _ _ parts;
      s0_long = s0_long;
      s1_long = c.split_thirds.auto.second ∙ parts_long.1;
      s2_long = c.split_thirds.auto.third ∙ parts_long.2;
      s0_is = rw s0_long at c.split_thirds.ensures.first;
      s1_is = rw s0_long at c.split_thirds.ensures.second;
      s2_is = rw s0_long at c.split_thirds.ensures.third;
    }

front_long : (g : given.Over) (c : After-split_thirds g) → length (c.split_thirds.new.first ++ c.split_thirds.new.second) ≡ 2048
front_long g c = let t = thirds g c in length-append c.split_thirds.new.first c.split_thirds.new.second ∙ omega (arith, t.s0_long, t.s1_long)

pub split_thirds-requires : goal.split_thirds-requires
split_thirds-requires g c =
    let cut : AreCut c.args.values.now c.split_at_mut-front.result.0.now c.split_at_mut-front.result.1.now c.split_at_mut-first.result.0.now c.split_at_mut-first.result.1.now = record { front_is = c.split_at_mut-front.ensures.front; third_is = c.split_at_mut-front.ensures.back; first_is = c.split_at_mut-first.ensures.front; second_is = c.split_at_mut-first.ensures.back } in
    let l = cut_long _ _ _ _ _ cut c.requires.values in
    let less = λ (n : ℕ) (inside : n + 1024 ≤ length c.args.values.now) (xs : List ℕ) (long : length xs ≡ 1024). part_less (2 * g.row.P) n 1024 xs c.args.values.now c.requires.loaded long inside in
    (omega arith, (c.requires.modulus, ((256, omega (arith, l)), (omega (arith, l), (omega (arith, l), (less 0 (omega (arith, c.requires.values)) _ l.0 (cut_first _ _ _ _ _ cut), (less 1024 (omega (arith, c.requires.values)) _ l.1 (cut_second _ _ _ _ _ cut), less 2048 (omega (arith, c.requires.values)) _ l.2 (cut_third _ _ _ _ _ cut))))))))

pub multiply-requires : goal.multiply-requires
multiply-requires g c =
    let l = front_long g (goal.at.multiply-requires g c).After-split_thirds in
    let prepared = c.requires.are.1.medium in
    let roots = c.deref.ensures.value in
    let inverses = c.deref-2.ensures.value in
    let leaves = c.deref-3.ensures.value in
    (omega arith, (c.requires.modulus, (rw roots prepared.table, (rw inverses prepared.beside, (rw (roots, inverses) prepared.are, (omega arith, (l, (rw leaves (omega (arith, prepared.long, l)), (omega (arith, l), (rw leaves prepared.remainders, remainders_both (4 * g.row.P) _ _ c.split_thirds.ensures.first_less c.split_thirds.ensures.second_less))))))))))

pub join_thirds-requires : goal.join_thirds-requires
join_thirds-requires g c =
    let s = (goal.at.join_thirds-requires g c).After-split_thirds in
    let f = c.multiply.new.values in
    let f_long = c.multiply.auto.values ∙ front_long g s in
    let f0_long = c.split_at_mut-first-2.ensures.front_len in
    let f1_long : length c.split_at_mut-first-2.result.1.now ≡ 1024 = omega (arith, c.split_at_mut-first-2.ensures.back_len, f_long) in
    let e_long = c.multiply-2.auto.values ∙ (thirds g s).s2_long in
    (omega arith, (c.requires.modulus, ((256, omega (arith, f0_long)), (omega (arith, f0_long, f1_long), (omega (arith, f0_long, e_long), (part_less (4 * g.row.P) 0 1024 _ f c.multiply.ensures.values f0_long (omega (arith, f_long)) (half_first f _ c.split_at_mut-first-2.ensures.front), (part_less (4 * g.row.P) 1024 1024 _ f c.multiply.ensures.values f1_long (omega (arith, f_long)) (half_second f _ c.split_at_mut-first-2.ensures.back), c.multiply-2.ensures.values)))))))

pub returns-clause-remainders : goal.returns-clause-remainders
returns-clause-remainders g c =
    let p : ℕ = 4 * g.row.P in
    remainders_both p _ _ (remainders_both p _ _ c.join_thirds.ensures.first_less c.join_thirds.ensures.second_less) c.multiply-2.ensures.values

pub returns-clause-sums : goal.returns-clause-sums
returns-clause-sums g c = λ ws w prepared loaded i max lt.
    let s = (goal.at.returns-clause-sums g c).After-split_thirds in
    let q = g.row.P in
    let f = c.multiply.new.values in
    let e = c.multiply-2.new.values in
    let roots = c.args.prepared.now.table.roots.items in
    let root : c.index-root.result.now ≡ get_or roots 1 0 = read_at roots 1 c.index-root.result.now (omega (arith, prepared.medium.table)) c.index-root.ensures in
    let whole : c.of-half.result + c.of-half.result ≡ 1 + q = omega (arith, c.of-half.ensures, c.requires.modulus) in
    let once : pos q *ℤ pos 1 ≡ pos q = ap pos (omega arith) in
    let twice : Same (pos q) (pos c.of-half.result +ℤ pos c.of-half.result) (pos 1) = (pos 1, omega (arith, ints, whole, once)) in
    let product : Same (pos q) (pos c.times.result) (pos c.index-root.result.now *ℤ pos c.value.result) = c.times.ensures.same in
    let turned : Same (pos q) (pos c.of-turned_half.result) (root_at roots 1 *ℤ pos c.of-half.result) = rw (sym c.of-turned_half.ensures, root, c.value.ensures.value) at product in
    let o0 = c.join_thirds.new.first in
    let o1 = c.join_thirds.new.second in
    let o0_long : length o0 ≡ 1024 = c.join_thirds.auto.first ∙ c.split_at_mut-first-2.ensures.front_len in
    let f_long = c.multiply.auto.values ∙ front_long g s in
    let o1_long : length o1 ≡ 1024 = omega (arith, c.join_thirds.auto.second, c.split_at_mut-first-2.ensures.back_len, f_long) in
    let e_long = c.multiply-2.auto.values ∙ (thirds g s).s2_long in
    let long : length ((o0 ++ o1) ++ e) ≡ 3072 = omega (arith, length-append (o0 ++ o1) e, length-append o0 o1, o0_long, o1_long, e_long) in
    let low_is : (k : ℕ) → k < 1024 → Same (pos q) (pos (get_or o0 k 0)) (pos (get_or f k 0) +ℤ (neg_ℤ (root_at roots 1) *ℤ pos (get_or e k 0))) = λ k l.
    let place : 0 + k ≡ k = omega arith in
    rw (half_first f c.split_at_mut-first-2.result.0.now c.split_at_mut-first-2.ensures.front k l, root, place) at (c.join_thirds.ensures.first k (rw o0_long l)) in
    let high_is : (k : ℕ) → k < 1024 → Same (pos q) (pos (get_or o1 k 0)) (pos (get_or f (1024 + k) 0) +ℤ neg_ℤ (pos (get_or e k 0))) = λ k l.
    rw (half_second f c.split_at_mut-first-2.result.1.now c.split_at_mut-first-2.ensures.back k l) at (c.join_thirds.ensures.second k (rw o0_long l)) in
    let sums = λ (k : ℕ) (l : k < 1024). sums_of_thirds q c.of-half.result c.of-turned_half.result k (pos (get_or o0 k 0)) (pos (get_or o1 k 0)) ws w roots c.args.prepared.now.table.inverses.items c.args.prepared.now.medium.items c.args.prepared.now.turned.items c.args.values.now _ _ _
    c.split_thirds.new.first c.split_thirds.new.second c.split_thirds.new.third f e c.requires.modulus twice turned prepared.medium prepared.turned (thirds g s) loaded c.requires.values prepared.bound
    (rw (c.deref.ensures.value, c.deref-3.ensures.value) at c.multiply.ensures.product) (rw (c.deref-4.ensures.value, c.deref-6.ensures.value) at c.multiply-2.ensures.product) l (low_is k l) (high_is k l) in
    of_parts (λ z k. k + length ws ≤ length w → Same (pos q) z (sum_of_products (drop k w) ws)) 1024 i o0 o1 e o0_long o1_long (rw long at max) (λ k l. (sums k l).0) (λ k l. (sums k l).1) lt
