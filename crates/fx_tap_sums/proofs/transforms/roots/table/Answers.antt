use Rattle.std.proofs.Common.{arith, rules, length, ◌≡◌, ◌+◌, ◌^◌, ◌∙◌, refl, sym, ℕ, ℤ, pos, ◌*ℤ◌, [], ◌∷◌, get_or}
use Rattle.std.proofs.lemmas.Grind.{get_or_default_zero}
use Rattle.std.proofs.lemmas.List.{length-append}
use Rattle.fx_tap_sums.specs.Residues.{Same}
use Rattle.fx_tap_sums.proofs.Residues.{same_refl}
use Rattle.fx_tap_sums.specs.Transform.{root_at}
use Rattle.fx_tap_sums.proofs.Doubling.{step_kept, step_more, pushed, two_first, two_step, power_more}
use Rattle.fx_tap_sums.proofs.transforms.roots.table.Goals as goal

pub steps-init : goal.steps-init
steps-init g c =
    let roots : c.push-2.new.self.items ≡ 1 ∷ c.of-2.result ∷ [] = c.in_ok-push-2.ensures.items ∙ rw (c.in_ok-push.ensures.items, c.new-roots.ensures.items, c.of.ensures) refl in
    let inverses : c.push-4.new.self.items ≡ 1 ∷ c.of-4.result ∷ [] = c.in_ok-push-4.ensures.items ∙ rw (c.in_ok-push-3.ensures.items, c.new-inverses.ensures.items, c.of-3.ensures) refl in
    let u : c.of-2.result ≡ get_or c.args.steps.now 0 0 = c.of-2.ensures ∙ search rules in
    let v : c.of-4.result ≡ get_or c.args.back.now 0 0 = c.of-4.ensures ∙ search rules in
    rw (roots, inverses) (record { front = two_first g.row.P c.args.steps.now c.args.back.now c.of-2.result c.of-4.result c.requires.steps u v; long = refl; last = two_step g.row.P c.args.steps.now c.of-2.result u })

pub places-preserved : goal.places-preserved
places-preserved g c =
    let p : ℤ = pos g.row.P in
    let k = c.steps.at in
    let m : ℕ = 2 ^ c.steps.at in
    let half = c.len-half.result in
    let place = c.places.place in
    let roots = c.places.roots.items in
    let inverses = c.places.inverses.items in
    let front = c.places.invariant.front in
    let beside = front.beside in
    let x : ℕ = c.of-in-places.result in
    let y : ℕ = c.of-in-places-2.result in
    let step : c.of-step.result ≡ get_or c.args.steps.now (k + 1) 0 = c.of-step.ensures ∙ search rules in
    let back : c.of-back.result ≡ get_or c.args.back.now (k + 1) 0 = c.of-back.ensures ∙ search rules in
    let root : c.index.result.now ≡ get_or roots place 0 = c.index.ensures ∙ get_or_default_zero roots place c.index.result.now (omega arith) in
    let inverse : c.index-in-places.result.now ≡ get_or inverses place 0 = c.index-in-places.ensures ∙ get_or_default_zero inverses place c.index-in-places.result.now (omega arith) in
    let x_is : Same p (pos x) (pos (get_or c.args.steps.now (k + 1) 0) *ℤ root_at roots place) = rw (step, c.value.ensures.value, root, ← c.of-in-places.ensures) at c.times.ensures.same in
    let y_is : Same p (pos y) (pos (get_or c.args.back.now (k + 1) 0) *ℤ root_at inverses place) = rw (back, c.value-in-places.ensures.value, inverse, ← c.of-in-places-2.ensures) at c.times-in-places.ensures.same in
    let long = length-append roots (x ∷ []) in
    rw (c.in_ok-push-5.ensures.items, c.in_ok-push-6.ensures.items)
    (record {
      front = pushed g.row.P roots inverses half m place (get_or c.args.steps.now (k + 1) 0) (get_or c.args.steps.now k 0) (get_or c.args.back.now (k + 1) 0) x y front c.places.invariant.half c.places.invariant.long (omega arith) c.places.invariant.last (c.requires.steps.squares k (omega arith)) (c.requires.steps.inverse (k + 1) (omega arith)) x_is y_is;
      half = c.places.invariant.half;
      long = omega arith;
      last = step_kept g.row.P m (get_or c.args.steps.now k 0) m roots x (omega arith) (omega arith) c.places.invariant.last;
      next = step_more g.row.P half (get_or c.args.steps.now (k + 1) 0) place roots x c.places.invariant.long (omega arith) c.places.invariant.next x_is;
    })

pub steps-preserved : goal.steps-preserved
steps-preserved g c =
    let double = power_more c.steps.at in
    let power : c.len-half.result ≡ 2 ^ (c.steps.at + 1) = c.places.invariant.half ∙ sym double in
    record {
      front = c.places.invariant.front;
      long = omega arith;
      last = rw (← power) (λ i lt. c.places.invariant.next i (omega arith));
    }

pub returns-clause-are : goal.returns-clause-are
returns-clause-are g c =
    let front = c.steps.invariant.front in
    let long : length c.steps.roots.items ≡ 512 = search rules in
    record {
      first = rw front.first (same_refl (pos g.row.P) (pos 1));
      even = λ j lt. front.even j (omega (arith, lt, long));
      odd = λ j lt. front.odd j (omega (arith, lt, long));
      inverse = λ j lt. front.inverse j (omega (arith, lt, long));
    }
