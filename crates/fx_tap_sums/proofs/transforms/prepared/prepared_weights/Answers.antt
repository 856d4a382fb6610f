use Rattle.std.proofs.Common.{arith, refl, ◌≡◌, ◌≤◌, ◌+◌, ◌-◌, ◌*◌, ◌/◌, ◌%◌, ◌^◌, ◌∙◌, ℕ, zero, suc, length, IfOk, Ok, Err, Result}
use Rattle.fx_tap_sums.specs.Leaves.{AreLeaves}
use Rattle.fx_tap_sums.proofs.Doubling.{power_more}
use Rattle.fx_tap_sums.proofs.transforms.prepared.prepared_weights.Goals as goal

-- two facts of a value, where there is one
both : {A E : Type 0} (P Q R : A → Type 0) (r : Result A E) → IfOk r P → IfOk r Q → ((x : A) → P x → Q x → R x) → IfOk r R
both P Q R (Ok x) p q all = all x p q
both P Q R (Err e) p q all = tt

-- half of 2^levels
half : (levels : ℕ) → 1 ≤ levels → 2 ^ levels ≡ 2 * 2 ^ (levels - 1)
half levels some =
    let is : levels - 1 + 1 ≡ levels = omega (arith, some) in
    rw is at (power_more (levels - 1))

-- what is so of each of three numbers of levels
of_three : (P : ℕ → Type 0) → P 8 → P 9 → P 10 → (k : ℕ) → k ≤ 2 → P (k + 8)
of_three P small medium large zero le = small
of_three P small medium large (suc zero) le = medium
of_three P small medium large (suc (suc zero)) le = large
of_three P small medium large (suc (suc (suc k))) le = absurd (omega (arith, le))

of_levels : (P : ℕ → Type 0) → P 8 → P 9 → P 10 → (levels : ℕ) → 8 ≤ levels → levels ≤ 10 → P levels
of_levels P small medium large levels some bound =
    let is : levels - 8 + 8 ≡ levels = omega (arith, some) in
    rw is at (of_three P small medium large (levels - 8) (omega (arith, some, bound)))

-- the two shifts lose no bit
count_is : (levels : ℕ) → 8 ≤ levels → levels ≤ 10 → 4 * 2 ^ levels % 2 ^ 64 ≡ 4 * 2 ^ levels
count_is = of_levels (λ n. 4 * 2 ^ n % 2 ^ 64 ≡ 4 * 2 ^ n) refl refl refl

scale_is : (levels : ℕ) → 8 ≤ levels → levels ≤ 10 → 1 * 2 ^ (32 - levels) % 2 ^ 32 ≡ 2 ^ (32 - levels)
scale_is = of_levels (λ n. 1 * 2 ^ (32 - n) % 2 ^ 32 ≡ 2 ^ (32 - n)) refl refl refl

scale_less : (levels : ℕ) → 8 ≤ levels → levels ≤ 10 → 2 ^ (32 - levels) ≤ 2 ^ 24
scale_less = of_levels (λ n. 2 ^ (32 - n) ≤ 2 ^ 24) (omega arith) (omega arith) (omega arith)

pub of-scale-requires : goal.of-scale-requires
of-scale-requires g c =
    let is = scale_is c.args.levels c.requires.levels.0 c.requires.levels.1 in
    let less = scale_less c.args.levels c.requires.levels.0 c.requires.levels.1 in
    (omega arith, rw is (omega (arith, less, c.requires.modulus)))

pub leaves_of-requires : goal.leaves_of-requires
leaves_of-requires g c =
    let twice = half c.args.levels (omega (arith, c.requires.levels)) in
    let whole : length c.in_ok-spectrum.spectrum.items ≡ 4 * 2 ^ c.args.levels = c.in_ok-spectrum.ensures.long ∙ count_is c.args.levels c.requires.levels.0 c.requires.levels.1 in
    let long : length c.in_ok-spectrum.spectrum.items ≡ 8 * 2 ^ (c.args.levels - 1) = omega (arith, twice, whole) in
    let fit : (c.args.place + 1) * length c.in_ok-spectrum.spectrum.items ≤ 4096 = rw whole c.requires.place in
    (omega arith, (c.requires.modulus, (rw (c.deref-3.ensures.value, long) (omega arith), (rw (c.deref-3.ensures.value, c.deref-2.ensures.value) (omega (arith, fit, c.requires.table)), rw c.deref-3.ensures.value c.in_ok-spectrum.ensures.remainders))))

pub returns : goal.returns
returns g c = both _ _ _ c.leaves_of.result c.leaves_of.ensures.remainders c.leaves_of.ensures.are (λ v remainders are.
    let twice = half c.args.levels (omega (arith, c.requires.levels)) in
    let spectrum = c.in_ok-spectrum.spectrum.items in
    let count = count_is c.args.levels c.requires.levels.0 c.requires.levels.1 in
    let scale = scale_is c.args.levels c.requires.levels.0 c.requires.levels.1 in
    let whole : length spectrum ≡ 4 * 2 ^ c.args.levels = c.in_ok-spectrum.ensures.long ∙ count in
    let long : length spectrum ≡ 8 * 2 ^ (c.args.levels - 1) = omega (arith, twice, whole) in
    let eighth : length spectrum / 8 ≡ 2 ^ (c.args.levels - 1) = rw long (omega arith) in
    let leaves : AreLeaves g.row.P c.args.table.now.roots.items (length spectrum / 8 * (c.args.place + 1) - 1) spectrum v.items = rw (c.deref-2.ensures.value, c.deref-3.ensures.value) at are in
    record {
      table = c.requires.table;
      beside = c.requires.beside;
      long = leaves.long ∙ omega (arith, whole);
      remainders = remainders;
      are = c.requires.are;
      spectrum = spectrum;
      transform = rw (c.deref.ensures.value, count, c.of-scale.ensures, scale) at c.in_ok-spectrum.ensures.transform;
      of_spectrum = rw eighth at leaves;
    })
