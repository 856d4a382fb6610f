use Rattle.std.proofs.Common.{arith, rules, ◌≡◌, ◌%◌, below_more, ℤ, pos, get_or, of_z, w32, SFits}
use Rattle.fx_tap_sums.proofs.Divided.{IsUpper, is_upper, none_of_both, upper_of}
use Rattle.fx_tap_sums.proofs.transforms.spectrum.are_upper.Goals as goal

pub samples-preserved : goal.samples-preserved
samples-preserved c = λ none.
    let i = c.samples.sample-index in
    let x : ℤ = get_or c.args.window.now i (pos 0) in
    let fits : SFits w32 x = search rules in
    let is : c.cast_unsigned-bits.result ≡ of_z w32 x = search rules in
    let both = none_of_both c.samples.bits c.cast_unsigned-bits.result none in
    let here : of_z w32 x % 256 ≡ 0 = rw is at both.1 in
    below_more (λ k. IsUpper (get_or c.args.window.now k (pos 0))) i (c.samples.invariant both.0) (is_upper x fits here)

pub returns : goal.returns
returns c = λ is.
    let none : c.samples.bits % 256 ≡ 0 = search (rules, is) in
    upper_of c.args.window.now (λ k below. c.samples.invariant none k (omega (arith, below)))
