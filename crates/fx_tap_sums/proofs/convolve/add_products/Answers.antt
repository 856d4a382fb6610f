use Rattle.std.proofs.Common.{rules, ◌≡◌, ◌^◌, ◌∙◌, arith, replicate}
use Rattle.fx_tap_sums.proofs.Convolving.{products-added, splat-within}
use Rattle.fx_tap_sums.proofs.ProductLanes.{kernel_small, lanes_are, mul_asked, sums_asked}
use Rattle.fx_tap_sums.proofs.convolve.add_products.Goals as goal

pub overflow_mul-result : goal.overflow_mul-result
overflow_mul-result c =
    let is : c.from-y.result ≡ c.args.weight = c.from-y.ensures ∙ search rules in
    let y = splat-within c.from-y.result (rw is c.requires.weight) in
    mul_asked (2 ^ 31) (2 ^ 30) c.args.samples (replicate 4 c.from-y.result) (omega arith) (omega arith) (omega arith) c.requires.samples.small y.small

pub overflow_add-result : goal.overflow_add-result
overflow_add-result c =
    let is : c.from-y.result ≡ c.args.weight = c.from-y.ensures ∙ search rules in
    let y = splat-within c.from-y.result (rw is c.requires.weight) in
    sums_asked (2 ^ 61) (2 ^ 31) (2 ^ 30) c.args.sums c.args.samples (replicate 4 c.from-y.result) (omega arith) (omega arith) (omega arith) (omega arith) (omega arith) c.requires.sums c.requires.samples y

pub returns : goal.returns
returns c =
    let is : c.from-y.result ≡ c.args.weight = c.from-y.ensures ∙ search rules in
    let ys = replicate 4 c.from-y.result in
    let y = splat-within c.from-y.result (rw is c.requires.weight) in
    rw (lanes_are (2 ^ 61) (2 ^ 31) (2 ^ 30) c.args.sums c.args.samples ys (omega arith) (omega arith) (omega arith) (omega arith) (omega arith) c.requires.sums c.requires.samples y) (record {
      small = kernel_small (2 ^ 61) (2 ^ 62) (2 ^ 31) (2 ^ 30) c.args.sums c.args.samples ys (omega arith) c.requires.sums c.requires.samples y;
      value = λ k l. products-added c.args.sums c.args.samples k c.from-y.result c.args.weight c.requires.sums.four c.requires.samples.four is l;
    })
