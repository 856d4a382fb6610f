use Rattle.std.proofs.Common.{arith, ◌≡◌, ◌∙◌, drop, take}
use Rattle.std.proofs.lemmas.List.{length-take-le}
use Rattle.fx_tap_sums.specs.Products.{sum_of_products}
use Rattle.fx_tap_sums.proofs.CyclicSums.{cut}
use Rattle.fx_tap_sums.proofs.transforms.spectrum.Transforms.convolve_any.Goals as goal

pub returns-then-are_upper-clause-sums : goal.returns-then-are_upper-clause-sums
returns-then-are_upper-clause-sums g c = λ ws long prepared i lt.
    let w = c.args.window.now in
    let front = length-take-le c.min.result w (omega arith) in
    let whole : sum_of_products (drop i (take c.min.result w)) ws ≡ sum_of_products (drop i w) ws = cut c.min.result i w ws (omega arith) (omega arith) in
    c.convolve_upper.ensures.sums ws long prepared.two i lt ∙ whole

pub returns-else-are_upper-clause-sums : goal.returns-else-are_upper-clause-sums
returns-else-are_upper-clause-sums g c = λ ws long prepared i lt.
    let w = c.args.window.now in
    let front = length-take-le c.min.result w (omega arith) in
    let whole : sum_of_products (drop i (take c.min.result w)) ws ≡ sum_of_products (drop i w) ws = cut c.min.result i w ws (omega arith) (omega arith) in
    c.convolve_whole.ensures.sums ws long prepared i lt ∙ whole
