use Rattle.std.proofs.Common.{arith, ◌∙◌, ap, ◌+◌, ◌*◌, ◌^◌}
use Rattle.fx_tap_sums.specs.Lanes.{lane_sum}
use Rattle.fx_tap_sums.proofs.products.add_products.Goals as goal
use Rattle.fx_tap_sums.proofs.ProductLanes.{mul_asked, sums_asked, lanes_are, kernel_value, kernel_small}

pub overflow_mul-result : goal.overflow_mul-result
overflow_mul-result c = mul_asked (2 ^ 31) (2 ^ 25) c.args.x c.args.y (omega arith) (omega arith) (omega arith) c.requires.x.small c.requires.y.small

pub overflow_add-result : goal.overflow_add-result
overflow_add-result c = sums_asked (c.args.at * 2 ^ 54) (2 ^ 31) (2 ^ 25) c.args.sums c.args.x c.args.y (omega arith) (omega arith) (omega arith) (omega arith) (omega arith) c.requires.sums c.requires.x c.requires.y

pub returns-clause-value : goal.returns-clause-value
returns-clause-value c =
    ap lane_sum (lanes_are (c.args.at * 2 ^ 54) (2 ^ 31) (2 ^ 25) c.args.sums c.args.x c.args.y (omega arith) (omega arith) (omega arith) (omega arith) (omega arith) c.requires.sums c.requires.x c.requires.y)
    ∙ kernel_value c.args.sums c.args.x c.args.y c.requires.sums.four c.requires.x.four c.requires.y.four

pub returns-clause-small : goal.returns-clause-small
returns-clause-small c =
    rw (lanes_are (c.args.at * 2 ^ 54) (2 ^ 31) (2 ^ 25) c.args.sums c.args.x c.args.y (omega arith) (omega arith) (omega arith) (omega arith) (omega arith) c.requires.sums c.requires.x c.requires.y)
    (kernel_small (c.args.at * 2 ^ 54) ((c.args.at + 4) * 2 ^ 54) (2 ^ 31) (2 ^ 25) c.args.sums c.args.x c.args.y (omega arith) c.requires.sums c.requires.x c.requires.y)
