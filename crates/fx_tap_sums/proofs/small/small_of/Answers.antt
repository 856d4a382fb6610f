use Rattle.std.proofs.Common.{◌≡◌, List, ℤ, length, rules}
use Rattle.std.specs.Vec.{with_items}
use Rattle.std.proofs.lemmas.List.{take_at}
use Rattle.fx_tap_sums.proofs.KernelLaws.{reduced-sums}
use Rattle.fx_tap_sums.proofs.small.small_of.Goals as goal

pub returns : goal.returns
returns c =
    let ws : List ℤ = c.reduce.new.weights in
    let count : length ws ≡ length c.args.coefficients.now = search rules in
    let free : length ws ≡ c.resize.new.self.len = search rules in
    let all : (with_items c.resize.new.self ws).items ≡ ws = take_at ws _ c.resize.new.self.len free in
    let whole : c.from.result ≡ c.args.denominator = search rules in
    let reduced = rw whole at c.in-Some.ensures.reduced in
    rw all (reduced-sums c.args.coefficients.now (record { weights = ws; denominator = c.in-Some.denominator }) _ c.args.denominator (search rules) c.requires.some count reduced)
