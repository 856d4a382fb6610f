use Rattle.std.proofs.Common.{rules, ◌≡◌, ◌∙◌, List, ℤ, length}
use Rattle.std.specs.Vec.{with_items}
use Rattle.std.proofs.lemmas.List.{take_at}
use Rattle.fx_tap_fir.proofs.SplitLaws.{parts-add}
use Rattle.fx_tap_fir.proofs.split.Split.of.Goals as goal

pub returns : goal.returns
returns c =
    let hs : List ℤ = c.split_into.new.high in
    let ls : List ℤ = c.split_into.new.low in
    let high_count : length hs ≡ length c.args.coefficients.now = search rules in
    let low_count : length ls ≡ length c.args.coefficients.now = search rules in
    let low_free : length ls ≡ c.resize.new.self.len = search rules in
    let high_free : length hs ≡ c.resize-2.new.self.len = search rules in
    let low_all : (with_items c.resize.new.self ls).items ≡ ls = take_at ls _ c.resize.new.self.len low_free in
    let high_all : (with_items c.resize-2.new.self hs).items ≡ hs = take_at hs _ c.resize-2.new.self.len high_free in
    let low : c.in-Some.low ≡ c.deref.result.now = rw c.in-Some.is at c.in_ok-low.ensures.value in
    let high : c.in-Some-2.high ≡ c.deref-2.result.now = rw c.in-Some-2.is at c.in_ok-high.ensures.value in
    let low_is : c.in-Some.low ≡ ls = low ∙ c.deref.ensures.value ∙ low_all in
    let high_is : c.in-Some-2.high ≡ hs = high ∙ c.deref-2.ensures.value ∙ high_all in
    rw (low_is, high_is) (parts-add c.args.coefficients.now hs ls high_count low_count c.split_into.ensures)
