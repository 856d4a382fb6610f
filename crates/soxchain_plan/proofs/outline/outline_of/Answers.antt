use Rattle.std.proofs.Common.{◌≡◌, map, sum, sum_by, sym, ap, ◌∙◌, arith}
use Rattle.std.proofs.lemmas.List.Sums.{sum-map}
use Rattle.fx_plan_effects.specs.Effects.{act}
use Rattle.soxchain_plan.specs.Outlines.{bytes_along, stated_bytes}
use Rattle.soxchain_plan.proofs.Made.{bytes-bound}
use Rattle.soxchain_plan.proofs.outline.outline_of.Goals as goal

pub bytes_of-bytes-requires : goal.bytes_of-bytes-requires
bytes_of-bytes-requires c =
    let acts = map act c.effects.result.now in
    let channels = c.head-head.result.channels in
    let stated : map stated_bytes c.deref.result.now ≡ bytes_along channels acts = ap (map stated_bytes) c.deref.ensures.value ∙ c.in_ok-effects.ensures.bytes in
    let added : sum_by stated_bytes c.deref.result.now ≡ sum (bytes_along channels acts) = sym (sum-map stated_bytes c.deref.result.now) ∙ ap sum stated in
    let bound = bytes-bound channels acts c.effects.ensures.usable c.head-head.ensures.maximum in
    omega (arith, added, bound)
