use Rattle.std.proofs.Common.{◌≡◌, [], ◌∷◌, take}
use Rattle.std.specs.List.{fold}
use Rattle.soxchain_xxh64.specs.Xxh64.{take_stripe}
use Rattle.soxchain_xxh64.proofs.steps.take_stripes.Given as goal

abbrev pub invariant-loop-stripe : goal.invariant-loop-stripe
invariant-loop-stripe l =
    l.first ∷ l.second ∷ l.third ∷ l.fourth ∷ [] ≡ fold take_stripe l.fn.accumulators (take l.stripe-index l.stripes)
