use Rattle.std.proofs.Common.{rules, ◌≡◌, ◌-◌, ℕ, List, [], length, get_or, drop, refl, ap, ◌∙◌, arith}
use Rattle.std.proofs.lemmas.List.{take_all, length-drop}
use Rattle.byteorder.specs.Endian.{little_number}
use Rattle.soxchain_xxh64.specs.Xxh64.{round}
use Rattle.soxchain_xxh64.proofs.Taking.{take_stripe_more}
use Rattle.soxchain_xxh64.proofs.steps.take_stripes.Goals as goal

pub loop-stripe-preserved : goal.loop-stripe-preserved
loop-stripe-preserved c =
    let i = c.loop-stripe.stripe-index in
    let stripe : List ℕ = get_or c.args.stripes.now i [] in
    let whole : length stripe ≡ 32 = search (rules, arith) in
    let lane = λ (at : ℕ). ap (little_number 8) (take_all (32 - at) (drop at stripe) (omega (arith, length-drop at stripe))) in
    let second : c.read_u64-in-loop-stripe.result ≡ little_number 8 (drop 8 stripe) = c.read_u64-in-loop-stripe.ensures ∙ lane 8 in
    let third : c.read_u64-in-loop-stripe-2.result ≡ little_number 8 (drop 16 stripe) = c.read_u64-in-loop-stripe-2.ensures ∙ lane 16 in
    let fourth : c.read_u64-in-loop-stripe-3.result ≡ little_number 8 (drop 24 stripe) = c.read_u64-in-loop-stripe-3.ensures ∙ lane 24 in
    take_stripe_more c.args.accumulators c.args.stripes.now i c.loop-stripe.first c.loop-stripe.second c.loop-stripe.third c.loop-stripe.fourth
    c.round-first.result c.round-second.result c.round-third.result c.round-fourth.result stripe c.loop-stripe.invariant (omega arith) refl
    (c.round-first.ensures ∙ ap (round c.loop-stripe.first) c.read_u64.ensures) (c.round-second.ensures ∙ ap (round c.loop-stripe.second) second)
    (c.round-third.ensures ∙ ap (round c.loop-stripe.third) third) (c.round-fourth.ensures ∙ ap (round c.loop-stripe.fourth) fourth)
