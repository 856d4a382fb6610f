use Rattle.std.proofs.Common.{◌≡◌, ◌+◌, ◌-◌, ◌++◌, ◌∷◌, [], map, sym, ap, ◌∙◌, arith, append_assoc}
use Rattle.std.specs.List.{range_with_len}
use Rattle.std.proofs.lemmas.List.FromFn.{map-range_with_len_more}
use Rattle.fx_tap_pointwise.specs.InSpecs.{contribution}
use Rattle.fx_tap_pointwise.proofs.remix.words.in_spec.add_channels.Goals as goal

pub loop-channel-preserved : goal.loop-channel-preserved
loop-channel-preserved c =
    let start = c.args.found.now.low - 1 in
    let passed = c.loop-channel.channel - start in
    let add = contribution c.args.found.now.gain in
    let within : start + passed ≡ c.loop-channel.channel = omega (arith, c.loop-channel.auto.channel) in
    let more : c.loop-channel.channel + 1 - start ≡ passed + 1 = omega (arith, c.loop-channel.auto.channel) in
    let next = map-range_with_len_more add start passed c.loop-channel.channel within in
    c.in_ok-push.ensures.items
    ∙ ap (λ xs. xs ++ add c.loop-channel.channel ∷ []) c.loop-channel.invariant
    ∙ append_assoc c.args.sum.now.items (map add (range_with_len start passed)) (add c.loop-channel.channel ∷ [])
    ∙ ap (λ xs. c.args.sum.now.items ++ xs) (sym next ∙ ap (λ n. map add (range_with_len start n)) (sym more))
