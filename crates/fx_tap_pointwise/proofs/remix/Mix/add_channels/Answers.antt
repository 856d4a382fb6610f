use Rattle.std.proofs.Common.{◌≡◌, ◌<◌, ◌≤◌, ◌+◌, [], ℕ, ℤ, List, pos, map, get_or, length, arith, slice_index_or, to_z, of_z}
use Rattle.std.specs.Int.{w32}
use Rattle.std.proofs.lemmas.List.{length-map}
use Rattle.fx_frame_base.specs.Frame.{Samples}
use Rattle.fx_frame_base.specs.Lists.{pieces}
use Rattle.fx_tap_pointwise.specs.Mix.{pair_of}
use Rattle.fx_tap_sums.proofs.Convolving.{Adding, Adding-bound, Adding-first, Adding-last}
use Rattle.fx_tap_pointwise.proofs.Fractions.{held-32}
use Rattle.fx_tap_pointwise.proofs.MixLaws.{gathered}
use Rattle.fx_tap_pointwise.proofs.MixPieces.{mixing-channel, mixing-none}
use Rattle.fx_tap_pointwise.proofs.remix.Mix.add_channels.Goals as goal
use Rattle.fx_tap_pointwise.proofs.remix.Mix.add_channels.Goals.{then-channel-channels, else-channel-channels}

pub contributions-init : goal.contributions-init
contributions-init c = λ i l. rw (c.requires.empty i) (Adding-first _ c.args.weights.now c.requires.small)

pub add_channel-requires-clause-free : goal.add_channel-requires-clause-free
add_channel-requires-clause-free c =
    let items = c.self.inside.contributions.items in
    let ch : ℕ = c.args.channels in
    let n : ℕ = length c.args.sums.now in
    let p : ℕ = c.contributions.place in
    let ws : List ℤ = c.args.weights.now in
    let q : ℕ = c.index.result.now.channel in
    let xs : List Samples = pieces ch n c.args.frames.now in
    let count = rw (← c.self.view_is) at c.requires.count in
    let inside : p < length items = omega (arith, c.contributions-test.true, c.len-place-end.ensures) in
    let in_ws : p < length ws = omega (arith, inside, count, length-map items pair_of) in
    let old : (i : ℕ) → i < n → Adding (gathered (map pair_of items) (get_or xs i [])) ws p (slice_index_or c.contributions.sums i (pos 0)) = rw (← c.self.view_is) at c.contributions.invariant in
    let weight : to_z w32 (of_z w32 (get_or ws p (pos 0))) ≡ get_or ws p (pos 0) = held-32 ws p c.requires.small in
    rw weight (λ i l sample.
    let here : i < n = omega (arith, l, c.contributions.auto.sums) in
    let next = mixing-channel items c.args.frames.now ws ch n i p c.index.result.now _ inside in_ws c.index.ensures here c.if-channel-channels.true sample (old i here) in
    let bound = Adding-bound _ ws (p + 1) _ next in
    omega (arith, bound))

pub contributions-preserved : goal.contributions-preserved
contributions-preserved c =
    let items = c.self.inside.contributions.items in
    let ch : ℕ = c.args.channels in
    let n : ℕ = length c.args.sums.now in
    let p : ℕ = c.contributions.place in
    let ws : List ℤ = c.args.weights.now in
    let q : ℕ = c.index.result.now.channel in
    let xs : List Samples = pieces ch n c.args.frames.now in
    let count = rw (← c.self.view_is) at c.requires.count in
    let inside : p < length items = omega (arith, c.contributions-test.true, c.len-place-end.ensures) in
    let in_ws : p < length ws = omega (arith, inside, count, length-map items pair_of) in
    let old : (i : ℕ) → i < n → Adding (gathered (map pair_of items) (get_or xs i [])) ws p (slice_index_or c.contributions.sums i (pos 0)) = rw (← c.self.view_is) at c.contributions.invariant in
    let weight : to_z w32 (of_z w32 (get_or ws p (pos 0))) ≡ get_or ws p (pos 0) = held-32 ws p c.requires.small in
    elim c.if-channel-channels.branch [
      | then-channel-channels w ↦
          let added = rw weight at w.add_channel.ensures.added in
          rw (w.sums-is, ← c.self.view_is) (λ i l.
          let here : i < length c.contributions.sums = omega (arith, l, c.contributions.auto.sums) in
          rw (added i here) (mixing-channel items c.args.frames.now ws ch n i p c.index.result.now _ inside in_ws c.index.ensures l w.if-channel-channels.true (w.add_channel.ensures.samples i here) (old i l)))
      | else-channel-channels w ↦
          rw (w.sums-is, ← c.self.view_is) (λ i l. mixing-none items c.args.frames.now ws ch n i p c.index.result.now _ inside in_ws c.index.ensures l (omega (arith, w.if-channel-channels.false)) (omega (arith, c.requires.frames)) (old i l))
    ]

pub returns-clause-sums : goal.returns-clause-sums
returns-clause-sums c = λ i l.
    let items = c.self.inside.contributions.items in
    let count = rw (← c.self.view_is) at c.requires.count in
    let over : length c.args.weights.now ≤ c.contributions.place = omega (arith, c.contributions-test.false, c.len-place-end.ensures, count, length-map items pair_of) in
    Adding-last _ c.args.weights.now c.contributions.place (slice_index_or c.contributions.sums i (pos 0)) over (c.contributions.invariant i l)

pub returns-clause-bound : goal.returns-clause-bound
returns-clause-bound c = λ i l. Adding-bound _ c.args.weights.now c.contributions.place (slice_index_or c.contributions.sums i (pos 0)) (c.contributions.invariant i l)
