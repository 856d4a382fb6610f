use Rattle.std.proofs.Common.{◌≡◌, ◌<◌, ◌≤◌, ◌+◌, ◌*◌, ◌∙◌, [], ap, sym, Bool, ℕ, ℤ, List, pos, map, get_or, length, take, replicate, arith, slice_index_or, zero-add}
use Rattle.std.proofs.lemmas.List.{length-replicate, length-take-le}
use Rattle.fx_fixed.specs.Rounding.{rounding}
use Rattle.fx_frame_base.specs.Lists.{pieces, tabulate}
use Rattle.fx_frame_base.proofs.Pieces.{get_or-piece}
use Rattle.fx_tap_sums.specs.Weights.{Weights}
use Rattle.fx_tap_pointwise.specs.declared.remix.Contribution.{Contribution}
use Rattle.fx_tap_pointwise.specs.Mix.{Reduces, Scales, pair_of}
use Rattle.fx_tap_pointwise.specs.Remix.{remixed_sample}
use Rattle.fx_frame_base.specs.Rounded.{clips_rounded}
use Rattle.fx_frame_base.proofs.ListPlaces.{zeros-part}
use Rattle.fx_tap_pointwise.specs.Vol.{scaled_sample}
use Rattle.fx_tap_pointwise.proofs.MixLaws.{scaled-mix, small-mix}
use Rattle.fx_frame_base.proofs.Tabulate.{tabulate-same}
use Rattle.fx_tap_pointwise.proofs.remix.Mix.channel_weighed.Goals as goal
use Rattle.fx_tap_pointwise.proofs.remix.Mix.channel_weighed.Goals.{After-place_channel, After-add_channels}

-- the sample that is made of a frame
abbrev made : List Contribution → ℕ → ℕ → List ℤ → ℕ → ℤ × Bool
made cs channels count frames i = remixed_sample (map pair_of cs) (get_or (pieces channels count frames) i [])

same-clips : (f g : ℕ → ℤ × Bool) (count : ℕ) → ((i : ℕ) → i < count → f i ≡ g i) → clips_rounded (tabulate f 0 count) ≡ clips_rounded (tabulate g 0 count)
same-clips f g count same = ap clips_rounded (tabulate-same f g 0 0 count (λ i l. let e : 0 + i ≡ i = zero-add i in rw e (same i l)))

pub add_channels-requires-clause-empty : goal.add_channels-requires-clause-empty
add_channels-requires-clause-empty c = λ i. zeros-part c.args.shape.count 256 i

-- a channel times a scale
scaled : (c : After-place_channel) (i : ℕ) → i < c.args.shape.count → scaled_sample c.in-Scaled.scale (get_or c.args.frames.now (i * c.args.shape.channels + c.in-Scaled.channel) (pos 0)) ≡ made c.self.inside.contributions.items c.args.shape.channels c.args.shape.count c.args.frames.now i
scaled c i l =
    let scales : Scales c.self.inside.contributions.items c.in-Scaled.channel c.in-Scaled.scale = rw c.in-Scaled.is at c.self.invariant.2 in
    sym (scaled-mix c.self.inside.contributions.items c.in-Scaled.channel c.in-Scaled.scale (get_or (pieces c.args.shape.channels c.args.shape.count c.args.frames.now) i []) scales
    ∙ ap (λ x. scaled_sample c.in-Scaled.scale x) (get_or-piece c.args.shape.channels c.args.shape.count c.args.frames.now i c.in-Scaled.channel (pos 0) l c.if-channel-shape.true))

pub returns-in-Scaled-clause-put : goal.returns-in-Scaled-clause-put
returns-in-Scaled-clause-put c = rw (← c.self.view_is) (λ i l. c.place_channel.ensures.put i l ∙ ap (λ (r : ℤ × Bool). r.0) (scaled (goal.at.returns-in-Scaled-clause-put c).After-place_channel i l))

pub returns-in-Scaled-clause-clips : goal.returns-in-Scaled-clause-clips
returns-in-Scaled-clause-clips c =
    rw (← c.self.view_is) (c.place_channel.ensures.clips ∙ same-clips (λ i. scaled_sample c.in-Scaled.scale (get_or c.args.frames.now (i * c.args.shape.channels + c.in-Scaled.channel) (pos 0))) (made c.self.inside.contributions.items c.args.shape.channels c.args.shape.count c.args.frames.now) c.args.shape.count
    (scaled (goal.at.returns-in-Scaled-clause-clips c).After-place_channel))

-- a sum is there for each frame, and makes its sample
small : (c : After-add_channels) → (length c.add_channels.new.sums ≡ c.args.shape.count) × ((i : ℕ) → i < c.args.shape.count → rounding (slice_index_or c.add_channels.new.sums i (pos 0)) c.small.inside.denominator ≡ made c.self.inside.contributions.items c.args.shape.channels c.args.shape.count c.args.frames.now i)
small c =
    let w : Weights = record { weights = c.small.inside.weights.items; denominator = c.small.inside.denominator } in
    let delivered : Reduces c.self.inside.contributions.items c.in-Small.small = rw c.in-Small.is at c.self.invariant.2 in
    let reduces : Reduces c.self.inside.contributions.items w = rw (← c.small.view_is) at delivered in
    let free : c.args.shape.count ≤ length (replicate 256 (pos 0)) = omega (arith, length-replicate 256 (pos 0), c.requires.count) in
    let before : length (take c.args.shape.count (replicate 256 (pos 0))) ≡ c.args.shape.count = length-take-le c.args.shape.count (replicate 256 (pos 0)) free in
    let added = rw (before, ← c.self.view_is, c.deref.ensures.value) at c.add_channels.ensures.sums in
    (c.add_channels.auto.sums ∙ before, λ i l. small-mix c.self.inside.contributions.items (get_or (pieces c.args.shape.channels c.args.shape.count c.args.frames.now) i []) w (slice_index_or c.add_channels.new.sums i (pos 0)) reduces.some c.self.invariant.1 reduces.sums (added i l))

pub returns-in-Small-clause-put : goal.returns-in-Small-clause-put
returns-in-Small-clause-put c =
    let sums = small (goal.at.returns-in-Small-clause-put c).After-add_channels in
    rw (← c.self.view_is) (λ i l. c.round_channel.ensures.put i (omega (arith, sums.0, l)) ∙ ap (λ (r : ℤ × Bool). r.0) (sums.1 i l))

pub returns-in-Small-clause-clips : goal.returns-in-Small-clause-clips
returns-in-Small-clause-clips c =
    let sums = small (goal.at.returns-in-Small-clause-clips c).After-add_channels in
    let counted = rw sums.0 at c.round_channel.ensures.clips in
    rw (← c.self.view_is) (counted ∙ same-clips (λ i. rounding (slice_index_or c.add_channels.new.sums i (pos 0)) c.small.inside.denominator) (made c.self.inside.contributions.items c.args.shape.channels c.args.shape.count c.args.frames.now) c.args.shape.count sums.1)
