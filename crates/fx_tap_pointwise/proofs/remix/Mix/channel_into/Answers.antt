use Rattle.std.proofs.Common.{◌≡◌, ◌<◌, ◌+◌, ◌*◌, ◌+ℤ◌, ◌∙◌, [], ap, sym, false, Bool, ℕ, ℤ, List, pos, map, get_or, zero-add}
use mathlib.Core.Path.{ap₂}
use Rattle.fx_fixed.specs.Rounding.{rounding}
use Rattle.fx_frame_base.specs.Frame.{Samples}
use Rattle.fx_frame_base.specs.Lists.{pieces, tabulate}
use Rattle.fx_frame_base.proofs.Pieces.{get_or-piece}
use Rattle.fx_tap_pointwise.specs.declared.remix.Contribution.{Contribution}
use Rattle.fx_tap_pointwise.specs.Mix.{Copies, Means, pair_of}
use Rattle.fx_tap_pointwise.specs.Remix.{remixed_sample}
use Rattle.fx_frame_base.specs.Rounded.{clips_rounded}
use Rattle.fx_tap_pointwise.proofs.MixLaws.{copied-sample, mean-sample, none-clipped}
use Rattle.fx_tap_pointwise.proofs.remix.Mix.channel_into.Goals as goal
use Rattle.fx_tap_pointwise.proofs.remix.Mix.channel_into.Goals.{After-place_channel, After-place_mean}

-- the sample that is made of a frame
abbrev made : List Contribution → ℕ → ℕ → List ℤ → ℕ → ℤ × Bool
made cs channels count frames i = remixed_sample (map pair_of cs) (get_or (pieces channels count frames) i [])

-- none of so many is clipped
no-clips : (f : ℕ → ℤ × Bool) (count : ℕ) → ((i : ℕ) → i < count → (f i).1 ≡ false) → 0 ≡ clips_rounded (tabulate f 0 count)
no-clips f count none = sym (none-clipped f 0 count (λ i l. let e : 0 + i ≡ i = zero-add i in rw e (none i l)))

-- a channel that is copied
copied : (c : After-place_channel) (i : ℕ) → i < c.args.shape.count → made c.self.inside.contributions.items c.args.shape.channels c.args.shape.count c.args.frames.now i ≡ (get_or c.args.frames.now (i * c.args.shape.channels + c.in-Copied.channel) (pos 0), false)
copied c i l =
    let channel : ℕ = c.in-Copied.channel in
    let frame : Samples = get_or (pieces c.args.shape.channels c.args.shape.count c.args.frames.now) i [] in
    let copies : Copies c.self.inside.contributions.items channel = rw c.in-Copied.is at c.self.invariant.2 in
    let read : get_or frame channel (pos 0) ≡ get_or c.args.frames.now (i * c.args.shape.channels + channel) (pos 0) = get_or-piece c.args.shape.channels c.args.shape.count c.args.frames.now i channel (pos 0) l c.if-channel-shape.true in
    rw read at (copied-sample c.self.inside.contributions.items channel frame copies (rw (← read) at (c.place_channel.ensures.samples i l)))

pub returns-in-Copied-clause-put : goal.returns-in-Copied-clause-put
returns-in-Copied-clause-put c = rw (← c.self.view_is) (λ i l. c.place_channel.ensures.put i l ∙ sym (ap (λ (r : ℤ × Bool). r.0) (copied (goal.at.returns-in-Copied-clause-put c).After-place_channel i l)))

pub returns-in-Copied-clause-clips : goal.returns-in-Copied-clause-clips
returns-in-Copied-clause-clips c =
    rw (← c.self.view_is) (no-clips (made c.self.inside.contributions.items c.args.shape.channels c.args.shape.count c.args.frames.now) c.args.shape.count (λ i l. ap (λ (r : ℤ × Bool). r.1) (copied (goal.at.returns-in-Copied-clause-clips c).After-place_channel i l)))

-- the mean of two channels
mean : (c : After-place_mean) (i : ℕ) → i < c.args.shape.count → made c.self.inside.contributions.items c.args.shape.channels c.args.shape.count c.args.frames.now i
    ≡ rounding (get_or c.args.frames.now (i * c.args.shape.channels + c.in-Mean.first) (pos 0) +ℤ get_or c.args.frames.now (i * c.args.shape.channels + c.in-Mean.second) (pos 0)) 2
mean c i l =
    let means : Means c.self.inside.contributions.items c.in-Mean.first c.in-Mean.second = rw c.in-Mean.is at c.self.invariant.2 in
    mean-sample c.self.inside.contributions.items c.in-Mean.first c.in-Mean.second (get_or (pieces c.args.shape.channels c.args.shape.count c.args.frames.now) i []) means
    ∙ ap₂ (λ x y. rounding (x +ℤ y) 2) (get_or-piece c.args.shape.channels c.args.shape.count c.args.frames.now i c.in-Mean.first (pos 0) l c.if-first-shape.true) (get_or-piece c.args.shape.channels c.args.shape.count c.args.frames.now i c.in-Mean.second (pos 0) l c.if-second-shape.true)

pub returns-in-Mean-clause-put : goal.returns-in-Mean-clause-put
returns-in-Mean-clause-put c = rw (← c.self.view_is) (λ i l. c.place_mean.ensures.put i l ∙ sym (ap (λ (r : ℤ × Bool). r.0) (mean (goal.at.returns-in-Mean-clause-put c).After-place_mean i l)))

pub returns-in-Mean-clause-clips : goal.returns-in-Mean-clause-clips
returns-in-Mean-clause-clips c =
    rw (← c.self.view_is) (no-clips (made c.self.inside.contributions.items c.args.shape.channels c.args.shape.count c.args.frames.now) c.args.shape.count
    (λ i l. ap (λ (r : ℤ × Bool). r.1) (mean (goal.at.returns-in-Mean-clause-clips c).After-place_mean i l) ∙ c.place_mean.ensures.unclipped i l))
