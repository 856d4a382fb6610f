-- Each frame is passed with the silence after it.
use Rattle.std.proofs.Common.{rules, ◌≤◌, ◌+◌, ◌*◌, ◌/◌, ◌^◌, length, arith}
use Rattle.fx_frame_base.proofs.Flags.{none-of}
use Rattle.std.proofs.Math.Nat.{mul_assoc}
use Rattle.fx_frame_base.specs.Feed.{nothing}
use Rattle.fx_cut.specs.declared.upsample.Upsample.TheView.{view}
use Rattle.fx_cut.proofs.Pieces.{frames-free}
use Rattle.fx_cut.proofs.UpsampleMany.{Ready, all-passed, frames-fed, took-with-free}
use Rattle.fx_cut.proofs.upsample.UpsamplePassesMany.pass_many.Goals as goal
use Rattle.fx_cut.proofs.upsample.UpsamplePassesMany.pass_many.Goals.{After-min-count}

pub returns-then-is_pending-clause-fed : goal.returns-then-is_pending-clause-fed
returns-then-is_pending-clause-fed c = nothing

-- the frames are there and may be passed
may : (c : After-min-count) → Ready (view c.self.inside) × (c.min-count.result * c.self.inside.channels ≤ length c.args.input.now) × (c.self.inside.core.taken + c.min-count.result ≤ 2 ^ 56 / c.self.inside.factor)
may c =
    let free = frames-free c.min-count.result c.self.inside.channels (length c.args.input.now) (omega (arith, c.min-count.ensures)) in
    (record { is = c.self.invariant; empty = none-of c.self.inside.core.pending (search rules); none = c.if-self-ne0.false; running = search rules }, free, (rw (← c.self.view_is) at c.requires.below_limit) c.min-count.result free)

-- and what they give has room
fits : (c : After-min-count) → c.min-count.result * c.self.inside.factor * c.self.inside.channels ≤ length c.args.output.now
fits c =
    let groups = frames-free c.min-count.result c.self.inside.factor (length c.args.output.now / c.self.inside.channels) (omega (arith, c.min-count.ensures)) in
    frames-free (c.min-count.result * c.self.inside.factor) c.self.inside.channels (length c.args.output.now) groups

pub spread_frames-requires-clause-output : goal.spread_frames-requires-clause-output
spread_frames-requires-clause-output c =
    let free = fits (goal.at.spread_frames-requires-clause-output c).After-min-count in
    omega (arith, free, mul_assoc c.min-count.result c.self.inside.factor c.self.inside.channels)

pub give_many-requires : goal.give_many-requires
give_many-requires c =
    let m = may (goal.at.give_many-requires c).After-min-count in
    let n = c.min-count.result in
    let f = c.self.inside.factor in
    let all = frames-fed n (view c.self.inside) c.args.input.now m.0 m.1 m.2 in
    let counted = all.1.is.counted in
    let maximum : (c.self.inside.core.taken + n) * f ≤ 2 ^ 56 = frames-free (c.self.inside.core.taken + n) f (2 ^ 56) m.2 in
    let minimum : c.self.inside.core.given + n * f ≤ 2 ^ 56 = omega (arith, counted, maximum) in
    search rules

pub invariant_of-self : goal.invariant_of-self
invariant_of-self c =
    let m = may (goal.at.invariant_of-self c).After-min-count in
    let all = all-passed (view c.self.inside) c.min-count.result c.args.input.now c.spread_frames.new.output m.0 m.1 m.2 c.spread_frames.ensures.frames in
    rw (c.give_many.ensures, c.take_many.ensures) all.1.is

pub returns-clause-fed : goal.returns-clause-fed
returns-clause-fed c =
    let m = may (goal.at.returns-clause-fed c).After-min-count in
    let all = all-passed (view c.self.inside) c.min-count.result c.args.input.now c.spread_frames.new.output m.0 m.1 m.2 c.spread_frames.ensures.frames in
    rw (← c.self.view_is, c.give_many.ensures, c.take_many.ensures) all.0

pub returns-clause-written : goal.returns-clause-written
returns-clause-written c =
    let free = fits (goal.at.returns-clause-written c).After-min-count in
    rw (← c.self.view_is) (omega (arith, free, c.spread_frames.auto.output))

pub returns-clause-free : goal.returns-clause-free
returns-clause-free c =
    let ready = (may (goal.at.returns-clause-free c).After-min-count).0 in
    let free = fits (goal.at.returns-clause-free c).After-min-count in
    rw (← c.self.view_is) (took-with-free (view c.self.inside) c.min-count.result (length c.args.output.now) ready free)
