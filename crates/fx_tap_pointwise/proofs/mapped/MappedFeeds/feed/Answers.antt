use Rattle.std.proofs.Common.{rules, ◌≡◌, ◌+◌, ◌-◌, ◌*◌, ◌≤◌, false, length, arith, ◌<◌, None}
use Rattle.fx_frame_base.specs.Stage.{max_taken}
use Rattle.fx_tap_pointwise.proofs.Blocks.{block-fed, is-even}
use Rattle.fx_frame_base.proofs.Flags.{none-of}
use Rattle.fx_frame_base.proofs.Capacities.{free-grows}
use Rattle.fx_frame.proofs.WholeFrames.{both-have, no-more}
use Rattle.fx_tap_pointwise.proofs.mapped.MappedFeeds.feed.Given as given
use Rattle.fx_tap_pointwise.proofs.mapped.MappedFeeds.feed.Goals.{After-min-count}
use Rattle.fx_tap_pointwise.proofs.mapped.MappedFeeds.feed.Goals as goal

-- both slices have so many frames
both : (g : given.Over) (c : After-min-count g) → (c.min-count.result * c.in_channels-inputs.result ≤ length c.args.input.now) × (c.min-count.result * c.out_channels-outputs.result ≤ length c.args.output.now)
both g c = both-have (length c.args.input.now) (length c.args.output.now) c.in_channels-inputs.result c.out_channels-outputs.result c.min-count.result c.min-count.ensures

-- and it may take them
limit : (g : given.Over) (c : After-min-count g) → c.self.inside.core.taken + c.min-count.result ≤ max_taken
limit g c =
    let read : c.min-count.result * g.M.Mapping.inputs c.self.inside.mapping ≤ length c.args.input.now = rw (← c.in_channels-inputs.ensures) (both g c).0 in
    (rw (← c.self.view_is) at c.requires.below_limit) c.min-count.result read

pub returns-clause-fed : goal.returns-clause-fed
returns-clause-fed g c =
    let m = g.M.Mapping in
    let s = c.self.inside in
    let none : s.core.pending ≡ None = none-of s.core.pending (search rules) in
    let running : s.core.ended ≡ false = search rules in
    let have = both g (goal.at.returns-clause-fed g c).After-min-count in
    let free : c.min-count.result * c.out_channels-outputs.result ≤ length c.map_many-clips.new.output = omega (arith, have.1, c.map_many-clips.auto.output) in
    let long : c.min-count.result * m.outputs s.mapping ≤ length c.map_many-clips.new.output = rw (← c.out_channels-outputs.ensures.value) free in
    rw (← c.self.view_is, c.pass.ensures)
    (block-fed m.inputs m.outputs m.mapped s.mapping s.core c.min-count.result c.map_many-clips.result c.args.input.now c.map_many-clips.new.output
    (is-even m.outputs (record { mapping = s.mapping; core = s.core }) c.self.invariant none running) long c.map_many-clips.ensures.frames c.map_many-clips.ensures.clips)

pub map_many-clips-requires-clause-bound : goal.map_many-clips-requires-clause-bound
map_many-clips-requires-clause-bound g c = omega (arith, limit g (goal.at.map_many-clips-requires-clause-bound g c).After-min-count)

pub pass-requires-clause-taken : goal.pass-requires-clause-taken
pass-requires-clause-taken g c = omega (arith, limit g (goal.at.pass-requires-clause-taken g c).After-min-count)

pub pass-requires-clause-given : goal.pass-requires-clause-given
pass-requires-clause-given g c = omega (arith, limit g (goal.at.pass-requires-clause-given g c).After-min-count, c.self.invariant.counted)

pub pass-requires-clause-clips : goal.pass-requires-clause-clips
pass-requires-clause-clips g c = omega (arith, limit g (goal.at.pass-requires-clause-clips g c).After-min-count, c.self.invariant.counted, c.self.invariant.core.clips_max, c.map_many-clips.ensures.bound)

pub returns-clause-used : goal.returns-clause-used
returns-clause-used g c =
    let some = rw (← c.self.view_is, ← c.in_channels-inputs.ensures) at c.requires.channels in
    let wide : 0 < c.out_channels-outputs.result = omega (arith, c.if-outputs-eq0.false) in
    rw (← c.self.view_is, ← c.in_channels-inputs.ensures, ← c.out_channels-outputs.ensures.value)
    (λ free over spent. no-more (length c.args.input.now) (length c.args.output.now) c.in_channels-inputs.result c.out_channels-outputs.result c.min-count.result (omega (arith, some.0)) wide c.min-count.ensures (omega (arith, free, c.map_many-clips.auto.output)))

pub returns-clause-free : goal.returns-clause-free
returns-clause-free g c =
    let s = c.self.inside in
    let none : s.core.pending ≡ None = none-of s.core.pending (search rules) in
    let counted = rw none at c.self.invariant.counted in
    let fits = rw c.out_channels-outputs.ensures.value at (both g (goal.at.returns-clause-free g c).After-min-count).1 in
    rw (← c.self.view_is)
    (λ n bound. free-grows (s.core.taken + n - s.core.given) c.min-count.result (g.M.Mapping.outputs s.mapping) (length c.args.output.now) (omega (arith, counted, bound)) fits)
