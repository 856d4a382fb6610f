-- Frames that are left out, and groups after them.
use Rattle.std.proofs.Common.{rules, ◌≡◌, ◌≤◌, ◌+◌, ◌-◌, ◌*◌, ◌∙◌, [], length, ap, arith, refl}
use Rattle.fx_frame_base.proofs.Flags.{none-of}
use Rattle.std.proofs.lemmas.List.{length-drop}
use Rattle.std.proofs.Math.Nat.{add-mul, mul_assoc}
use Rattle.fx_frame_base.specs.Feed.{Fed, nothing}
use Rattle.fx_frame_base.specs.Lists.{pieces}
use Rattle.fx_cut.specs.DownsampleState.{downsample_acts}
use Rattle.fx_cut.specs.declared.downsample.Downsample.TheView.{view}
use Rattle.fx_cut.proofs.DownsampleMany.{Ready, all-passed, groups-free, lead-passed, beyond, took-with-free}
use Rattle.fx_cut.proofs.Pieces.{frames-free}
use Rattle.fx_frame_base.proofs.Puts.{part-from}
use Rattle.fx_cut.proofs.downsample.DownsamplePassesMany.pass_many.Goals as goal
use Rattle.fx_cut.proofs.downsample.DownsamplePassesMany.pass_many.Goals.{After-min-left_out, After-min-groups, Then-self-ne0, After-give_many}

pub returns-then-is_pending-clause-fed : goal.returns-then-is_pending-clause-fed
returns-then-is_pending-clause-fed c = nothing

-- no frame is pending
ready : (c : After-min-left_out) → Ready (view c.self.inside)
ready c = record { is = c.self.invariant; empty = none-of c.self.inside.core.pending (search rules); running = search rules }

-- the frames that are left out
lead : (c : Then-self-ne0) → let s = view c.self.inside in let n = c.min-left_out.result in Fed downsample_acts s (pieces s.recipe.channels n c.args.input.now) [] (beyond s n) × Ready (beyond s n)
lead c =
    let n = c.min-left_out.result in
    let below = rw (← c.self.view_is) at c.requires.below_limit in
    let free : n * c.self.inside.channels ≤ length c.args.input.now = frames-free n c.self.inside.channels (length c.args.input.now) (omega (arith, c.min-left_out.ensures)) in
    lead-passed (view c.self.inside) n c.args.input.now (ready (goal.at.invariant_of-self c).After-min-left_out) (omega (arith, c.min-left_out.ensures)) (below n free)

pub invariant_of-self : goal.invariant_of-self
invariant_of-self c = rw c.take_many.ensures (lead c).1.is

pub returns-then-self-ne0-clause-fed : goal.returns-then-self-ne0-clause-fed
returns-then-self-ne0-clause-fed c = rw (← c.self.view_is, c.take_many.ensures) (lead c).0

-- the groups after them are there
free : (c : After-min-groups) → (c.min-left_out.result + c.min-groups.result * c.self.inside.factor) * c.self.inside.channels ≤ length c.args.input.now
free c = groups-free (length c.args.input.now) c.self.inside.channels c.self.inside.factor c.min-left_out.result c.min-groups.result (omega (arith, c.min-left_out.ensures)) (omega (arith, c.min-groups.ensures))

pub copy_firsts-requires-clause-input : goal.copy_firsts-requires-clause-input
copy_firsts-requires-clause-input c =
    let n = c.min-left_out.result in
    let ch = c.self.inside.channels in
    let f = c.self.inside.factor in
    let m = c.min-groups.result in
    let all = free (goal.at.copy_firsts-requires-clause-input c).After-min-groups in
    let split : (n + m * f) * ch ≡ n * ch + m * (f * ch) = add-mul n (m * f) ch ∙ ap (λ k. n * ch + k) (mul_assoc m f ch) in
    rw part-from (omega (arith, all, split, length-drop (n * ch) c.args.input.now))

-- and passed with them
groups : (c : After-give_many) → let s = view c.self.inside in let n = c.min-left_out.result in let m = c.min-groups.result in
    let t = record s { core = record s.core { taken = s.core.taken + n + m * s.recipe.factor; given = s.core.given + m }; skip = s.skip - n } in
    Fed downsample_acts s (pieces s.recipe.channels (n + m * s.recipe.factor) c.args.input.now) (pieces s.recipe.channels m c.copy_firsts.new.output) t × Ready t
groups c =
    let n = c.min-left_out.result in
    let all = free (goal.at.invariant_of-self-2 c).After-min-groups in
    let below = rw (← c.self.view_is) at c.requires.below_limit in
    let same = rw part-from at c.copy_firsts.ensures.frames in
    all-passed (view c.self.inside) n c.min-groups.result c.args.input.now c.copy_firsts.new.output (ready (goal.at.invariant_of-self-2 c).After-min-left_out) (omega (arith, c.min-left_out.ensures)) c.if-self-ne0.false all (below (n + c.min-groups.result * c.self.inside.factor) all) same

pub invariant_of-self-2 : goal.invariant_of-self-2
invariant_of-self-2 c = rw (c.give_many.ensures, c.take_many-2.ensures, c.take_many.ensures) (groups c).1.is

pub returns-clause-fed : goal.returns-clause-fed
returns-clause-fed c = rw (← c.self.view_is, c.give_many.ensures, c.take_many-2.ensures, c.take_many.ensures) (groups c).0

pub returns-clause-read : goal.returns-clause-read
returns-clause-read c = rw (← c.self.view_is) (free (goal.at.returns-clause-read c).After-min-groups)

pub returns-then-self-ne0-clause-free : goal.returns-then-self-ne0-clause-free
returns-then-self-ne0-clause-free c =
    let s = view c.self.inside in
    let n = c.min-left_out.result in
    let one : (0 + 1) * c.self.inside.channels ≤ length c.args.output.now = omega arith in
    rw (← c.self.view_is) (took-with-free s (beyond s n) n 0 (length c.args.output.now) (lead c).1 refl refl (omega arith) one)

pub returns-clause-free : goal.returns-clause-free
returns-clause-free c =
    let s = view c.self.inside in
    let n = c.min-left_out.result in
    let m = c.min-groups.result in
    let ch = c.self.inside.channels in
    let t = record s { core = record s.core { taken = s.core.taken + n + m * s.recipe.factor; given = s.core.given + m }; skip = s.skip - n } in
    let free = length c.args.output.now in
    let fewer : m * ch ≤ free - ch = frames-free m ch (free - ch) (omega (arith, c.min-groups.ensures)) in
    let one : (m + 1) * ch ≤ free = omega (arith, fewer, add-mul m 1 ch) in
    rw (← c.self.view_is) (took-with-free s t (n + m * c.self.inside.factor) m free (groups (goal.at.returns-clause-free c).After-give_many).1 refl (omega arith) refl one)
