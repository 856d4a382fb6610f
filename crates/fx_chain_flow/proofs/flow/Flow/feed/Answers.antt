use Rattle.std.proofs.Common.{rules, ◌≡◌, ◌+◌, ◌≤◌, ◌++◌, ◌∙◌, false, [], drop, length, take, ap, refl, arith, None}
use Rattle.std.proofs.lemmas.List.{nil_from_length}
use Rattle.std.proofs.lemmas.Grind.{common_steps}
use Rattle.fx_frame_base.proofs.Pieces.{length-pieces}
use Rattle.fx_frame_base.specs.Lists.{pieces}
use Rattle.fx_chain_flow.specs.Feed.{FedOnly}
use Rattle.fx_chain_flow.specs.Sound.{IsSound, max_frames}
use Rattle.fx_chain_flow.specs.Runs.{flow_of}
use Rattle.fx_chain_flow.proofs.Feedings.{none-fed, none-gave, none-last, none-free, none-sound, only-fed, only-gave, only-held, only-last, only-read, only-free, only-sound, only-unchanged, only-used}
use Rattle.fx_chain_flow.proofs.Orders.{InOrder-then, bare-order, nothing-lined, through-order}
use Rattle.fx_frame_base.proofs.Flags.{none-of}
use Rattle.fx_frame_base.proofs.Puts.{written_back}
use Rattle.fx_chain_flow.proofs.flow.Flow.feed.Given as given
use Rattle.fx_chain_flow.proofs.flow.Flow.feed.Goals.{After-copy_frames-count, After-feed_only-passed}
use Rattle.fx_chain_flow.proofs.flow.Flow.feed.Goals as goal

-- the only stage of the flow was fed, and was written back
only : (g : given.Over) (c : After-feed_only-passed g) →
    let s = c.self-2.inside in
    let new = c.feed_only-passed.new in
    (s.inlet ≡ None) × (s.ended ≡ false) × IsSound g.S.Stage.acts (flow_of g.S.Stage.acts s.channels s.stages.items s.left)
    × FedOnly g.S.Stage.acts c.args.input.now c.args.output.now new.output c.feed_only-passed.result.taken c.feed_only-passed.result.given s.stages.items new.stages × (take s.stages.len (new.stages ++ drop (length new.stages) s.stages.items) ≡ new.stages)
only g c =
    let s = c.self-2.inside in
    let none : s.inlet ≡ None = none-of s.inlet (search rules) in
    let going : s.ended ≡ false = search rules in
    let back = written_back s.stages.items c.feed_only-passed.new.stages s.stages.len s.stages.ok.0 (c.feed_only-passed.auto.stages ∙ ap length c.deref_mut.ensures.value) in
    (none, going, rw (none, going) at c.self-2.invariant.0, rw c.deref_mut.ensures.value at c.feed_only-passed.ensures.fed, back)

pub invariant_of-self-2 : goal.invariant_of-self-2
invariant_of-self-2 g c =
    let acts = g.S.Stage.acts in
    let s = c.self-2.inside in
    let passed = c.feed_only-passed.result in
    let (none, going, sound, fed, back) = only g (goal.at.invariant_of-self-2 g c).After-feed_only-passed in
    let read = only-read acts s.channels s.left passed.taken passed.given c.args.input.now c.args.output.now _ s.stages.items _ sound fed in
    let all = rw (← c.self-2.view_is, none) at c.requires.bound in
    let bound : s.left + passed.taken ≤ max_frames = omega (arith, all passed.taken read) in
    rw (back, none, going)
    (only-sound acts g.met.S.Stage.rises s.channels s.left passed.taken passed.given c.args.input.now c.args.output.now _ s.stages.items _ sound bound fed, rw (c.deref.ensures.value, back) at c.wet_end-self-inside.ensures.wet, only-held acts _ _ c.args.input.now c.args.output.now _ s.stages.items _ fed c.self-2.invariant.2, rw (c.deref.ensures.value, back) at c.wet_end-self-inside.ensures.lined)

pub returns-clause-fed : goal.returns-clause-fed
returns-clause-fed g c =
    let (none, going, sound, fed, back) = only g (goal.at.returns-clause-fed g c).After-feed_only-passed in
    rw (← c.self-2.view_is, back, none, going) (only-fed g.S.Stage.acts _ _ _ _ c.args.input.now c.args.output.now _ _ _ sound fed)

pub returns-clause-gave : goal.returns-clause-gave
returns-clause-gave g c =
    let (none, going, sound, fed, back) = only g (goal.at.returns-clause-gave g c).After-feed_only-passed in
    rw (← c.self-2.view_is, back, none, going) (only-gave g.S.Stage.acts _ _ _ _ c.args.input.now c.args.output.now _ _ _ sound fed)

pub returns-clause-placed : goal.returns-clause-placed
returns-clause-placed g c = record { read = grind (arith, common_steps); written = grind (arith, common_steps); rest_unchanged = grind (arith, common_steps) }

pub returns-clause-stopped : goal.returns-clause-stopped
returns-clause-stopped g c =
    let acts = g.S.Stage.acts in
    let s = c.self-2.inside in
    let (none, going, sound, fed, back) = only g (goal.at.returns-clause-stopped g c).After-feed_only-passed in
    record {
      waits = grind (arith, common_steps);
      used = rw (← c.self-2.view_is, back) (λ free _ spends. only-used acts _ _ _ _ c.args.input.now c.args.output.now _ _ _ sound fed free spends);
      unchanged = rw (← c.self-2.view_is, back, none, going) (only-unchanged acts s.channels s.left _ _ c.args.input.now c.args.output.now _ s.stages.items _ fed c.feed_only-passed.auto.output);
      full = rw (← c.self-2.view_is, back, none, going) (λ some full. only-last acts _ _ _ _ c.args.input.now c.args.output.now _ _ _ sound fed some full);
    }

pub returns-clause-free : goal.returns-clause-free
returns-clause-free g c =
    let s = c.self-2.inside in
    let (none, going, sound, fed, back) = only g (goal.at.returns-clause-free g c).After-feed_only-passed in
    rw (← c.self-2.view_is, none) (only-free g.S.Stage.acts s.channels s.left _ _ c.args.input.now c.args.output.now _ s.stages.items _ sound fed)

-- the flow has no stage, and its frames were copied
bare : (g : given.Over) (c : After-copy_frames-count g) → let s = c.self-2.inside in (s.inlet ≡ None) × (s.ended ≡ false) × (s.stages.items ≡ []) × (length (pieces s.channels c.copy_frames-count.result c.args.input.now) ≡ c.copy_frames-count.result)
bare g c =
    let s = c.self-2.inside in
    let empty = nil_from_length s.stages.items (omega (arith, c.len-stages.ensures, c.if-stages-eq0.true, s.stages.ok.0)) in
    (none-of s.inlet (search rules), search rules, empty, length-pieces s.channels c.copy_frames-count.result c.args.input.now)

pub invariant_of-self : goal.invariant_of-self
invariant_of-self g c =
    let s = c.self-2.inside in
    let (none, going, empty, many) = bare g (goal.at.invariant_of-self g c).After-copy_frames-count in
    let sound = rw (none, going, empty) at c.self-2.invariant.0 in
    let all = rw (← c.self-2.view_is, none) at c.requires.bound in
    let bound : s.left + c.copy_frames-count.result ≤ max_frames = omega (arith, all c.copy_frames-count.result c.copy_frames-count.ensures.read) in
    rw (none, going, empty) (none-sound g.S.Stage.acts s.channels s.left c.copy_frames-count.result sound bound, rw empty at c.self-2.invariant.1, tt, nothing-lined g.S.Stage.acts s.wet)

pub returns-then-stages-eq0-clause-fed : goal.returns-then-stages-eq0-clause-fed
returns-then-stages-eq0-clause-fed g c =
    let (none, going, empty, many) = bare g (goal.at.returns-then-stages-eq0-clause-fed g c).After-copy_frames-count in
    rw (← c.self-2.view_is, none, going, empty, c.copy_frames-count.ensures.frames) (rw many at (none-fed g.S.Stage.acts c.self-2.inside.channels c.self-2.inside.left (pieces c.self-2.inside.channels c.copy_frames-count.result c.args.input.now)))

pub returns-then-stages-eq0-clause-gave : goal.returns-then-stages-eq0-clause-gave
returns-then-stages-eq0-clause-gave g c =
    let (none, going, empty, many) = bare g (goal.at.returns-then-stages-eq0-clause-gave g c).After-copy_frames-count in
    rw (← c.self-2.view_is, none, going, empty, c.copy_frames-count.ensures.frames) (rw many at (none-gave g.S.Stage.acts c.self-2.inside.channels c.self-2.inside.left (pieces c.self-2.inside.channels c.copy_frames-count.result c.args.input.now)))

pub returns-then-stages-eq0-clause-placed : goal.returns-then-stages-eq0-clause-placed
returns-then-stages-eq0-clause-placed g c = record { read = grind (arith, common_steps); written = grind (arith, common_steps); rest_unchanged = grind (arith, common_steps) }

pub returns-then-stages-eq0-clause-stopped : goal.returns-then-stages-eq0-clause-stopped
returns-then-stages-eq0-clause-stopped g c =
    let s = c.self-2.inside in
    let (none, going, empty, many) = bare g (goal.at.returns-then-stages-eq0-clause-stopped g c).After-copy_frames-count in
    record {
      waits = grind (arith, common_steps);
      used = grind (arith, common_steps);
      unchanged = rw (← c.self-2.view_is, none, going, empty) (λ bound. ap (λ n. flow_of g.S.Stage.acts s.channels [] n) (let taken = c.copy_frames-count.ensures.none bound in omega (arith, taken)));
      full = rw (← c.self-2.view_is, none, going, empty, c.copy_frames-count.ensures.frames)
          (λ some full. rw many at (none-last g.S.Stage.acts s.channels s.left (pieces s.channels c.copy_frames-count.result c.args.input.now) (rw many some)));
    }

pub returns-then-stages-eq0-clause-free : goal.returns-then-stages-eq0-clause-free
returns-then-stages-eq0-clause-free g c =
    let s = c.self-2.inside in
    let (none, going, empty, many) = bare g (goal.at.returns-then-stages-eq0-clause-free g c).After-copy_frames-count in
    rw (← c.self-2.view_is, none, empty) (none-free g.S.Stage.acts s.channels s.left c.copy_frames-count.result (length c.args.output.now) (omega (arith, c.copy_frames-count.ensures.written, c.copy_frames-count.auto.output)))

pub feed_only-passed-requires : goal.feed_only-passed-requires
feed_only-passed-requires g c = grind (arith, common_steps)

pub overflow_add-self-2 : goal.overflow_add-self-2
overflow_add-self-2 g c = grind (arith, common_steps)

pub returns-clause-order : goal.returns-clause-order
returns-clause-order g c = λ first xs gs order.
    let s = c.self-2.inside in
    let passed = c.feed_only-passed.result in
    let (none, going, sound, fed, back) = only g (goal.at.returns-clause-order g c).After-feed_only-passed in
    let call = rw c.deref_mut.ensures.value at c.feed_only-passed.ensures.handed in
    let held = only-held g.S.Stage.acts passed.taken passed.given c.args.input.now c.args.output.now _ s.stages.items _ fed c.self-2.invariant.2 in
    let many = length-pieces s.channels passed.taken c.args.input.now in
    let one = through-order g.S.Stage.acts g.S.StageCalls.handed g.S.PassesWhile.passed_while (flow_of g.S.Stage.acts s.channels s.stages.items s.left) (pieces s.channels passed.taken c.args.input.now) _ passed.taken c.feed_only-passed.new.stages many refl (call s.channels sound.planned.matching) held in
    let before = rw (← c.self-2.view_is, none, going) at order in
    rw (← c.self-2.view_is, back, none, going) (InOrder-then g.S.Stage.acts g.S.StageCalls.handed g.S.PassesWhile.passed_while first _ _ xs gs _ _ [] 0 before one)

pub returns-then-stages-eq0-clause-order : goal.returns-then-stages-eq0-clause-order
returns-then-stages-eq0-clause-order g c = λ first xs gs order.
    let s = c.self-2.inside in
    let (none, going, empty, many) = bare g (goal.at.returns-then-stages-eq0-clause-order g c).After-copy_frames-count in
    let one = bare-order g.S.Stage.acts g.S.StageCalls.handed g.S.PassesWhile.passed_while (flow_of g.S.Stage.acts s.channels [] s.left) (pieces s.channels c.copy_frames-count.result c.args.input.now) c.copy_frames-count.result many refl refl in
    let before = rw (← c.self-2.view_is, none, going, empty) at order in
    rw (← c.self-2.view_is, none, going, empty, c.copy_frames-count.ensures.frames) (InOrder-then g.S.Stage.acts g.S.StageCalls.handed g.S.PassesWhile.passed_while first _ _ xs gs _ _ [] 0 before one)

pub returns-then-is_some-clause-order : goal.returns-then-is_some-clause-order
returns-then-is_some-clause-order g c = λ first xs gs order. InOrder-then g.S.Stage.acts g.S.StageCalls.handed g.S.PassesWhile.passed_while first _ _ xs gs _ _ [] 0 order c.feed_by_steps.ensures.order

pub returns-then-stages-gt1-clause-order : goal.returns-then-stages-gt1-clause-order
returns-then-stages-gt1-clause-order g c = λ first xs gs order. InOrder-then g.S.Stage.acts g.S.StageCalls.handed g.S.PassesWhile.passed_while first _ _ xs gs _ _ [] 0 order c.feed_by_steps-then-stages-gt1.ensures.order
