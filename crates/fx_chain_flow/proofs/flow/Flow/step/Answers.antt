use Rattle.std.proofs.Common.{rules, cond, nat_eq, ◌≡◌, ◌+◌, ◌<◌, ◌^◌, [], append-nil, length, refl, sym, ap, ◌∙◌, arith, true}
use Rattle.fx_frame_base.specs.Holds.{hold_sum, kinds}
use Rattle.fx_chain_flow.proofs.Steps.{IsSound-pass, Steps-pass, ended-busy, given_out-step_of, never-idle}
use Rattle.fx_chain_flow.proofs.Moving.{determined-none, determined-after, count-le, IsWetEnd-le, CanMove-sound, IsSound-move, Steps-move, MovedOn-move, MovedOn-pass}
use Rattle.fx_frame_base.proofs.Puts.{written_back}
use Rattle.fx_chain_flow.specs.Parts.{AllDetermined}
use Rattle.fx_chain_flow.specs.Steps.{one_more}
use Rattle.fx_chain_flow.proofs.Orders.{InOrder-then, lined-minimum}
use Rattle.fx_chain_flow.proofs.flow.Flow.step.Given as given
use Rattle.fx_chain_flow.proofs.flow.Flow.step.Goals as goal
use Rattle.fx_chain_flow.proofs.flow.Flow.step.Goals.{Then-is_idle}

-- nothing is pending, and the flow was given the end
idle : (g : given.Over) (c : Then-is_idle g) → AllDetermined g.S.Stage.acts c.self.inside.stages.items × (c.self.inside.ended ≡ true)
idle g c =
    let unchanged = c.if-is_idle.ensures.0 refl in
    let dry = determined-none g.S.Stage.acts c.self.inside.wet c.self.inside.stages.items (omega (arith, unchanged.0)) c.self.invariant.1 in
    let busy = rw (← c.self.view_is) at c.requires in
    (dry, ended-busy g.S.Stage.acts _ unchanged.1 dry busy.0)

pub pass_on-self-inside-requires-clause-open : goal.pass_on-self-inside-requires-clause-open
pass_on-self-inside-requires-clause-open g c =
    let unchanged = c.if-is_idle.ensures.0 refl in
    let dry = determined-none g.S.Stage.acts c.self.inside.wet c.self.inside.stages.items (omega (arith, unchanged.0)) c.self.invariant.1 in
    let busy = rw (← c.self.view_is) at c.requires in
    rw c.deref_mut.ensures.value (λ ended. never-idle g.S.Stage.acts _ unchanged.1 dry ended busy.0 busy.1)

pub invariant_of-self : goal.invariant_of-self
invariant_of-self g c =
    let (dry, over) = idle g (goal.at.invariant_of-self g c).Then-is_idle in
    let passed = rw c.deref_mut.ensures.value at c.pass_on-self-inside.ensures.passed in
    rw (written_back c.self.inside.stages.items c.pass_on-self-inside.new.stages c.self.inside.stages.len c.self.inside.stages.ok.0 (c.pass_on-self-inside.auto.stages ∙ ap length c.deref_mut.ensures.value))
    (IsSound-pass g.S.Stage.acts g.met.S.Stage.rises _ passed.0 c.pass_on-self-inside.new.stages c.self.invariant.0 over dry passed.1 passed.2, c.pass_on-self-inside.ensures.wet, c.pass_on-self-inside.ensures.held, c.pass_on-self-inside.ensures.lined)

pub returns-then-is_idle-clause-steps : goal.returns-then-is_idle-clause-steps
returns-then-is_idle-clause-steps g c =
    let (dry, over) = idle g (goal.at.returns-then-is_idle-clause-steps g c).Then-is_idle in
    let passed = rw c.deref_mut.ensures.value at c.pass_on-self-inside.ensures.passed in
    rw (← c.self.view_is, written_back c.self.inside.stages.items c.pass_on-self-inside.new.stages c.self.inside.stages.len c.self.inside.stages.ok.0 (c.pass_on-self-inside.auto.stages ∙ ap length c.deref_mut.ensures.value))
    (Steps-pass g.S.Stage.acts g.met.S.Stage.rises _ passed.0 c.pass_on-self-inside.new.stages c.self.invariant.0 over dry passed.1 passed.2)

pub returns-then-is_idle-clause-moved : goal.returns-then-is_idle-clause-moved
returns-then-is_idle-clause-moved g c =
    let (dry, over) = idle g (goal.at.returns-then-is_idle-clause-moved g c).Then-is_idle in
    let passed = rw c.deref_mut.ensures.value at c.pass_on-self-inside.ensures.passed in
    rw (← c.self.view_is, written_back c.self.inside.stages.items c.pass_on-self-inside.new.stages c.self.inside.stages.len c.self.inside.stages.ok.0 (c.pass_on-self-inside.auto.stages ∙ ap length c.deref_mut.ensures.value))
    (MovedOn-pass g.S.Stage.acts g.met.S.Stage.rises _ passed.0 c.pass_on-self-inside.new.stages c.self.invariant.0 over dry passed.1 passed.2)

pub move_on-out-requires-clause-may : goal.move_on-out-requires-clause-may
move_on-out-requires-clause-may g c =
    rw c.deref_mut-2.ensures.value
    (CanMove-sound g.S.Stage.acts g.met.S.Stage.rises _ c.self.inside.wet c.self.invariant.0 c.self.invariant.1 (λ unchanged. let e = c.if-is_idle.ensures.1 unchanged in absurd (cc)))

pub overflow_add-place : goal.overflow_add-place
overflow_add-place g c =
    let n = count-le g.S.Stage.acts c.self.inside.stages.items in
    let l = IsWetEnd-le g.S.Stage.acts c.self.inside.wet c.self.inside.stages.items c.self.invariant.1 in
    let h : 1 + hold_sum (kinds g.S.Stage.acts c.self.inside.stages.items) < 2 ^ 64 = c.self.invariant.0.planned.hold in
    omega arith

pub wet_end-self-inside-requires-clause-dry : goal.wet_end-self-inside-requires-clause-dry
wet_end-self-inside-requires-clause-dry g c =
    let moved = rw c.deref_mut-2.ensures.value at c.move_on-out.ensures.moved in
    let same : length c.move_on-out.new.stages ≡ length c.self.inside.stages.items = c.move_on-out.auto.stages ∙ ap length c.deref_mut-2.ensures.value in
    rw (c.deref.ensures.value, written_back c.self.inside.stages.items c.move_on-out.new.stages c.self.inside.stages.len c.self.inside.stages.ok.0 same, c.min.ensures, c.len-count.ensures, c.self.inside.stages.ok.0 ∙ sym same)
    (determined-after g.S.Stage.acts c.self.inside.wet _ _ _ _ _ c.self.invariant.1 moved)

pub invariant_of-self-2 : goal.invariant_of-self-2
invariant_of-self-2 g c =
    let one : c.from.result ≡ cond (nat_eq c.self.inside.wet 0) 1 0 = search rules in
    let moved = rw c.deref_mut-2.ensures.value at c.move_on-out.ensures.moved in
    let back = written_back c.self.inside.stages.items c.move_on-out.new.stages c.self.inside.stages.len c.self.inside.stages.ok.0 (c.move_on-out.auto.stages ∙ ap length c.deref_mut-2.ensures.value) in
    rw (back, one)
    (IsSound-move g.S.Stage.acts g.met.S.Stage.rises _ c.self.inside.wet _ _ _ c.self.invariant.0 c.self.invariant.1 moved, rw (c.deref.ensures.value, back) at c.wet_end-self-inside.ensures.wet, c.move_on-out.ensures.held, rw (c.deref.ensures.value, back) at c.wet_end-self-inside.ensures.lined)

pub returns-clause-steps : goal.returns-clause-steps
returns-clause-steps g c =
    let one : c.from.result ≡ cond (nat_eq c.self.inside.wet 0) 1 0 = search rules in
    let moved = rw c.deref_mut-2.ensures.value at c.move_on-out.ensures.moved in
    let back = written_back c.self.inside.stages.items c.move_on-out.new.stages c.self.inside.stages.len c.self.inside.stages.ok.0 (c.move_on-out.auto.stages ∙ ap length c.deref_mut-2.ensures.value) in
    rw (← c.self.view_is, back, c.made.ensures, one)
    (Steps-move g.S.Stage.acts g.met.S.Stage.rises _ c.self.inside.wet _ _ _ c.self.invariant.0 c.self.invariant.1 moved)

pub returns-clause-moved : goal.returns-clause-moved
returns-clause-moved g c =
    let one : c.from.result ≡ cond (nat_eq c.self.inside.wet 0) 1 0 = search rules in
    let moved = rw c.deref_mut-2.ensures.value at c.move_on-out.ensures.moved in
    let back = written_back c.self.inside.stages.items c.move_on-out.new.stages c.self.inside.stages.len c.self.inside.stages.ok.0 (c.move_on-out.auto.stages ∙ ap length c.deref_mut-2.ensures.value) in
    rw (← c.self.view_is, back, c.made.ensures, one)
    (MovedOn-move g.S.Stage.acts g.met.S.Stage.rises _ c.self.inside.wet _ _ _ c.self.invariant.1 moved)

pub returns-then-is_idle-clause-sequence : goal.returns-then-is_idle-clause-sequence
returns-then-is_idle-clause-sequence g c =
    let (dry, over) = idle g (goal.at.returns-then-is_idle-clause-sequence g c).Then-is_idle in
    let busy = rw (← c.self.view_is) at c.requires in
    let passed = rw c.deref_mut.ensures.value at c.pass_on-self-inside.ensures.passed in
    rw (← c.self.view_is, written_back c.self.inside.stages.items c.pass_on-self-inside.new.stages c.self.inside.stages.len c.self.inside.stages.ok.0 (c.pass_on-self-inside.auto.stages ∙ ap length c.deref_mut.ensures.value))
    (λ first n steps. one_more n _ _ _ steps busy (Steps-pass g.S.Stage.acts g.met.S.Stage.rises _ passed.0 c.pass_on-self-inside.new.stages c.self.invariant.0 over dry passed.1 passed.2))

pub returns-clause-sequence : goal.returns-clause-sequence
returns-clause-sequence g c =
    let one : c.from.result ≡ cond (nat_eq c.self.inside.wet 0) 1 0 = search rules in
    let moved = rw c.deref_mut-2.ensures.value at c.move_on-out.ensures.moved in
    let back = written_back c.self.inside.stages.items c.move_on-out.new.stages c.self.inside.stages.len c.self.inside.stages.ok.0 (c.move_on-out.auto.stages ∙ ap length c.deref_mut-2.ensures.value) in
    let busy = rw (← c.self.view_is) at c.requires in
    rw (← c.self.view_is, back, one)
    (λ first n steps. one_more n _ _ _ steps busy (Steps-move g.S.Stage.acts g.met.S.Stage.rises _ c.self.inside.wet _ _ _ c.self.invariant.0 c.self.invariant.1 moved))

pub pass_on-self-inside-requires-clause-held : goal.pass_on-self-inside-requires-clause-held
pass_on-self-inside-requires-clause-held g c = rw c.deref_mut.ensures.value c.self.invariant.2

pub move_on-out-requires-clause-held : goal.move_on-out-requires-clause-held
move_on-out-requires-clause-held g c = rw c.deref_mut-2.ensures.value c.self.invariant.2

pub move_on-out-requires-clause-lined : goal.move_on-out-requires-clause-lined
move_on-out-requires-clause-lined g c = rw c.deref_mut-2.ensures.value c.self.invariant.3

pub wet_end-self-inside-requires-clause-lined : goal.wet_end-self-inside-requires-clause-lined
wet_end-self-inside-requires-clause-lined g c =
    let same : length c.move_on-out.new.stages ≡ length c.self.inside.stages.items = c.move_on-out.auto.stages ∙ ap length c.deref_mut-2.ensures.value in
    rw (c.deref.ensures.value, written_back c.self.inside.stages.items c.move_on-out.new.stages c.self.inside.stages.len c.self.inside.stages.ok.0 same, c.min.ensures, c.len-count.ensures, c.self.inside.stages.ok.0 ∙ sym same)
    (lined-minimum g.S.Stage.acts (c.self.inside.wet + 1) _ c.move_on-out.new.stages refl c.move_on-out.ensures.lined)

pub returns-then-is_idle-clause-order : goal.returns-then-is_idle-clause-order
returns-then-is_idle-clause-order g c = λ first xs gs order.
    let here = rw c.deref_mut.ensures.value at c.pass_on-self-inside.ensures.order in
    let all = InOrder-then g.S.Stage.acts g.S.StageCalls.handed g.S.PassesWhile.passed_while first _ _ xs gs [] [] [] 0 (rw (← c.self.view_is) at order) (here (record { stages = c.self.inside.stages.items; inlet = c.self.inside.inlet; ended = c.self.inside.ended; left = c.self.inside.left; channels = c.self.inside.channels })) in
    rw (written_back c.self.inside.stages.items c.pass_on-self-inside.new.stages c.self.inside.stages.len c.self.inside.stages.ok.0 (c.pass_on-self-inside.auto.stages ∙ ap length c.deref_mut.ensures.value)) (rw append-nil at all)

pub returns-clause-order : goal.returns-clause-order
returns-clause-order g c = λ first xs gs order.
    let one : c.from.result ≡ cond (nat_eq c.self.inside.wet 0) 1 0 = search rules in
    let back = written_back c.self.inside.stages.items c.move_on-out.new.stages c.self.inside.stages.len c.self.inside.stages.ok.0 (c.move_on-out.auto.stages ∙ ap length c.deref_mut-2.ensures.value) in
    let here = rw c.deref_mut-2.ensures.value at c.move_on-out.ensures.order in
    let all = InOrder-then g.S.Stage.acts g.S.StageCalls.handed g.S.PassesWhile.passed_while first _ _ xs gs [] _ [] 0 (rw (← c.self.view_is) at order) (here (record { stages = c.self.inside.stages.items; inlet = c.self.inside.inlet; ended = c.self.inside.ended; left = c.self.inside.left; channels = c.self.inside.channels })) in
    rw (back, c.made.ensures, one, given_out-step_of) (rw append-nil at all)
