use Rattle.std.proofs.Common.{rules, ◌≡◌, false, ◌+◌, ◌*◌, ◌<◌, ◌≤◌, ◌++◌, ◌∙◌, drop, length, take, ap, sym, arith, None}
use Rattle.std.proofs.Math.Nat.{mul-le-mul_right}
use Rattle.fx_frame_base.proofs.Pieces.{length-pieces}
use Rattle.fx_frame_base.specs.Holds.{kinds}
use Rattle.fx_frame_base.specs.Lists.{pieces}
use Rattle.fx_frame_base.specs.Pipeline.{outputs_of}
use Rattle.fx_chain_flow.specs.Runs.{MayRun, RanOn}
use Rattle.fx_chain_flow.proofs.Feeding.{all-gave}
use Rattle.fx_chain_flow.proofs.Moving.{determined-dry}
use Rattle.fx_chain_flow.proofs.PieceLaws.{AllOneToOne-less}
use Rattle.fx_chain_flow.proofs.Running.{AllAhead-some, FlowCapacity-each, frames-fit, outs-fit}
use Rattle.fx_frame_base.proofs.Puts.{written_back}
use Rattle.fx_chain_flow.proofs.flow.Flow.run.Given as given
use Rattle.fx_chain_flow.proofs.flow.Flow.run.Goals as goal
use Rattle.fx_chain_flow.proofs.flow.Flow.run.Goals.{After-deref_mut, After-run-passed}

-- so many frames lie in the input, and may go through the stages
may : (g : given.Over) (c : After-deref_mut g) →
    let s = c.self.inside in
    (c.args.widths.inputs ≡ s.channels) × (s.inlet ≡ None) × (s.ended ≡ false) × (c.max-ahead.result * s.channels ≤ length c.args.input.now) × MayRun g.S.Stage.acts s.channels c.max-ahead.result s.stages.items s.left
may g c =
    let s = c.self.inside in
    let hungry = rw (← c.self.view_is) at c.requires.hungry in
    let inputs : c.args.widths.inputs ≡ s.channels = rw (← c.self.view_is) at c.requires.inputs in
    let one_in = rw (← c.self.view_is) at c.requires.one_in in
    let maximum = rw inputs at c.min-maximum.ensures in
    let fits : c.max-ahead.result * s.channels ≤ length c.args.input.now = frames-fit c.max-ahead.result c.min_forecast-next.result.ahead s.channels (length c.args.input.now) c.max-ahead.ensures (omega (arith, c.min_forecast-next.ensures.maximum, maximum)) one_in in
    let all = rw (← c.self.view_is, hungry.empty) at c.requires.bound in
    (inputs, hungry.empty, hungry.not_ended, fits, record { sound = rw (hungry.empty, hungry.not_ended) at c.self.invariant.0; bound = omega (arith, all c.max-ahead.result fits) })

pub see_lined-requires : goal.see_lined-requires
see_lined-requires g c =
    let s = c.self.inside in
    let hungry = rw (← c.self.view_is) at c.requires.hungry in
    rw c.deref-2.ensures.value (determined-dry g.S.Stage.acts s.wet s.stages.items c.self.invariant.1 hungry.dry)

pub run-passed-requires-clause-may : goal.run-passed-requires-clause-may
run-passed-requires-clause-may g c =
    let s = c.self.inside in
    let (inputs, none, going, fits, run) = may g (goal.at.run-passed-requires-clause-may g c).After-deref_mut in
    let hungry = rw (← c.self.view_is) at c.requires.hungry in
    record {
      frame = rw inputs (rw (← c.self.view_is) at c.requires.channels);
      outputs = rw (c.deref_mut.ensures.value, inputs) (rw (← c.self.view_is) at c.requires.outputs);
      keep = rw (c.deref_mut.ensures.value, inputs) (rw (← c.self.view_is) at c.requires.keep);
      input = rw inputs fits;
      output = outs-fit c.max-ahead.result c.min_forecast-next.result.ahead c.args.widths.outputs c.max.result (length c.args.output.now) c.max-ahead.ensures c.max.ensures (omega (arith, c.min_forecast-next.ensures.maximum, c.min-maximum.ensures)) c.requires.one_out;
      may_run = rw (c.deref_mut.ensures.value, inputs) (s.left, run);
      determined = rw c.deref_mut.ensures.value (determined-dry g.S.Stage.acts s.wet s.stages.items c.self.invariant.1 hungry.dry);
      lined = search rules;
      ahead = rw (c.deref_mut.ensures.value, c.max-ahead.ensures) (AllAhead-some g.S.Stage.acts c.min_forecast-next.result.ahead s.stages.items hungry.dry (rw (← c.self.view_is) at c.requires.not_spent) (rw c.deref.ensures.value at c.min_forecast-next.ensures.ahead));
    }

pub run-passed-requires-clause-forecast : goal.run-passed-requires-clause-forecast
run-passed-requires-clause-forecast g c =
    let next = rw c.deref.ensures.value at c.min_forecast-next.ensures in
    rw c.deref_mut.ensures.value (record {
      one_to_one = AllOneToOne-less g.S.Stage.acts c.min-one_to_one.result c.min_forecast-next.result.one_to_one c.self.inside.stages.items (omega (arith, c.min-one_to_one.ensures)) next.one_to_one;
      within = omega (arith, c.min-one_to_one.ensures);
      none_due = next.none_due;
    })

-- frames went through the stages, which were written back
ran : (g : given.Over) (c : After-run-passed g) → MayRun g.S.Stage.acts c.self.inside.channels c.max-ahead.result c.self.inside.stages.items c.self.inside.left →
    let s = c.self.inside in
    let passed = c.run-passed.result in
    let new = c.run-passed.new in
    (take s.stages.len (new.stages ++ drop (length new.stages) s.stages.items) ≡ new.stages) × RanOn g.S.Stage.acts s.channels (pieces s.channels passed.taken c.args.input.now) (pieces c.args.widths.outputs passed.given new.output) s.stages.items new.stages s.left
ran g c may_run =
    let s = c.self.inside in
    let inputs : c.args.widths.inputs ≡ s.channels = rw (← c.self.view_is) at c.requires.inputs in
    let after = rw (c.deref_mut.ensures.value, inputs) at c.run-passed.ensures.ran in
    (written_back s.stages.items c.run-passed.new.stages s.stages.len s.stages.ok.0 (c.run-passed.auto.stages ∙ ap length c.deref_mut.ensures.value), after s.left may_run)

pub invariant_of-self : goal.invariant_of-self
invariant_of-self g c =
    let s = c.self.inside in
    let (inputs, none, going, fits, run) = may g (goal.at.invariant_of-self g c).After-deref_mut in
    let (back, after) = ran g (goal.at.invariant_of-self g c).After-run-passed run in
    rw (back, none, going) (rw (length-pieces s.channels c.run-passed.result.taken c.args.input.now) at after.sound, rw (c.deref-3.ensures.value, back) at c.wet_end-self-inside.ensures.wet, c.run-passed.ensures.held, rw (c.deref-3.ensures.value, back) at c.wet_end-self-inside.ensures.lined)

pub returns : goal.returns
returns g c =
    let s = c.self.inside in
    let passed = c.run-passed.result in
    let outputs : c.args.widths.outputs ≡ outputs_of s.channels (kinds g.S.Stage.acts s.stages.items) = rw (← c.self.view_is) at c.requires.outputs in
    let (inputs, none, going, fits, run) = may g (goal.at.returns g c).After-deref_mut in
    let (back, after) = ran g (goal.at.returns g c).After-run-passed run in
    let many : length (pieces s.channels passed.taken c.args.input.now) ≡ passed.taken = length-pieces s.channels passed.taken c.args.input.now in
    let out-under : passed.given * c.args.widths.outputs ≤ c.max-ahead.result * c.args.widths.outputs = mul-le-mul_right c.args.widths.outputs (omega (arith, c.run-passed.ensures.read, c.run-passed.ensures.written)) in
    let out-fits = outs-fit c.max-ahead.result c.min_forecast-next.result.ahead c.args.widths.outputs c.max.result (length c.args.output.now) c.max-ahead.ensures c.max.ensures (omega (arith, c.min_forecast-next.ensures.maximum, c.min-maximum.ensures)) c.requires.one_out in
    let free : passed.given * c.args.widths.outputs ≤ length c.run-passed.new.output = omega (arith, out-fits, out-under, c.run-passed.auto.output) in
    record {
      fed = rw (← c.self.view_is, back, none, going) (rw (many, outputs) at after.fed);
      gave = rw (← c.self.view_is, back, none, going) (rw (many, outputs) at after.gave);
      placed = rw (← c.self.view_is) (record {
        read = omega (arith, fits, mul-le-mul_right s.channels c.run-passed.ensures.read);
        written = rw outputs at free;
        rest_unchanged = rw outputs at c.run-passed.ensures.rest_unchanged;
      });
      small = rw (← c.self.view_is) (rw outputs at c.run-passed.ensures.small);
      moves = rw (← c.self.view_is, back) (rw many at after.moves);
      some = c.run-passed.ensures.some (omega (arith, c.max-ahead.ensures));
      free = rw (← c.self.view_is, none) (λ n bound. FlowCapacity-each g.S.Stage.acts s.channels s.left s.stages.items passed.taken (length c.args.output.now) (rw many at after.each) (rw (← outputs) (omega (arith, mul-le-mul_right c.args.widths.outputs c.run-passed.ensures.read, out-fits))) n bound);
      order = rw (← c.self.view_is, back, none, going) (rw (c.deref_mut.ensures.value, inputs, outputs) at (c.run-passed.ensures.order s.left));
      full = rw (← c.self.view_is, back, none, going) (λ one_out full.
          let filled : length c.args.output.now < passed.given * c.args.widths.outputs + c.args.widths.outputs = rw outputs full in
          let all : passed.given ≡ passed.taken = all-gave passed.given passed.taken c.max-ahead.result c.args.widths.outputs (length c.args.output.now) c.run-passed.ensures.written c.run-passed.ensures.read out-fits filled in
          let gave : length (pieces c.args.widths.outputs passed.given c.run-passed.new.output) ≡ passed.given = length-pieces c.args.widths.outputs passed.given c.run-passed.new.output in
          rw (many, outputs) at (after.last (gave ∙ all ∙ sym many) (omega (arith, gave, one_out))));
    }
