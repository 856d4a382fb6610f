use Rattle.std.proofs.Common.{◌≡◌, ◌∙◌, ◌+◌, ◌<◌, ◌≤◌, [], add-one, get_or, length, refl, sym, ap, arith}
use Rattle.std.proofs.lemmas.List.{length-set}
use Rattle.fx_frame_base.specs.Holds.{held_sum, hold_sum, kinds}
use Rattle.fx_frame_base.specs.Lists.{pieces}
use Rattle.fx_frame_base.specs.Stage.{kind}
use Rattle.fx_frame_base.proofs.Pieces.{length-pieces}
use Rattle.fx_chain_flow.specs.StageCall.{MayBePassedMany, WasPassedMany}
use Rattle.fx_chain_flow.specs.Order.{went_on, went_out}
use Rattle.fx_chain_flow.specs.Pipeline.{AllLined}
use Rattle.fx_chain_flow.specs.Runs.{flow_of}
use Rattle.fx_chain_flow.proofs.Orders.{FitsHold-many, came-order}
use Rattle.fx_chain_flow.proofs.PieceLaws.{AllKeep-piece, MayFeed-at, PieceTo-next, PieceTo-out}
use Rattle.fx_chain_flow.proofs.Pipelines.{AllLined-set, lined-bound}
use Rattle.fx_chain_flow.proofs.Places.{At-from, ChangedAt-placed}
use Rattle.fx_chain_flow.proofs.one_to_one.pass_batch.Goals as goal

pub stages-init : goal.stages-init
stages-init g c =
    let acts = g.S.Stage.acts in
    let within = lined-bound acts c.args.count c.args.stages.now c.requires.lined c.requires.bound in
    let many : length (pieces c.args.channels c.args.count c.args.input.now) ≡ c.args.count = length-pieces c.args.channels c.args.count c.args.input.now in
    record {
      came_to = (refl, ap (pieces c.args.channels c.args.count) c.copy_from_slice.ensures.after, refl);
      order = λ left. rw c.copy_from_slice.ensures.after (came-order acts g.S.StageCalls.handed g.S.PassesWhile.passed_while (flow_of acts c.args.channels c.args.stages.now left) (pieces c.args.channels c.args.count c.args.input.now) c.args.count many refl within);
      long = ap length c.copy_from_slice.ensures.after ∙ c.requires.input;
      lined = c.requires.lined;
      within = within;
    }

-- the frames may be passed to the stage at the place
pub pass_frames_at-requires-clause-may : goal.pass_frames_at-requires-clause-may
pass_frames_at-requires-clause-may g c =
    let acts = g.S.Stage.acts in
    let here : c.stages.place < length c.stages.stages = omega (arith, c.stages-test.true, c.stages.auto.stages) in
    At-from (MayBePassedMany acts c.args.channels c.args.count) c.stages.place c.stages.stages here (λ d.
    let m = MayFeed-at acts g.met.S.Stage.rises c.stages.place c.args.channels c.requires.ready.0 c.requires.ready.1 c.args.count c.args.channels (pieces c.args.channels c.args.count c.args.input.now) (pieces c.args.channels c.args.count c.stages.output) c.args.stages.now c.stages.stages d c.requires.some
    (length-pieces c.args.channels c.args.count c.args.input.now) c.requires.ready.2 c.requires.ready.3 c.requires.one_to_one c.requires.ahead c.stages.invariant.came_to here in
    let keeps = AllKeep-piece acts c.stages.place c.args.channels c.args.channels c.args.channels (pieces c.args.channels c.args.count c.args.input.now) (pieces c.args.channels c.args.count c.stages.output) c.args.stages.now c.stages.stages d c.stages.invariant.came_to c.requires.keep here in
    record { dry = m.dry; not_ended = m.not_ended; inputs = m.inputs; outputs = keeps ∙ m.inputs; one_to_one = m.one_to_one; ahead = m.ahead; below_limit = m.below_limit })

pub stages-preserved : goal.stages-preserved
stages-preserved g c =
    let acts = g.S.Stage.acts in
    let here : c.stages.place < length c.stages.stages = omega (arith, c.stages-test.true, c.stages.auto.stages) in
    let p = ChangedAt-placed (WasPassedMany acts (pieces c.args.channels c.args.count c.stages.output) (pieces c.args.channels c.args.count c.pass_frames_at.new.samples)) c.stages.place c.stages.stages c.pass_frames_at.new.stages c.pass_frames_at.ensures.passed in
    let keeps : (kind acts (get_or c.stages.stages c.stages.place p.before)).outputs ≡ c.args.channels = AllKeep-piece acts c.stages.place c.args.channels c.args.channels c.args.channels (pieces c.args.channels c.args.count c.args.input.now) (pieces c.args.channels c.args.count c.stages.output) c.args.stages.now c.stages.stages p.before c.stages.invariant.came_to c.requires.keep here in
    let lined : AllLined acts c.pass_frames_at.new.stages = rw p.put (AllLined-set acts c.stages.place c.stages.stages p.after p.changed.1 c.stages.invariant.lined) in
    let same : length c.pass_frames_at.new.stages ≡ length c.stages.stages = rw p.put (length-set c.stages.stages c.stages.place p.after) in
    let within : held_sum acts c.pass_frames_at.new.stages + c.args.count ≤ 1 + hold_sum (kinds acts c.pass_frames_at.new.stages) = lined-bound acts c.args.count c.pass_frames_at.new.stages lined (omega (arith, c.requires.bound, c.stages.auto.stages, same)) in
    let given : length (pieces c.args.channels c.args.count c.pass_frames_at.new.samples) ≡ c.args.count = length-pieces c.args.channels c.args.count c.pass_frames_at.new.samples in
    rw add-one (record {
      came_to = rw p.put (PieceTo-next acts c.stages.place c.args.channels c.args.channels c.args.channels (pieces c.args.channels c.args.count c.args.input.now) (pieces c.args.channels c.args.count c.stages.output) (pieces c.args.channels c.args.count c.pass_frames_at.new.samples) c.args.stages.now c.stages.stages p.after p.before here c.stages.invariant.came_to p.changed.0 (sym keeps));
      long = c.pass_frames_at.auto.samples ∙ c.stages.invariant.long;
      order = λ left.
          let after = flow_of acts c.args.channels c.pass_frames_at.new.stages (left + c.args.count) in
          went_on (pieces c.args.channels c.args.count c.args.input.now) [] (pieces c.args.channels c.args.count c.stages.output) (pieces c.args.channels c.args.count c.pass_frames_at.new.samples) c.stages.place _ c.pass_frames_at.new.stages (c.stages.invariant.order left) c.pass_frames_at.ensures.handed (FitsHold-many acts (pieces c.args.channels c.args.count c.pass_frames_at.new.samples) _ after refl (rw given within));
      lined = lined;
      within = within;
    })

pub returns : goal.returns
returns g c =
    let out = PieceTo-out g.S.Stage.acts c.stages.place c.args.channels c.args.channels (pieces c.args.channels c.args.count c.args.input.now) (pieces c.args.channels c.args.count c.stages.output) c.args.stages.now c.stages.stages (omega (arith, c.stages-test.false, c.stages.auto.stages)) c.stages.invariant.came_to in
    let last : c.stages.place ≡ length c.stages.stages = omega (arith, c.stages-test.false, c.stages.auto.stages, c.stages.auto.place-end) in
    record { through = out.0; lined = c.stages.invariant.lined; within = c.stages.invariant.within; order = λ left. went_out (pieces c.args.channels c.args.count c.args.input.now) [] (pieces c.args.channels c.args.count c.stages.output) c.stages.place _ (c.stages.invariant.order left) last }
