use Rattle.std.proofs.Common.{◌≡◌, ◌∙◌, ◌+◌, ◌-◌, ◌*◌, ◌++◌, ◌≤◌, ℕ, List, length, take, drop, refl, arith, ℤ}
use Rattle.std.proofs.lemmas.List.{length-drop, length-take-le}
use Rattle.std.proofs.Math.Nat.{add-mul, mul-le-mul_right}
use Rattle.fx_chain_flow.specs.Sound.{max_frames}
use Rattle.fx_chain_flow.proofs.PieceLaws.{AllOneToOne-less}
use Rattle.fx_chain_flow.proofs.Running.{AllAhead-less}
use Rattle.fx_chain_flow.proofs.OneToOneRuns.{OneToOneRun-next, OneToOneRun-none, OneToOneRun-ready}
use Rattle.fx_chain_flow.proofs.one_to_one.run_one_to_one.Goals as goal

pub pieces-init : goal.pieces-init
pieces-init g c =
    OneToOneRun-none g.S.Stage.acts g.S.StageCalls.handed g.S.PassesWhile.passed_while g.met.S.Stage.rises c.args.channels c.args.count c.args.stages.now c.args.input.now c.args.output.now c.requires.determined c.requires.lined c.requires.ahead c.requires.one_to_one c.requires.keep

pub slice_bounds-pass_batch-end : goal.slice_bounds-pass_batch-end
slice_bounds-pass_batch-end g c =
    let within : c.pieces.done + c.min-piece.result ≤ c.args.count = omega (arith, c.min-piece.ensures, c.pieces.invariant.within) in
    omega (arith, mul-le-mul_right c.args.channels within, add-mul c.pieces.done c.min-piece.result c.args.channels, c.requires.input)

pub slice_bounds-pass_batch-end-in-pieces : goal.slice_bounds-pass_batch-end-in-pieces
slice_bounds-pass_batch-end-in-pieces g c =
    let within : c.pieces.done + c.min-piece.result ≤ c.args.count = omega (arith, c.min-piece.ensures, c.pieces.invariant.within) in
    omega (arith, mul-le-mul_right c.args.channels within, add-mul c.pieces.done c.min-piece.result c.args.channels, c.requires.output, c.pieces.auto.output)

pub pass_batch-requires-clause-ready : goal.pass_batch-requires-clause-ready
pass_batch-requires-clause-ready g c =
    let left = c.requires.may_run.0 in
    let within : c.pieces.done + c.min-piece.result ≤ c.args.count = omega (arith, c.min-piece.ensures, c.pieces.invariant.within) in
    let some : 1 ≤ c.min-piece.result = omega (arith, c.min-piece.ensures, c.pieces-test.true, c.saturating_add-bound.ensures) in
    let ready = OneToOneRun-ready g.S.Stage.acts g.S.StageCalls.handed g.S.PassesWhile.passed_while g.met.S.Stage.rises c.args.channels c.args.count c.args.stages.now c.args.input.now c.args.output.now c.pieces.stages c.pieces.output c.pieces.done c.min-piece.result left c.pieces.invariant within some c.requires.may_run.1 in
    (left + c.pieces.done, max_frames, ready.0, ready.1)

pub pass_batch-requires-clause-one_to_one : goal.pass_batch-requires-clause-one_to_one
pass_batch-requires-clause-one_to_one g c =
    AllOneToOne-less g.S.Stage.acts c.min-piece.result (c.args.count - c.pieces.done) c.pieces.stages (omega (arith, c.min-piece.ensures)) (c.pieces.invariant.one_to_one (c.args.count - c.pieces.done) (omega (arith, c.pieces.invariant.within)))

pub pass_batch-requires-clause-ahead : goal.pass_batch-requires-clause-ahead
pass_batch-requires-clause-ahead g c =
    AllAhead-less g.S.Stage.acts c.min-piece.result (c.args.count - c.pieces.done) c.pieces.stages (omega (arith, c.min-piece.ensures)) (c.pieces.invariant.ahead (c.args.count - c.pieces.done) (omega (arith, c.pieces.invariant.within)))

pub pieces-preserved : goal.pieces-preserved
pieces-preserved g c =
    let within : c.pieces.done + c.min-piece.result ≤ c.args.count = omega (arith, c.min-piece.ensures, c.pieces.invariant.within) in
    let some : 1 ≤ c.min-piece.result = omega (arith, c.min-piece.ensures, c.pieces-test.true, c.saturating_add-bound.ensures) in
    let ch : ℕ = c.args.channels in
    let at : ℕ = c.pieces.done * ch in
    let n : ℕ = c.min-piece.result * ch in
    let size : at + n - at ≡ n = omega arith in
    let y : List ℤ = c.pass_batch.new.output in
    let out : List ℤ = take at c.pieces.output ++ (y ++ drop (at + n - at) (drop at c.pieces.output)) in
    let put : out ≡ take at c.pieces.output ++ (y ++ drop n (drop at c.pieces.output)) = rw size refl in
    let place : (c.pieces.done + c.min-piece.result) * ch ≡ at + n = add-mul c.pieces.done c.min-piece.result ch in
    let fits_out : at + n ≤ length c.pieces.output = omega (arith, mul-le-mul_right ch within, place, c.requires.output, c.pieces.auto.output) in
    let sides : length y ≡ n = c.pass_batch.auto.output ∙ (rw size (length-take-le n (drop at c.pieces.output) (omega (arith, fits_out, length-drop at c.pieces.output)))) in
    OneToOneRun-next g.S.Stage.acts g.S.StageCalls.handed g.S.PassesWhile.passed_while g.met.S.Stage.rises ch c.args.count c.args.stages.now c.args.input.now c.args.output.now c.pieces.stages c.pass_batch.new.stages c.pieces.output out y c.pieces.done c.min-piece.result c.pieces.invariant c.requires.frame.0 c.requires.frame.1 within some c.requires.input c.requires.output c.see_samples.ensures
    sides (rw size at c.pass_batch.ensures.through) c.pass_batch.ensures.lined (rw size at c.pass_batch.ensures.order) put
