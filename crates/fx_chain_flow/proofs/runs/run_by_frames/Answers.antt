use Rattle.std.proofs.Common.{rules, refl}
use Rattle.fx_chain_flow.proofs.Running.{widths-kept}
use Rattle.fx_chain_flow.proofs.runs.run_by_frames.Goals as goal

pub run_frames-requires-in-1 : goal.run_frames-requires-in-1
run_frames-requires-in-1 g c = rw (widths-kept g.S.Stage.acts c.requires 1 c.kept.ensures (search rules) (search rules)) c.requires

pub returns-in-1 : goal.returns-in-1
returns-in-1 g c = rw (widths-kept g.S.Stage.acts c.requires 1 c.kept.ensures (search rules) (search rules)) at c.run_frames-in-1.ensures

pub run_frames-requires-in-2 : goal.run_frames-requires-in-2
run_frames-requires-in-2 g c = rw (widths-kept g.S.Stage.acts c.requires 2 c.kept-in-2.ensures (search rules) (search rules)) c.requires

pub returns-in-2 : goal.returns-in-2
returns-in-2 g c = rw (widths-kept g.S.Stage.acts c.requires 2 c.kept-in-2.ensures (search rules) (search rules)) at c.run_frames-in-2.ensures

pub run_frames-requires-in-8 : goal.run_frames-requires-in-8
run_frames-requires-in-8 g c = rw (widths-kept g.S.Stage.acts c.requires 8 c.kept-in-8.ensures (search rules) (search rules)) c.requires

pub returns-in-8 : goal.returns-in-8
returns-in-8 g c = rw (widths-kept g.S.Stage.acts c.requires 8 c.kept-in-8.ensures (search rules) (search rules)) at c.run_frames-in-8.ensures

pub run_frames-requires-in_default : goal.run_frames-requires-in_default
run_frames-requires-in_default g c = rw (widths-kept g.S.Stage.acts c.requires c.args.widths.inputs c.kept-in_default.ensures (search rules) refl) c.requires

pub returns-in_default : goal.returns-in_default
returns-in_default g c = rw (widths-kept g.S.Stage.acts c.requires c.args.widths.inputs c.kept-in_default.ensures (search rules) refl) at c.run_frames-in_default.ensures
