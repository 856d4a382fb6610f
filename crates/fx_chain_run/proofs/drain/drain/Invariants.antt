use Rattle.std.proofs.Common.{◌≡◌, ◌+◌, ◌-◌, ◌*◌, ◌≤◌, length}
use Rattle.fx_chain_run.specs.Through.{Drained}
use Rattle.fx_chain_flow.specs.Parts.{given_by, work, taken_of, ended_of, moves_of}
use Rattle.fx_frame_base.specs.Holds.{kinds, recipes}
use Rattle.fx_sound.specs.Output.{bytes_put}
use Rattle.fx_chain_run.proofs.drain.drain.Given as goal

abbrev pub invariant-loop-flow : goal.invariant-loop-flow
invariant-loop-flow g l = record {
  drained : Drained g.S.Stage.acts l.fn.flow l.flow l.fn.frame_writer.coding l.fn.frame_writer.clips l.frame_writer.clips (g.W.ByteOut.writes.taken l.fn.writer) (g.W.ByteOut.writes.taken l.writer) l.fn.frame_writer.output l.frame_writer.output;
  free : bytes_put l.frame_writer.output ≤ 68 + 64 * given_by g.S.Stage.acts l.flow.left l.flow.stages;
  bound : l.frame_writer.clips ≤ 16 * given_by g.S.Stage.acts l.flow.left l.flow.stages;
  coding : l.frame_writer.coding ≡ l.fn.frame_writer.coding;
  failures : g.W.ByteOut.writes.failures l.writer ≡ g.W.ByteOut.writes.failures l.fn.writer;
  recipes_stay : recipes g.S.Stage.acts l.flow.stages ≡ recipes g.S.Stage.acts l.fn.flow.stages;
}

abbrev pub decreases-loop-flow : goal.decreases-loop-flow
decreases-loop-flow g l = work (kinds g.S.Stage.acts l.flow.stages) (taken_of l.flow) + length l.flow.stages + 1 - (moves_of g.S.Stage.acts l.flow + ended_of g.S.Stage.acts l.flow.stages)
