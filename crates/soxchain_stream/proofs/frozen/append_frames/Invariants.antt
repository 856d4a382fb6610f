use Rattle.std.proofs.Common.{◌≡◌, ◌++◌, List, drop}
use Rattle.fx_chain_flow.specs.Frozen.{stored_all}
use Rattle.fx_frame_base.specs.Frame.{Samples}
use Rattle.soxchain_stream.specs.Appended.{AppendsFrames}
use Rattle.soxchain_stream.proofs.frozen.append_frames.Given as goal

abbrev pub invariant-frames : goal.invariant-frames
invariant-frames g l = (done : List Samples) × AppendsFrames l.initial.bytes.items l.bytes.items done
    × (done ++ stored_all g.S.Stage.acts (drop l.stage-index l.stages) ≡ stored_all g.S.Stage.acts l.stages)
