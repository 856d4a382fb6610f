use Rattle.std.proofs.Common.{◌*◌, ◌≡◌, arith, FitsSigned}
use Rattle.std.specs.Int.{w32}
use Rattle.std.proofs.lemmas.List.Elements.{All-nil}
use Rattle.fx_frame_base.proofs.PipelineLaws.{PipelineThrough-none}
use Rattle.fx_frame_base.proofs.pipeline.PassesPipeline.pass_pipeline.Goals as goal

pub returns-clause-samples : goal.returns-clause-samples
returns-clause-samples g c = let none : 0 * c.args.channels ≡ 0 = omega arith in rw none (All-nil (FitsSigned w32))

pub returns-clause-through : goal.returns-clause-through
returns-clause-through g c = PipelineThrough-none g.Self.Stage.acts c.args.stages.now
