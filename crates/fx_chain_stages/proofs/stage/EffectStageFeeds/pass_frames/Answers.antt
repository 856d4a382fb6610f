use Rattle.std.proofs.Common.{arith}
use Rattle.std.proofs.lemmas.Grind.{common_steps}
use Rattle.fx_chain_stages.proofs.stage.EffectStageFeeds.pass_frames.Goals as goal

pub pass_frames-requires-clause-one_to_one : goal.pass_frames-requires-clause-one_to_one
pass_frames-requires-clause-one_to_one c = rw c.in-Trim.is at c.requires.one_to_one

pub pass_frames-requires-in-Pad-clause-one_to_one : goal.pass_frames-requires-in-Pad-clause-one_to_one
pass_frames-requires-in-Pad-clause-one_to_one c = rw c.in-Pad.is at c.requires.one_to_one

pub pass_frames-requires-in-Upsample-clause-one_to_one : goal.pass_frames-requires-in-Upsample-clause-one_to_one
pass_frames-requires-in-Upsample-clause-one_to_one c = rw c.in-Upsample.is at c.requires.one_to_one

pub pass_frames-requires-in-Downsample-clause-one_to_one : goal.pass_frames-requires-in-Downsample-clause-one_to_one
pass_frames-requires-in-Downsample-clause-one_to_one c = rw c.in-Downsample.is at c.requires.one_to_one

pub pass_frames-requires-in-Fade-clause-one_to_one : goal.pass_frames-requires-in-Fade-clause-one_to_one
pass_frames-requires-in-Fade-clause-one_to_one c = grind (arith, common_steps)

pub pass_frames-requires-in-Fir-clause-one_to_one : goal.pass_frames-requires-in-Fir-clause-one_to_one
pass_frames-requires-in-Fir-clause-one_to_one c = grind (arith, common_steps)
