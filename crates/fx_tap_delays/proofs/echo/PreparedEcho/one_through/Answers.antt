use Rattle.std.proofs.Common.{◌∙◌, ap}
use Rattle.fx_frame_base.specs.Rounded.{clips_rounded, samples_of}
use Rattle.fx_tap_delays.proofs.OneEcho.{one-echo}
use Rattle.fx_tap_delays.proofs.echo.PreparedEcho.one_through.Goals as goal

pub returns-clause-frame : goal.returns-clause-frame
returns-clause-frame c =
    let rounded = rw c.copy_samples.ensures at c.one_echo_over.ensures.frame in
    rounded ∙ ap samples_of (one-echo c.args.self.now c.args.small.now c.args.line.now c.args.samples.now c.delay_over.new.samples _ c.requires.sounds c.requires.one c.len-held.ensures.line c.requires.line.capacity (c.delay_over.auto.samples ∙ c.requires.frame) c.delay_over.ensures.frame)

pub returns-clause-clips : goal.returns-clause-clips
returns-clause-clips c =
    let rounded = rw c.copy_samples.ensures at c.one_echo_over.ensures.clips in
    rounded ∙ ap clips_rounded (one-echo c.args.self.now c.args.small.now c.args.line.now c.args.samples.now c.delay_over.new.samples _ c.requires.sounds c.requires.one c.len-held.ensures.line c.requires.line.capacity (c.delay_over.auto.samples ∙ c.requires.frame) c.delay_over.ensures.frame)
