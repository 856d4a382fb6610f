use Rattle.std.proofs.Common.{rules, ◌∙◌, arith}
use Rattle.std.proofs.lemmas.Grind.{common_steps}
use Rattle.fx_tap_delays.proofs.OneEcho.{group-clips, group-frames}
use Rattle.fx_tap_delays.proofs.echo.PreparedEcho.one_echo_within.Goals as goal

pub returns-then-exchange_frames : goal.returns-then-exchange_frames
returns-then-exchange_frames g c =
    let is = c.if-exchange_frames.true in
    let delivered = c.exchange_frames.ensures in
    let both = delivered.when.0 is in
    record {
      frames = group-frames c.args.self.now c.args.small.now c.args.line.now c.args.samples.now c.exchange_frames.new.frames c.args.count c.requires.sounds c.requires.one c.requires.line.capacity c.requires.line.channels both.0 both.1 (delivered.oldest is) (delivered.len ∙ c.requires.samples) c.one_echo_over.new.earlier (rw (delivered.came is) at c.one_echo_over.ensures.frame);
      clips = record {
        counted = group-clips c.args.self.now c.args.small.now c.args.line.now c.args.samples.now c.exchange_frames.new.frames c.args.count c.requires.sounds c.requires.one c.requires.line.capacity c.requires.line.channels both.0 both.1 (delivered.oldest is) (delivered.len ∙ c.requires.samples) c.one_echo_over.result (rw (delivered.came is) at c.one_echo_over.ensures.clips);
        bound = first_of (search rules, grind (arith, common_steps));
        small = first_of (search rules, grind (arith, common_steps));
      };
      line = first_of (search rules, grind (arith, common_steps));
    }
