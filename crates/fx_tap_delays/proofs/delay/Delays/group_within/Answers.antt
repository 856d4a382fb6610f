use Rattle.std.proofs.Common.{arith, length, sym}
use Rattle.fx_frame_base.specs.Lists.{pieces}
use Rattle.fx_tap_delays.proofs.Delaying.{even-clips}
use Rattle.fx_tap_delays.proofs.delay.Delays.group_within.Goals as goal

pub returns-then-exchange_evenly-clause-clips : goal.returns-then-exchange_evenly-clause-clips
returns-then-exchange_evenly-clause-clips g c = record { counted = sym (even-clips c.args.self.now c.args.line.now.items (pieces (length c.args.self.now) c.args.count c.args.samples.now)); bound = omega arith; small = omega arith }

pub returns-clause-clips : goal.returns-clause-clips
returns-clause-clips g c = record { counted = sym (even-clips c.args.self.now c.args.line.now.items (pieces (length c.args.self.now) c.args.count c.args.samples.now)); bound = omega arith; small = omega arith }
