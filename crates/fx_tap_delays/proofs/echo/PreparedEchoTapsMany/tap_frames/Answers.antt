use Rattle.std.proofs.Common.{arith}
use Rattle.std.proofs.lemmas.Grind.{common_steps}
use Rattle.fx_tap_delays.proofs.echo.PreparedEchoTapsMany.tap_frames.Goals as goal

pub taps_within-requires-clause-late : goal.taps_within-requires-clause-late
taps_within-requires-clause-late c = grind (arith, common_steps)

pub taps_within-requires-else-is_short-2-clause-late : goal.taps_within-requires-else-is_short-2-clause-late
taps_within-requires-else-is_short-2-clause-late c = grind (arith, common_steps)
