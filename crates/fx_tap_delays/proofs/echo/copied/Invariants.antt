use Rattle.std.proofs.Common.{◌≡◌, take}
use Rattle.fx_tap_delays.proofs.echo.copied.Given as goal

abbrev pub invariant-taps : goal.invariant-taps
invariant-taps l = l.copies.items ≡ take l.echo-index l.taps
