use Rattle.fx_tap_delays.proofs.echo.Tapped+PreparedEcho.new.Goals as goal

pub returns : goal.returns
returns c = rw (c.of-arguments.ensures, c.in_ok-taps.ensures) at c.of.ensures
