use Rattle.fx_tap_delays.proofs.EchosLaws.{places-late}
use Rattle.fx_tap_delays.proofs.echos.EchosStage.hold.Goals as goal

pub returns-clause-capacity : goal.returns-clause-capacity
returns-clause-capacity c = rw (← c.self.view_is) (places-late _ c.self.invariant.0)
