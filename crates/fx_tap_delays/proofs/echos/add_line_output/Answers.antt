use Rattle.fx_frame_base.proofs.ListPlaces.{zeros-rest}
use Rattle.fx_tap_delays.proofs.echos.add_line_output.Goals as goal

pub add_places-requires-clause-small : goal.add_places-requires-clause-small
add_places-requires-clause-small c k = rw (c.places.ensures.places, zeros-rest c.args.line_output _ k) (c.requires.small k)

pub returns-clause-added : goal.returns-clause-added
returns-clause-added c k l = rw (c.places.ensures.places, zeros-rest c.args.line_output _ k) at (c.add_places.ensures.added k l)
