use Rattle.std.proofs.Common.{refl}
use Rattle.fx_sound.proofs.Threes.{listed}
use Rattle.fx_sound.proofs.fours.load_twelve.Goals as goal

pub returns : goal.returns
returns c = rw (listed 0 12 c.args.bytes.now c.requires) refl
