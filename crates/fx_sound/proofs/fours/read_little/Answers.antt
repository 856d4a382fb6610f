use Rattle.std.proofs.Common.{pos, get_or}
use Rattle.fx_sound.proofs.Threes.{little-lanes, listed}
use Rattle.fx_sound.proofs.fours.read_little.Goals as goal

pub returns : goal.returns
returns c = rw (c.load_twelve.ensures, listed 0 12 c.args.bytes.now c.requires.bytes, listed (pos 0) 4 c.args.samples.now c.requires.samples) (little-lanes (λ i. get_or c.args.bytes.now i 0) (λ i. (c.type_inv.bytes i).fits))
