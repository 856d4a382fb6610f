use Rattle.std.proofs.Common.{refl, length, ◌≡◌, rules}
use Rattle.fx_sound.proofs.Threes.{listed}
use Rattle.fx_sound.proofs.fours.store_twelve.Goals as goal

pub returns : goal.returns
returns c = let long : length c.args.bytes ≡ 16 = search rules in rw (listed 0 12 c.args.out.now c.requires, listed 0 16 c.args.bytes long) refl
