use Rattle.std.proofs.Common.{length, ◌≡◌, ◌∙◌, refl, rules}
use Rattle.fx_sound.proofs.Threes.{listed}
use Rattle.fx_sound.proofs.fours.write_big.Goals as goal

pub returns : goal.returns
returns c = let long : length c.args.lanes ≡ 16 = search rules in c.store_twelve.ensures ∙ rw (listed 0 16 c.args.lanes long) refl
