use Rattle.std.proofs.Common.{◌≡◌, ◌*◌, take}
use Rattle.fx_sound.specs.FrameCoding.{coded_samples}
use Rattle.fx_sound.proofs.bulk.decode_by_fours.Given as goal

abbrev pub invariant-fours : goal.invariant-fours
invariant-fours l = record { front : take (4 * l.k) l.samples ≡ coded_samples l.coding (4 * l.k) l.bytes }
