use Rattle.std.proofs.Common.{◌≡◌, take}
use Rattle.fx_sound.specs.FrameCoding.{coded_samples}
use Rattle.fx_sound.proofs.bulk.decode_as.Given as goal

abbrev pub invariant-samples : goal.invariant-samples
invariant-samples l = record { front : take l.k l.samples ≡ coded_samples l.coding l.k l.bytes }
