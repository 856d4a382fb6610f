-- The numbers that C gets for what a call returns (this project's profile; packaging/soxchain.h).
use Rattle.std.specs.Prelude.{ℤ, pos}
use Rattle.soxchain_c.specs.declared.status.Status.{Status}
use Rattle.soxchain_c.specs.declared.status.Status.TheVariants.{Fine, Refused, Failed, NoMemory, BadEnds, NoStream, BadRate, BadChannels, PartOfFrame, TooLong, NotWaiting, BadSnapshot}

abbrev pub code : Status → ℤ
code Fine = pos 0
code Refused = pos 1
code Failed = pos 2
code NoMemory = pos 3
code BadEnds = pos 4
code NoStream = pos 5
code BadRate = pos 6
code BadChannels = pos 7
code PartOfFrame = pos 8
code TooLong = pos 9
code NotWaiting = pos 10
code BadSnapshot = pos 11
