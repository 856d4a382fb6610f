use Rattle.std.proofs.Common.{◌<◌, arith}
use Rattle.soxchain.proofs.MessageWriterLemmas.{warning-counted}
use Rattle.soxchain.proofs.messages.tell_warning.Goals as goal

pub returns : goal.returns
returns g c =
    let some : 0 < c.args.count = omega arith in
    rw (warning-counted c.args.counted.now c.args.count some) (rw c.format.ensures.text at c.sentence.ensures)
