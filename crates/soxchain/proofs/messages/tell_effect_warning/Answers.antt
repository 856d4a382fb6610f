use Rattle.std.proofs.Common.{arith}
use Rattle.std.proofs.lemmas.Bool.Decides.{nat_tests}
use Rattle.soxchain.proofs.MessageWriterLemmas.{Says-then, effect_warning-counted}
use Rattle.soxchain.proofs.messages.tell_effect_warning.Goals as goal

pub returns : goal.returns
returns g c =
    let delivered = rw (c.format.ensures.text, c.format-2.ensures.text) at (Says-then g.M.ByteOut.writes _ _ _ _ _ c.sentence.ensures (Says-then g.M.ByteOut.writes _ _ _ _ _ c.text.ensures c.text-2.ensures)) in
    rw (effect_warning-counted c.args.number c.args.name.now c.args.count (grind (arith, nat_tests, c.if-count-eq0.false))) delivered
