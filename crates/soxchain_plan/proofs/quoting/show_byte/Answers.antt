use Rattle.std.proofs.Common.{◌<◌, arith, false}
use Rattle.std.proofs.lemmas.Fmt.{hex_byte}
use Rattle.soxchain_plan.proofs.ShownLemmas.{json_byte-control}
use Rattle.soxchain_plan.proofs.quoting.show_byte.Goals as goal

pub returns-in-0-to-31 : goal.returns-in-0-to-31
returns-in-0-to-31 g c =
    let small : c.args.byte < 32 = omega arith in
    rw (json_byte-control c.args.byte small) (rw (c.laid_out.ensures, c.in_radix.ensures, hex_byte false c.args.byte (omega arith)) at c.write.ensures.bytes)
