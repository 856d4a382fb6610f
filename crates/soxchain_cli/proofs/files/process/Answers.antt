use Rattle.std.proofs.Common.{sym}
use Rattle.soxchain_cli.specs.Working.{Unopened, Standard, Named}
use Rattle.soxchain_cli.proofs.files.process.Goals as goal

pub returns-in-Standard : goal.returns-in-Standard
returns-in-Standard g c = Standard c.input-reader.new.self c.input-reader.result (sym c.in-Standard.ensures) c.input-reader.ensures.input c.input-reader.ensures.fresh c.process_from.ensures

pub returns-in-Ok : goal.returns-in-Ok
returns-in-Ok g c = Named c.open.new.self c.in-Named.name.now c.in-Ok.file (sym c.in-Named.ensures) c.in-Ok.ensures.opened c.in-Ok.ensures.fresh c.process_from-in-Ok.ensures

pub returns-in-Err : goal.returns-in-Err
returns-in-Err g c = Unopened c.in-Named.name.now (sym c.in-Named.ensures) c.in-Err.ensures.refused c.cannot_open.ensures.status c.cannot_open.ensures.delivered
