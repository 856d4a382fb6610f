use Rattle.std.proofs.Common.{refl, sym}
use Rattle.soxchain.proofs.Converting.{held-is}
use Rattle.soxchain_cli.specs.Working.{Refused, Unmade, Streamed, Filed}
use Rattle.soxchain_cli.proofs.files.process_from.Goals as goal

pub returns-in-Err : goal.returns-in-Err
returns-in-Err g c =
    let new = c.new-source.ensures in
    Refused c.prepare_for.new.source refl (rw (held-is c.new-source.result c.args.reader new.bytes new.reader new.short) at c.in-Err.ensures.refused)

pub returns-in-Standard : goal.returns-in-Standard
returns-in-Standard g c =
    let new = c.new-source.ensures in
    let start = held-is c.new-source.result c.args.reader new.bytes new.reader new.short in
    let delivered = c.in-Ok.ensures in
    let output = c.output-output.ensures in
    Streamed c.output-output.new.self c.prepare_for.new.source c.finish_for-status.new.source c.in-Ok.prepared c.output-output.result c.finish_for-status.new.output c.finish_for-status.result.1
    (rw start at delivered.prepared)
    (sym c.in-Standard.ensures) output.output output.fresh
    (rw (delivered.silent) at c.finish_for-status.ensures)
    c.leave.ensures

pub returns-in-Some : goal.returns-in-Some
returns-in-Some g c =
    let new = c.new-source.ensures in
    let start = held-is c.new-source.result c.args.reader new.bytes new.reader new.short in
    let delivered = c.in-Ok.ensures in
    let file = c.in-Some.ensures in
    Filed c.create_beside.new.host c.prepare_for.new.source c.process_to-status.new.source c.in-Ok.prepared c.in-Named.name.now c.in-Some.file c.process_to-status.new.file
    (rw start at delivered.prepared)
    (sym c.in-Named.ensures) (rw (c.input.ensures) at file.made) file.fresh (rw (delivered.silent) at c.process_to-status.ensures)
    c.close.ensures

pub returns : goal.returns
returns g c =
    let new = c.new-source.ensures in
    let start = held-is c.new-source.result c.args.reader new.bytes new.reader new.short in
    let delivered = c.in-Ok.ensures in
    Unmade c.prepare_for.new.source c.in-Ok.prepared c.in-Named.name.now
    (rw start at delivered.prepared)
    (sym c.in-Named.ensures) (rw (c.input.ensures) at c.in-None.ensures.unmade) c.cannot_open.ensures.status (rw (delivered.silent) at c.cannot_open.ensures.delivered)
