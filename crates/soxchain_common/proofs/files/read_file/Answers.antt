use Rattle.soxchain_common.proofs.Fronts.{failed-closed, memory_refused-closed, front-closed}
use Rattle.soxchain_common.proofs.files.read_file.Goals as goal

pub returns-clause-read : goal.returns-clause-read
returns-clause-read g c =
    let delivered = c.read_front-bytes.ensures in
    front-closed (record { opened = g.H.Openings.opened; unopened = g.H.Openings.unopened; closed = g.H.Openings.closed }) g.H.Reader.ByteIn.reads c.args.host.now c.open.new.self c.close_reader.new.self c.args.name.now
    c.in-Ok.reader c.read_front-bytes.new.reader c.in-Ok.ensures.opened c.in-Ok.ensures.fresh c.close_reader.ensures
    c.read_front-bytes.result (λ bytes. bytes.items) delivered.front delivered.bound delivered.delivered delivered.unfailed

pub returns-clause-failed : goal.returns-clause-failed
returns-clause-failed g c =
    failed-closed (record { opened = g.H.Openings.opened; unopened = g.H.Openings.unopened; closed = g.H.Openings.closed }) g.H.Reader.ByteIn.reads c.args.host.now c.open.new.self c.close_reader.new.self c.args.name.now
    c.in-Ok.reader c.read_front-bytes.new.reader c.in-Ok.ensures.opened c.in-Ok.ensures.fresh c.close_reader.ensures
    c.read_front-bytes.result c.read_front-bytes.ensures.failed

pub returns-clause-memory_refused : goal.returns-clause-memory_refused
returns-clause-memory_refused g c =
    memory_refused-closed (record { opened = g.H.Openings.opened; unopened = g.H.Openings.unopened; closed = g.H.Openings.closed }) g.H.Reader.ByteIn.reads c.args.host.now c.open.new.self c.close_reader.new.self c.args.name.now
    c.in-Ok.reader c.read_front-bytes.new.reader c.in-Ok.ensures.opened c.in-Ok.ensures.fresh c.close_reader.ensures
    c.read_front-bytes.result c.read_front-bytes.ensures.memory_refused
