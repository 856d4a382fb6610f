use Rattle.std.proofs.Common.{◌∙◌, ap}
use Rattle.fx_plan.specs.Line.{texts}
use Rattle.fx_plan.specs.Plans.{plan_bytes}
use Rattle.soxchain.specs.MessageWriter.{WritesMessage}
use Rattle.soxchain.proofs.Concluding.{concluded, refused}
use Rattle.soxchain.proofs.Converting.{held-is}
use Rattle.soxchain.proofs.conversion.convert.Goals as goal

pub returns-in-Err : goal.returns-in-Err
returns-in-Err g c =
    let new = c.new-source.ensures in
    rw (c.none.ensures) (refused g.R.ByteIn.reads g.W.ByteOut.writes (texts c.args.words.now) (plan_bytes c.args.files.now) c.args.reader
    (WritesMessage g.M.ByteOut.writes c.args.messages.now c.prepare.new.messages)
    c.prepare.new.source c.args.output.now c.into_inner.result c.in-Err.status c.into_inner.ensures (rw (held-is c.new-source.result c.args.reader new.bytes new.reader new.short) at c.in-Err.ensures.refused))

pub returns : goal.returns
returns g c =
    let new = c.new-source.ensures in
    let delivered = c.in-Ok.ensures in
    let start = held-is c.new-source.result c.args.reader new.bytes new.reader new.short in
    concluded g.R.ByteIn.reads g.W.ByteOut.writes (texts c.args.words.now) (plan_bytes c.args.files.now) c.args.reader
    (WritesMessage g.M.ByteOut.writes c.args.messages.now c.finish-status.new.messages)
    c.prepare.new.source c.finish-status.new.source c.in-Ok.ready c.args.output.now c.finish-status.new.output c.into_inner-2.result c.finish-status.result.0 c.finish-status.result.1
    (record {
      line = delivered.line;
      head = rw start at delivered.prepared.head;
      no_faults = delivered.prepared.no_faults;
      planned = delivered.prepared.planned;
      chain = delivered.prepared.chain;
      unfailed = delivered.prepared.unfailed ∙ ap g.R.ByteIn.reads.failures new.reader;
    })
    (rw (delivered.silent) at c.finish-status.ensures) c.into_inner-2.ensures
