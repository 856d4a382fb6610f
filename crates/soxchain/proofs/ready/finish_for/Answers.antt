use Rattle.std.proofs.Common.{refl, Ok, Err}
use Rattle.fx_chain_run.specs.Report.{cause_of}
use Rattle.soxchain.proofs.Converting.{HasCause-map, ReadFirst-new, SourceStands-run, wants-new}
use Rattle.soxchain.proofs.ready.finish_for.Goals as goal

pub returns-in-Ok : goal.returns-in-Ok
returns-in-Ok g c = record {
  outcome = Ok c.in-Ok.report;
  ran = c.in-Ok.ensures.ran c.requires;
  stands = rw (c.requires.plan) at c.in-Ok.ensures.stands;
  all_flushed = c.in-Ok.ensures.completed.flushed;
  due_flushed = tt;
  read_failed = tt;
  wants = wants-new _ _ c.requires _ c.in-Ok.ensures.counts.wants;
  work = rw (c.requires.plan) at c.in-Ok.ensures.counts.work;
  causes = c.in-Ok.ensures.causes;
  status_is = refl;
  report_is = refl;
  delivered_is = c.tell_warnings.ensures;
}

pub returns : goal.returns
returns g c =
    let caused = rw (c.requires.plan) at c.in-Err.ensures.causes in
    record {
      outcome = Err c.in-Err.fault;
      ran = c.in-Err.ensures.ran c.requires;
      stands = λ bytes known.
          SourceStands-run g.R.ByteIn.reads c.args.source.now c.run.new.source c.args.prepared.plan.head bytes _ _ (λ before. (before.0, ReadFirst-new g.R.ByteIn.reads.delivered _ _ c.requires _ _ _ _ _ before.1)) (Err c.in-Err.fault) (rw (c.requires.plan) at (c.in-Err.ensures.stands bytes known));
      all_flushed = tt;
      due_flushed = c.in-Err.ensures.stopped.due_flushed;
      read_failed = rw (c.requires.plan) at c.in-Err.ensures.stopped.read_failed;
      wants = wants-new _ _ c.requires _ c.in-Err.ensures.counts.wants;
      work = rw (c.requires.plan) at c.in-Err.ensures.counts.work;
      causes = HasCause-map _ _ (ReadFirst-new g.R.ByteIn.reads.delivered _ _ c.requires _ _ _ _ _) (cause_of c.in-Err.fault) _ _ _ _ caused;
      status_is = refl;
      report_is = c.report.ensures;
      delivered_is = c.tell_fault.ensures;
    }
