use Rattle.soxchain_job_file.proofs.Splitting.{stamp_lacks_nanoseconds, stamp_lacks_range}
use Rattle.soxchain_job_file.proofs.split.split_stamp.Goals as goal

pub returns-in_err-nanoseconds : goal.returns-in_err-nanoseconds
returns-in_err-nanoseconds c = rw c.from_residual-in_err-nanoseconds.ensures
    (stamp_lacks_nanoseconds c.args.bytes.now c.in_ok-seconds.rest.now c.in_ok-seconds.seconds c.in_ok-seconds.ensures c.in_err-nanoseconds.ensures)

pub returns-then-nanoseconds-ge-NANOSECONDS : goal.returns-then-nanoseconds-ge-NANOSECONDS
returns-then-nanoseconds-ge-NANOSECONDS c =
    stamp_lacks_range c.args.bytes.now c.in_ok-seconds.rest.now c.in_ok-seconds.seconds c.in_ok-seconds.ensures
    c.in_ok-nanoseconds.rest.now c.in_ok-nanoseconds.nanoseconds c.in_ok-nanoseconds.ensures c.if-nanoseconds-ge-NANOSECONDS.true
