-- Up to the next position all frames lie after the positions that were passed.
use Rattle.std.proofs.Common.{◌≡◌, ◌<◌, ◌≤◌, ◌+◌, max, arith}
use Rattle.fx_cut.proofs.TrimFrameRun.{alike, before-next, rest_unchanged-next, no-start, no-more}
use Rattle.fx_cut.proofs.trim.frame_run_from.Goals as goal

pub returns-in_default-clause-alike : goal.returns-in_default-clause-alike
returns-in_default-clause-alike c = λ n h.
    let ps = c.args.positions.now in
    let i = c.positions.invariant in
    let at = c.args.place + n in
    alike ps at c.positions.crossed _ (no-start ps c.positions.at-index c.positions.last at c.in_default.field-0 c.positions-test.true c.in_default.is) (i.counted at (omega arith))

pub returns-then-place-next-clause-alike : goal.returns-then-place-next-clause-alike
returns-then-place-next-clause-alike c = λ n h.
    let ps = c.args.positions.now in
    let i = c.positions.invariant in
    let at = c.args.place + n in
    let next : c.max-next.result ≡ max c.positions.last c.in-Start.start = c.max-next.ensures in
    let early : at < max c.positions.last c.in-Start.start = omega (arith, next, h) in
    alike ps at c.positions.crossed _ (before-next ps c.positions.at-index c.positions.last c.in-Start.start at c.positions-test.true c.in-Start.is early) (i.counted at (omega arith))

pub positions-preserved : goal.positions-preserved
positions-preserved c =
    let ps = c.args.positions.now in
    let i = c.positions.invariant in
    let bound = i.bound in
    let next : c.max-next.result ≡ max c.positions.last c.in-Start.start = c.max-next.ensures in
    record {
      counted = λ n h.
          let late : max c.positions.last c.in-Start.start ≤ n = omega (arith, next, c.if-place-next.false, h) in
          let one = rest_unchanged-next ps c.positions.at-index c.positions.last c.in-Start.start n c.positions-test.true c.in-Start.is late in
          let all = i.counted n h in
          rw next (omega (arith, one, all));
      early = c.if-place-next.false;
      bound = omega arith;
    }

pub returns-clause-alike : goal.returns-clause-alike
returns-clause-alike c = λ n h.
    let ps = c.args.positions.now in
    let i = c.positions.invariant in
    let at = c.args.place + n in
    alike ps at c.positions.crossed _ (no-more ps c.positions.at-index c.positions.last at c.positions-test.false) (i.counted at (omega arith))
