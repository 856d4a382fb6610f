use Rattle.std.proofs.Common.{refl, arith, ap, length, ◌+◌, ◌-◌}
use Rattle.soxchain_xxh64.proofs.Updating.{IsHashOf_full, IsHashOf_short}
use Rattle.soxchain_xxh64.proofs.state.Xxh64.fill.Goals as goal
use borrow.Rule.Slice.PartMut.{put_mid}

pub returns-then-end-eq-STRIPE_SIZE-clause-hash : goal.returns-then-end-eq-STRIPE_SIZE-clause-hash
returns-then-end-eq-STRIPE_SIZE-clause-hash c = λ before held.
    let old = c.args.self.now in
    let start = c.pending_size-start.result in
    let size = start + length c.args.bytes.now - start in
    IsHashOf_full old _ before c.args.bytes.now (put_mid start size old.pending c.copy_from_slice.new.self) start size held (omega arith)
    c.pending_size-start.ensures (omega arith) (omega arith) (ap (put_mid start size old.pending) c.copy_from_slice.ensures.after)
    c.take_stripes-self.ensures refl refl

pub returns-else-end-eq-STRIPE_SIZE-clause-hash : goal.returns-else-end-eq-STRIPE_SIZE-clause-hash
returns-else-end-eq-STRIPE_SIZE-clause-hash c = λ before held.
    let old = c.args.self.now in
    let start = c.pending_size-start.result in
    let size = start + length c.args.bytes.now - start in
    IsHashOf_short old _ before c.args.bytes.now start size held (omega arith) c.pending_size-start.ensures (omega arith) refl
    (ap (put_mid start size old.pending) c.copy_from_slice.ensures.after) refl refl
