use Rattle.std.proofs.Common.{◌∙◌, arith, sym}
use Rattle.fx_fixed.proofs.terms.read_later.Goals as goal
use Rattle.fx_fixed.specs.Later.{frames_in}
use Rattle.fx_fixed.proofs.Splitting.{added_next, fault_next, form_bad, form_next, frames_bound, moved_bound, taken_next}

pub returns-in_err-later : goal.returns-in_err-later
returns-in_err-later c =
    let bad = sym c.term_frames.ensures.value ∙ c.in_err-later.ensures in
    let form = sym c.loop-is_taken.invariant.form ∙ form_bad c.args.rate c.loop-is_taken.rest.now c.in-Some.after.now c.in-Some.term.now c.in-Some.is_taken c.in-Some.ensures bad in
    rw c.from_residual.ensures form

pub loop-is_taken-preserved : goal.loop-is_taken-preserved
loop-is_taken-preserved c =
    let rate = c.args.rate in
    let rest = c.loop-is_taken.rest.now in
    let after = c.in-Some.after.now in
    let term = c.in-Some.term.now in
    let is_taken = c.in-Some.is_taken in
    let before = c.loop-is_taken.later in
    let next = c.in-Some.ensures in
    let shorter = next.shorter in
    let kept = c.loop-is_taken.invariant in
    let read = rw c.term_frames.ensures.value at c.in_ok-later.ensures in
    let bound = moved_bound is_taken (frames_in c.term_frames.result) (frames_bound c.term_frames.result c.term_frames.ensures.bound) in
    let added = c.in_ok-later.ensures.added in
    let taken = c.in_ok-later.ensures.taken in
    record {
      begins = next.begins;
      size = omega (arith, shorter, kept.size);
      form = form_next rate rest after term is_taken next read.form ∙ kept.form;
      fault = rw read.fault (fault_next rate rest after term is_taken before.fault next ∙ kept.fault);
      added = rw read.added (added_next rate rest after term is_taken before.added next ∙ kept.added);
      taken = rw read.taken (taken_next rate rest after term is_taken before.taken next ∙ kept.taken);
      added_bound = omega (arith, added, bound.0, shorter, kept.added_bound);
      taken_bound = omega (arith, taken, bound.1, shorter, kept.taken_bound);
    }
