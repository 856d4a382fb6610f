use Rattle.std.proofs.Common.{◌≡◌, ℕ, ◌+◌, ◌-◌, ◌≤◌, ◌||◌, nat_lt, false, true, List, [], length, take, ap, sym, subst, refl, ◌∙◌, arith, Option, Some}
use borrow.Rule.Slice.PartMut.{put_mid}
use Rattle.std.proofs.lemmas.Bool.Decides.{nat_tests}
use Rattle.std.proofs.lemmas.List.{append-nil, length-take-le}
use Rattle.std.proofs.lemmas.Grind.{common_steps}
use Rattle.std.specs.Io.KnownBytes.{prepend_known}
use Rattle.fx_frame_base.specs.Moments.{Moment}
use Rattle.fx_sound.proofs.Held.{take-moved, take-refilled, to_come-read}
use Rattle.fx_sound.proofs.source.Source.refill_beside.Goals as goal

pub returns-clause-stays : goal.returns-clause-stays
returns-clause-stays g c = λ bytes known.
    let s = c.self.inside in
    let held : take (s.end - s.start) c.copy_within.new.self ≡ c.args.self.now.bytes =
    ap (take (s.end - s.start)) c.copy_within.ensures.after ∙ take-moved s.buffer s.start s.end (omega arith) (omega arith) ∙ ap (λ x. x.bytes) c.self.view_is in
    let size : s.end - s.start + c.in_ok-n.n - 0 ≡ s.end - s.start + c.in_ok-n.n = omega arith in
    let bound = c.in_ok-n.ensures.bound in
    let now : prepend_known c.args.self.now.bytes (g.R.ReadBeside.reads.rest s.reader) ≡ Some bytes =
    ap (λ x. prepend_known c.args.self.now.bytes (g.R.ReadBeside.reads.rest x.reader)) c.self.view_is ∙ known in
    rw (size, take-refilled c.copy_within.new.self c.read_beside.new.buffer (s.end - s.start) (4096 - (s.end - s.start)) c.in_ok-n.n (omega arith) bound, held)
    (to_come-read c.args.self.now.bytes (take c.in_ok-n.n c.read_beside.new.buffer) (g.R.ReadBeside.reads.rest s.reader) (g.R.ReadBeside.reads.rest c.read_beside.new.self) bytes c.in_ok-n.ensures.bytes now)

pub invariant_of-self : goal.invariant_of-self
invariant_of-self g c = grind (arith, common_steps)

pub returns-in_err-n-clause-err : goal.returns-in_err-n-clause-err
returns-in_err-n-clause-err g c = grind (arith, common_steps)

pub returns-in_err-n-clause-delivered : goal.returns-in_err-n-clause-delivered
returns-in_err-n-clause-delivered g c = grind (arith, common_steps)

pub invariant_of-self-2 : goal.invariant_of-self-2
invariant_of-self-2 g c = grind (arith, common_steps)

pub returns-clause-grows : goal.returns-clause-grows
returns-clause-grows g c = grind (arith, common_steps)

pub returns-clause-end : goal.returns-clause-end
returns-clause-end g c = grind (arith, common_steps)

pub returns-clause-delivered : goal.returns-clause-delivered
returns-clause-delivered g c = grind (arith, common_steps)

-- fewer bytes than there was room for came where the buffer is not full then
not-full : (held n delivered free : ℕ) → held ≤ 4096 → delivered ≡ n → free ≡ 4096 - held → nat_lt (held + n) 4096 ≡ (false || nat_lt delivered free)
not-full held n delivered free h e f = grind (arith, nat_tests, e, f)

pub returns-in_err-n-clause-asked : goal.returns-in_err-n-clause-asked
returns-in_err-n-clause-asked g c =
    let s = c.self.inside in
    let taken : Option (List ℕ) = g.W.ByteOut.writes.taken c.args.writer.now in
    let m : Moment = record { free = length c.read_beside.new.buffer; delivered = []; failed = true; taken = taken } in
    let P : g.row.R.Denot → Type 0 = λ r. g.R.ReadBeside.asked r c.read_beside.new.self m in
    let same : take (s.end - s.start - 0) (put_mid (s.end - s.start) (4096 - (s.end - s.start)) c.copy_within.new.self c.read_beside.new.buffer) ≡ c.args.self.now.bytes = grind (arith, common_steps) in
    record {
      moment = m;
      read = subst P (ap (λ x. x.reader) c.self.view_is) c.in_err-n.ensures.asked;
      brought = same ∙ sym (append-nil c.args.self.now.bytes);
      short = refl;
      seen = refl;
    }

pub returns-clause-asked : goal.returns-clause-asked
returns-clause-asked g c =
    let s = c.self.inside in
    let taken : Option (List ℕ) = g.W.ByteOut.writes.taken c.args.writer.now in
    let m : Moment = record { free = length c.read_beside.new.buffer; delivered = take c.in_ok-n.n c.read_beside.new.buffer; failed = false; taken = taken } in
    let P : g.row.R.Denot → Type 0 = λ r. g.R.ReadBeside.asked r c.read_beside.new.self m in
    let held : take (s.end - s.start) c.copy_within.new.self ≡ c.args.self.now.bytes =
    ap (take (s.end - s.start)) c.copy_within.ensures.after ∙ take-moved s.buffer s.start s.end (omega arith) (omega arith) ∙ ap (λ x. x.bytes) c.self.view_is in
    let size : s.end - s.start + c.in_ok-n.n - 0 ≡ s.end - s.start + c.in_ok-n.n = omega arith in
    let bound = c.in_ok-n.ensures.bound in
    record {
      moment = m;
      read = subst P (ap (λ x. x.reader) c.self.view_is) c.in_ok-n.ensures.asked;
      brought = rw (size, take-refilled c.copy_within.new.self c.read_beside.new.buffer (s.end - s.start) (4096 - (s.end - s.start)) c.in_ok-n.n (omega arith) bound, held) refl;
      short = not-full (s.end - s.start) c.in_ok-n.n _ _ (omega arith) (length-take-le c.in_ok-n.n c.read_beside.new.buffer bound) (omega arith);
      seen = refl;
    }
