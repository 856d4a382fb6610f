use Rattle.std.proofs.Common.{◌≡◌, ◌+◌, ◌-◌, take, ap, ◌∙◌, arith, Some}
use Rattle.std.proofs.lemmas.Grind.{common_steps}
use Rattle.std.specs.Io.KnownBytes.{prepend_known}
use Rattle.fx_sound.proofs.Held.{take-moved, take-refilled, to_come-read}
use Rattle.fx_sound.proofs.source.Source.refill.Goals as goal

pub returns-clause-stays : goal.returns-clause-stays
returns-clause-stays g c = λ bytes known.
    let s = c.self.inside in
    let held : take (s.end - s.start) c.copy_within.new.self ≡ c.args.self.now.bytes =
    ap (take (s.end - s.start)) c.copy_within.ensures.after ∙ take-moved s.buffer s.start s.end (omega arith) (omega arith) ∙ ap (λ x. x.bytes) c.self.view_is in
    let size : s.end - s.start + c.in_ok-n.n - 0 ≡ s.end - s.start + c.in_ok-n.n = omega arith in
    let bound = c.in_ok-n.ensures.bound in
    let now : prepend_known c.args.self.now.bytes (g.R.ByteIn.reads.rest s.reader) ≡ Some bytes =
    ap (λ x. prepend_known c.args.self.now.bytes (g.R.ByteIn.reads.rest x.reader)) c.self.view_is ∙ known in
    rw (size, take-refilled c.copy_within.new.self c.read.new.buffer (s.end - s.start) (4096 - (s.end - s.start)) c.in_ok-n.n (omega arith) bound, held)
    (to_come-read c.args.self.now.bytes (take c.in_ok-n.n c.read.new.buffer) (g.R.ByteIn.reads.rest s.reader) (g.R.ByteIn.reads.rest c.read.new.self) bytes c.in_ok-n.ensures.bytes now)

pub invariant_of-self : goal.invariant_of-self
invariant_of-self g c = grind (arith, common_steps)

pub returns-in_err-n-clause-err : goal.returns-in_err-n-clause-err
returns-in_err-n-clause-err g c = grind (arith, common_steps)

pub returns-in_err-n-clause-delivered : goal.returns-in_err-n-clause-delivered
returns-in_err-n-clause-delivered g c = grind (arith, common_steps)

pub invariant_of-self-2 : goal.invariant_of-self-2
invariant_of-self-2 g c = grind (arith, common_steps)

pub returns-clause-grows : goal.returns-clause-grows
returns-clause-grows g c = grind (arith, common_steps)

pub returns-clause-end : goal.returns-clause-end
returns-clause-end g c = grind (arith, common_steps)

pub returns-clause-delivered : goal.returns-clause-delivered
returns-clause-delivered g c = grind (arith, common_steps)
