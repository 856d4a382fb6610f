use Rattle.std.proofs.Common.{[], refl, ap, ◌∙◌, take}
use Rattle.std.proofs.Math.Seq.{take-length}
use Rattle.soxchain.proofs.Converting.{held-is}
use Rattle.soxchain_plan.specs.Formats.{format_fault}
use Rattle.soxchain_plan.specs.Trailing.{announced_end}
use Rattle.soxchain_plan.proofs.Heading.{head-read, head-unread, held-front}
use Rattle.soxchain_plan.proofs.reading.head_from.Goals as goal

pub returns-in-Ok : goal.returns-in-Ok
returns-in-Ok g c =
    let reads = g.R.ByteIn.reads in
    let start = held-is c.new-source.result c.args.reader c.new-source.ensures.bytes c.new-source.ensures.reader c.new-source.ensures.short in
    let held = c.hold.new.self in
    let stays = rw start at c.in-Ok.ensures.stays in
    let whole = c.peek.ensures ∙ ap (λ n. take n held.bytes) c.held.ensures.count ∙ take-length held.bytes in
    let again = c.peek-in-Ok.ensures ∙ ap (λ n. take n held.bytes) c.held-in-Ok.ensures.count ∙ take-length held.bytes in
    let first = held-front reads c.args.reader held stays in
    let read = c.read_head-head.ensures in
    record { read = head-read reads c.args.expected c.args.reader held c.read_head-head.new.source c.read_head-head.result stays (rw start at c.hold.ensures.delivered) (rw start at c.in-Ok.ensures.failures) read.head read.fault read.read_failed read.failures; format = (held.bytes, first, c.format_fault-format.ensures ∙ ap format_fault whole); end = (held.bytes, first, c.announced_end-end.ensures ∙ ap announced_end again) }

pub returns : goal.returns
returns g c =
    let made = c.new-source.ensures in
    let unread = held-is c.new-source.result c.args.reader made.bytes made.reader made.short in
    record { read = head-unread g.R.ByteIn.reads c.args.expected c.args.reader c.hold.new.self (rw unread at c.hold.ensures.delivered) c.in-Err.ensures.short (rw unread at c.in-Err.ensures.failures); format = ([], λ bytes known. refl, refl); end = ([], λ bytes known. refl, refl) }
