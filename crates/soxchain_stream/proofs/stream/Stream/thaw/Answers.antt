use Rattle.std.proofs.Common.{◌∙◌, sym}
use Rattle.fx_chain.specs.Snapshot.{IsSnapshotOf}
use Rattle.soxchain_stream.proofs.stream.Stream.thaw.Goals as goal

pub returns-in-Ok-None-clause-thawed : goal.returns-in-Ok-None-clause-thawed
returns-in-Ok-None-clause-thawed c = λ chain sound plan frozen.
    let found = c.in-Ok-None.ensures.back frozen.numbers frozen.frames frozen.stored (sym frozen.bytes_are) in
    absurd (rw c.in-Ok-None.field-0-is at found)

pub returns-in-Ok-thaw-clause-thawed : goal.returns-in-Ok-thaw-clause-thawed
returns-in-Ok-thaw-clause-thawed c = λ chain sound plan frozen.
    let found = c.in-Ok-Some.ensures.back frozen.numbers frozen.frames frozen.stored (sym frozen.bytes_are) in
    let is = rw c.in-Ok-Some.field-0-is at found in
    let planned = plan ∙ c.args.self.now.same in
    let frames : IsSnapshotOf chain (record { plan = c.in-Ok.plan; frames = c.in-Ok-Some.stored.frames; numbers = c.in-Ok-Some.stored.numbers }) =
    record { plan = c.in-Ok.ensures ∙ sym planned; flow = record { stored = is.1 ∙ frozen.freezes.stored; counted = is.0 ∙ frozen.freezes.counted } } in
    c.in-Ok-thaw.ensures.thawed chain sound planned frames

pub returns-clause-thawed : goal.returns-clause-thawed
returns-clause-thawed c = λ chain sound plan frozen.
    let found = c.in-Ok-Some.ensures.back frozen.numbers frozen.frames frozen.stored (sym frozen.bytes_are) in
    let is = rw c.in-Ok-Some.field-0-is at found in
    let planned = plan ∙ c.args.self.now.same in
    let frames : IsSnapshotOf chain (record { plan = c.in-Ok.plan; frames = c.in-Ok-Some.stored.frames; numbers = c.in-Ok-Some.stored.numbers }) =
    record { plan = c.in-Ok.ensures ∙ sym planned; flow = record { stored = is.1 ∙ frozen.freezes.stored; counted = is.0 ∙ frozen.freezes.counted } } in
    c.in-Err-thaw.ensures.thawed chain sound planned frames
