use Rattle.std.proofs.Common.{◌∙◌, List, sym}
use Rattle.std.proofs.lemmas.List.{take-append-le}
use Rattle.fx_frame_base.specs.Frame.{Samples}
use Rattle.fx_frame_base.specs.Lists.{pieces}
use Rattle.fx_cut.proofs.lines.exchange_group.Goals as goal

pub returns-then-exchange_frames-clause-oldest : goal.returns-then-exchange_frames-clause-oldest
returns-then-exchange_frames-clause-oldest g c =
    let delivered = c.exchange_frames.ensures in
    let both = delivered.when.0 c.if-exchange_frames.true in
    let ys : List Samples = pieces c.args.line.now.channels c.args.count c.args.samples.now in
    delivered.oldest c.if-exchange_frames.true ∙ sym (take-append-le c.args.count c.args.line.now.items ys both.1)
