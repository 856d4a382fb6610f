use Rattle.std.proofs.Common.{◌∙◌, arith}
use Rattle.fx_frame_base.proofs.TakenMany.{FedNoneDue-all}
use Rattle.fx_frame_base.proofs.feed.take_many.Goals as goal

pub returns-clause-took : goal.returns-clause-took
returns-clause-took g c =
    let acts = g.S.Stage.acts in
    let determined = c.is_dry-determined.ensures.dry (c.is_dry-determined.ensures.value ∙ c.requires.dry) in
    let fed = c.feed-passed.ensures in
    let all = FedNoneDue-all acts c.args.stage.now c.feed-passed.new.self c.args.count c.feed-passed.result.taken c.feed-passed.result.given c.args.input.now c.feed-passed.new.output
    (record { fed = fed.fed; open_ = c.requires.not_ended; due = determined.due c.requires.not_ended; none = c.requires.none_due; ahead = c.requires.ahead; some = c.requires.channels.0; came = c.requires.input; read = fed.read; used = λ empty. fed.used (rw empty (omega (arith, c.requires.channels.2, c.feed-passed.auto.output))) }) in
    all.2

pub returns-clause-dry : goal.returns-clause-dry
returns-clause-dry g c =
    let acts = g.S.Stage.acts in
    let determined = c.is_dry-determined.ensures.dry (c.is_dry-determined.ensures.value ∙ c.requires.dry) in
    let fed = c.feed-passed.ensures in
    let all = FedNoneDue-all acts c.args.stage.now c.feed-passed.new.self c.args.count c.feed-passed.result.taken c.feed-passed.result.given c.args.input.now c.feed-passed.new.output
    (record { fed = fed.fed; open_ = c.requires.not_ended; due = determined.due c.requires.not_ended; none = c.requires.none_due; ahead = c.requires.ahead; some = c.requires.channels.0; came = c.requires.input; read = fed.read; used = λ empty. fed.used (rw empty (omega (arith, c.requires.channels.2, c.feed-passed.auto.output))) }) in
    fed.dry (rw all.0 (omega (arith, c.requires.channels.2, c.feed-passed.auto.output)))

pub returns-clause-determined : goal.returns-clause-determined
returns-clause-determined g c = c.is_dry-dry.ensures.dry (c.is_dry-dry.ensures.value ∙ returns-clause-dry g c)
