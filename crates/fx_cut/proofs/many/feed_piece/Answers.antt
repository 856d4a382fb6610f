use Rattle.std.proofs.Common.{rules, ◌*◌}
use Rattle.fx_cut.proofs.Pieces.{FedFront, bound-given, bound-taken, front-both, out-both, part, rest-below, rest-channels}
use Rattle.fx_cut.proofs.many.feed_piece.Given as given
use Rattle.fx_cut.proofs.many.feed_piece.Goals as goal
use Rattle.fx_cut.proofs.many.feed_piece.Goals.{After-pass_many-piece, After-feed_by_frames-rest}

-- a piece was passed
one : (g : given.Over) (c : After-pass_many-piece g) → FedFront g.S.Stage.acts c.args.stage.now c.pass_many-piece.new.self c.args.input.now c.args.output.now c.pass_many-piece.new.output c.pass_many-piece.result.taken c.pass_many-piece.result.given
one g c = let p = c.pass_many-piece.ensures in record { fed = p.fed; read = p.read; written = p.written; rest_unchanged = p.rest_unchanged; same = c.pass_many-piece.auto.output; free = p.free }

pub feed_by_frames-rest-requires : goal.feed_by_frames-rest-requires
feed_by_frames-rest-requires g c =
    let first = one g (goal.at.feed_by_frames-rest-requires g c).After-pass_many-piece in
    record { channels = rest-channels g.S.Stage.acts first c.in_channels-inputs.ensures c.out_channels-outputs.ensures c.requires.channels; below_limit = rest-below g.S.Stage.acts first c.in_channels-inputs.ensures c.out_channels-outputs.ensures c.requires.below_limit }

-- and the rest was passed
two : (g : given.Over) (c : After-feed_by_frames-rest g) → FedFront g.S.Stage.acts c.pass_many-piece.new.self c.feed_by_frames-rest.new.stage (part (c.pass_many-piece.result.taken * c.in_channels-inputs.result) c.args.input.now) (part (c.pass_many-piece.result.given * c.out_channels-outputs.result) c.pass_many-piece.new.output) c.feed_by_frames-rest.new.output c.feed_by_frames-rest.result.taken c.feed_by_frames-rest.result.given
two g c = let q = c.feed_by_frames-rest.ensures in record { fed = q.fed; read = q.read; written = q.written; rest_unchanged = q.rest_unchanged; same = c.feed_by_frames-rest.auto.output; free = q.free }

pub returns : goal.returns
returns g c =
    let first = one g (goal.at.returns g c).After-pass_many-piece in
    let second = two g (goal.at.returns g c).After-feed_by_frames-rest in
    let both = front-both g.S.Stage.acts first c.in_channels-inputs.ensures c.out_channels-outputs.ensures second in
    let out = out-both g.S.Stage.acts first c.in_channels-inputs.ensures c.out_channels-outputs.ensures second record { dry = c.feed_by_frames-rest.ensures.dry; used = c.feed_by_frames-rest.ensures.used } in
    record { fed = both.fed; read = both.read; written = both.written; rest_unchanged = both.rest_unchanged; dry = out.dry; used = out.used; free = both.free }

pub overflow_add-result : goal.overflow_add-result
overflow_add-result g c =
    search (rules, bound-taken g.S.Stage.acts (one g (goal.at.overflow_add-result g c).After-pass_many-piece) c.in_channels-inputs.ensures c.out_channels-outputs.ensures (two g (goal.at.overflow_add-result g c).After-feed_by_frames-rest) c.requires.channels.0)

pub overflow_add-result-2 : goal.overflow_add-result-2
overflow_add-result-2 g c =
    search (rules, bound-given g.S.Stage.acts (one g (goal.at.overflow_add-result-2 g c).After-pass_many-piece) c.in_channels-inputs.ensures c.out_channels-outputs.ensures (two g (goal.at.overflow_add-result-2 g c).After-feed_by_frames-rest) c.if-outputs-eq0.false)
