use Rattle.std.proofs.Common.{rules, ◌*◌}
use Rattle.fx_cut.proofs.Pieces.{FedFront, bound-given, front-any, front-both, out-both, part, rest-below, rest-channels}
use Rattle.fx_cut.proofs.many.feed_by_pieces.Given as given
use Rattle.fx_cut.proofs.many.feed_by_pieces.Goals.{After-feed_by_frames-waiting, After-feed_piece-rest}
use Rattle.fx_cut.proofs.many.feed_by_pieces.Goals as goal

-- what was waiting was given
one : (g : given.Over) (c : After-feed_by_frames-waiting g) → FedFront g.S.Stage.acts c.args.stage.now c.feed_by_frames-waiting.new.stage c.args.input.now c.args.output.now c.feed_by_frames-waiting.new.output c.feed_by_frames-waiting.result.taken c.feed_by_frames-waiting.result.given
one g c =
    let p = c.feed_by_frames-waiting.ensures in
    front-any g.S.Stage.acts c.args.stage.now c.feed_by_frames-waiting.new.stage c.args.input.now c.args.output.now c.feed_by_frames-waiting.new.output c.feed_by_frames-waiting.result.taken c.feed_by_frames-waiting.result.given record { fed = p.fed; read = p.read; written = p.written; rest_unchanged = p.rest_unchanged; same = c.feed_by_frames-waiting.auto.output; free = p.free }

pub feed_piece-rest-requires : goal.feed_piece-rest-requires
feed_piece-rest-requires g c =
    let first = one g (goal.at.feed_piece-rest-requires g c).After-feed_by_frames-waiting in
    record { channels = rest-channels g.S.Stage.acts first c.in_channels-inputs.ensures c.out_channels-outputs.ensures c.requires.channels; below_limit = rest-below g.S.Stage.acts first c.in_channels-inputs.ensures c.out_channels-outputs.ensures c.requires.below_limit }

-- and the rest was passed
two : (g : given.Over) (c : After-feed_piece-rest g) → FedFront g.S.Stage.acts c.feed_by_frames-waiting.new.stage c.feed_piece-rest.new.stage (part (c.feed_by_frames-waiting.result.taken * c.in_channels-inputs.result) c.args.input.now) (part (c.feed_by_frames-waiting.result.given * c.out_channels-outputs.result) c.feed_by_frames-waiting.new.output) c.feed_piece-rest.new.output c.feed_piece-rest.result.taken c.feed_piece-rest.result.given
two g c = let q = c.feed_piece-rest.ensures in record { fed = q.fed; read = q.read; written = q.written; rest_unchanged = q.rest_unchanged; same = c.feed_piece-rest.auto.output; free = q.free }

pub returns : goal.returns
returns g c =
    let first = one g (goal.at.returns g c).After-feed_by_frames-waiting in
    let second = two g (goal.at.returns g c).After-feed_piece-rest in
    let both = front-both g.S.Stage.acts first c.in_channels-inputs.ensures c.out_channels-outputs.ensures second in
    let out = out-both g.S.Stage.acts first c.in_channels-inputs.ensures c.out_channels-outputs.ensures second record { dry = c.feed_piece-rest.ensures.dry; used = c.feed_piece-rest.ensures.used } in
    record { fed = both.fed; read = both.read; written = both.written; rest_unchanged = both.rest_unchanged; dry = out.dry; used = out.used; free = both.free }

pub overflow_add-result-2 : goal.overflow_add-result-2
overflow_add-result-2 g c =
    search (rules, bound-given g.S.Stage.acts (one g (goal.at.overflow_add-result-2 g c).After-feed_by_frames-waiting) c.in_channels-inputs.ensures c.out_channels-outputs.ensures (two g (goal.at.overflow_add-result-2 g c).After-feed_piece-rest) c.if-outputs-eq0.false)
