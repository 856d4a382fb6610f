use Rattle.std.proofs.Common.{rules, arith, ◌≡◌, ◌∷◌, length, ◌∙◌}
use Rattle.fx_frame_base.specs.Lists.{pieces}
use Rattle.fx_frame_base.specs.Stage.{kind}
use Rattle.fx_frame_base.proofs.Pieces.{length-pieces}
use Rattle.fx_frame_base.proofs.PipelineLaws.{each-fewer}
use Rattle.fx_frame_base.proofs.pipeline.+pass_in_place.Goals as goal

pub pass_in_place-requires : goal.pass_in_place-requires
pass_in_place-requires g t c κs within =
    let acts = g.S.Stage.acts in
    let all : c.args.stages.now ≡ c.in-Some.first.now ∷ c.in-Some.rest.now = search rules in
    let ready = rw all at c.requires.ready.3 in
    let keep = rw all at c.requires.keep in
    let one_to_one = rw all at c.requires.one_to_one in
    let ahead = rw all at c.requires.ahead in
    let came : length (pieces (kind acts c.in-Some.first.now).inputs c.args.count c.args.samples.now) ≡ c.args.count = length-pieces (kind acts c.in-Some.first.now).inputs c.args.count c.args.samples.now in
    let fewer = each-fewer acts g.met.S.Stage.rises _ _ _ _ c.requires.ready.0 c.requires.ready.1 c.pass_while.ensures.through (omega (arith, c.requires.some, came)) ready.4 (omega (arith, c.requires.ready.2, came)) in
    (omega (arith, c.in-Some.ensures.cases.1), (within.0, (within.1, (c.requires.frame, (c.requires.some, ((_, _, omega (arith, fewer, came), rw keep.0 at ready.6), (keep.1, (one_to_one.1, (ahead.1, c.pass_while.auto.samples ∙ c.requires.samples)))))))))
