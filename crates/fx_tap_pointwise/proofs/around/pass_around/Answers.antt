use Rattle.std.proofs.Common.{arith, ◌≡◌, ◌*◌, ◌≤◌, ◌∙◌, ℕ, List, length, ap, refl, ℤ}
use Rattle.std.specs.List.{All}
use Rattle.std.proofs.lemmas.List.{length-map}
use Rattle.fx_frame_base.specs.Frame.{Samples}
use Rattle.fx_frame_base.specs.Lists.{pieces}
use Rattle.fx_frame_base.specs.Stage.{Given}
use Rattle.fx_frame_base.proofs.Pieces.{length-pieces}
use Rattle.fx_frame.specs.Made.{made_of}
use Rattle.fx_tap_pointwise.specs.Around.{IsMadeByThree}
use Rattle.fx_tap_pointwise.proofs.Blocks.{dry-through}
use Rattle.fx_frame.proofs.SamplePieces.{pieces-sides}
use Rattle.fx_tap_pointwise.proofs.around.pass_around.Goals as goal

pub returns-clause-through : goal.returns-clause-through
returns-clause-through g c =
    let A = g.A.Mapping in
    let B = g.B.Mapping in
    let C = g.C.Mapping in
    let s = c.args.first.now in
    let t = c.args.middle.now in
    let u = c.args.last.now in
    let a : Samples → Given = A.mapped s.mapping in
    let b : Samples → Given = B.mapped t.mapping in
    let e : Samples → Given = C.mapped u.mapping in
    let ins : ℕ = A.inputs s.mapping in
    let outs : ℕ = B.outputs t.mapping in
    let n : ℕ = c.args.count in
    let input : List ℤ = c.args.input.now in
    let output : List ℤ = c.mapped_by_three-clips.new.output in
    let one-is = c.mapping-3.ensures.value in
    let two-is = c.mapping-4.ensures.value in
    let three-is = c.mapping-5.ensures.value in
    let ins-is : c.out_channels.result ≡ ins = c.out_channels.ensures.value ∙ ap A.outputs c.mapping.ensures.value ∙ c.requires.keep.0 in
    let outs-is : c.out_channels-2.result ≡ outs = c.out_channels-2.ensures.value ∙ ap B.outputs c.mapping-2.ensures.value in
    let xs : List Samples = pieces ins n input in
    let ys : List Samples = made_of a xs in
    let zs : List Samples = made_of b ys in
    let made : IsMadeByThree a b e ins outs n input output c.mapped_by_three-clips.result.first c.mapped_by_three-clips.result.middle c.mapped_by_three-clips.result.last =
    rw (one-is, two-is, three-is, ins-is, outs-is) at c.mapped_by_three-clips.ensures.made in
    let many : length xs ≡ n = length-pieces ins n input in
    let many-ys : length ys ≡ n = length-map xs (λ x. (a x).samples) ∙ many in
    let many-zs : length zs ≡ n = length-map ys (λ y. (b y).samples) ∙ many-ys in
    let long : n * outs ≤ length output = omega (arith, c.requires.free, c.mapped_by_three-clips.auto.output) in
    let sides : All (λ (y : Samples). length y ≡ C.outputs u.mapping) (pieces outs n output) = rw (c.requires.keep.1, c.requires.last.channels) (pieces-sides outs n output long) in
    rw (c.count_passed.ensures, c.count_passed-2.ensures, c.count_passed-3.ensures) (
      ys,
      zs,
      dry-through A.inputs A.outputs A.mapped s n c.mapped_by_three-clips.result.first xs ys c.mapping-3.ensures.sound c.requires.first.dry c.requires.first.not_ended many (rw c.requires.keep.0 made.before_sides) refl made.first_counted,
      dry-through B.inputs B.outputs B.mapped t n c.mapped_by_three-clips.result.middle ys zs c.mapping-4.ensures.sound c.requires.middle.dry c.requires.middle.not_ended many-ys made.after_sides refl made.middle_counted,
      dry-through C.inputs C.outputs C.mapped u n c.mapped_by_three-clips.result.last zs (pieces outs n output) c.mapping-5.ensures.sound c.requires.last.dry c.requires.last.not_ended many-zs sides made.made made.last_counted,
    )
