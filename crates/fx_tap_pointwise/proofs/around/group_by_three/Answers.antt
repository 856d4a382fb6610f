use Rattle.std.proofs.Common.{rules, ◌*◌, ◌≤◌, ℕ, length, ap, ◌∙◌, arith}
use Rattle.std.proofs.lemmas.Nat.{mul-le}
use Rattle.fx_frame_base.specs.Frame.{Samples}
use Rattle.fx_frame_base.specs.Stage.{Given}
use Rattle.fx_frame.specs.Made.{clips_in, made_of}
use Rattle.fx_frame.proofs.SamplePieces.{pieces-sides}
use Rattle.fx_tap_pointwise.proofs.around.group_by_three.Goals as goal

pub slice_bounds-before-end : goal.slice_bounds-before-end
slice_bounds-before-end g c = search (rules, mul-le c.args.count c.args.widths.inputs 4 16 c.requires.bound c.requires.frames.0.1)

pub slice_bounds-after-end : goal.slice_bounds-after-end
slice_bounds-after-end g c = search (rules, mul-le c.args.count c.args.widths.outputs 4 16 c.requires.bound c.requires.frames.1.1)

pub returns : goal.returns
returns g c =
    let ins : ℕ = c.args.widths.inputs in
    let outs : ℕ = c.args.widths.outputs in
    let n : ℕ = c.args.count in
    let b : Samples → Given = g.B.Mapping.mapped c.args.middle.now in
    let e : Samples → Given = g.C.Mapping.mapped c.args.last.now in
    let before = c.map_group-first_clips.ensures.frames in
    let after = c.map_group-middle_clips.ensures.frames ∙ ap (made_of b) before in
    let long_before : n * ins ≤ length c.map_group-first_clips.new.output = omega (arith, c.map_group-first_clips.auto.output) in
    let long_after : n * outs ≤ length c.map_group-middle_clips.new.output = omega (arith, c.map_group-middle_clips.auto.output) in
    record {
      made = record {
        made = c.map_group-last_clips.ensures.frames ∙ ap (made_of e) after;
        first_counted = c.map_group-first_clips.ensures.clips;
        middle_counted = c.map_group-middle_clips.ensures.clips ∙ ap (clips_in b) before;
        last_counted = c.map_group-last_clips.ensures.clips ∙ ap (clips_in e) after;
        before_sides = rw before at (pieces-sides ins n c.map_group-first_clips.new.output long_before);
        after_sides = rw after at (pieces-sides outs n c.map_group-middle_clips.new.output long_after);
        first_bound = c.map_group-first_clips.ensures.bound;
        middle_bound = c.map_group-middle_clips.ensures.bound;
        last_bound = c.map_group-last_clips.ensures.bound;
      };
    }
