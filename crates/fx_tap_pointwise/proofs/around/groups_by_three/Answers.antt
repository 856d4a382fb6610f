use Rattle.std.proofs.Common.{◌≡◌, ◌+◌, ◌-◌, ◌*◌, ◌≤◌, ℕ, List, ◌++◌, length, take, drop, sym, ap, refl, ◌∙◌, arith, ℤ}
use Rattle.std.proofs.lemmas.List.{length-drop, length-take-le}
use Rattle.std.proofs.lemmas.List.Elements.{All-nil}
use Rattle.std.proofs.Math.Nat.{add-mul, mul-le-mul_right}
use Rattle.fx_frame_base.specs.Frame.{Samples}
use Rattle.fx_frame_base.specs.Stage.{Given}
use Rattle.fx_frame_base.proofs.Evenly.{put-between}
use Rattle.fx_frame_base.proofs.Puts.{drop-put}
use Rattle.fx_tap_pointwise.specs.Around.{IsMadeByThree}
use Rattle.fx_tap_pointwise.proofs.GroupLaws.{group-more}
use Rattle.fx_tap_pointwise.proofs.around.groups_by_three.Goals as goal

pub slice_bounds-frames-end : goal.slice_bounds-frames-end
slice_bounds-frames-end g c = omega (arith, mul-le-mul_right c.args.widths.inputs c.groups-test.true, add-mul c.groups.done 4 c.args.widths.inputs, c.requires.input)

pub slice_bounds-made-end : goal.slice_bounds-made-end
slice_bounds-made-end g c = omega (arith, mul-le-mul_right c.args.widths.outputs c.groups-test.true, add-mul c.groups.done 4 c.args.widths.outputs, c.requires.free, c.groups.auto.output)

pub groups-init : goal.groups-init
groups-init g c = record {
  within = omega arith;
  made = record {
    made = refl;
    first_counted = refl;
    middle_counted = refl;
    last_counted = refl;
    before_sides = All-nil (λ (s : Samples). length s ≡ c.args.widths.inputs);
    after_sides = All-nil (λ (s : Samples). length s ≡ c.args.widths.outputs);
    first_bound = omega arith;
    middle_bound = omega arith;
    last_bound = omega arith;
  };
  rest_unchanged = refl;
}

pub groups-preserved : goal.groups-preserved
groups-preserved g c =
    let a : Samples → Given = g.A.Mapping.mapped c.args.first.now in
    let b : Samples → Given = g.B.Mapping.mapped c.args.middle.now in
    let e : Samples → Given = g.C.Mapping.mapped c.args.last.now in
    let ins : ℕ = c.args.widths.inputs in
    let outs : ℕ = c.args.widths.outputs in
    let done : ℕ = c.groups.done in
    let from : ℕ = done * ins in
    let at : ℕ = done * outs in
    let input : List ℤ = c.args.input.now in
    let out : List ℤ = c.groups.output in
    let made : List ℤ = c.group_by_three-clips.new.output in
    let old = c.groups.invariant in
    let inside : (done + 4) * ins ≤ length input = omega (arith, mul-le-mul_right ins c.groups-test.true, c.requires.input) in
    let fits : at + 4 * outs ≤ length out = omega (arith, mul-le-mul_right outs c.groups-test.true, add-mul done 4 outs, c.requires.free, c.groups.auto.output) in
    let wide_in : from + 4 * ins - from ≡ 4 * ins = omega arith in
    let wide_out : at + 4 * outs - at ≡ 4 * outs = omega arith in
    let both_out : (done + 4) * outs ≡ at + 4 * outs = add-mul done 4 outs in
    let sides : length made ≡ 4 * outs = (rw wide_out at c.group_by_three-clips.auto.output) ∙ length-take-le (4 * outs) (drop at out) (omega (arith, fits, length-drop at out)) in
    let new : List ℤ = take at out ++ (made ++ drop (4 * outs) (drop at out)) in
    let put : new ≡ take at out ++ made ++ drop (at + length made) out = put-between at (4 * outs) out made new sides refl in
    let next : IsMadeByThree a b e ins outs 4 (take (4 * ins) (drop from input)) made c.group_by_three-clips.result.first c.group_by_three-clips.result.middle c.group_by_three-clips.result.last = rw wide_in at c.group_by_three-clips.ensures.made in
    rw wide_out
    record {
      within = c.groups-test.true;
      made = group-more a b e ins outs done 4 input out made new _ _ _ _ _ _ inside sides fits put old.made next;
      rest_unchanged = rw both_out (drop-put at (4 * outs) c.args.output.now out made new sides fits put old.rest_unchanged);
    }

pub returns : goal.returns
returns g c =
    let a : Samples → Given = g.A.Mapping.mapped c.args.first.now in
    let b : Samples → Given = g.B.Mapping.mapped c.args.middle.now in
    let e : Samples → Given = g.C.Mapping.mapped c.args.last.now in
    let ins : ℕ = c.args.widths.inputs in
    let outs : ℕ = c.args.widths.outputs in
    let done : ℕ = c.groups.done in
    let n : ℕ = c.args.count - done in
    let from : ℕ = done * ins in
    let at : ℕ = done * outs in
    let input : List ℤ = c.args.input.now in
    let out : List ℤ = c.groups.output in
    let made : List ℤ = c.group_by_three-clips-2.new.output in
    let old = c.groups.invariant in
    let all : done + n ≡ c.args.count = omega (arith, old.within) in
    let inside : (done + n) * ins ≤ length input = rw all c.requires.input in
    let both_out : (done + n) * outs ≡ at + n * outs = add-mul done n outs in
    let long : (done + n) * outs ≤ length c.args.output.now = rw all c.requires.free in
    let fits : at + n * outs ≤ length out = omega (arith, both_out, long, c.groups.auto.output) in
    let wide_in : from + n * ins - from ≡ n * ins = omega arith in
    let wide_out : at + n * outs - at ≡ n * outs = omega arith in
    let sides : length made ≡ n * outs = (rw wide_out at c.group_by_three-clips-2.auto.output) ∙ length-take-le (n * outs) (drop at out) (omega (arith, fits, length-drop at out)) in
    let new : List ℤ = take at out ++ (made ++ drop (n * outs) (drop at out)) in
    let put : new ≡ take at out ++ made ++ drop (at + length made) out = put-between at (n * outs) out made new sides refl in
    let next : IsMadeByThree a b e ins outs n (take (n * ins) (drop from input)) made c.group_by_three-clips-2.result.first c.group_by_three-clips-2.result.middle c.group_by_three-clips-2.result.last = rw wide_in at c.group_by_three-clips-2.ensures.made in
    let whole = rw all at (group-more a b e ins outs done n input out made new _ _ _ _ _ _ inside sides fits put old.made next) in
    let end : c.args.count * outs ≡ at + n * outs = sym (ap (λ m. m * outs) all) ∙ both_out in
    rw wide_out
    record {
      made = whole;
      rest_unchanged = rw end (drop-put at (n * outs) c.args.output.now out made new sides fits put old.rest_unchanged);
    }
