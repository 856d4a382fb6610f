use Rattle.std.proofs.Common.{rules, ◌≡◌, ◌<◌, length, drop, get_or, ap, ◌∙◌, sym, arith, pos, w32, to_z, of_z}
use Rattle.std.proofs.lemmas.List.{length-append, length-drop}
use Rattle.fx_frame_base.specs.Coding.{clips_written}
use Rattle.fx_frame_base.specs.Frame.{Samples}
use Rattle.fx_sound.proofs.FrameBytes.{length-written, clips_of-yes, clips_of-no}
use Rattle.fx_sound.proofs.bulk.count_clips.Goals as goal
use Rattle.fx_sound.proofs.bulk.count_clips.Goals.{then-write, else-write}

pub samples-preserved : goal.samples-preserved
samples-preserved c =
    let xs : Samples = c.args.samples.now in
    let here : c.samples.place < length xs = omega arith in
    let store : to_z w32 (of_z w32 (get_or xs c.samples.place (pos 0))) ≡ get_or xs c.samples.place (pos 0) = search rules in
    let size : length c.write.new.bytes ≡ c.width-width.result = ap length c.write.ensures.bytes ∙ length-written c.args.coding _ ∙ sym c.width-width.ensures.value in
    let clips = c.write.ensures.clips ∙ ap (clips_written c.args.coding) store in
    record {
      four = omega (arith, length-append c.write.new.bytes (drop c.width-width.result c.samples.bytes), length-drop c.width-width.result c.samples.bytes, size, c.width-width.ensures.range, c.samples.invariant.four);
      counted = elim c.if-write.branch [
        | then-write w ↦ (w.clips-is ∙ clips_of-yes c.args.coding xs c.samples.place c.samples.clips here c.samples.invariant.counted (sym clips ∙ w.if-write.true))
        | else-write w ↦ (w.clips-is ∙ clips_of-no c.args.coding xs c.samples.place c.samples.clips here c.samples.invariant.counted (sym clips ∙ w.if-write.false))
      ];
      bound = elim c.if-write.branch [ then-write w ↦ omega (arith, w.clips-is, c.samples.invariant.bound) | else-write w ↦ omega (arith, w.clips-is, c.samples.invariant.bound) ];
    }
