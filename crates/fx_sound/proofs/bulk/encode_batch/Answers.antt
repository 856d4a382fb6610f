use Rattle.std.proofs.Common.{rules, ◌≡◌, ◌<◌, ◌≤ℤ◌, length, get_or, ap, ◌∙◌, sym, arith, pos, w32, to_z, of_z}
use Rattle.std.proofs.lemmas.Int.{ints}
use Rattle.fx_frame_base.specs.Coding.{written_sample}
use Rattle.fx_frame_base.specs.Frame.{Samples}
use Rattle.fx_sound.specs.FrameCoding.{largest_unclipped}
use Rattle.fx_sound.proofs.FrameBytes.{bytes_of-turn, clips_of-no}
use Rattle.fx_sound.proofs.Unclipped.{unclipped}
use Rattle.fx_sound.proofs.bulk.encode_batch.Goals as goal

pub samples-preserved : goal.samples-preserved
samples-preserved c =
    let xs : Samples = c.args.samples.now in
    let here : c.samples.k < length xs = omega arith in
    let store : to_z w32 (of_z w32 (get_or xs c.samples.k (pos 0))) ≡ get_or xs c.samples.k (pos 0) = search rules in
    let result : to_z w32 (of_z w32 c.max-largest.result) ≡ c.max-largest.result = search rules in
    let held : to_z w32 (of_z w32 c.samples.largest) ≡ c.samples.largest = search rules in
    let before : to_z w32 (of_z w32 c.max-largest.result) ≤ℤ largest_unclipped c.args.coding → to_z w32 c.samples.largest-bits ≤ℤ largest_unclipped c.args.coding =
    λ small. omega (arith, ints, small, result, held, c.samples.largest-is, c.max-largest.ensures.self_bound) in
    let this : to_z w32 (of_z w32 c.max-largest.result) ≤ℤ largest_unclipped c.args.coding → get_or xs c.samples.k (pos 0) ≤ℤ largest_unclipped c.args.coding =
    λ small. omega (arith, ints, small, result, store, c.max-largest.ensures.other_bound) in
    record {
      written = bytes_of-turn c.args.coding xs c.args.out.now c.samples.out c.write-is_clipped.new.bytes c.samples.k c.width-width.result here c.width-width.ensures.value
          c.samples.invariant.written (c.write-is_clipped.ensures.bytes ∙ ap (written_sample c.args.coding) store);
      none = λ small. sym (clips_of-no c.args.coding xs c.samples.k 0 here (sym (c.samples.invariant.none (before small))) (unclipped c.args.coding (get_or xs c.samples.k (pos 0)) (this small)));
    }
