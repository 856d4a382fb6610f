use Rattle.std.proofs.Common.{◌≡◌, ◌-◌, ◌+◌, ◌∙◌, length, drop, arith, length-append, length-drop}
use Rattle.std.proofs.lemmas.Grind.{common_steps}
use Rattle.std.proofs.lemmas.List.{take_rest}
use Rattle.fx_frame_line.proofs.Parts.{part-back, part-both}
use Rattle.fx_frame_line.proofs.ring.copy_part.Goals as goal

pub returns-then-start-seam : goal.returns-then-start-seam
returns-then-start-seam g c =
    let part : (c.args.start + length c.args.out.now - length c.args.front.now) - (c.args.start - length c.args.front.now) ≡ length c.args.out.now = omega arith in
    c.copy_from_slice-then-start-seam.ensures.after ∙ part-back _ _ _ _ _ c.if-start-seam.true part

pub returns-else-start-seam : goal.returns-else-start-seam
returns-else-start-seam g c =
    let first = c.copy_from_slice-else-start-seam.ensures in
    let second = c.copy_from_slice-else-start-seam-2.ensures in
    part-both _ _ _ _ _ (omega arith) (omega arith) c.requires.within _ _ (first.after ∙ take_rest c.args.front.now c.args.start) second.after (omega (arith, first.len, length-append c.copy_from_slice-else-start-seam.new.self (drop (length c.args.front.now - c.args.start) c.args.out.now), length-drop (length c.args.front.now - c.args.start) c.args.out.now))

pub offset_bounds-back-start : goal.offset_bounds-back-start
offset_bounds-back-start g c = grind (arith, common_steps)

pub copy_from_slice-requires-else-start-seam-2 : goal.copy_from_slice-requires-else-start-seam-2
copy_from_slice-requires-else-start-seam-2 g c = grind (arith, common_steps)

pub returns-then-end-seam : goal.returns-then-end-seam
returns-then-end-seam g c = grind (arith, common_steps)
