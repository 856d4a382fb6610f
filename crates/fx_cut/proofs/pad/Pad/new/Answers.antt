use Rattle.std.proofs.Common.{refl, sym, ap, rules, map}
use Rattle.std.specs.Int.{w32}
use Rattle.fx_frame_line.specs.Line.{IsLine}
use Rattle.fx_frame_base.specs.Given.{plain}
use Rattle.fx_cut.proofs.PadRest.{pad_new}
use Rattle.fx_cut.proofs.PadSteps.{IsPad-new}
use Rattle.fx_cut.proofs.pad.Pad.new.Goals as goal

pub returns : goal.returns
returns c =
    rw (c.in_ok-line.ensures, c.new-2.ensures, c.of.ensures, c.in_ok-extend_from_slice.ensures.items, c.new-copies.ensures.items)
    (record { recipe = refl; rest = λ z. ap (map plain) (sym (pad_new c.args.channels c.args.pads.now z)); counts = refl; dry = refl; stored = refl; state_counters = refl })

pub invariant_of-result : goal.invariant_of-result
invariant_of-result c =
    let lined : IsLine w32 c.in_ok-line.line = search rules in
    let e = c.in_ok-line.ensures in
    rw (c.new-2.ensures, c.of.ensures, c.in_ok-extend_from_slice.ensures.items, c.new-copies.ensures.items)
    (IsPad-new (record { channels = c.args.channels; pads = c.args.pads.now }) c.in_ok-line.line lined (rw e refl) (rw e refl) (rw (e, c.max_pad_end.ensures) refl) c.requires.pads)
