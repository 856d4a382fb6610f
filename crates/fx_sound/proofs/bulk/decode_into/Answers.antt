use Rattle.std.proofs.Common.{◌≡◌, ◌*◌, length, ap, ◌∙◌, arith}
use Rattle.fx_frame_base.specs.Coding.{width_of}
use Rattle.fx_sound.specs.FrameCoding.{coded_samples}
use Rattle.fx_frame_base.specs.Lists.{pieces}
use Rattle.fx_sound.proofs.ManyBytes.{decoded-frames}
use Rattle.fx_sound.proofs.bulk.decode_into.Goals as goal

pub returns-clause-frames : goal.returns-clause-frames
returns-clause-frames c = λ channels n e.
    let all : length c.args.bytes.now ≡ n * channels * width_of c.args.coding = c.requires ∙ ap (λ m. m * width_of c.args.coding) e in
    ap (pieces channels n) (c.decode_each.ensures ∙ ap (λ m. coded_samples c.args.coding m c.args.bytes.now) e)
    ∙ decoded-frames c.args.coding channels n c.args.bytes.now (omega (arith, all))
