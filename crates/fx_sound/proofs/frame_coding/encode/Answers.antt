use Rattle.std.proofs.Common.{◌≡◌, length, ap, ◌∙◌, sym, subst, arith, FitsSigned}
use Rattle.std.specs.Int.{w32}
use Rattle.std.specs.List.{All}
use Rattle.fx_sound.specs.FrameCoding.{bytes_of, clips_of}
use Rattle.fx_frame_base.specs.Frame.{Samples}
use Rattle.fx_sound.proofs.FrameBytes.{bytes_of-pair, clips_of-pair}
use Rattle.fx_sound.proofs.frame_coding.encode.Goals as goal

pub returns-in-len2-clause-bytes : goal.returns-in-len2-clause-bytes
returns-in-len2-clause-bytes c =
    let xs : Samples = c.samples.result.now in
    let two : length xs ≡ 2 = omega arith in
    let P : Samples → Type 0 = All (FitsSigned w32) in
    let fits : All (FitsSigned w32) xs = subst P (sym c.samples.ensures.samples) c.samples.ensures.frame.fits in
    bytes_of-pair c.args.coding xs _ _ two fits c.write-in-len2.ensures.bytes c.write-in-len2-2.ensures.bytes ∙ ap (bytes_of c.args.coding) c.samples.ensures.samples

pub returns-in-len2-clause-clips : goal.returns-in-len2-clause-clips
returns-in-len2-clause-clips c =
    let xs : Samples = c.samples.result.now in
    let two : length xs ≡ 2 = omega arith in
    let P : Samples → Type 0 = All (FitsSigned w32) in
    let fits : All (FitsSigned w32) xs = subst P (sym c.samples.ensures.samples) c.samples.ensures.frame.fits in
    clips_of-pair c.args.coding xs _ _ _ _ two fits c.write-in-len2.ensures.clips c.write-in-len2-2.ensures.clips c.from-clips.ensures c.from-in-len2.ensures ∙ ap (clips_of c.args.coding) c.samples.ensures.samples
