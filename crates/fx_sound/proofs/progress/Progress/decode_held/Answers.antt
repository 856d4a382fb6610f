use Rattle.std.proofs.Common.{◌≡◌, ◌*◌, length, ap, ◌∙◌, arith}
use Rattle.std.proofs.lemmas.List.{length-take-le}
use Rattle.fx_sound.specs.FrameCoding.{frame_size}
use Rattle.fx_sound.proofs.Sounds.{first_frames-taken}
use Rattle.fx_sound.proofs.progress.Progress.decode_held.Goals as goal

pub decode_into-requires : goal.decode_into-requires
decode_into-requires g c =
    let p = c.args.self.now in
    let there : length c.peek-bytes.result.now ≡ c.args.count * frame_size p.coding p.channels = ap length c.peek-bytes.ensures ∙ length-take-le _ _ (rw c.frame_size.ensures.value c.requires.held.there) ∙ ap (λ n. c.args.count * n) c.frame_size.ensures.value in
    rw (c.coding.ensures, c.requires.free) (there ∙ omega arith)

pub returns : goal.returns
returns g c =
    let p = c.args.self.now in
    rw (c.decode_into.ensures.frames p.channels c.args.count c.requires.free, c.coding.ensures, c.peek-bytes.ensures, c.frame_size.ensures.value)
    (first_frames-taken p.coding p.channels c.args.count c.args.source.now.bytes c.requires.held.there)
