use Rattle.std.proofs.Common.{◌≡◌, ◌*◌, take, sym, ap, ◌∙◌, arith}
use Rattle.std.proofs.lemmas.List.{take_all}
use Rattle.fx_sound.specs.FrameCoding.{bytes_of, clips_of}
use Rattle.fx_sound.proofs.ManyBytes.{encoded-clips, encoded-frames}
use Rattle.fx_sound.proofs.bulk.encode_into.Goals as goal

pub returns-clause-frames : goal.returns-clause-frames
returns-clause-frames c = λ channels n e.
    let all : take (n * channels) c.args.samples.now ≡ c.args.samples.now = take_all (n * channels) c.args.samples.now (omega (arith, e)) in
    c.encode_each.ensures.bytes ∙ sym (encoded-frames c.args.coding channels n c.args.samples.now ∙ ap (bytes_of c.args.coding) all)

pub returns-clause-frame_clips : goal.returns-clause-frame_clips
returns-clause-frame_clips c = λ channels n e.
    let all : take (n * channels) c.args.samples.now ≡ c.args.samples.now = take_all (n * channels) c.args.samples.now (omega (arith, e)) in
    c.encode_each.ensures.clips ∙ sym (encoded-clips c.args.coding channels n c.args.samples.now ∙ ap (clips_of c.args.coding) all)
