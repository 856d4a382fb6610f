use Rattle.std.proofs.Common.{ap, ◌∙◌, sym, inl, inr}
use Rattle.fx_frame_base.specs.Frame.{Samples}
use Rattle.fx_sound.specs.FrameCoding.{bytes_of, clips_of}
use Rattle.fx_sound.proofs.Threes.{big-written, little-written, one-of-threes}
use Rattle.fx_sound.proofs.fours.write_four.Goals as goal

pub returns-in-S24Be-clause-bytes : goal.returns-in-S24Be-clause-bytes
returns-in-S24Be-clause-bytes c =
    let xs : Samples = c.args.samples.now in
    c.write_big.ensures ∙ rw c.limited_four-clips.ensures.lanes (big-written xs c.requires.samples) ∙ ap (λ k. bytes_of k xs) (sym c.in-S24Be.is)

pub returns-in_default : goal.returns-in_default
returns-in_default c =
    let xs : Samples = c.args.samples.now in
    elim (one-of-threes c.args.coding c.requires.width) [
      | inl e ↦ record {
        bytes = c.write_little.ensures ∙ rw c.limited_four-clips.ensures.lanes (little-written xs c.requires.samples) ∙ ap (λ k. bytes_of k xs) (sym e);
        clips = c.limited_four-clips.ensures.clips ∙ ap (λ k. clips_of k xs) (sym e);
      }
      | inr e ↦ absurd (c.in_default.not-S24Be e)
    ]
