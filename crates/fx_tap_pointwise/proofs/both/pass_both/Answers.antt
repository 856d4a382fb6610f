use Rattle.std.proofs.Common.{◌≡◌, ◌*◌, ◌≤◌, ◌∙◌, ℕ, ℤ, Bool, List, length, map, take, ap, refl}
use Rattle.fx_frame_base.specs.Lists.{pieces}
use Rattle.fx_frame_base.specs.Rounded.{clips_rounded, samples_of}
use Rattle.fx_frame_base.proofs.Pieces.{length-pieces}
use Rattle.fx_frame.specs.Made.{rounded_given}
use Rattle.fx_tap_pointwise.proofs.Blocks.{dry-through}
use Rattle.fx_tap_pointwise.proofs.BothLaws.{between, between-many, between-sides, first-clips, out-is, out-sides, second-clips}
use Rattle.fx_tap_pointwise.proofs.both.pass_both.Goals as goal

pub returns-clause-through : goal.returns-clause-through
returns-clause-through g c =
    let s = c.args.first.now in
    let t = c.args.second.now in
    let f : ℤ → ℤ × Bool = g.A.Sampling.rounded s.mapping.sampling in
    let h : ℤ → ℤ × Bool = g.B.Sampling.rounded t.mapping.sampling in
    let size : ℕ = s.mapping.channels in
    let n : ℕ = c.args.count in
    let input : List ℤ = c.args.input.now in
    let out : List ℤ = c.round_before-clips.new.output in
    let free : n * size ≤ length input = c.requires.input in
    let is : c.out_channels.result ≡ size = c.out_channels.ensures.value ∙ ap (λ m. m.channels) c.mapping.ensures.value in
    let one-is : c.sampling.result.now ≡ s.mapping.sampling = c.sampling.ensures ∙ ap (λ m. m.sampling) c.mapping-2.ensures.value in
    let two-is : c.sampling-2.result.now ≡ t.mapping.sampling = c.sampling-2.ensures ∙ ap (λ m. m.sampling) c.mapping-3.ensures.value in
    let made : out ≡ samples_of (map (λ x. h (f x).0) (take (n * size) input)) = rw (one-is, two-is, is) at c.round_before-clips.ensures.samples in
    let one : c.round_before-clips.result.first ≡ clips_rounded (map f (take (n * size) input)) = rw (one-is, is) at c.round_before-clips.ensures.first in
    let two : c.round_before-clips.result.second ≡ clips_rounded (map (λ x. h (f x).0) (take (n * size) input)) = rw (one-is, two-is, is) at c.round_before-clips.ensures.second in
    rw (c.count_passed.ensures, c.count_passed-2.ensures) (
      between f h size n input free,
      dry-through (λ m. m.channels) (λ m. m.channels) (λ m frame. rounded_given (g.A.Sampling.rounded m.sampling) frame) s n c.round_before-clips.result.first (pieces size n input) (between f h size n input free)
          c.mapping.ensures.sound c.requires.first.dry c.requires.first.not_ended (length-pieces size n input) (between-sides f h size n input free) refl (one ∙ first-clips f h size n input free),
      dry-through (λ m. m.channels) (λ m. m.channels) (λ m frame. rounded_given (g.B.Sampling.rounded m.sampling) frame) t n c.round_before-clips.result.second (between f h size n input free) _
          c.mapping-3.ensures.sound c.requires.second.dry c.requires.second.not_ended (between-many f h size n input free) (rw c.requires.second.channels (out-sides f h size n input free out _ made)) (out-is f h size n input free out _ made) (two ∙ second-clips f h size n input free),
    )
