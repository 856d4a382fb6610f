use Rattle.std.proofs.Common.{◌≡◌, ◌+◌, ◌-◌, ◌*◌, ℕ, take, drop, ap, ◌∙◌, sym, arith}
use Rattle.std.proofs.lemmas.List.{length-take}
use Rattle.std.proofs.lemmas.List.Sums.{count_by-le-length}
use Rattle.fx_frame_base.specs.Coding.{clips_written, width_of}
use Rattle.fx_frame_base.specs.Frame.{Samples}
use Rattle.fx_sound.specs.FrameCoding.{bytes_of, clips_of}
use Rattle.fx_sound.proofs.FrameBytes.{bytes_of-piece, clips_of-part}
use Rattle.fx_sound.proofs.bulk.encode_as.Goals as goal

pub pieces-preserved : goal.pieces-preserved
pieces-preserved c =
    let coding = c.args.coding in
    let xs : Samples = c.args.samples.now in
    let done : ℕ = c.pieces.done in
    let n : ℕ = c.min.result in
    let cut : done + n - done ≡ n = omega arith in
    let at : done * c.width-width.result ≡ done * width_of coding = ap (λ w. done * w) c.width-width.ensures.value in
    let size : (done + n) * c.width-width.result - done * c.width-width.result ≡ n * width_of coding = rw c.width-width.ensures.value (omega arith) in
    let clips : c.from-clips.result ≡ clips_of coding (take n (drop done xs)) = c.from-clips.ensures ∙ c.encode_batch-piece.ensures.clips ∙ ap (λ m. clips_of coding (take m (drop done xs))) cut in
    record {
      within = omega arith;
      written = bytes_of-piece coding xs c.args.out.now c.pieces.out c.encode_batch-piece.new.out done n _ _ c.pieces.invariant.within at size c.pieces.invariant.written
          (c.encode_batch-piece.ensures.bytes ∙ ap (λ m. bytes_of coding (take m (drop done xs))) cut);
      counted = ap (λ m. m + c.from-clips.result) c.pieces.invariant.counted ∙ ap (λ m. clips_of coding (take done xs) + m) clips ∙ sym (clips_of-part coding xs done n);
      bound = omega (arith, c.pieces.invariant.bound, clips, count_by-le-length (clips_written coding) (take n (drop done xs)), length-take n (drop done xs));
    }
