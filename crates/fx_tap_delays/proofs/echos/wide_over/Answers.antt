use Rattle.std.proofs.Common.{◌≡◌, ◌<◌, ◌∙◌, ap, ℕ, pos, ◌+ℤ◌, ◌*ℤ◌, arith, replicate, slice_index_or, List}
use Rattle.std.proofs.lemmas.Int.{ints}
use Rattle.std.proofs.lemmas.List.{take_all}
use Rattle.fx_frame_base.specs.Frame.{Samples}
use Rattle.fx_frame_line.specs.Line.{channel_of}
use Rattle.fx_frame_base.specs.Stage.{Given}
use Rattle.fx_tap_delays.specs.Echo.{EchoArguments, echo_with}
use Rattle.fx_tap_delays.specs.Echos.{decays}
use Rattle.fx_tap_delays.specs.EchosState.{line_outputs}
use Rattle.fx_tap_sums.specs.Products.{sum_of_products}
use Rattle.fx_frame_base.proofs.ListPlaces.{zeros-sample}
use Rattle.fx_tap_delays.proofs.EchosSeries.{echoed-is, small-frame}
use Rattle.fx_tap_delays.proofs.echos.wide_over.Goals as goal

pub returns : goal.returns
returns c =
    let x : Samples = c.args.samples.now in
    let whole : c.frame_at-frame.result ≡ x = c.frame_at-frame.ensures.frame ∙ take_all c.args.channels x (omega (arith, c.requires.frame)) in
    let line_output : List Samples = line_outputs c.args.channels c.args.lines.now x (replicate c.args.channels (pos 0)) in
    let a : EchoArguments = echo_with c.args.channels c.args.gains.0 c.args.gains.1 c.args.taps.now in
    let scaled = rw whole at c.add_scaled.ensures.added in
    let went = rw whole at c.pass.ensures.sums in
    let sums : (k : ℕ) → k < c.args.channels → slice_index_or c.pass.new.sums k (pos 0) ≡ (c.args.gains.0 *ℤ slice_index_or x k (pos 0)) +ℤ sum_of_products (decays c.args.taps.now) (channel_of line_output k (pos 0)) = λ k l.
    let none : slice_index_or (replicate 16 (pos 0)) k (pos 0) ≡ pos 0 = zeros-sample 16 k in
    went k l ∙ ap (λ z. z +ℤ sum_of_products (decays c.args.taps.now) (channel_of line_output k (pos 0))) (scaled k l ∙ ap (λ z. z +ℤ (c.args.gains.0 *ℤ slice_index_or x k (pos 0))) none ∙ omega (arith, ints)) in
    let given = echoed-is a x c.pass.new.sums line_output sums in
    record {
      lines = rw whole at c.pass.ensures.lines;
      frame = (rw c.requires.frame at c.sums_into.ensures.frame) ∙ ap (λ (g : Given). g.samples) given;
      clips = (rw c.requires.frame at c.sums_into.ensures.clips) ∙ ap (λ (g : Given). g.clips) given;
      bound = omega (arith, c.sums_into.ensures.bound);
      small = rw whole at (small-frame c.frame_at-frame.result c.channels-count.ensures.frame.fits);
    }
