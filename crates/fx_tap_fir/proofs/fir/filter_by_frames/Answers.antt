use Rattle.std.proofs.Common.{append_assoc, ◌≡◌, ◌+◌, ◌-◌, ◌*◌, ◌≤◌, ℕ, ℤ, List, [], ◌∷◌, ◌++◌, length, take, drop, reverse, sym, ap, ◌∙◌, arith, add-one, suc}
use Rattle.std.proofs.lemmas.List.{drop-drop, length-drop, length-reverse, length-take-le}
use Rattle.std.proofs.Math.Nat.{suc-mul, mul-le-mul_right}
use Rattle.fx_frame_base.specs.Frame.{Samples}
use Rattle.fx_frame_base.specs.Lists.{pieces}
use Rattle.fx_frame_base.specs.Stage.{Given}
use Rattle.fx_frame_base.proofs.Puts.{drop-put, pieces-more, pieces-put}
use Rattle.fx_frame_line.specs.Line.{Frames, pushed}
use Rattle.fx_tap_fir.specs.Fir.{FirArguments, filtered_frame}
use Rattle.fx_tap_fir.specs.FirState.{fir_taps}
use Rattle.fx_frame.specs.Tapped.{clips_after, frames_after, last_of}
use Rattle.fx_frame.proofs.TapBlocks.{clips-more, frames-more, last-more, length-last}
use Rattle.fx_tap_fir.proofs.FirBlocks.{fir-near}
use Rattle.fx_tap_fir.proofs.fir.filter_by_frames.Goals as goal

pub frames-preserved : goal.frames-preserved
frames-preserved c =
    let r : FirArguments = record { channels = c.args.channels; coefficients = reverse c.args.kernel.now } in
    let size : ℕ = c.args.channels in
    let turn : ℕ = c.frames._turn in
    let old = c.frames.invariant in
    let start : List ℤ = c.args.samples.now in
    let items : List Samples = c.args.line.now.items in
    let free : ℕ = c.args.line.now.capacity in
    let held : length items ≤ free = c.len-held.ensures.line.within in
    let long : fir_taps.reach r ≤ free = omega (arith, c.requires.capacity, length-reverse c.args.kernel.now) in
    let xs : List Samples = pieces size turn start in
    let x : Samples = take size (drop c.frames.from start) in
    let made : Samples = c.filter_and_push-clips.new.samples in
    let width : c.frames.from + size - c.frames.from ≡ size = omega arith in
    let before : List Samples = last_of free (items ++ xs) in
    let is_made : Given = filtered_frame r (before ++ x ∷ []) (length before) in
    let next : suc turn * size ≤ c.args.count * size = mul-le-mul_right size (omega arith) in
    let fits : c.frames.from + size ≤ length c.frames.samples = omega (arith, next, suc-mul turn size, old.at_is, c.requires.samples, c.frames.auto.samples) in
    let part : length (take size (drop c.frames.from c.frames.samples)) ≡ size = length-take-le size (drop c.frames.from c.frames.samples) (omega (arith, fits, length-drop c.frames.from c.frames.samples)) in
    let kept = rw width at c.filter_and_push-clips.auto.samples in
    let sides : length made ≡ size = kept ∙ part in
    let out : List ℤ = take c.frames.from c.frames.samples ++ (made ++ drop size (drop c.frames.from c.frames.samples)) in
    let put : out ≡ take c.frames.from c.frames.samples ++ made ++ drop (c.frames.from + length made) c.frames.samples =
    sym (append_assoc (take c.frames.from c.frames.samples) made (drop size (drop c.frames.from c.frames.samples)))
    ∙ ap (λ rest. take c.frames.from c.frames.samples ++ made ++ rest) (drop-drop size c.frames.from c.frames.samples ∙ ap (λ n. drop (c.frames.from + n) c.frames.samples) (sym sides)) in
    let more : pieces size (turn + 1) start ≡ xs ++ x ∷ [] = pieces-more size turn c.frames.from start old.at_is in
    let ensured = rw (width, old.rest_unchanged) at c.filter_and_push-clips.ensures in
    let framed : made ≡ is_made.samples = ensured.frame ∙ ap (λ (l : Frames ℤ). (filtered_frame r (l.items ++ x ∷ []) (length l.items)).samples) old.line in
    let clipped : c.filter_and_push-clips.result ≡ is_made.clips = ensured.clips ∙ ap (λ (l : Frames ℤ). (filtered_frame r (l.items ++ x ∷ []) (length l.items)).clips) old.line in
    let line : c.filter_and_push-clips.new.line ≡ record c.args.line.now { items = last_of free (items ++ (xs ++ x ∷ [])) } =
    ensured.line ∙ ap (λ (l : Frames ℤ). record l { items = pushed l x }) old.line ∙ ap (λ fs. record c.args.line.now { items = fs }) (last-more free items xs x) in
    rw width
    record {
      at_is = omega (arith, old.at_is, suc-mul turn size, add-one turn);
      done =
          pieces-put size turn c.frames.from c.frames.samples made out old.at_is sides fits put
          ∙ ap (λ ps. ps ++ made ∷ []) old.done ∙ ap (λ y. frames_after fir_taps r items xs ++ y ∷ []) framed
          ∙ sym (ap (frames_after fir_taps r items) more ∙ frames-more fir_taps fir-near r free xs items x held long);
      rest_unchanged = (drop-put c.frames.from size start c.frames.samples made out sides fits put old.rest_unchanged);
      counted =
          ap (λ n. n + c.filter_and_push-clips.result) old.counted ∙ ap (λ n. clips_after fir_taps r items xs + n) clipped
          ∙ sym (ap (clips_after fir_taps r items) more ∙ clips-more fir_taps fir-near r free xs items x held long);
      bound = omega (arith, old.bound, c.filter_and_push-clips.ensures.bound, add-one turn);
      line = line ∙ sym (ap (λ ys. record c.args.line.now { items = last_of free (items ++ ys) }) more);
      within = omega (arith, ap (λ (l : Frames ℤ). length l.items) line, length-last free (items ++ (xs ++ x ∷ [])));
    }
