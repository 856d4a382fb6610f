use Rattle.std.proofs.Common.{append_assoc, ◌≡◌, ◌+◌, ◌-◌, ◌*◌, ◌≤◌, ℕ, List, ◌++◌, length, take, drop, sym, refl, ap, ◌∙◌, arith, ℤ}
use Rattle.std.proofs.lemmas.List.{drop-drop, length-drop, length-take-le, map-append}
use Rattle.std.proofs.Math.Nat.{add-mul, mul-le-mul_right}
use Rattle.fx_frame_base.specs.Frame.{Samples}
use Rattle.fx_frame_base.specs.Lists.{pieces}
use Rattle.fx_frame_base.specs.Stage.{Given}
use Rattle.fx_frame_base.proofs.FedLaws.{total-append}
use Rattle.fx_frame_base.proofs.Puts.{pieces-split, drop-put, pieces-take}
use Rattle.fx_frame_line.proofs.ManyFrames.{pieces-put_many}
use Rattle.fx_frame.specs.Made.{clips_in, made_of}
use Rattle.fx_tap_pointwise.specs.Remix.{remixed_frame}
use Rattle.fx_tap_pointwise.proofs.remix.mix_frames.Goals as goal

pub slice_bounds-frames-end : goal.slice_bounds-frames-end
slice_bounds-frames-end c =
    let within : c.pieces.done + c.min-now.result ≤ c.args.count = omega arith in
    omega (arith, mul-le-mul_right c.args.inputs within, add-mul c.pieces.done c.min-now.result c.args.inputs, c.requires.input)

pub slice_bounds-made-end : goal.slice_bounds-made-end
slice_bounds-made-end c =
    let outs : ℕ = length c.args.mixes.now in
    let within : c.pieces.done + c.min-now.result ≤ c.args.count = omega arith in
    omega (arith, mul-le-mul_right outs within, add-mul c.pieces.done c.min-now.result outs, c.requires.output, c.pieces.auto.output)

pub pieces-preserved : goal.pieces-preserved
pieces-preserved c =
    let mixed : Samples → Given = remixed_frame c.args.mixes.now in
    let ins : ℕ = c.args.inputs in
    let outs : ℕ = length c.args.mixes.now in
    let done : ℕ = c.pieces.done in
    let n : ℕ = c.min-now.result in
    let from : ℕ = done * ins in
    let at : ℕ = done * outs in
    let out : List ℤ = c.pieces.output in
    let made : List ℤ = c.mix_piece-clips.new.out in
    let old = c.pieces.invariant in
    let within : done + n ≤ c.args.count = omega arith in
    let all_in : (done + n) * ins ≤ c.args.count * ins = mul-le-mul_right ins within in
    let both_in : (done + n) * ins ≡ from + n * ins = add-mul done n ins in
    let wide_in : from + n * ins - from ≡ n * ins = omega arith in
    let all_out : (done + n) * outs ≤ c.args.count * outs = mul-le-mul_right outs within in
    let both_out : (done + n) * outs ≡ at + n * outs = add-mul done n outs in
    let wide_out : at + n * outs - at ≡ n * outs = omega arith in
    let xs : List Samples = pieces ins done c.args.input.now in
    let part : List ℤ = take (n * ins) (drop from c.args.input.now) in
    let ys : List Samples = pieces ins n part in
    let read : n * ins ≤ length (drop from c.args.input.now) = omega (arith, both_in, all_in, c.requires.input, length-drop from c.args.input.now) in
    let more : pieces ins (done + n) c.args.input.now ≡ xs ++ ys = pieces-split ins done n c.args.input.now ∙ ap (λ ps. xs ++ ps) (sym (pieces-take ins n (drop from c.args.input.now) read)) in
    let fits : at + n * outs ≤ length out = omega (arith, both_out, all_out, c.requires.output, c.pieces.auto.output) in
    let ensured = rw wide_in at c.mix_piece-clips.ensures in
    let sides : length made ≡ n * outs = (rw wide_out at c.mix_piece-clips.auto.out) ∙ length-take-le (n * outs) (drop at out) (omega (arith, fits, length-drop at out)) in
    let new : List ℤ = take at out ++ (made ++ drop (n * outs) (drop at out)) in
    let put : new ≡ take at out ++ made ++ drop (at + length made) out =
    sym (append_assoc (take at out) made (drop (n * outs) (drop at out)))
    ∙ ap (λ rest. take at out ++ made ++ rest) (drop-drop (n * outs) at out ∙ ap (λ m. drop (at + m) out) (sym sides)) in
    rw wide_out
    record {
      within = within;
      made =
          pieces-put_many outs done n at out made new refl sides fits put ∙ ap (λ ps. ps ++ pieces outs n made) old.made
          ∙ ap (λ ps. made_of mixed xs ++ ps) ensured.frames ∙ sym (ap (made_of mixed) more ∙ map-append (λ y. (mixed y).samples) xs ys);
      rest_unchanged = rw both_out (drop-put at (n * outs) c.args.output.now out made new sides fits put old.rest_unchanged);
      counted =
          ap (λ k. k + c.mix_piece-clips.result) old.counted ∙ ap (λ k. clips_in mixed xs + k) ensured.clips
          ∙ sym (ap (clips_in mixed) more ∙ total-append (λ y. (mixed y).clips) xs ys);
      bound = omega (arith, old.bound, ensured.bound);
    }
