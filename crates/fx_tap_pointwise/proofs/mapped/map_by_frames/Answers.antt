use Rattle.std.proofs.Common.{rules, append_assoc, ◌≡◌, ◌+◌, ◌-◌, ◌*◌, ◌≤◌, ℕ, List, [], ◌∷◌, ◌++◌, length, take, drop, sym, ap, ◌∙◌, arith, add-one, suc, ℤ}
use Rattle.std.proofs.lemmas.List.{drop-drop}
use Rattle.std.proofs.Math.Nat.{suc-mul, mul-le-mul_right}
use Rattle.fx_frame_base.specs.Frame.{Samples}
use Rattle.fx_frame_base.specs.Lists.{pieces}
use Rattle.fx_frame_base.specs.Stage.{Given}
use Rattle.fx_frame_base.proofs.Puts.{drop-put, pieces-more, pieces-put}
use Rattle.fx_frame.specs.Made.{made_of}
use Rattle.fx_tap_pointwise.proofs.Blocks.{clips_in-more, made_of-more}
use Rattle.fx_tap_pointwise.proofs.mapped.map_by_frames.Goals as goal

pub frames-preserved : goal.frames-preserved
frames-preserved g c =
    let m = g.M.Mapping in
    let mapping = c.args.mapping.now in
    let ins : ℕ = m.inputs mapping in
    let outs : ℕ = m.outputs mapping in
    let mapped : Samples → Given = m.mapped mapping in
    let turn : ℕ = c.frames._turn in
    let old = c.frames.invariant in
    let one : ℕ = c.out_channels-outputs.result in
    let is_one : one ≡ outs = c.out_channels-outputs.ensures.value in
    let read_one : c.in_channels-inputs.result ≡ ins = c.in_channels-inputs.ensures in
    let start : c.frames.read + ins - c.frames.read ≡ ins = omega arith in
    let width : c.frames.written + outs - c.frames.written ≡ outs = omega arith in
    let x : Samples = take ins (drop c.frames.read c.args.input.now) in
    let made : Samples = c.map_into-clips.new.out in
    let next : suc turn * outs ≤ c.args.count * outs = mul-le-mul_right outs (omega arith) in
    let free : c.frames.written + outs ≤ length c.frames.output = omega (arith, next, suc-mul turn outs, old.written_is, c.requires.output, c.frames.auto.output) in
    let sides : length made ≡ outs = search (rules, is_one, free) in
    let out : List ℤ = take c.frames.written c.frames.output ++ (made ++ drop outs (drop c.frames.written c.frames.output)) in
    let put : out ≡ take c.frames.written c.frames.output ++ made ++ drop (c.frames.written + length made) c.frames.output =
    sym (append_assoc (take c.frames.written c.frames.output) made (drop outs (drop c.frames.written c.frames.output))) ∙ ap (λ rest. take c.frames.written c.frames.output ++ made ++ rest) (drop-drop outs c.frames.written c.frames.output ∙ ap (λ n. drop (c.frames.written + n) c.frames.output) (sym sides)) in
    let framed : made ≡ (mapped x).samples = rw (read_one, start) at c.map_into-clips.ensures.frame in
    let clipped : c.map_into-clips.result ≡ (mapped x).clips = rw (read_one, start) at c.map_into-clips.ensures.clips in
    let more : pieces ins (turn + 1) c.args.input.now ≡ pieces ins turn c.args.input.now ++ x ∷ [] = pieces-more ins turn c.frames.read c.args.input.now old.read_is in
    rw (is_one, read_one, width)
    record {
      read_is = omega (arith, old.read_is, suc-mul turn ins, add-one turn);
      written_is = omega (arith, old.written_is, suc-mul turn outs, add-one turn);
      done =
          pieces-put outs turn c.frames.written c.frames.output made out old.written_is sides free put
          ∙ ap (λ ps. ps ++ made ∷ []) old.done ∙ ap (λ y. made_of mapped (pieces ins turn c.args.input.now) ++ y ∷ []) framed
          ∙ sym (ap (made_of mapped) more ∙ made_of-more mapped (pieces ins turn c.args.input.now) x);
      rest_unchanged = drop-put c.frames.written outs c.args.output.now c.frames.output made out sides free put old.rest_unchanged;
      counted = rw (more, clips_in-more mapped (pieces ins turn c.args.input.now) x) (omega (arith, old.counted, clipped));
      bound = omega (arith, old.bound, c.map_into-clips.ensures.bound);
    }
