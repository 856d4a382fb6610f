-- One frame more, with the silence after it.
use Rattle.std.proofs.Common.{◌≡◌, ◌≤◌, ◌*◌, ◌+◌, ◌-◌, ◌++◌, ◌∙◌, ap, sym, length, take, drop, replicate, arith, add-one, pos}
use Rattle.std.proofs.lemmas.List.{length-append, length-drop, length-replicate, length-take-le}
use Rattle.std.proofs.Math.Nat.{suc-mul, mul-le-mul_right, mul_assoc}
use Rattle.fx_frame_base.specs.Lists.{pieces}
use Rattle.fx_frame_base.proofs.Puts.{drop-put}
use Rattle.fx_cut.specs.Strides.{spread}
use Rattle.fx_cut.proofs.Pieces.{put-piece}
use Rattle.fx_cut.proofs.UpsampleMany.{group-pieces, pieces-group, spread-more}
use Rattle.fx_cut.proofs.upsample.spread_each.Goals as goal

pub frames-preserved : goal.frames-preserved
frames-preserved c =
    let i = c.frames._frame in
    let ch = c.args.channels in
    let f = c.args.factor in
    let step = f * ch in
    let at = c.frames.written in
    let input = c.args.input.now in
    let out = c.frames.output in
    let g = c.fill_group.new.group in
    let v = c.frames.invariant in
    let read = v.read in
    let written = v.written in
    let maximum : (i + 1) * ch ≤ c.args.count * ch = mul-le-mul_right ch (omega (arith, c.frames-test.true)) in
    let here : (i + 1) * ch ≡ i * ch + ch = rw add-one (omega (arith, suc-mul i ch)) in
    let maximum' : (i + 1) * step ≤ c.args.count * step = mul-le-mul_right step (omega (arith, c.frames-test.true)) in
    let here' : (i + 1) * step ≡ i * step + step = rw add-one (omega (arith, suc-mul i step)) in
    let minimum : 1 * ch ≤ step = mul-le-mul_right ch c.requires.factor in
    let many : c.frames.read + ch - c.frames.read ≡ ch = omega arith in
    let wide : at + step - at ≡ step = omega arith in
    let x = take ch (drop c.frames.read input) in
    let inside : c.frames.read + ch ≤ length input = omega (arith, c.requires.input, maximum, here, read) in
    let free : at + step ≤ length out = omega (arith, c.requires.output, maximum', here', written, c.frames.auto.output) in
    let long : length x ≡ ch = length-take-le ch (drop c.frames.read input) (omega (arith, inside, length-drop c.frames.read input)) in
    let all : length (take step (drop at out)) ≡ step = length-take-le step (drop at out) (omega (arith, free, length-drop at out)) in
    let is : g ≡ x ++ replicate (step - ch) (pos 0) = rw (wide, many, all, long) at c.fill_group.ensures in
    let size : length g ≡ step = ap length is ∙ length-append x (replicate (step - ch) (pos 0)) ∙ (omega (arith, long, length-replicate (step - ch) (pos 0), minimum)) in
    let place : at ≡ i * f * ch = omega (arith, written, mul_assoc i f ch) in
    let next : (i + 1) * f ≡ i * f + f = rw add-one (omega (arith, suc-mul i f)) in
    record {
      read = omega (arith, here, read);
      written = omega (arith, here', written);
      frames = rw next (pieces-group ch f (i * f) at out g _ place size (omega (arith, free)) (put-piece at step out g size) ∙ ap (λ l. l ++ pieces ch f g) v.frames
          ∙ ap (λ l. spread ch f i input ++ pieces ch f l) is ∙ ap (λ l. spread ch f i input ++ l) (group-pieces ch f x c.requires.factor long) ∙ sym (spread-more ch f i c.frames.read input read));
      rest_unchanged = drop-put at step c.args.output.now out g _ size free (put-piece at step out g size) v.rest_unchanged;
    }
