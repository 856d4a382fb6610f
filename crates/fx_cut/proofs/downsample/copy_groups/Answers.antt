-- One group more: its first frame is written.
use Rattle.std.proofs.Common.{◌≡◌, ◌≤◌, ◌*◌, ◌+◌, ◌-◌, ◌++◌, ◌∙◌, ap, length, take, drop, sym, [], ◌∷◌, arith, add-one}
use Rattle.std.proofs.lemmas.List.{length-drop, length-take-le}
use Rattle.std.proofs.Math.Nat.{suc-mul, mul-le-mul_right}
use Rattle.fx_frame_base.proofs.Puts.{drop-put, pieces-put}
use Rattle.fx_cut.specs.Strides.{firsts}
use Rattle.fx_cut.proofs.DownsampleMany.{firsts-more}
use Rattle.fx_cut.proofs.Pieces.{put-piece}
use Rattle.fx_cut.proofs.downsample.copy_groups.Goals as goal

pub groups-preserved : goal.groups-preserved
groups-preserved c =
    let i = c.groups._group in
    let ch = c.args.channels in
    let stride = c.args.step * ch in
    let at = c.groups.written in
    let input = c.args.input.now in
    let out = c.groups.output in
    let f = c.copy_from_slice.new.self in
    let v = c.groups.invariant in
    let read = v.read in
    let written = v.written in
    let frames = v.frames in
    let rest_unchanged = v.rest_unchanged in
    let maximum : (i + 1) * stride ≤ c.args.groups * stride = mul-le-mul_right stride (omega (arith, c.groups-test.true)) in
    let here : (i + 1) * stride ≡ i * stride + stride = rw add-one (omega (arith, suc-mul i stride)) in
    let minimum : 1 * ch ≤ stride = mul-le-mul_right ch c.requires.step in
    let maximum' : (i + 1) * ch ≤ c.args.groups * ch = mul-le-mul_right ch (omega (arith, c.groups-test.true)) in
    let here' : (i + 1) * ch ≡ i * ch + ch = rw add-one (omega (arith, suc-mul i ch)) in
    let many : c.groups.read + ch - c.groups.read ≡ ch = omega arith in
    let is : f ≡ take ch (drop c.groups.read input) = c.copy_from_slice.ensures.after ∙ ap (λ n. take n (drop c.groups.read input)) many in
    let inside : c.groups.read + ch ≤ length input = omega (arith, c.requires.input, maximum, here, minimum, read) in
    let long : length f ≡ ch = ap length is ∙ length-take-le ch (drop c.groups.read input) (omega (arith, inside, length-drop c.groups.read input)) in
    let free : at + ch ≤ length out = omega (arith, c.requires.output, maximum', here', written, c.groups.auto.output) in
    record {
      read = omega (arith, here, read);
      written = omega (arith, here', written);
      frames = pieces-put ch i at out f _ written long free (put-piece at ch out f long) ∙ ap (λ l. l ++ f ∷ []) frames ∙ ap (λ g. firsts ch c.args.step i input ++ g ∷ []) is ∙ sym (firsts-more ch c.args.step i c.groups.read input read);
      rest_unchanged = drop-put at ch c.args.output.now out f _ long free (put-piece at ch out f long) rest_unchanged;
    }
