use Rattle.std.proofs.Common.{◌≡◌, ◌+◌, ◌-◌, ◌*◌, ◌≤◌, ◌∙◌, ◌++◌, ◌∷◌, [], ℕ, List, length, take, drop, refl, sym, ap, arith, add-one, length-drop, ℤ}
use Rattle.std.proofs.lemmas.List.{length-take-le}
use Rattle.std.proofs.Math.Nat.{mul-le-mul_right, suc-mul}
use Rattle.fx_frame_base.specs.Frame.{Samples}
use Rattle.fx_frame_base.specs.Lists.{pieces}
use Rattle.fx_frame_base.specs.Stage.{Given}
use Rattle.fx_frame_base.proofs.Evenly.{put-between, put-long}
use Rattle.fx_frame_base.proofs.Puts.{drop-put, pieces-more, pieces-put}
use Rattle.fx_frame.specs.Made.{made_of}
use Rattle.fx_tap_pointwise.proofs.Blocks.{clips_in-more, made_of-more}
use Rattle.fx_tap_pointwise.proofs.mapped.MapsMany.map_many_over.Goals as goal

pub frames-preserved : goal.frames-preserved
frames-preserved g c =
    let m = g.Self.Mapping in
    let ins : ℕ = m.inputs c.args.self.now in
    let mapped : Samples → Given = m.mapped c.args.self.now in
    let start : List ℤ = c.args.samples.now in
    let now : List ℤ = c.frames.samples in
    let turn : ℕ = c.frames.turn in
    let at : ℕ = turn * ins in
    let old = c.frames.invariant in
    let is : c.in_channels-channels.result ≡ ins = c.in_channels-channels.ensures in
    let size : at + ins - at ≡ ins = omega arith in
    let turns : (turn + 1) * ins ≤ c.args.count * ins = mul-le-mul_right ins (omega (arith, c.frames-test.true)) in
    let one : (turn + 1) * ins ≡ at + ins = rw add-one (omega (arith, suc-mul turn ins)) in
    let free : at + ins ≤ length now = omega (arith, turns, one, old.long, c.requires.samples) in
    let x : Samples = take ins (drop at now) in
    let made : List ℤ = c.map_over-clips.new.samples in
    let framed : made ≡ (mapped x).samples = rw (is, size) at c.map_over-clips.ensures.frame in
    let clipped : c.map_over-clips.result ≡ (mapped x).clips = rw (is, size) at c.map_over-clips.ensures.clips in
    let kept : length made ≡ length x = rw (is, size) at c.map_over-clips.auto.samples in
    let sides : length made ≡ ins = kept ∙ length-take-le ins (drop at now) (omega (arith, length-drop at now, free)) in
    let out : List ℤ = take at now ++ (made ++ drop ins (drop at now)) in
    let put : out ≡ take at now ++ made ++ drop (at + length made) now = put-between at ins now made out sides refl in
    let more : pieces ins (turn + 1) start ≡ pieces ins turn start ++ x ∷ [] = pieces-more ins turn at start refl ∙ ap (λ l. pieces ins turn start ++ take ins l ∷ []) (sym old.rest_unchanged) in
    rw (is, size)
    record {
      done =
          pieces-put ins turn at now made out refl sides free put
          ∙ ap (λ ps. ps ++ made ∷ []) old.done ∙ ap (λ y. made_of mapped (pieces ins turn start) ++ y ∷ []) framed
          ∙ sym (ap (made_of mapped) more ∙ made_of-more mapped (pieces ins turn start) x);
      rest_unchanged = rw one (drop-put at ins start now made out sides free put old.rest_unchanged);
      long = put-long at ins now made sides free ∙ old.long;
      counted = rw (more, clips_in-more mapped (pieces ins turn start) x) (omega (arith, old.counted, clipped));
      bound = omega (arith, old.bound, c.map_over-clips.ensures.bound);
    }
