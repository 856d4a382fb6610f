use Rattle.std.proofs.Common.{rules, arith, ◌≡◌, ◌<◌, ◌+◌, ◌∙◌, ap, refl, cond, ℕ, ℤ, Bool, length, to_z, of_z, w32, w64}
use Rattle.fx_fixed.specs.Rounding.{clip_count, rounding}
use Rattle.fx_tap_delays.specs.Echo.{EchoArguments, echo_sum, echoed_sample}
use Rattle.fx_tap_sums.specs.Weights.{Weights}
use Rattle.fx_tap_delays.specs.EchoWeights.{weighed}
use Rattle.fx_frame.specs.History.{History}
use Rattle.fx_tap_delays.proofs.EchoWeights.{small-sample}
use Rattle.fx_frame_base.proofs.Rounds.{samples_of-next, clips_of-next, byte_is, byte-le}
use Rattle.fx_tap_sums.proofs.SmallSums.{held-in-64}
use Rattle.fx_tap_delays.specs.Tapping.{history_after}
use Rattle.fx_tap_delays.proofs.echo.PreparedEcho.small_into.Goals as goal

pub channels-preserved : goal.channels-preserved
channels-preserved c =
    let a : EchoArguments = c.args.self.now in
    let w : Weights = c.args.small.now in
    let history : History = history_after c.args.line.now.items c.args.frame.now in
    let i : ℕ = c.channels.channel in
    let f : ℕ → ℤ × Bool = echoed_sample a.echo history in
    let y : ℤ = c.round_and_count.result in
    let out : to_z w32 (of_z w32 y) ≡ y = search rules in
    let bound = c.small_sum-sum.ensures.small in
    let held : to_z w64 (of_z w64 c.small_sum-sum.result) ≡ c.small_sum-sum.result = held-in-64 c.small_sum-sum.result (omega (arith, bound)) in
    let whole : c.small.inside.denominator ≡ w.denominator = ap (λ (x : Weights). x.denominator) c.small.view_is in
    let rounded : rounding (to_z w64 (of_z w64 c.small_sum-sum.result)) c.small.inside.denominator ≡ f i =
    ap (λ z. rounding z c.small.inside.denominator) (held ∙ c.small_sum-sum.ensures.value) ∙ ap (λ d. rounding (echo_sum (weighed a.echo w.weights) history i) d) whole ∙ small-sample a w history i c.requires.sounds in
    let sample : y ≡ (f i).0 = c.round_and_count.ensures.sample ∙ ap (λ r. r.0) rounded in
    let counted : c.round_and_count.new.clips ≡ c.channels.clips + cond (f i).1 1 0 = c.round_and_count.ensures.clips ∙ ap (λ r. c.channels.clips + clip_count r) rounded in
    let inside : i < length c.channels.out = search rules in
    record {
      done = rw out (samples_of-next f c.channels.out i y inside c.channels.invariant.done sample);
      counted = counted ∙ clips_of-next f i c.channels.clips (f i).1 c.channels.invariant.counted refl;
      bound = omega (arith, counted, byte-le (f i).1, byte_is (f i).1, c.channels.invariant.bound);
    }
