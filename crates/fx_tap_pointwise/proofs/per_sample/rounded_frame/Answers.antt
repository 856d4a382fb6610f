use Rattle.std.proofs.Common.{rules, arith, ◌≡◌, ◌<◌, ◌+◌, ◌-◌, ◌∙◌, ap, get_or, length, ℕ, Bool, to_z, of_z, ℤ, pos, replicate, List}
use Rattle.std.specs.Int.{w32}
use Rattle.std.proofs.lemmas.List.{get_or_append_left}
use Rattle.std.proofs.Math.ListN.{length-set}
use Rattle.fx_frame_base.proofs.Rounds.{samples_of-more, clips_of-more, byte_is, byte-le}
use Rattle.fx_tap_pointwise.proofs.per_sample.rounded_frame.Goals as goal

pub loop-channel-preserved : goal.loop-channel-preserved
loop-channel-preserved g c =
    let k : ℕ = c.loop-channel.channel in
    let xs : List ℤ = c.args.frame in
    let f : ℤ → ℤ × Bool = g.S.Sampling.rounded c.args.sampling.now in
    let h : k < length xs = omega arith in
    let place : get_or c.places-samples.result k (pos 0) ≡ get_or xs k (pos 0) =
    ap (λ l. get_or l k (pos 0)) c.places-samples.ensures.places ∙ get_or_append_left xs (replicate (16 - length xs) (pos 0)) (pos 0) k h in
    let sample : to_z w32 (of_z w32 (get_or c.places-samples.result k (pos 0))) ≡ get_or c.places-samples.result k (pos 0) = search rules in
    let out : to_z w32 (of_z w32 c.round-sample-in-loop-channel.result.0) ≡ c.round-sample-in-loop-channel.result.0 = search rules in
    let v : c.round-sample-in-loop-channel.result ≡ f (get_or xs k (pos 0)) = c.round-sample-in-loop-channel.ensures ∙ ap f (sample ∙ place) in
    let one = byte-le c.round-sample-in-loop-channel.result.1 in
    record {
      size = simp length-set (omega arith);
      done = rw out (samples_of-more f xs (pos 0) c.loop-channel.out k c.round-sample-in-loop-channel.result.0 h (omega arith) c.loop-channel.invariant.done (ap (λ r. r.0) v));
      counted = ap (λ n. c.loop-channel.clips + n) (c.from-clips.ensures ∙ byte_is c.round-sample-in-loop-channel.result.1) ∙ clips_of-more f xs (pos 0) k c.loop-channel.clips c.round-sample-in-loop-channel.result.1 h c.loop-channel.invariant.counted (ap (λ r. r.1) v);
      bound = omega (arith, c.from-clips.ensures, one, c.loop-channel.invariant.bound);
    }
