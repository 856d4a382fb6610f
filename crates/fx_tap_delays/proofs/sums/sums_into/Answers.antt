use Rattle.std.proofs.Common.{rules, arith, ◌≡◌, ◌≤◌, ◌+◌, ◌^◌, ◌∙◌, ap, ℕ, ℤ, pos, ◌*ℤ◌, Bool, to_z, of_z, w32, ◌*◌, slice_index_or, unsigned_abs}
use Rattle.fx_fixed.specs.Rounding.{rounding}
use Rattle.fx_fixed.specs.declared.gains.TheConstants.{UNIT}
use Rattle.fx_tap_sums.proofs.Fitting.{scaled-fits}
use Rattle.fx_frame_base.proofs.Rounds.{samples_of-next, clips_of-next, byte_is, byte-le}
use Rattle.fx_tap_sums.proofs.SumLaws.{scaled-sum, scaled-low, scaled-high}
use Rattle.fx_tap_delays.proofs.sums.sums_into.Goals as goal

pub loop-channel-preserved : goal.loop-channel-preserved
loop-channel-preserved c =
    let i : ℕ = c.loop-channel.channel in
    let s : ℤ = slice_index_or c.args.sums.now i (pos 0) in
    let f : ℕ → ℤ × Bool = λ k. rounding (c.args.gain *ℤ slice_index_or c.args.sums.now k (pos 0)) (UNIT * UNIT) in
    let gain : c.from-factor.result ≡ c.args.gain = c.from-factor.ensures ∙ search rules ∙ c.trillionths.ensures.value in
    let small : unsigned_abs c.args.gain ≤ 1000 * UNIT = rw c.trillionths.ensures.value at c.trillionths.ensures.bound in
    let bound : unsigned_abs s ≤ 29 * (UNIT * 2 ^ 31) = c.requires.small i in
    let out : to_z w32 (of_z w32 c.round_clip-sample.result.0) ≡ c.round_clip-sample.result.0 = search rules in
    let v : c.round_clip-sample.result ≡ f i =
    c.round_clip-sample.ensures ∙ ap (λ z. rounding z (UNIT * UNIT)) (scaled-sum c.args.gain s c.from-factor.result gain small bound) in
    let one = byte-le c.round_clip-sample.result.1 in
    record {
      done = rw out (samples_of-next f c.loop-channel.out i c.round_clip-sample.result.0 (omega arith) c.loop-channel.invariant.done (ap (λ r. r.0) v));
      counted = ap (λ n. c.loop-channel.clips + n) (c.from-clips.ensures ∙ byte_is c.round_clip-sample.result.1) ∙ clips_of-next f i c.loop-channel.clips c.round_clip-sample.result.1 c.loop-channel.invariant.counted (ap (λ r. r.1) v);
      bound = omega (arith, c.from-clips.ensures, one, c.loop-channel.invariant.bound);
    }

pub round_clip-sample-requires : goal.round_clip-sample-requires
round_clip-sample-requires c =
    let s : ℤ = slice_index_or c.args.sums.now c.loop-channel.channel (pos 0) in
    let gain : c.from-factor.result ≡ c.args.gain = c.from-factor.ensures ∙ search rules ∙ c.trillionths.ensures.value in
    let small : unsigned_abs c.args.gain ≤ 1000 * UNIT = rw c.trillionths.ensures.value at c.trillionths.ensures.bound in
    let bound : unsigned_abs s ≤ 29 * (UNIT * 2 ^ 31) = c.requires.small c.loop-channel.channel in
    rw (scaled-sum c.args.gain s c.from-factor.result gain small bound) (record { positive = search rules; small_den = search rules; low = scaled-low c.args.gain s small bound; high = scaled-high c.args.gain s small bound })

pub overflow_mul-factor : goal.overflow_mul-factor
overflow_mul-factor c =
    let gain : c.from-factor.result ≡ c.args.gain = c.from-factor.ensures ∙ search rules ∙ c.trillionths.ensures.value in
    let small : unsigned_abs c.args.gain ≤ 1000 * UNIT = rw c.trillionths.ensures.value at c.trillionths.ensures.bound in
    scaled-fits c.args.gain (slice_index_or c.args.sums.now c.loop-channel.channel (pos 0)) c.from-factor.result gain small (c.requires.small c.loop-channel.channel)

pub overflow_add-clips : goal.overflow_add-clips
overflow_add-clips c = omega (arith, c.from-clips.ensures, byte-le c.round_clip-sample.result.1, c.loop-channel.invariant.bound)
