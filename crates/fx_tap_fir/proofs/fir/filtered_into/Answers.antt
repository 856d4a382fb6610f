use Rattle.std.proofs.Common.{rules, ◌≡◌, ◌+◌, ◌<◌, ◌++◌, ◌∙◌, ap, ℕ, ℤ, Bool, length, reverse, arith, to_z, of_z, w32}
use Rattle.fx_tap_fir.specs.Fir.{filtered_sample}
use Rattle.fx_frame_base.proofs.Rounds.{samples_of-next, clips_of-next, byte_is, byte-le}
use Rattle.fx_tap_fir.proofs.fir.filtered_into.Goals as goal

pub channels-preserved : goal.channels-preserved
channels-preserved c =
    let k : ℕ = c.channels.channel in
    let G : ℕ → ℤ × Bool = filtered_sample (reverse c.args.kernel.now) (c.args.line.now.items ++ c.args.latest.now) c.args.place in
    let y : ℤ = c.filtered_sample-sample.result.0 in
    let back : to_z w32 (of_z w32 y) ≡ y = search rules in
    let v : c.filtered_sample-sample.result ≡ G k = c.filtered_sample-sample.ensures in
    let one = byte-le c.filtered_sample-sample.result.1 in
    let inside : k < length c.channels.out = omega (arith, c.channels-test.true, c.channels.auto.out, c.requires.out) in
    record {
      done = rw back (samples_of-next G c.channels.out k y inside c.channels.invariant.done (ap (λ r. r.0) v));
      counted = ap (λ n. c.channels.clips + n) (c.from-clips.ensures ∙ byte_is c.filtered_sample-sample.result.1) ∙ clips_of-next G k c.channels.clips c.filtered_sample-sample.result.1 c.channels.invariant.counted (ap (λ r. r.1) v);
      bound = omega (arith, c.from-clips.ensures, one, c.channels.invariant.bound);
    }
