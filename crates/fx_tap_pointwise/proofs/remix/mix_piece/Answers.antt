use Rattle.std.proofs.Common.{◌≡◌, ◌<◌, ◌+◌, ◌*◌, ◌≤◌, ◌∙◌, [], ap, sym, ℕ, ℤ, Bool, List, get_or, length, arith, add-one, refl, zero-add}
use Rattle.fx_frame_base.proofs.ChannelPlaces.{other-channel}
use Rattle.std.proofs.Math.Nat.{suc-mul}
use Rattle.fx_frame_base.specs.Frame.{Samples}
use Rattle.fx_frame_base.specs.Lists.{pieces, tabulate}
use Rattle.fx_frame_base.proofs.Pieces.{length-pieces}
use Rattle.fx_tap_pointwise.specs.Remix.{Contributions, remixed_sample}
use Rattle.fx_frame_base.specs.Rounded.{clips_rounded}
use Rattle.fx_frame_base.proofs.ListPlaces.{any-default, channel-put}
use Rattle.fx_frame.proofs.Tables.{all_clips, all_clips-more, all_clips-none}
use Rattle.fx_tap_pointwise.proofs.MixPieces.{mixed-clips, mixed-frames}
use Rattle.fx_tap_pointwise.proofs.remix.mix_piece.Goals as goal

pub mixes-init : goal.mixes-init
mixes-init c =
    let outs : List Contributions = c.args.mixes.now in
    let xs : List Samples = pieces c.args.shape.channels c.args.shape.count c.args.frames.now in
    record {
      put = λ i k l none. absurd (omega (arith, none));
      counted = sym (all_clips-none (λ i k. remixed_sample (get_or outs k []) (get_or xs i [])) 0 c.args.shape.count);
      bound = omega arith;
    }

pub mixes-preserved : goal.mixes-preserved
mixes-preserved c =
    let outs : List Contributions = c.args.mixes.now in
    let xs : List Samples = pieces c.args.shape.channels c.args.shape.count c.args.frames.now in
    let k : ℕ = c.mixes.channel in
    let old = c.mixes.invariant in
    let within : k < length outs = omega (arith, c.mixes-test.true, c.requires.channels) in
    let F : ℕ → ℕ → ℤ × Bool = λ i q. remixed_sample (get_or outs q []) (get_or xs i []) in
    let mix : c.index-mixes-channel.result ≡ get_or outs k [] = c.index-mixes-channel.is ∙ any-default outs k c.index-mixes-channel.result [] within in
    let made = rw (mix, c.requires.channels) at c.channel_into-clips.ensures in
    record {
      put = channel-put (λ i q. (F i q).0) c.mixes.out c.channel_into-clips.new.out (length outs) k c.args.shape.count within made.put (λ i d in_d other. made.others (i * length outs + d) (other-channel (length outs) k c.args.shape.count i d within in_d other)) old.put;
      counted = ap (λ m. c.mixes.clips + m) made.clips ∙ ap (λ m. m + clips_rounded (tabulate (λ i. F i k) 0 c.args.shape.count)) old.counted ∙ sym (all_clips-more F k 0 c.args.shape.count);
      bound = omega (arith, old.bound, made.bound, suc-mul k c.args.shape.count, add-one k);
    }

pub returns-clause-frames : goal.returns-clause-frames
returns-clause-frames c =
    let outs : List Contributions = c.args.mixes.now in
    let xs : List Samples = pieces c.args.shape.channels c.args.shape.count c.args.frames.now in
    let all : length outs ≤ c.mixes.channel = omega (arith, c.mixes-test.false, c.requires.channels) in
    mixed-frames outs xs c.args.shape.count c.mixes.out (length-pieces c.args.shape.channels c.args.shape.count c.args.frames.now) (omega (arith, c.requires.out, c.mixes.auto.out)) (λ i k l within. c.mixes.invariant.put i k l (omega (arith, within, all)))

pub returns-clause-clips : goal.returns-clause-clips
returns-clause-clips c =
    let outs : List Contributions = c.args.mixes.now in
    let xs : List Samples = pieces c.args.shape.channels c.args.shape.count c.args.frames.now in
    let all : c.mixes.channel ≡ length outs = omega (arith, c.mixes-test.false, c.mixes.auto.channel-end, c.requires.channels) in
    let many : length xs ≡ c.args.shape.count = length-pieces c.args.shape.channels c.args.shape.count c.args.frames.now in
    (rw all at c.mixes.invariant.counted)
    ∙ ap (λ n. all_clips (λ i k. remixed_sample (get_or outs k []) (get_or xs i [])) (length outs) 0 n) (sym many)
    ∙ mixed-clips outs xs (λ i. get_or xs i []) 0 (λ i l.
    let e : 0 + i ≡ i = zero-add i in
    rw e refl)
