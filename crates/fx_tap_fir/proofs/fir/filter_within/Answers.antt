use Rattle.std.proofs.Common.{rules, ◌≡◌, ◌+◌, ◌*◌, ◌≤◌, ◌++◌, ◌∙◌, ap, sym, ℕ, ℤ, pos, Bool, List, length, drop, reverse, arith, add-one}
use Rattle.fx_frame_base.proofs.ChannelPlaces.{other-channel}
use Rattle.std.proofs.Math.Nat.{suc-mul}
use Rattle.fx_fixed.specs.Rounding.{rounding}
use Rattle.fx_fixed.specs.declared.gains.TheConstants.{UNIT}
use Rattle.fx_frame_base.specs.Frame.{Samples}
use Rattle.fx_frame_line.specs.Line.{channel_of}
use Rattle.fx_frame_base.specs.Lists.{pieces, tabulate}
use Rattle.fx_frame_base.proofs.Pieces.{length-pieces}
use Rattle.fx_tap_fir.specs.Fir.{FirArguments, filtered_sample}
use Rattle.fx_tap_sums.specs.Products.{sum_of_products}
use Rattle.fx_frame_base.specs.Rounded.{clips_rounded}
use Rattle.fx_frame.proofs.Tables.{all_clips-more, all_clips-none}
use Rattle.fx_tap_fir.proofs.FirBlocks.{block-clips, block-frames, filtered-window}
use Rattle.fx_frame_base.proofs.ListPlaces.{channel-put}
use Rattle.fx_frame_base.proofs.Tabulate.{tabulate-same}
use Rattle.fx_tap_fir.proofs.fir.filter_within.Goals as goal

pub channels-init : goal.channels-init
channels-init g c =
    let xs : List Samples = pieces c.args.channels c.args.count c.args.frames.now in
    let F : ℕ → ℕ → ℤ × Bool = λ i. filtered_sample (reverse c.args.kernel.now) (c.args.line.now.items ++ xs) (length c.args.line.now.items + i) in
    record {
      size = search rules;
      sums = search rules;
      put = λ i k l none. absurd (omega (arith, none));
      counted = sym (all_clips-none F 0 c.args.count);
      bound = omega arith;
    }

pub channels-preserved : goal.channels-preserved
channels-preserved g c =
    let b : List ℤ = c.args.kernel.now in
    let items : List Samples = c.args.line.now.items in
    let xs : List Samples = pieces c.args.channels c.args.count c.args.frames.now in
    let k : ℕ = c.channels.channel in
    let old = c.channels.invariant in
    let F : ℕ → ℕ → ℤ × Bool = λ i. filtered_sample (reverse b) (items ++ xs) (length items + i) in
    let made = rw (c.fill_places.ensures, old.sums) at c.filter_channel-clips.ensures in
    let column : clips_rounded (tabulate (λ i. rounding (sum_of_products (drop i (channel_of (items ++ xs) k (pos 0))) b) UNIT) 0 c.args.count) ≡ clips_rounded (tabulate (λ i. F i k) 0 c.args.count) =
    ap clips_rounded (tabulate-same _ _ 0 0 c.args.count (λ i l. filtered-window b items xs k (0 + i) c.requires.full)) in
    record {
      size = omega (arith, old.size, c.fill_places.auto.window);
      sums = omega (arith, old.sums, c.filter_channel-clips.auto.sums);
      put = channel-put (λ i d. (F i d).0) c.channels.out c.filter_channel-clips.new.out c.args.channels k c.args.count c.channels-test.true (λ i l. made.put i l ∙ ap (λ z. z.0) (filtered-window b items xs k i c.requires.full)) (λ i d in_d other. made.others (i * c.args.channels + d) (other-channel c.args.channels k c.args.count i d c.channels-test.true in_d other)) old.put;
      counted = ap (λ m. c.channels.clips + m) (made.clips ∙ column) ∙ ap (λ m. m + clips_rounded (tabulate (λ i. F i k) 0 c.args.count)) old.counted ∙ sym (all_clips-more F k 0 c.args.count);
      bound = omega (arith, old.bound, made.bound, suc-mul k c.args.count, add-one k);
    }

pub returns-clause-frames : goal.returns-clause-frames
returns-clause-frames g c =
    let r : FirArguments = record { channels = c.args.channels; coefficients = reverse c.args.kernel.now } in
    let xs : List Samples = pieces c.args.channels c.args.count c.args.frames.now in
    let all : c.args.channels ≤ c.channels.channel = c.channels-test.false in
    block-frames r c.args.line.now.items xs c.args.count c.channels.out (length-pieces c.args.channels c.args.count c.args.frames.now) (omega (arith, c.requires.out, c.channels.auto.out)) (λ i d l k. c.channels.invariant.put i d l (omega (arith, k, all)))

pub returns-clause-clips : goal.returns-clause-clips
returns-clause-clips g c =
    let r : FirArguments = record { channels = c.args.channels; coefficients = reverse c.args.kernel.now } in
    let xs : List Samples = pieces c.args.channels c.args.count c.args.frames.now in
    let all : c.channels.channel ≡ c.args.channels = omega arith in
    block-clips r c.args.line.now.items xs c.args.count c.channels.clips (length-pieces c.args.channels c.args.count c.args.frames.now) (rw all at c.channels.invariant.counted)
