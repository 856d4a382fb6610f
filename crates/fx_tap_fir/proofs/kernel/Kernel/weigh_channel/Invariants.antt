use Rattle.std.proofs.Common.{◌≡◌, ◌<◌, ◌≤◌, ◌+◌, ◌*◌, ℕ, pos, drop, slice_index_or}
use Rattle.fx_fixed.specs.Rounding.{rounding}
use Rattle.fx_fixed.specs.declared.gains.TheConstants.{UNIT}
use Rattle.fx_frame_base.specs.Lists.{IsOtherPlace, tabulate}
use Rattle.fx_tap_sums.specs.Products.{sum_of_products}
use Rattle.fx_frame_base.specs.Rounded.{clips_rounded}
use Rattle.fx_tap_fir.proofs.kernel.Kernel.weigh_channel.Given as goal

abbrev pub invariant-frames : goal.invariant-frames
invariant-frames l = record {
  at_is : l.at ≡ l.place * l.channels + l.channel;
  put : (i : ℕ) → i < l.place → slice_index_or l.out (i * l.channels + l.channel) (pos 0) ≡ (rounding (sum_of_products (drop i l.window) l.self) UNIT).0;
  others : (k : ℕ) → IsOtherPlace l.channels l.channel l.count k → slice_index_or l.out k (pos 0) ≡ slice_index_or l.fn.out k (pos 0);
  counted : l.clips ≡ clips_rounded (tabulate (λ i. rounding (sum_of_products (drop i l.window) l.self) UNIT) 0 l.place);
  bound : l.clips ≤ l.place;
}
