use Rattle.std.proofs.Common.{◌≡◌, ◌≤◌, ◌-◌, ◌*◌, drop, length}
use Rattle.fx_frame_base.specs.Lists.{pieces}
use Rattle.fx_frame.specs.Made.{clips_in, made_of}
use Rattle.fx_tap_pointwise.specs.Remix.{remixed_frame}
use Rattle.fx_tap_pointwise.proofs.remix.mix_frames.Given as goal

abbrev pub invariant-pieces : goal.invariant-pieces
invariant-pieces l = record {
  within : l.done ≤ l.count;
  made : pieces (length l.mixes) l.done l.output ≡ made_of (remixed_frame l.mixes) (pieces l.inputs l.done l.input);
  rest_unchanged : drop (l.done * length l.mixes) l.output ≡ drop (l.done * length l.mixes) l.fn.output;
  counted : l.clips ≡ clips_in (remixed_frame l.mixes) (pieces l.inputs l.done l.input);
  bound : l.clips ≤ 16 * l.done;
}

abbrev pub decreases-pieces : goal.decreases-pieces
decreases-pieces l = l.count - l.done
