-- The cores of stages that clip no sample, after they counted frames.
use Rattle.std.proofs.Common.{ℕ, ◌+◌, ◌≤◌, ◌^◌, arith}
use Rattle.fx_frame_base.specs.declared.stage_core.StageCore.{StageCore}
use Rattle.fx_frame_base.specs.StageCore.{IsCore}

pub IsCore-took : (channels n : ℕ) (c : StageCore) → IsCore channels 0 c → c.taken + n ≤ 2 ^ 56 → IsCore channels 0 (record c { taken = c.taken + n })
IsCore-took channels n c is bound = record {
  bound = bound;
  clips_max = is.clips_max;
  pending_max = is.pending_max;
  idle = is.idle;
  over = is.over;
  fits = is.fits;
}

pub IsCore-gave : (channels n : ℕ) (c : StageCore) → IsCore channels 0 c → IsCore channels 0 (record c { given = c.given + n })
IsCore-gave channels n c is = record {
  bound = is.bound;
  clips_max = omega (arith, is.clips_max);
  pending_max = is.pending_max;
  idle = is.idle;
  over = is.over;
  fits = is.fits;
}
