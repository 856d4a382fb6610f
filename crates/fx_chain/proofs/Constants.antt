-- The numbers of the constants of the code. Where the statement has the number, the constant is that number.
use Rattle.std.proofs.Common.{◌≡◌, ◌^◌, refl}
use Rattle.fx_frame_base.specs.declared.stage.TheConstants.{MAX_FRAMES}

-- no run reads more frames
pub maximum-frames : MAX_FRAMES ≡ 2 ^ 40
maximum-frames = refl
