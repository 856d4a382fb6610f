-- What a tape has still to deliver.
use Rattle.std.specs.Prelude.{ℕ, List}
use Rattle.fx_frame_base.specs.declared.device.Device.{Device}

-- the bytes that are still to be read, how many were, and the device
pub record Reel : Type 0 where
  pub bytes : List ℕ
  pub delivered : ℕ
  pub device : Device
