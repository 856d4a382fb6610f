-- What a sink has taken.
use Rattle.std.specs.Prelude.{ℕ, List, Bool}
use Rattle.fx_frame_base.specs.declared.device.Device.{Device}

-- the bytes that were taken, how many there is space for, whether all were flushed, and the device
pub record Basin : Type 0 where
  pub bytes : List ℕ
  pub capacity : ℕ
  pub flushed : Bool
  pub device : Device
