-- When a device in memory fails (this project's profile).
use Rattle.std.specs.Prelude.{◌≡◌, ℕ, ◌+◌, ◌<◌, ◌≤◌, Bool, true, false, Result, Ok, Err}
use Rattle.fx_frame_base.specs.declared.device.Device.{Device}
use Rattle.fx_frame_base.specs.Io.{saturated}

-- one that was not called yet, whose calls move at most `piece` bytes
abbrev pub new_device : ℕ → ℕ → Bool → Device
new_device piece fail_at for_good = record { piece = piece; fail_at = fail_at; for_good = for_good; calls = 0; failures = 0 }

-- call number `call` fails; no call does where `fail_at` is 0
abbrev pub IsRefused : ℕ → Bool → ℕ → Type 0
IsRefused fail_at false call = (0 < fail_at) × (call ≡ fail_at)
IsRefused fail_at true call = (0 < fail_at) × (fail_at ≤ call)

-- the next call fails
abbrev pub RefusesNext : Device → Type 0
RefusesNext d = IsRefused d.fail_at d.for_good (saturated (d.calls + 1))

-- one more call was counted, and whether it failed
abbrev pub device_after : {X E : Type 0} → Device → Result X E → Device
device_after d (Ok x) = record d { calls = saturated (d.calls + 1) }
device_after d (Err e) = record d { calls = saturated (d.calls + 1); failures = saturated (d.failures + 1) }
