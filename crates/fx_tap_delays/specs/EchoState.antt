-- How the stages of `echo` behave (this project's profile).
use Rattle.std.specs.Prelude.{ℕ, List, Result, map}
use Rattle.fx_fixed.specs.Extents.{largest}
use Rattle.fx_tap_delays.specs.DelayExtents.{tap_delay}
use Rattle.fx_frame_base.specs.declared.stage.ThawFault.{ThawFault}
use Rattle.fx_frame_base.specs.Frame.{Samples}
use Rattle.fx_frame_base.specs.Stage.{Acts, Restores}
use Rattle.fx_frame.specs.Tapped.{IsTapState, Taps, TapState, tap_acts}
use Rattle.fx_tap_delays.specs.Echo.{EchoArguments, echoed_frame, echo}

-- how `echo` makes frames
abbrev pub echo_taps : Taps EchoArguments
echo_taps = record { channels = λ a. a.channels; reach = λ a. largest (map tap_delay a.echo.taps); max_clips = λ a. 16; made = echoed_frame }

-- how the stages of `echo` behave
abbrev pub echo_acts : Acts (TapState EchoArguments) EchoArguments
echo_acts = record (tap_acts echo_taps) { meaning = echo }

-- what `thaw` of `echo` returns
abbrev pub RestoresEcho : EchoArguments → List Samples → List ℕ → Result (TapState EchoArguments) ThawFault → Type 0
RestoresEcho a frames numbers result = Restores echo_acts (IsTapState echo_taps) a frames numbers result
