-- How the stages of `remix` behave (this project's profile).
use Rattle.std.specs.Prelude.{ℕ, ◌≡◌, List, Result, MatchResult, length}
use Rattle.fx_frame_base.specs.declared.stage.ThawFault.{ThawFault}
use Rattle.fx_frame_base.specs.declared.stage.ThawFault.TheVariants.{Memory}
use Rattle.fx_frame_base.specs.Frame.{Samples}
use Rattle.fx_frame_base.specs.Stage.{Acts, Freezes}
use Rattle.fx_tap_pointwise.specs.Mapped.{IsMapState, MapState, map_acts}
use Rattle.fx_tap_pointwise.specs.Remix.{Contributions, remixed_frame, RemixArguments, remix_meaning}

-- how the stages of `remix` behave
abbrev pub remix_acts : Acts (MapState RemixArguments) RemixArguments
remix_acts = record (map_acts (λ a. a.channels) (λ a. length a.outs) (λ a frame. remixed_frame a.outs frame)) { meaning = remix_meaning }

-- what a `remix` with these channels and contributions is made with
abbrev pub remix_with : ℕ → List Contributions → RemixArguments
remix_with channels outs = record { channels = channels; outs = outs }

-- each sound stage with these that stored these frames and counted these numbers is restored, unless memory is refused
abbrev pub RestoresRemix : ℕ → List Contributions → List Samples → List ℕ → Result (MapState RemixArguments) ThawFault → Type 0
RestoresRemix channels outs frames numbers result =
    (s : MapState RemixArguments) → IsMapState (λ (a : RemixArguments). length a.outs) s → remix_acts.recipe s ≡ remix_with channels outs → Freezes remix_acts s frames numbers → MatchResult result (λ t. t ≡ s) (λ e. e ≡ Memory)
