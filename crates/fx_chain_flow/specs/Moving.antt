-- One frame in transit from a stage, or from the inlet, to the next stage, or out (this project's profile).
use Rattle.std.specs.Prelude.{ℕ, zero, suc, Option, Some, None, List, ◌≡◌}
use Rattle.fx_frame_base.specs.Frame.{Samples}
use Rattle.fx_frame_base.specs.Stage.{Acts}
use Rattle.fx_chain_flow.specs.Parts.{CanHandOver, CanFeed, GaveAt, HandedOver, PipelineFed}

module _ {S R : Type 0} (acts : Acts S R) where
  -- the stage before a place may give to the one at it; before all it is the inlet
  abbrev pub CanMove : ℕ → Option Samples → List S → Type 0
  CanMove zero inlet stages = (frame : Samples) × (inlet ≡ Some frame) × CanFeed acts frame stages
  CanMove (suc i) inlet stages = CanHandOver acts i stages

  -- the frame was taken out
  abbrev pub Lifted : ℕ → Option Samples → Option Samples → Samples → List S → List S → Type 0
  Lifted zero inlet inlet' frame old new = (inlet ≡ Some frame) × (inlet' ≡ None) × (new ≡ old)
  Lifted (suc i) inlet inlet' frame old new = (inlet' ≡ inlet) × GaveAt acts i frame old new

  -- the frame went out or to the stage at the place
  abbrev pub MovedFrom : ℕ → Option Samples → Option Samples → Option Samples → List S → List S → Type 0
  MovedFrom zero inlet inlet' out old new = (frame : Samples) × (inlet ≡ Some frame) × (inlet' ≡ None) × PipelineFed acts frame out old new
  MovedFrom (suc i) inlet inlet' out old new = (inlet' ≡ inlet) × HandedOver acts i out old new
