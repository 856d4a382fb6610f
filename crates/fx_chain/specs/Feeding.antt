-- What feeding a block to a chain does (this project's profile).
use Rattle.std.specs.Prelude.{ℕ, ℤ, ◌≡◌, ◌+◌, ◌*◌, ◌<◌, ◌≤◌, false, List, drop, length}
use Rattle.fx_frame_base.specs.declared.feed.Passed.{Passed}
use Rattle.fx_frame_base.specs.Frame.{Samples}
use Rattle.fx_frame_base.specs.Holds.{kinds}
use Rattle.fx_frame_base.specs.Lists.{pieces}
use Rattle.fx_frame_base.specs.Pipeline.{outputs_of}
use Rattle.fx_chain_flow.specs.declared.flow.State.TheVariants as States
use Rattle.fx_chain_flow.specs.Feed.{FlowFed, FlowGave, FlowTookWithinSpace, GaveLast}
use Rattle.fx_chain_flow.specs.Parts.{any_spent}
use Rattle.fx_chain_flow.specs.Steps.{StateIs}
use Rattle.fx_chain_stages.specs.Stages.{effect_acts}
use Rattle.fx_chain.specs.Chain.{ChainParts}

-- samples per frame that a chain takes, and per frame that it gives
abbrev pub inputs_in : ChainParts → ℕ
inputs_in c = c.plan.head.channels

abbrev pub outputs_in : ChainParts → ℕ
outputs_in c = outputs_of c.plan.head.channels (kinds effect_acts c.flow.stages)

-- the frames at the front of the input that it took, and those at the front of the output that it gave
abbrev pub frames_taken : ChainParts → List ℤ → Passed → List Samples
frames_taken c input passed = pieces (inputs_in c) passed.taken input

abbrev pub frames_given : ChainParts → List ℤ → Passed → List Samples
frames_given c output passed = pieces (outputs_in c) passed.given output

-- A chain was fed: it took frames from the front of the input, one after the other, each through all effects before the next
-- one, and wrote those that were given to the front of the output.
pub record ChainFed (c c' : ChainParts) (input old new : List ℤ) (passed : Passed) : Type 0 where
  pub fed : FlowFed effect_acts c.flow (frames_taken c input passed) (frames_given c new passed) c'.flow
  -- these are of what it was to give, and the rest is still to be given
  pub gave : FlowGave effect_acts c.flow (frames_taken c input passed) (frames_given c new passed) c'.flow
  -- the samples of the frames taken and of those given lie at the fronts, and the rest of the output is unchanged
  pub read : passed.taken * inputs_in c ≤ length input
  pub written : passed.given * outputs_in c ≤ length new
  pub rest_unchanged : drop (passed.given * outputs_in c) new ≡ drop (passed.given * outputs_in c) old
  -- where there was space for one more frame, no frame is pending, and no frame was left that could be taken
  pub waits : passed.given * outputs_in c + outputs_in c ≤ length new → StateIs effect_acts States.Busy c'.flow → ⊥
  pub used : passed.given * outputs_in c + outputs_in c ≤ length new → c'.flow.ended ≡ false → any_spent effect_acts c'.flow.stages ≡ false
      → length input < passed.taken * inputs_in c + inputs_in c
  -- each frame was taken while the output had space for one more than was due before it
  pub free : FlowTookWithinSpace effect_acts c.flow passed.taken (length old)
  -- where the output has no space for one frame, the chain is unchanged
  pub unchanged : length old < outputs_in c → c' ≡ c
  -- and once it has none left for another, the last step was the one that gave the last frame
  pub full : 1 ≤ passed.given → length old < passed.given * outputs_in c + outputs_in c
      → GaveLast effect_acts c.flow (frames_taken c input passed) (frames_given c new passed) c'.flow
  pub plan : c'.plan ≡ c.plan
