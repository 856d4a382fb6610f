-- The chain of a plan's effects (this project's profile).
use Rattle.std.specs.Prelude.{◌≡◌, ◌≤◌, false, List, length}
use Rattle.fx_chain_run.specs.declared.target.Target.{Target}
use Rattle.fx_chain_flow.specs.Parts.{AllNew, Parts, given_by, taken_of}
use Rattle.fx_chain_flow.specs.Composed.{Whole, composed, composed_wholes}
use Rattle.fx_chain_flow.specs.Steps.{IsHungry, rest_of, wholes_of}
use Rattle.fx_frame_base.specs.Frame.{Samples}
use Rattle.fx_frame_base.specs.Holds.{recipes}
use Rattle.fx_plan_effects.specs.Bounds.{is_too_long}
use Rattle.fx_plan.specs.Planning.{Planning}
use Rattle.fx_chain_stages.specs.declared.registry.EffectStage.{EffectStage}
use Rattle.fx_plan_effects.specs.Meanings.{Placed, meaning_at}
use Rattle.fx_chain_stages.specs.Made.{recipes_for}
use Rattle.fx_chain_stages.specs.Stages.{effect_acts}

-- the stages of a plan's effects
abbrev pub planned : Planning → List Placed
planned p = recipes_for p.head.channels p.acts

-- the frames that a plan's effects make of a whole sound, by their definitions one after the other
abbrev pub chain_gives : Planning → List Samples → List Samples
chain_gives p x = composed meaning_at (planned p) x

-- of each effect how many frames it makes of a whole sound, and how many samples it clips
abbrev pub chain_wholes : Planning → List Samples → List Whole
chain_wholes p x = composed_wholes meaning_at (planned p) x

-- a chain, as its callers see it: its plan, and its stages with the frames and counts that they have
pub record ChainParts : Type 0 where
  pub plan : Planning
  pub flow : Parts EffectStage

-- its stages are those of its plan
pub record IsChain (c : ChainParts) : Type 0 where
  pub made : recipes effect_acts c.flow.stages ≡ planned c.plan
  pub channels : c.flow.channels ≡ c.plan.head.channels
  pub bound : length c.plan.acts ≤ 32
  pub short : is_too_long c.plan.acts ≡ false

-- what is written where a plan is run
abbrev pub target_for : Planning → Target
target_for p = record { kind = p.kind; coding = p.coding; rate = p.layout.rate; channels = p.layout.channels; named = p.is_named }

-- a chain of this plan that has taken nothing, and what it gives for a whole sound
pub record IsNewChain (p : Planning) (c : ChainParts) : Type 0 where
  pub plan : c.plan ≡ p
  pub made : recipes effect_acts c.flow.stages ≡ planned p
  pub fresh : AllNew effect_acts c.flow.stages
  pub hungry : IsHungry effect_acts c.flow
  pub nothing : (taken_of c.flow ≡ 0) × (given_by effect_acts c.flow.left c.flow.stages ≡ 0)
  pub gives : (x : List Samples) → rest_of effect_acts c.flow x ≡ chain_gives p x
  pub wholes : (x : List Samples) → wholes_of effect_acts c.flow x ≡ chain_wholes p x
