-- The stages of a plan's effects, made again.
use Rattle.std.proofs.Common.{◌≡◌, ℕ, ◌≤◌, List, map, length, false, refl, sym, ap, ◌∙◌}
use Rattle.fx_chain.specs.Chain.{ChainParts, IsChain, planned}
use Rattle.fx_chain_flow.specs.Frozen.{AllMade}
use Rattle.fx_chain_flow.specs.Parts.{Parts}
use Rattle.fx_frame_base.specs.Holds.{recipes}
use Rattle.fx_plan_effects.specs.Bounds.{is_too_long}
use Rattle.fx_plan_effects.specs.Effects.{Act}
use Rattle.fx_plan.specs.Planning.{Planning}
use Rattle.fx_chain_stages.specs.declared.registry.EffectStage.{EffectStage}
use Rattle.fx_chain_stages.specs.declared.thaw.EffectArguments.{EffectArguments}
use Rattle.fx_chain_stages.specs.Stages.{effect_acts, recipe_of}
use Rattle.fx_chain_stages.specs.Made.{placed_in, recipes_for}
use Rattle.fx_chain_stages.specs.Thawed.{placing, recipe_with}
use Rattle.fx_chain_stages.proofs.Thawing.{made-recipes, recipes-made, recipes-with}

module _ (xs : List EffectArguments) (channels : ℕ) (acts : List Act) (places : map placing xs ≡ placed_in channels acts) where
  -- stages of these arguments are those of the effects
  pub planned-made : (stages : List EffectStage) → AllMade (λ a s. recipe_of s ≡ recipe_with a) xs stages → recipes effect_acts stages ≡ recipes_for channels acts
  planned-made stages made = recipes-made xs stages made ∙ recipes-with xs channels acts places

  module _ (p : Planning) (channels-are : channels ≡ p.head.channels) (acts-are : acts ≡ p.acts) where
    same-planned : recipes_for channels acts ≡ planned p
    same-planned = rw (channels-are, acts-are) refl

    -- the stages of a chain of the plan are of these arguments
    pub made-planned : (c : ChainParts) → IsChain c → c.plan ≡ p → AllMade (λ a s. recipe_of s ≡ recipe_with a) xs c.flow.stages
    made-planned c chain plan =
        let made : recipes effect_acts c.flow.stages ≡ recipes_for channels acts = chain.made ∙ ap planned plan ∙ sym same-planned in
        made-recipes xs c.flow.stages (made ∙ sym (recipes-with xs channels acts places))

    pub channels-planned : (c : ChainParts) → IsChain c → c.plan ≡ p → c.flow.channels ≡ channels
    channels-planned c chain plan = chain.channels ∙ ap (λ (q : Planning). q.head.channels) plan ∙ sym channels-are

    -- stages of these arguments are those of a chain of the plan
    pub IsChain-made : (f : Parts EffectStage) → AllMade (λ a s. recipe_of s ≡ recipe_with a) xs f.stages → f.channels ≡ channels → length acts ≤ 32 → is_too_long acts ≡ false → IsChain (record { plan = p; flow = f })
    IsChain-made f made channels-of bound short = record {
      made = planned-made f.stages made ∙ same-planned;
      channels = channels-of ∙ channels-are;
      bound = rw (← acts-are) bound;
      short = rw (← acts-are) short;
    }

-- a chain is its plan and its flow
pub chain-same : (c : ChainParts) (p : Planning) (f : Parts EffectStage) → c.plan ≡ p → f ≡ c.flow → record { plan = p; flow = f } ≡ c
chain-same c p f plan flow = rw (← plan, flow) refl
