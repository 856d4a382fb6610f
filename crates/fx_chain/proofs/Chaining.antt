-- What a plan says of its effects holds of its chain.
use Rattle.std.proofs.Common.{◌≡◌, ℕ, suc, ◌+◌, ◌*◌, ◌^◌, ◌≤◌, List, [], ◌∷◌, length, map, true, false, refl, subst, sym, ap, ◌∙◌, arith}
use Rattle.std.proofs.lemmas.Bool.{and_parts}
use Rattle.std.proofs.lemmas.List.Elements.{All-head, All-tail}
use Rattle.std.specs.List.{All}
use Rattle.fx_chain.specs.Chain.{ChainParts, IsChain}
use Rattle.fx_chain_flow.specs.Parts.{max_of, work}
use Rattle.fx_chain_flow.specs.Sound.{IsPlanned}
use Rattle.fx_frame_base.specs.Holds.{hold_sum, kinds, line_sum, recipes, total}
use Rattle.fx_frame_base.specs.Pipeline.{outputs_of}
use Rattle.fx_frame_base.specs.Stage.{StageKind}
use Rattle.fx_plan_effects.specs.Bounds.{hold_all, is_too_long, work_of}
use Rattle.fx_plan_effects.specs.Effects.{Act, Usable, channels_after}
use Rattle.fx_plan_effects.specs.Meanings.{kind_at, line_of_act}
use Rattle.fx_plan_effects.proofs.Lasting.{work-bound}
use Rattle.fx_chain_stages.specs.declared.registry.EffectStage.{EffectStage}
use Rattle.fx_chain_stages.specs.Stages.{effect_acts}
use Rattle.fx_chain_stages.specs.Made.{all_suit, recipes_for, suits}
use Rattle.fx_chain_stages.proofs.Planned.{hold-for, kinds_for, line-is, matching-for, maximum-for, planned, within-for, work-for}

-- the kinds of stages that were made for effects
pub kinds-made : (stages : List EffectStage) (channels : ℕ) (acts : List Act) → recipes effect_acts stages ≡ recipes_for channels acts → kinds effect_acts stages ≡ kinds_for channels acts
kinds-made stages channels acts made = ap (map kind_at) made

pub hold-is : (c : ChainParts) → IsChain c → 1 + hold_sum (kinds effect_acts c.flow.stages) ≡ hold_all c.plan.acts
hold-is c h = ap (λ (ks : List StageKind). 1 + hold_sum ks) (kinds-made c.flow.stages c.plan.head.channels c.plan.acts h.made) ∙ hold-for c.plan.head.channels c.plan.acts

pub work-is : (c : ChainParts) → IsChain c → (n : ℕ) → work (kinds effect_acts c.flow.stages) n ≡ work_of c.plan.acts n
work-is c h n = ap (λ (ks : List StageKind). work ks n) (kinds-made c.flow.stages c.plan.head.channels c.plan.acts h.made) ∙ work-for c.plan.head.channels c.plan.acts n

lines-for : (channels : ℕ) (acts : List Act) → line_sum (kinds_for channels acts) ≡ total line_of_act acts
lines-for channels [] = refl
lines-for channels (a ∷ acts) = rw (line-is channels a, lines-for (channels_after channels a) acts) refl

pub line_sum-effects : (c : ChainParts) → IsChain c → line_sum (kinds effect_acts c.flow.stages) ≡ total line_of_act c.plan.acts
line_sum-effects c h = ap line_sum (kinds-made c.flow.stages c.plan.head.channels c.plan.acts h.made) ∙ lines-for c.plan.head.channels c.plan.acts

recipes-count : (channels : ℕ) (acts : List Act) → length (recipes_for channels acts) ≡ length acts
recipes-count channels [] = refl
recipes-count channels (a ∷ acts) = ap suc (recipes-count (channels_after channels a) acts)

made-count : (stages : List EffectStage) → length (recipes effect_acts stages) ≡ length stages
made-count [] = refl
made-count (s ∷ stages) = ap suc (made-count stages)

pub count-is : (c : ChainParts) → IsChain c → length c.flow.stages ≡ length c.plan.acts
count-is c h = sym (made-count c.flow.stages) ∙ ap length h.made ∙ recipes-count c.plan.head.channels c.plan.acts

pub short-is : (c : ChainParts) → IsChain c → max_of (kinds effect_acts c.flow.stages) (2 ^ 40) ≤ 2 ^ 56
short-is c h = rw (kinds-made c.flow.stages c.plan.head.channels c.plan.acts h.made) (maximum-for c.plan.head.channels c.plan.acts (2 ^ 40) h.short)

-- the stages of a plan's effects may stand in sequence
pub planned-is : (stages : List EffectStage) (channels : ℕ) (acts : List Act) → recipes effect_acts stages ≡ recipes_for channels acts
    → All Usable acts → all_suit channels acts ≡ true → length acts ≤ 32 → hold_all acts ≤ 2 ^ 28 → is_too_long acts ≡ false
    → IsPlanned (kinds effect_acts stages) channels
planned-is stages channels acts made usable suit bound hold short =
    let n : ℕ = 2 ^ 40 in
    let work : work (kinds_for channels acts) (2 ^ 40) ≡ work_of acts (2 ^ 40) = work-for channels acts (2 ^ 40) in
    let work_max : work_of acts (2 ^ 40) ≤ (length acts + 1) * 2 ^ 56 = work-bound acts (2 ^ 40) short in
    let held = hold-for channels acts in
    rw (kinds-made stages channels acts made) (record {
      matching = matching-for channels acts suit;
      within = within-for channels acts (2 ^ 40) usable short;
      work = omega (arith, work, work_max, bound);
      hold = omega (arith, held, hold);
    })

outputs-each : (channels : ℕ) (acts : List Act) → All Usable acts → all_suit channels acts ≡ true → 1 ≤ channels → channels ≤ 16
    → (1 ≤ outputs_of channels (kinds_for channels acts)) × (outputs_of channels (kinds_for channels acts) ≤ 16)
outputs-each channels [] usable suit some bound = (some, bound)
outputs-each channels (a ∷ acts) usable suit some bound =
    let parts = and_parts (suits channels a) (all_suit (channels_after channels a) acts) suit in
    let p = planned channels a in
    let here : Usable a = All-head Usable a acts usable in
    let Range : ℕ → Type 0 = λ n. (1 ≤ outputs_of n (kinds_for (channels_after channels a) acts)) × (outputs_of n (kinds_for (channels_after channels a) acts) ≤ 16) in
    subst Range (sym (p.outputs parts.0)) (outputs-each (channels_after channels a) acts (All-tail Usable a acts usable) parts.1 (p.some here some) (p.bound here bound))

-- what a chain gives has 1 to 16 channels
pub outputs-range : (c : ChainParts) → IsChain c → All Usable c.plan.acts → all_suit c.plan.head.channels c.plan.acts ≡ true → 1 ≤ c.plan.head.channels → c.plan.head.channels ≤ 16
    → (1 ≤ outputs_of c.plan.head.channels (kinds effect_acts c.flow.stages)) × (outputs_of c.plan.head.channels (kinds effect_acts c.flow.stages) ≤ 16)
outputs-range c h usable suit some bound = rw (kinds-made c.flow.stages c.plan.head.channels c.plan.acts h.made) (outputs-each c.plan.head.channels c.plan.acts usable suit some bound)
