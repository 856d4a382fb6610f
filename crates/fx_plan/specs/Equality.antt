-- When two plans are equal, as a test: each of their parts passes the test of its type.
use Rattle.std.specs.Prelude.{Bool}
use Rattle.std.specs.Bool.{beq}
use Rattle.std.specs.Cmp.{IsEquivalence, and_equiv, bool_eq_equiv, on_equiv}
use Rattle.std.specs.Cmp.Lexicographic.{lists_equiv, pointwise}
use Rattle.std.specs.Ordering.{eq_of_both, on}
use Rattle.fx_frame_base.specs.contracts.coding.CodingPartialEq.TheImpl as codings
use Rattle.fx_sound.specs.contracts.head.HeadPartialEq.TheImpl as heads
use Rattle.fx_sound.specs.contracts.head.KindPartialEq.TheImpl as kinds
use Rattle.fx_plan_effects.specs.contracts.registry.EffectPartialEq.TheImpl as effects
use Rattle.fx_plan_effects.specs.contracts.effect.LayoutPartialEq.TheImpl as layouts
use Rattle.fx_frame_base.specs.contracts.coding.CodingEq.TheImpl.Laws as coding_laws
use Rattle.fx_sound.specs.contracts.head.HeadEq.TheImpl.Laws as head_laws
use Rattle.fx_sound.specs.contracts.head.KindEq.TheImpl.Laws as kind_laws
use Rattle.fx_plan_effects.specs.contracts.registry.EffectEq.TheImpl.Laws as effect_laws
use Rattle.fx_plan_effects.specs.contracts.effect.LayoutEq.TheImpl.Laws as layout_laws
use Rattle.fx_plan.specs.declared.accepted.Plan.{Plan}

abbrev pub same_parts : Plan → Plan → Bool
same_parts =
    eq_of_both (on (λ plan. plan.head) (heads.ghosts).eq)
    (eq_of_both (on (λ plan. plan.kind) (kinds.ghosts).eq)
    (eq_of_both (on (λ plan. plan.coding) (codings.ghosts).eq)
    (eq_of_both (on (λ plan. plan.is_named) beq)
    (eq_of_both (on (λ plan. plan.effects.items) (pointwise (effects.ghosts).eq))
    (on (λ plan. plan.layout) (layouts.ghosts).eq)))))

pub same_parts-equiv : IsEquivalence same_parts
same_parts-equiv =
    and_equiv (on_equiv (λ plan. plan.head) head_laws.laws-law)
    (and_equiv (on_equiv (λ plan. plan.kind) kind_laws.laws-law)
    (and_equiv (on_equiv (λ plan. plan.coding) coding_laws.laws-law)
    (and_equiv (on_equiv (λ plan. plan.is_named) bool_eq_equiv)
    (and_equiv (on_equiv (λ plan. plan.effects.items) (lists_equiv effect_laws.laws-law))
    (on_equiv (λ plan. plan.layout) layout_laws.laws-law)))))
