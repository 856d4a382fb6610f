use Rattle.std.proofs.Common.{◌≡◌, ◌+◌, ◌++◌, ◌≤◌, length, map, true}
use Rattle.std.specs.List.{All}
use Rattle.fx_plan_words.specs.Faults.{word_texts}
use Rattle.fx_plan.specs.Groups.{effects_of}
use Rattle.fx_plan_effects.specs.Effects.{IsLayout, Usable, act, all_fit}
use Rattle.fx_plan.specs.Plans.{acts_of, plan_bytes, effects_faults, last_layout}
use Rattle.fx_plan.proofs.planned.read_effects.Given as goal
use Rattle.fx_plan.proofs.Refusing.{layout_after_effects}

abbrev pub decreases-loop-name : goal.decreases-loop-name
decreases-loop-name l = length l.rest

abbrev pub invariant-loop-name : goal.invariant-loop-name
invariant-loop-name l = record {
  faults : effects_faults l.number l.layout (plan_bytes l.files) (effects_of (word_texts l.rest)) ≡ effects_faults 1 l.fn.layout (plan_bytes l.fn.files) (effects_of (word_texts l.words));
  values : map act l.effects.items ++ acts_of l.layout (plan_bytes l.files) (effects_of (word_texts l.rest)) ≡ acts_of l.fn.layout (plan_bytes l.fn.files) (effects_of (word_texts l.words));
  last : last_layout l.layout (plan_bytes l.files) (effects_of (word_texts l.rest)) ≡ last_layout l.fn.layout (plan_bytes l.fn.files) (effects_of (word_texts l.words));
  usable : All Usable (map act l.effects.items);
  fit : all_fit l.fn.layout (map act l.effects.items) ≡ true;
  rest_unchanged : layout_after_effects l.fn.layout (map act l.effects.items) ≡ l.layout;
  layout : IsLayout l.layout;
  counted : l.number ≤ 33;
  kept : length l.effects.items + 1 ≡ l.number;
}
