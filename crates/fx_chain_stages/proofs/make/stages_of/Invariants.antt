use Rattle.std.proofs.Common.{◌≡◌, ◌++◌, ◌≤◌, ◌^◌, length, map, true}
use Rattle.std.specs.List.{All}
use Rattle.fx_chain_flow.specs.Parts.{AllNew}
use Rattle.fx_frame_base.specs.Holds.{recipes}
use Rattle.fx_plan_effects.specs.Bounds.{hold_all}
use Rattle.fx_plan_effects.specs.Effects.{Usable, act}
use Rattle.fx_chain_stages.specs.Stages.{effect_acts}
use Rattle.fx_chain_stages.specs.Made.{all_suit, recipes_for}
use Rattle.fx_chain_stages.proofs.make.stages_of.Given as goal

abbrev pub decreases-loop-effect : goal.decreases-loop-effect
decreases-loop-effect l = length l.rest

abbrev pub invariant-loop-effect : goal.invariant-loop-effect
invariant-loop-effect l = record {
  some : 1 ≤ l.channels;
  bound : l.channels ≤ 16;
  usable : All Usable (map act l.rest);
  suit : all_suit l.channels (map act l.rest) ≡ true;
  hold : hold_all (map act l.rest) ≤ 2 ^ 28;
  new : AllNew effect_acts l.stages.items;
  made : recipes effect_acts l.stages.items ++ recipes_for l.channels (map act l.rest) ≡ recipes_for l.fn.channels (map act l.effects);
}
