-- The stages of all effects as one type (this project's profile): each behaves as the stage of its effect.
use Rattle.std.specs.Prelude.{ℕ, ℤ, List}
use Rattle.fx_frame_base.specs.Frame.{Samples}
use Rattle.fx_frame_base.specs.Lists.{pieces}
use Rattle.fx_frame_base.specs.Stage.{Acts, kind}
use Rattle.fx_chain_stages.specs.declared.registry.EffectStage.{EffectStage}
use Rattle.fx_plan_effects.specs.Meanings.{Placed, kind_at, meaning_at}
pub use Rattle.fx_chain_stages.specs.Looks.{Look, look}
pub use Rattle.fx_chain_stages.specs.Registry.{early_of, look_of, sound_of_stages}

abbrev pub recipe_of : EffectStage → Placed
recipe_of s = (look_of s).recipe

abbrev pub stored_of : EffectStage → List Samples
stored_of s = (look_of s).stored

-- how the stages of all effects behave
abbrev pub effect_acts : Acts EffectStage Placed
effect_acts = record {
  recipe = recipe_of;
  kind_of = kind_at;
  meaning = meaning_at;
  rest = λ s. (look_of s).rest;
  counts = λ s. (look_of s).counts;
  dry = λ s. (look_of s).dry;
  stored = stored_of;
  capacity = λ s. (look_of s).capacity;
  state_counters = λ s. (look_of s).state_counters;
}

-- `count` frames of a block, as a stage takes them, and as it gives them
abbrev pub frames_into : EffectStage → ℕ → List ℤ → List Samples
frames_into s count block = pieces (kind effect_acts s).inputs count block

abbrev pub frames_out_of : EffectStage → ℕ → List ℤ → List Samples
frames_out_of s count block = pieces (kind effect_acts s).outputs count block
