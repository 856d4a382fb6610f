-- The content of a plan (this project's profile).
use Rattle.std.specs.Prelude.{ℕ, Bool, List, map, Option, unwrap_or}
use Rattle.fx_frame_base.specs.declared.coding.Coding.{Coding}
use Rattle.fx_plan.specs.Bits.{bits_in, coding_with}
use Rattle.fx_plan.specs.declared.bits.Bits.{Bits}
use Rattle.fx_sound.specs.declared.head.Head.{Head}
use Rattle.fx_sound.specs.declared.head.Kind.{Kind}
use Rattle.fx_plan_effects.specs.declared.effect.Layout.{Layout}
use Rattle.fx_plan.specs.declared.accepted.Plan.{Plan}
use Rattle.fx_plan_effects.specs.Effects.{Act, act}
use Rattle.fx_plan.specs.Plans.{head_layout, acts_of, last_layout}
use Rattle.fx_plan_words.specs.Faults.{Word}

-- a plan's parts: the input's head; the output's container, coding and whether it is a file; what the effects do, and
-- the layout after them
pub record Planning : Type 0 where
  pub head : Head
  pub kind : Kind
  pub coding : Coding
  pub is_named : Bool
  pub acts : List Act
  pub layout : Layout

abbrev pub planning : Plan → Planning
planning plan = record {
  head = plan.head;
  kind = plan.kind;
  coding = plan.coding;
  is_named = plan.is_named;
  acts = map act plan.effects.items;
  layout = plan.layout;
}

-- the parts of the plan of these effects' words; the output has samples of these bits, by default those of the input
abbrev pub planning_of : Head → Bool → Kind → Option Bits → List (List ℕ) → List (List Word) → Planning
planning_of head is_named kind bits files effects = record {
  head = head;
  kind = kind;
  coding = coding_with kind (unwrap_or bits (bits_in head.coding));
  is_named = is_named;
  acts = acts_of (head_layout head) files effects;
  layout = last_layout (head_layout head) files effects;
}
