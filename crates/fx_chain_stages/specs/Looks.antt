-- What a stage of any effect shows of itself (this project's profile).
use Rattle.std.specs.Prelude.{ℕ, Bool, List}
use Rattle.fx_frame_base.specs.Frame.{Samples}
use Rattle.fx_frame_base.specs.Stage.{Acts, Counts, Given, StateCounters}
use Rattle.fx_plan_effects.specs.Meanings.{Placed}

-- the observable state of a stage: its effect in its place, what is still to be given, what it counted, that it has nothing to
-- give now, the frames that it holds, the capacity of its line, and its state counters
pub record Look : Type 0 where
  pub recipe : Placed
  pub rest : List Samples → List Given
  pub counts : Counts
  pub dry : Bool
  pub stored : List Samples
  pub capacity : ℕ
  pub state_counters : StateCounters

-- the observable state of a stage, by how the stages of its effect behave
abbrev pub look : {S R : Type 0} → Acts S R → (R → Placed) → S → Look
look acts named s = record {
  recipe = named (acts.recipe s);
  rest = acts.rest s;
  counts = acts.counts s;
  dry = acts.dry s;
  stored = acts.stored s;
  capacity = acts.capacity s;
  state_counters = acts.state_counters s;
}
