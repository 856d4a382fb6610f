-- What the calls of a stream return (this project's profile).
use Rattle.std.specs.Prelude.{ℕ, ℤ, ◌≡◌, ◌+◌, ◌-◌, ◌||◌, nat_lt, nat_eq, true, false, if◌then◌else◌, List, length, map, slice_index, option_to_list}
use Rattle.fx_chain.specs.Feeding.{ChainFed}
use Rattle.fx_chain_flow.specs.declared.flow.State.TheVariants as States
use Rattle.fx_chain_flow.specs.Parts.{any_spent}
use Rattle.fx_chain_flow.specs.Steps.{IsHungry, StateIs}
use Rattle.fx_frame_base.specs.declared.feed.Passed.{Passed}
use Rattle.fx_frame_base.specs.Holds.{held_sum}
use Rattle.fx_chain_stages.specs.Stages.{effect_acts}
use Rattle.soxchain_stream.specs.declared.stream.Stream.{Stream}
use Rattle.soxchain_stream.specs.declared.stream.Waits.{Waits}
use Rattle.soxchain_stream.specs.declared.stream.Waits.TheVariants.{Frames, Output, Nothing, End}

-- a stream's chain was fed, and its plan is unchanged
pub record StreamWasFed (s t : Stream) (input old new : List ℤ) (passed : Passed) : Type 0 where
  pub chain : ChainFed s.chain t.chain input old new passed
  pub plan : t.plan ≡ s.plan

-- what a stream waits for
abbrev pub WaitsFor : Waits → Stream → Type 0
WaitsFor Frames s = IsHungry effect_acts s.chain.flow × (any_spent effect_acts s.chain.flow.stages ≡ false)
WaitsFor End s = IsHungry effect_acts s.chain.flow × (any_spent effect_acts s.chain.flow.stages ≡ true)
WaitsFor Output s = StateIs effect_acts States.Busy s.chain.flow
WaitsFor Nothing s = StateIs effect_acts States.Done s.chain.flow

-- a stream that was given the end
abbrev pub ended : Stream → Stream
ended s = record s { chain = record s.chain { flow = record s.chain.flow { ended = true } } }

-- the samples that effect `number`, counted from 1, clipped; none where there is no such effect
abbrev pub stream_clips : Stream → ℕ → ℕ
stream_clips s number =
    if nat_eq number 0 || nat_lt (length s.chain.plan.acts) number then 0
    else slice_index (map (λ e. (effect_acts.counts e).clips) s.chain.flow.stages) (number - 1)

-- the frames that a stream holds: in the inlet, and in its effects
abbrev pub held_in : Stream → ℕ
held_in s = length (option_to_list s.chain.flow.inlet) + held_sum effect_acts s.chain.flow.stages

-- what C gets for what a stream waits for (packaging/soxchain.h)
abbrev pub wait_number : Waits → ℕ
wait_number Frames = 0
wait_number Output = 1
wait_number Nothing = 2
wait_number End = 3
