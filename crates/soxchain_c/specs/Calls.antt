-- What the calls of a stream return to C (this project's profile; packaging/soxchain.h).
use Rattle.std.specs.Prelude.{ℕ, ℤ, ◌≡◌, ◌≢◌, ◌⊎◌, ◌+◌, ◌/◌, ◌%◌, ◌<◌, ◌≤◌, List, Option, Some, length}
use Rattle.fx_chain.specs.Chain.{ChainParts}
use Rattle.fx_chain.specs.Feeding.{inputs_in}
use Rattle.fx_chain.specs.Snapshot.{IsSoundChain}
use Rattle.fx_chain_flow.specs.Parts.{taken_of}
use Rattle.fx_chain_flow.specs.Sound.{max_frames}
use Rattle.fx_chain_flow.specs.Steps.{IsHungry}
use Rattle.fx_chain_stages.specs.Stages.{effect_acts}
use Rattle.soxchain_c.specs.declared.status.Status.{Status}
use Rattle.soxchain_c.specs.declared.status.Status.TheVariants.{BadSnapshot, Fine, NoMemory, NotWaiting, PartOfFrame, TooLong}
use Rattle.soxchain_stream.specs.declared.stream.Stream.{Stream}
use Rattle.soxchain_stream.specs.declared.stream.Waits.{Waits}
use Rattle.soxchain_c.specs.declared.stream_calls.SoxchainPassed.{SoxchainPassed}
use Rattle.soxchain_c.specs.Buffer.{filled}
use Rattle.soxchain_c.specs.Status.{code}
use Rattle.soxchain_stream.specs.Snapshots.{IsFrozenAs}
use Rattle.soxchain_stream.specs.Streams.{WaitsFor, StreamWasFed, ended, wait_number}

-- a call left a stream in its handle, and returned the code of a status
abbrev pub ChangesStream : Option Stream → ℤ → (Stream → Status → Type 0) → Type 0
ChangesStream handle result Answers = (t : Stream) × (status : Status) × (handle ≡ Some t) × (result ≡ code status) × Answers t status

-- no frames, where there is no stream
abbrev pub nothing_passed : SoxchainPassed
nothing_passed = record { taken = 0; given = 0; waits = 0 }

-- the number of what a stream waits for
pub record IsWait (s : Stream) (number : ℕ) : Type 0 where
  pub waits : Waits
  pub is : WaitsFor waits s
  pub number_is : number ≡ wait_number waits

-- nothing was taken or given
pub record Unfed (s t : Stream) (old new : List ℤ) (passed : SoxchainPassed) : Type 0 where
  pub stream : t ≡ s
  pub output : new ≡ old
  pub taken : passed.taken ≡ 0
  pub given : passed.given ≡ 0

-- A stream was fed as its chain is; or nothing was taken, since the samples make no whole frames or too many.
abbrev pub FeedAnswers : Stream → Stream → List ℤ → List ℤ → List ℤ → SoxchainPassed → Status → Type 0
FeedAnswers s t input old new passed status =
    IsWait t passed.waits
    × (((status ≡ Fine) × (length input % inputs_in s.chain ≡ 0) × (taken_of s.chain.flow + length input / inputs_in s.chain ≤ max_frames) × StreamWasFed s t input old new (record { taken = passed.taken; given = passed.given }))
    ⊎ ((status ≡ PartOfFrame) × (length input % inputs_in s.chain ≢ 0) × Unfed s t old new passed)
    ⊎ ((status ≡ TooLong) × (length input % inputs_in s.chain ≡ 0) × (max_frames < taken_of s.chain.flow + length input / inputs_in s.chain) × Unfed s t old new passed))

-- a stream that waited for frames was given the end, and is unchanged otherwise
abbrev pub EndAnswers : Stream → Stream → Status → Type 0
EndAnswers s t status =
    ((status ≡ Fine) × IsHungry effect_acts s.chain.flow × (t ≡ ended s))
    ⊎ ((status ≡ NotWaiting) × (IsHungry effect_acts s.chain.flow → ⊥) × (t ≡ s))

-- the bytes of a stream: how many, and in the output buffer where there is space for all; or no memory was found
abbrev pub FreezeAnswers : Stream → List ℕ → List ℕ → ℕ → Status → Type 0
FreezeAnswers s old new count status =
    ((status ≡ Fine) × IsSoundChain s.chain × ((bytes : List ℕ) × IsFrozenAs s.chain bytes × (count ≡ length bytes) × (new ≡ filled bytes old)))
    ⊎ ((status ≡ NoMemory) × (new ≡ old) × (count ≡ 0))

-- A stream continues from the chain of its plan that was frozen to these bytes, whichever that was; else it is unchanged, for
-- lack of memory, or since there is no such chain.
pub record ThawAnswers (s t : Stream) (bytes : List ℕ) (status : Status) : Type 0 where
  pub plan : t.plan ≡ s.plan
  pub answers : ((status ≡ Fine) × IsFrozenAs t.chain bytes) ⊎ ((t ≡ s) × ((status ≡ NoMemory) ⊎ (status ≡ BadSnapshot)))
  pub back : (c : ChainParts) → IsSoundChain c → c.plan ≡ s.chain.plan → IsFrozenAs c bytes → ((status ≡ Fine) × (t.chain ≡ c)) ⊎ (status ≡ NoMemory)
