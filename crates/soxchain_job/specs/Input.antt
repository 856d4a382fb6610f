-- The input of a job.
use Rattle.std.specs.Prelude.{◌≡◌, ℕ, ◌+◌, ◌-◌, ◌<◌, ◌≤◌, List, Result, IsErrOf, OnOk}
use Rattle.soxchain_job.specs.declared.input.InputFault.{InputFault}
use Rattle.soxchain_job.specs.declared.input.InputFault.TheVariants.{Changed, Failed}

-- an input
pub record InputModel (I : Type 0) : Type 1 where
  -- whether its bytes are known
  pub known : Type 0
  pub content : I → List ℕ
  -- how many bytes it says that it has
  pub size : I → ℕ
  -- how many bytes it has delivered, and how often it has failed
  pub delivered : I → ℕ
  pub failures : I → ℕ
  -- after its last read it was found to be the input that it was when the run began
  pub confirmed : I → Type 0

-- a read answers that it failed only where the count of failures rose
pub record CountsFailedReads {I T : Type 0} (inputs : InputModel I) (old new : I) (result : Result T InputFault) : Type 0 where
  pub later : inputs.failures old ≤ inputs.failures new
  pub failed : IsErrOf result Failed → inputs.failures old < inputs.failures new

-- it has the same bytes as before
pub record SameBytes {I : Type 0} (inputs : InputModel I) (old new : I) : Type 0 where
  pub content : inputs.known → inputs.content new ≡ inputs.content old
  pub size : inputs.size new ≡ inputs.size old

-- It has the same bytes as before, and has delivered at most so many.
pub record ReadsAtMost {I : Type 0} (inputs : InputModel I) (old new : I) (count : ℕ) : Type 0 where
  -- its bytes and its size are the same
  pub bytes : SameBytes inputs old new
  -- it delivers no more bytes
  pub delivered : inputs.delivered new ≤ inputs.delivered old + count

-- It is read from one offset to another, and not beyond its end.
pub record ReadsBetween {I T E : Type 0} (inputs : InputModel I) (old new : I) (from to : ℕ) (result : Result T E) : Type 0 where
  -- it delivers no more bytes than follow the first offset
  pub bound : ReadsAtMost inputs old new (inputs.size old - from)
  -- at `Ok` it delivers those between both, each once
  pub reads : OnOk result (inputs.delivered new + from ≡ inputs.delivered old + to)

-- It is asked whether it is still the input that it was.
pub record Confirms {I T : Type 0} (inputs : InputModel I) (old new : I) (result : Result T InputFault) : Type 0 where
  -- its bytes and its size are the same, and none of them is delivered
  pub bytes : ReadsAtMost inputs old new 0
  -- at `Ok` it is
  pub confirmed : OnOk result (inputs.confirmed new)
  -- where its bytes are known, it does not change
  pub unchanged : inputs.known → IsErrOf result Changed → ⊥
  -- it says that a read failed only where it counted that
  pub cause : CountsFailedReads inputs old new result

-- It has the same bytes as before, has delivered at most so many, and at `Ok` was confirmed after its last read.
pub record ConfirmsInput {I T E : Type 0} (inputs : InputModel I) (old new : I) (count : ℕ) (result : Result T E) : Type 0 where
  -- its bytes are the same, and no more are delivered
  pub bound : ReadsAtMost inputs old new count
  -- it was found to be the input that it was when the run began
  pub confirmed : OnOk result (inputs.confirmed new)
