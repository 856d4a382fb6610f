-- What was appended to bytes: words of 64 bits, and the words of frames (docs/library.md, "A frozen stream").
use Rattle.std.specs.Prelude.{ℕ, ◌≡◌, List, ◌++◌, flat_map}
use Rattle.std.specs.List.{All}
use Rattle.fx_chain_flow.specs.Frozen.{FreezesFlow}
use Rattle.fx_chain_flow.specs.Parts.{Parts}
use Rattle.fx_frame_base.specs.Frame.{IsWideFrame, Samples}
use Rattle.fx_frame_base.specs.Stage.{Acts}
use Rattle.soxchain_stream.specs.Frozen.{AreStored, IsWord, frame_words, snapshot_bytes, word}

-- these words were appended, each as eight bytes
pub record AppendsWords (old new : List ℕ) (words : List ℕ) : Type 0 where
  pub bytes : new ≡ old ++ flat_map word words
  pub fit : All IsWord words

-- these frames were appended, each as its words
pub record AppendsFrames (old new : List ℕ) (frames : List Samples) : Type 0 where
  pub words : AppendsWords old new (flat_map frame_words frames)
  pub wide : All IsWideFrame frames

-- a flow was appended: the numbers that it counts, and the frames that it stores
pub record AppendsFlow {S R : Type 0} (acts : Acts S R) (f : Parts S) (old new : List ℕ) : Type 0 where
  pub numbers : List ℕ
  pub frames : List Samples
  pub freezes : FreezesFlow acts f frames numbers
  pub stored : AreStored numbers frames
  pub appended : new ≡ old ++ snapshot_bytes numbers frames
