-- The inlet of a flow, restored (this project's profile).
use Rattle.std.specs.Prelude.{ℕ, ◌+◌, ◌≤◌, true, None, List, ◌≡◌, length, option_to_list, slice_index_or, take}
use Rattle.fx_frame_base.specs.Frame.{Samples}
use Rattle.fx_frame_base.specs.PendingFrame.{IsPending}
use Rattle.fx_chain_flow.specs.Sound.{max_frames}
use Rattle.fx_chain_flow.specs.Frozen.{inlet_numbers}
use Rattle.fx_chain_flow.specs.declared.frozen.Inlet.{Inlet}

-- an inlet of `channels` channels stores these frames and counts these numbers
pub record IsInlet (channels : ℕ) (frames : List Samples) (numbers : List ℕ) (i : Inlet) : Type 0 where
  pub pending : IsPending channels i.frame
  pub bound : i.left + length (option_to_list i.frame) ≤ max_frames
  pub closed : i.ended ≡ true → i.frame ≡ None
  pub stored : frames ≡ option_to_list i.frame
  pub counted : numbers ≡ inlet_numbers i.left i.frame i.ended

-- an inlet stored the first of these frames, as many as the fifth of these numbers says, and counted the first eight of them
abbrev pub StartsWithInlet : ℕ → List Samples → List ℕ → Type 0
StartsWithInlet channels frames numbers = (i : Inlet) × IsInlet channels (take (slice_index_or numbers 4 0) frames) (take 8 numbers) i
