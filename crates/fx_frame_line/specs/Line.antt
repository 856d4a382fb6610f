-- What a line of frames is. Source: this project's profile.
use Rattle.std.specs.Prelude.{ℕ, ℤ, List, [], ◌∷◌, ◌++◌, ◌<◌, ◌≤◌, ◌^◌, ◌+◌, ◌-◌, ◌*◌, map, length, drop, take, replicate, slice_get, slice_index_or, Option, None, nat_lt, if◌then◌else◌, FitsSigned, ◌≡◌}
use Rattle.std.specs.List.{All}
use Rattle.std.specs.Int.{Width}
use Rattle.fx_frame_base.specs.Lists.{IsOtherPlace, pieces}

-- the frames of a line, the oldest first; its capacity; and how many samples each frame has
pub record Frames (X : Type 0) : Type 0 where
  pub items : List (List X)
  pub capacity : ℕ
  pub channels : ℕ

module _ {X : Type 0} where
  -- a line with no frame
  abbrev pub empty : ℕ → ℕ → Frames X
  empty channels capacity = record { items = []; capacity = capacity; channels = channels }

  -- one more frame at the end; a full line drops the oldest
  abbrev pub pushed : Frames X → List X → List (List X)
  pushed l f = drop (length (l.items ++ f ∷ []) - l.capacity) (l.items ++ f ∷ [])

  -- many more frames at the end; a full line drops the oldest
  abbrev pub pushed_all : Frames X → List (List X) → List (List X)
  pushed_all l fs = drop (length (l.items ++ fs) - l.capacity) (l.items ++ fs)

  -- the same for `count` frames whose samples lie one after another
  abbrev pub pushed_block : Frames X → ℕ → List X → List (List X)
  pushed_block l count block = pushed_all l (pieces l.channels count block)

  -- the frame dropped when one more comes: none where there is free space, the new one itself where the capacity is 0
  abbrev pub pushed_out : Frames X → List X → Option (List X)
  pushed_out l f = if nat_lt (length l.items) l.capacity then None else slice_get (l.items ++ f ∷ []) 0

  -- the frame that many places before the newest
  abbrev pub from_newest : Frames X → ℕ → Option (List X)
  from_newest l k = if nat_lt k (length l.items) then slice_get l.items (length l.items - k - 1) else None

  -- the latest `count` frames, the oldest first; where there are fewer, silence stands before them
  abbrev pub latest_frames : X → ℕ → Frames X → List (List X)
  latest_frames silent_sample count l = replicate (count - length l.items) (replicate l.channels silent_sample) ++ drop (length l.items - count) l.items

  -- one channel of each frame
  abbrev pub channel_of : List (List X) → ℕ → X → List X
  channel_of items channel d = map (λ f. slice_index_or f channel d) items

  -- a block begins with the `count` oldest frames of a line and of those that would come after them
  abbrev pub HasOldest : Frames X → List X → ℕ → List X → Type 0
  HasOldest l coming count block =
      (n : ℕ) → n * l.channels ≤ length coming → count ≤ length l.items + n → pieces l.channels count block ≡ take count (l.items ++ pieces l.channels n coming)

  -- one channel of a block's `count` frames is that of the frames from `late` places before the next one to come on
  abbrev pub HasChannelBefore : X → ℕ → Frames X → ℕ → ℕ → List X → Type 0
  HasChannelBefore silent_sample late l channel count block =
      (i : ℕ) → i < count → (d : X) → slice_index_or block (i * l.channels + channel) d ≡ slice_index_or (slice_index_or (latest_frames silent_sample late l) i []) channel d

-- a block's `count` frames differ in one channel alone
abbrev pub KeepsOtherChannels : {X : Type 0} → ℕ → ℕ → ℕ → List X → List X → Type 0
KeepsOtherChannels {X} channels channel count old new =
    (k : ℕ) → IsOtherPlace channels channel count k → (d : X) → slice_index_or new k d ≡ slice_index_or old k d

module _ {X : Type 0} where
  -- `channels` samples, each of which fits
  pub record IsSamplesOf (Fits : X → Type 0) (channels : ℕ) (f : List X) : Type 0 where
    pub count : length f ≡ channels
    pub fits : All Fits f

  -- the invariant of a line: 1 to 16 channels, at most 2^28 frames, no more frames than the capacity, and each frame with the
  -- samples of the line
  pub record IsLineOf (Fits : X → Type 0) (l : Frames X) : Type 0 where
    pub some : 1 ≤ l.channels
    pub bound : l.channels ≤ 16
    pub small : l.capacity ≤ 2 ^ 28
    pub within : length l.items ≤ l.capacity
    pub frames : All (IsSamplesOf Fits l.channels) l.items

-- a number of samples of that width
abbrev pub IsSamples : Width → ℕ → List ℤ → Type 0
IsSamples w = IsSamplesOf (FitsSigned w)

-- a line of samples of that width
abbrev pub IsLine : Width → Frames ℤ → Type 0
IsLine w = IsLineOf (FitsSigned w)
