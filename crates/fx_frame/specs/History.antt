-- The samples before a frame of a sound (this project's profile).
use Rattle.std.specs.Prelude.{ℕ, ℤ, pos, ◌-◌, List, [], cond, nat_le, slice_index_or}
use Rattle.fx_frame_base.specs.Frame.{Samples}

-- channel k of the frame that is d frames before frame n; silence before the first frame and after the last
abbrev pub sample_before : List Samples → ℕ → ℕ → ℕ → ℤ
sample_before x n d k = cond (nat_le d n) (slice_index_or (slice_index_or x (n - d) []) k (pos 0)) (pos 0)

-- the history: how many frames ago, and in which channel; and the sample there
abbrev pub History : Type 0
History = ℕ → ℕ → ℤ
