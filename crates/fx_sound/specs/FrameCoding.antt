-- Frames as bytes: the samples one after the other, channel by channel (RIFF WAVE, Sun AU).
use Rattle.std.specs.Prelude.{◌≡◌, ℕ, ℤ, pos, ◌*◌, List, length, map, count_by, sum_by}
use Rattle.std.specs.List.{flat_map}
use Rattle.fx_frame_base.specs.declared.coding.Coding.{Coding}
use Rattle.fx_frame_base.specs.declared.coding.Coding.TheVariants.{U8, S8, S16Le, S16Be, S24Le, S24Be, S32Le, S32Be}
use Rattle.fx_frame_base.specs.Coding.{width_of, read_sample, written_sample, clips_written}
use Rattle.fx_frame_base.specs.Lists.{pieces}

-- how many bytes a frame takes
abbrev pub frame_size : Coding → ℕ → ℕ
frame_size coding channels = channels * width_of coding

-- the samples of a frame, from its bytes
abbrev pub coded_samples : Coding → ℕ → List ℕ → List ℤ
coded_samples coding channels bytes = map (read_sample coding) (pieces (width_of coding) channels bytes)

-- the bytes of a frame
abbrev pub bytes_of : Coding → List ℤ → List ℕ
bytes_of coding samples = flat_map (written_sample coding) samples

-- how many samples of a frame are clipped on writing
abbrev pub clips_of : Coding → List ℤ → ℕ
clips_of coding samples = count_by (clips_written coding) samples

-- these bytes are those of the frames that the samples are, for any number of channels that divides their count
abbrev pub EncodesFrames : Coding → List ℤ → List ℕ → Type 0
EncodesFrames coding samples bytes = (channels n : ℕ) → length samples ≡ n * channels → bytes ≡ flat_map (bytes_of coding) (pieces channels n samples)

-- so many samples of these frames are clipped on writing
abbrev pub CountsFrameClips : Coding → List ℤ → ℕ → Type 0
CountsFrameClips coding samples clips = (channels n : ℕ) → length samples ≡ n * channels → clips ≡ sum_by (clips_of coding) (pieces channels n samples)

-- the largest sample that is not clipped on writing
abbrev pub largest_unclipped : Coding → ℤ
largest_unclipped U8 = pos 0x7f7fffff
largest_unclipped S8 = pos 0x7f7fffff
largest_unclipped S16Le = pos 0x7fff7fff
largest_unclipped S16Be = pos 0x7fff7fff
largest_unclipped S24Le = pos 0x7fffff7f
largest_unclipped S24Be = pos 0x7fffff7f
largest_unclipped S32Le = pos 0x7fffffff
largest_unclipped S32Be = pos 0x7fffffff
