use Rattle.std.proofs.Common.{◌≡◌, ◌++◌, ◌^◌, List, flat_map, length}
use Rattle.std.specs.List.{All}
use Rattle.fx_frame_base.specs.Frame.{IsWideFrame, Samples}
use Rattle.soxchain_stream.specs.Frozen.{frame_words}
use Rattle.soxchain_stream.proofs.Words.{AreBelow}
use Rattle.soxchain_stream.proofs.thawed.frames_of.Given as goal

abbrev pub invariant-loop-count : goal.invariant-loop-count
invariant-loop-count l = record {
  frames : flat_map frame_words l.frames.items ++ l.rest ≡ l.words;
  below : AreBelow (2 ^ 64) l.rest;
  wide : All IsWideFrame l.frames.items;
  left : (frames : List Samples) → All IsWideFrame frames → flat_map frame_words frames ≡ l.words → (others : List Samples) × All IsWideFrame others × (flat_map frame_words others ≡ l.rest) × (frames ≡ l.frames.items ++ others);
}

abbrev pub decreases-loop-count : goal.decreases-loop-count
decreases-loop-count l = length l.rest
