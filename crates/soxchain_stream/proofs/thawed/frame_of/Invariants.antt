use Rattle.std.proofs.Common.{◌≡◌, length, take, map}
use Rattle.std.specs.Int.{cast_signed, w64}
use Rattle.soxchain_stream.proofs.thawed.frame_of.Given as goal

abbrev pub invariant-loop-place : goal.invariant-loop-place
invariant-loop-place l = record {
  free : length l.samples ≡ 16;
  samples : take l.place l.samples ≡ map (cast_signed w64) (take l.place l.words);
}
