use Rattle.std.proofs.Common.{◌≡◌, ◌++◌, ◌^◌, flat_map, length}
use Rattle.soxchain_stream.specs.Frozen.{word}
use Rattle.soxchain_stream.proofs.Words.{AreBelow}
use Rattle.soxchain_stream.proofs.thawed.to_words.Given as goal

abbrev pub invariant-loop-next : goal.invariant-loop-next
invariant-loop-next l = record {
  words : flat_map word l.words.items ++ l.rest ≡ l.bytes;
  below : AreBelow 256 l.rest;
  words_below : AreBelow (2 ^ 64) l.words.items;
}

abbrev pub decreases-loop-next : goal.decreases-loop-next
decreases-loop-next l = length l.rest
