use Rattle.std.proofs.Common.{take}
use Rattle.soxchain_stream.specs.Appended.{AppendsWords}
use Rattle.soxchain_stream.proofs.frozen.append_words.Given as goal

abbrev pub invariant-words : goal.invariant-words
invariant-words l = AppendsWords l.initial.bytes.items l.bytes.items (take l.word-index l.words)
