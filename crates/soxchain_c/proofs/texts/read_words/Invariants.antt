use Rattle.std.proofs.Common.{◌≡◌, ◌++◌, ◌≤◌, length}
use Rattle.fx_plan.specs.Line.{texts}
use Rattle.soxchain_c.specs.Texts.{AreEnds, AreTexts, FindsBadEnd, FindsNoText, FindsTexts, cut}
use Rattle.soxchain_c.proofs.texts.read_words.Given as goal

abbrev pub invariant-loop-end : goal.invariant-loop-end
invariant-loop-end l = record {
  within : l.start ≤ length l.bytes;
  words : texts l.words.items ++ cut l.bytes l.start l.rest ≡ cut l.bytes 0 l.ends;
  ends : AreEnds l.bytes l.start l.rest → AreEnds l.bytes 0 l.ends;
  bad_end : FindsBadEnd l.bytes l.start l.rest → FindsBadEnd l.bytes 0 l.ends;
  no_text : FindsNoText l.bytes l.start l.rest → FindsNoText l.bytes 0 l.ends;
  texts : FindsTexts l.bytes l.start l.rest → FindsTexts l.bytes 0 l.ends;
  are_texts : AreTexts (cut l.bytes l.start l.rest) → AreTexts (cut l.bytes 0 l.ends);
}

abbrev pub decreases-loop-end : goal.decreases-loop-end
decreases-loop-end l = length l.rest
