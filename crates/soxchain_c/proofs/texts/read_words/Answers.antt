use Rattle.std.proofs.Common.{◌∷◌, arith, slice_range}
use Rattle.std.proofs.lemmas.Grind.{common_steps}
use Rattle.std.specs.Str.{IsUtf8}
use Rattle.soxchain_c.specs.Texts.{FindsTexts}
use Rattle.soxchain_c.proofs.FirstPieces.{texts-next}
use Rattle.soxchain_c.proofs.texts.read_words.Goals as goal

pub loop-end-preserved : goal.loop-end-preserved
loop-end-preserved c = record {
  within = grind (arith, common_steps);
  words = grind (arith, common_steps);
  ends = grind (arith, common_steps);
  bad_end = grind (arith, common_steps);
  no_text = grind (arith, common_steps);
  texts = λ found.
      let text : IsUtf8 (slice_range c.args.bytes.now c.loop-end.start c.in-Some.end.now) = grind (arith, common_steps) in
      let next : FindsTexts c.args.bytes.now c.loop-end.start (c.in-Some.end.now ∷ c.in-Some.more.now) = texts-next _ _ _ _ (omega arith) (omega arith) text found in
      c.loop-end.invariant.texts (grind (arith, common_steps));
  are_texts = grind (arith, common_steps);
}
