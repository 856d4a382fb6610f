use Rattle.std.proofs.Common.{arith}
use Rattle.std.proofs.lemmas.Grind.{common_steps}
use Rattle.soxchain_c.proofs.FirstPieces.{ends-next}
use Rattle.soxchain_c.proofs.texts.read_files.Goals as goal

pub loop-end-preserved : goal.loop-end-preserved
loop-end-preserved c = record {
  within = grind (arith, common_steps);
  files = grind (arith, common_steps);
  ends = grind (arith, common_steps);
  found = grind (arith, common_steps, ends-next);
  orders = grind (arith, common_steps);
}
