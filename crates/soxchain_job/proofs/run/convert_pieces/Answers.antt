use Rattle.std.proofs.Common.{inr, arith, rules}
use Rattle.std.proofs.lemmas.Grind.{common_steps}
use Rattle.soxchain_job.proofs.Pieces.{more_converted, none_converted}
use Rattle.soxchain_job.proofs.run.convert_pieces.Goals as goal

pub loop-done-init : goal.loop-done-init
loop-done-init g c =
    record {
      converted = none_converted g.C.Conversion.model g.D.Disk.model g.I.Input.model g.job g.met.D.Disk.only_now c.requires.1.1.1.0;
      bound = omega arith;
      pieces = inr (omega arith);
      none = λ _. omega arith;
      advances = λ some. absurd (omega (arith, some));
    }

pub loop-done-preserved : goal.loop-done-preserved
loop-done-preserved g c =
    let more = c.in_ok-advance.ensures in
    record {
      converted = more_converted g.C.Conversion.model g.D.Disk.model g.I.Input.model g.job c.loop-done.invariant.converted (omega arith) more.live more.cause more.reads more.any_moment;
      bound = first_of (search rules, grind (arith, common_steps));
      pieces = first_of (search rules, grind (arith, common_steps));
      none = first_of (search rules, grind (arith, common_steps));
      advances = first_of (search rules, grind (arith, common_steps));
    }
