use Rattle.std.proofs.Common.{◌≡◌, ◌++◌, ◌≤◌, length}
use Rattle.fx_plan.specs.Plans.{plan_bytes}
use Rattle.soxchain_c.specs.Texts.{AreEnds, FindsEnds, cut}
use Rattle.soxchain_c.proofs.texts.read_files.Given as goal

abbrev pub invariant-loop-end : goal.invariant-loop-end
invariant-loop-end l = record {
  within : l.start ≤ length l.bytes;
  files : plan_bytes l.files.items ++ cut l.bytes l.start l.rest ≡ cut l.bytes 0 l.ends;
  ends : AreEnds l.bytes l.start l.rest → AreEnds l.bytes 0 l.ends;
  found : FindsEnds l.bytes l.start l.rest → FindsEnds l.bytes 0 l.ends;
  orders : AreEnds l.bytes 0 l.ends → AreEnds l.bytes l.start l.rest;
}

abbrev pub decreases-loop-end : goal.decreases-loop-end
decreases-loop-end l = length l.rest
