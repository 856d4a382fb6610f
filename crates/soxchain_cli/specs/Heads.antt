-- The head that is written over the beginning of a named file (this project's profile).
use Rattle.std.specs.Prelude.{ℕ, List, Some}
use Rattle.fx_chain_run.specs.declared.report.Report.{Report}
use Rattle.fx_plan.specs.Planning.{Planning}
use Rattle.fx_sound.specs.Writing.{written_head}

-- a head of the plan's container, coding, rate and channels, with the number of frames that the run gave
abbrev pub true_head : Planning → Report → List ℕ
true_head plan report = written_head plan.kind plan.layout.rate plan.layout.channels plan.coding (Some report.frames_out)
