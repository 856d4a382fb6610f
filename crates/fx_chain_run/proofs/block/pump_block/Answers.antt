use Rattle.std.proofs.Common.{◌∙◌, ap, arith, length}
use Rattle.std.proofs.lemmas.List.{length-drop}
use Rattle.std.proofs.lemmas.Result.{MatchResult-from_err}
use Rattle.fx_sound.specs.Sound.{Reading, size_of}
use Rattle.fx_chain_run.proofs.Blocks.{Pumped-block, Pumped-cut, Pumped-sent, Pumped-stuck}
use Rattle.fx_chain_run.proofs.Waiting.{held-after}
use Rattle.fx_chain_run.specs.Block.{PassedHeld}
use Rattle.fx_chain_run.proofs.block.pump_block.Given as given
use Rattle.fx_chain_run.proofs.block.pump_block.Goals as goal
use Rattle.fx_chain_run.proofs.block.pump_block.Goals.{After-pass_block}

-- the frames that were held and taken
passed : (g : given.Over) (c : After-pass_block g) → PassedHeld c.args.source.now c.pass_block.new.source c.args.progress.now c.pass_block.new.progress
passed g c = record {
  more = let count = ap (λ (p : Reading). p.frames) c.pass_block.ensures.blocked.counted in omega (arith, count);
  reader = c.pass_block.ensures.blocked.reader;
  short = c.pass_block.ensures.blocked.short;
  held = held-after c.args.progress.now.frames c.pass_block.ensures.blocked.count _ (size_of c.args.progress.now) (length c.args.source.now.bytes) _
      (ap (λ (p : Reading). p.frames) c.pass_block.ensures.blocked.counted) (ap length c.pass_block.ensures.blocked.bytes ∙ length-drop _ c.args.source.now.bytes) c.pass_block.ensures.blocked.held.there;
}

pub returns-clause-pumped : goal.returns-clause-pumped
returns-clause-pumped g c = λ first p.
    let passed = c.pass_block.ensures in
    let drained = c.in_ok-drain.ensures in
    let pumped = Pumped-block g.S.Stage.acts g.R.ReadBeside.reads first _ _ _ _ _ _ _ _ _ _ _ _ p passed.blocked _ _ _ _ (rw passed.coding at drained.drained) drained.waits drained.free drained.bound in
    rw (drained.coding ∙ passed.coding) (Pumped-sent g.S.Stage.acts g.R.ReadBeside.reads first _ _ _ _ _ _ _ _ _ pumped c.make_way.ensures.sent c.make_way.ensures.count)

pub returns-in_err-drain-clause-cut_off : goal.returns-in_err-drain-clause-cut_off
returns-in_err-drain-clause-cut_off g c = MatchResult-from_err _ _ _ c.from_residual.ensures.0 (λ _ first p.
    let passed = c.pass_block.ensures in
    Pumped-cut g.S.Stage.acts g.R.ReadBeside.reads first _ _ _ _ _ _ _ _ _ _ _ _ p passed.blocked _ _ _ _ (rw passed.coding at c.in_err-drain.ensures.cut_off))

pub returns-in_err-make_way-clause-cut_off : goal.returns-in_err-make_way-clause-cut_off
returns-in_err-make_way-clause-cut_off g c = MatchResult-from_err _ _ _ c.from_residual-in_err-make_way.ensures.0 (λ _ first p.
    let passed = c.pass_block.ensures in
    let drained = c.in_ok-drain.ensures in
    let pumped = Pumped-block g.S.Stage.acts g.R.ReadBeside.reads first _ _ _ _ _ _ _ _ _ _ _ _ p passed.blocked _ _ _ _ (rw passed.coding at drained.drained) drained.waits drained.free drained.bound in
    Pumped-stuck g.S.Stage.acts g.R.ReadBeside.reads first _ _ _ _ _ _ _ _ _ pumped c.make_way.ensures.sent)

pub returns-in_err-drain-clause-passed : goal.returns-in_err-drain-clause-passed
returns-in_err-drain-clause-passed g c = passed g (goal.at.returns-in_err-drain-clause-passed g c).After-pass_block

pub returns-in_err-make_way-clause-passed : goal.returns-in_err-make_way-clause-passed
returns-in_err-make_way-clause-passed g c = passed g (goal.at.returns-in_err-make_way-clause-passed g c).After-pass_block

pub returns-clause-passed : goal.returns-clause-passed
returns-clause-passed g c = passed g (goal.at.returns-clause-passed g c).After-pass_block
