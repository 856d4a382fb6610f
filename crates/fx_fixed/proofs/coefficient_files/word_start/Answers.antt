use Rattle.fx_fixed.proofs.coefficient_files.word_start.Goals as goal
use Rattle.fx_fixed.proofs.Wording.{words_step}

pub loop-i-preserved : goal.loop-i-preserved
loop-i-preserved c =
    words_step c.args.text.now c.args.text.now c.loop-i.i c.loop-i.in_comment c.is_commented-in_comment.result c.loop-i-test.true c.is_commented-in_comment.ensures c.if-not-is_skipped.ensures c.loop-i.invariant
