use Rattle.fx_sound.proofs.NextFrames.{IfNone-both, MetEnd-read}
use Rattle.fx_sound.proofs.progress.next_frame.Goals as goal

pub returns-in-Ok-take_frame-clause-end : goal.returns-in-Ok-take_frame-clause-end
returns-in-Ok-take_frame-clause-end g c = IfNone-both c.in-Ok-take_frame.next _ _ _ c.in-Ok-take_frame.ensures.end c.in-Ok-take_frame.ensures.over
    (λ met over _. MetEnd-read g.R.ByteIn.reads c.args.source.now c.hold.new.self c.take_frame.new.source c.args.progress.now c.take_frame.new.progress c.wanted.result c.wanted.ensures.value c.in-Ok.ensures.stays c.in-Ok.ensures.all met over)
