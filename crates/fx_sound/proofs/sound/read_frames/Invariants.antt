use Rattle.std.proofs.Common.{◌≡◌, ◌*◌, ◌≤◌}
use Rattle.fx_sound.specs.Container.{first_frames, after_frames}
use Rattle.fx_sound.specs.Known.{IfKnown}
use Rattle.fx_sound.specs.Runs.{RanFrames}
use Rattle.fx_sound.specs.Sound.{size_of}
use Rattle.fx_sound.specs.Source.{to_come, Takes}
use Rattle.fx_frame_base.specs.declared.stage.TheConstants.{MAX_FRAMES}
use Rattle.fx_sound.proofs.sound.read_frames.Given as goal

abbrev pub invariant-loop-turn : goal.invariant-loop-turn
invariant-loop-turn g l = record {
  now : l.progress ≡ after_frames l.initial.progress l._turn;
  maximum : l.progress.frames ≤ MAX_FRAMES;
  ran : IfKnown (to_come g.R.ByteIn.reads.rest l.initial.source) (λ bytes. RanFrames l.initial.progress l.progress bytes l._turn (to_come g.R.ByteIn.reads.rest l.source));
  items : IfKnown (to_come g.R.ByteIn.reads.rest l.initial.source) (λ bytes. l.frames.items ≡ first_frames l.initial.progress.coding l.initial.progress.channels l._turn bytes);
  failures : g.R.ByteIn.reads.failures l.source.reader ≡ g.R.ByteIn.reads.failures l.initial.source.reader;
  delivered : Takes g.R.ByteIn.reads.delivered l.initial.source l.source (l._turn * size_of l.initial.progress);
}
