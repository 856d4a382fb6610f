use Rattle.fx_frame_base.specs.Stage.{IsLined}
use Rattle.fx_frame_base.proofs.Evenly.{Evenly}
use Rattle.fx_frame_base.proofs.feed.Feeds.pass_frames.Given as goal

abbrev pub invariant-frames : goal.invariant-frames
invariant-frames g l = record {
  even : Evenly g.Self.Stage.acts l.fn.self l.count l.fn.samples l.self l.samples l.turn;
  lined : IsLined g.Self.Stage.acts l.self;
}
