use Rattle.std.proofs.Common.{◌≡◌, ◌+◌, ◌*◌, pos, take}
use Rattle.fx_frame_line.specs.Line.{channel_of}
use Rattle.fx_frame_base.specs.Lists.{pieces}
use Rattle.fx_tap_fir.proofs.channels.take_channel.Given as goal

abbrev pub invariant-frames : goal.invariant-frames
invariant-frames l = record {
  at_is : l.at ≡ l.place * l.channels + l.channel;
  done : take l.place l.out ≡ channel_of (pieces l.channels l.place l.frames) l.channel (pos 0);
}
