use Rattle.std.proofs.Common.{◌<◌, length, ◌∙◌, refl, sym, arith}
use Rattle.fx_frame_line.proofs.RingLaws.{ring-channel_fits, ring-channel_is, ring-channel_only, ring-one_fits}
use Rattle.fx_frame_line.proofs.ring.Ring.channel_into.Goals as goal

pub copy_part-requires-clause-within : goal.copy_part-requires-clause-within
copy_part-requires-clause-within g c =
    let fits = ring-one_fits _ _ _ _ _ c.self.view_is c.self.invariant _ c.args.out.now c.requires.len c.in-1.is c.as_slices.ensures in
    omega (arith, fits)

pub copy_channel-requires-clause-within : goal.copy_channel-requires-clause-within
copy_channel-requires-clause-within g c = ring-channel_fits _ _ _ _ _ c.self.view_is c.self.invariant _ _ _ c.args.out.now c.requires.channel c.requires.len c.in-2.is c.as_slices.ensures

pub copy_channel-requires-in_default-clause-within : goal.copy_channel-requires-in_default-clause-within
copy_channel-requires-in_default-clause-within g c = ring-channel_fits _ _ _ _ _ c.self.view_is c.self.invariant _ _ _ c.args.out.now c.requires.channel c.requires.len refl c.as_slices.ensures

pub returns-in-1 : goal.returns-in-1
returns-in-1 g c = ring-channel_only _ _ _ _ _ c.self.view_is c.self.invariant _ _ c.copy_part.new.out _ c.requires.channel (c.copy_part.auto.out ∙ c.requires.len) c.in-1.is c.as_slices.ensures (sym c.copy_part.auto.out) c.copy_part.ensures

pub returns-in-2 : goal.returns-in-2
returns-in-2 g c = ring-channel_is _ _ _ _ _ c.self.view_is c.self.invariant _ _ _ _ c.requires.channel (c.copy_channel.auto.out ∙ c.requires.len) c.in-2.is c.as_slices.ensures (λ k h d. let within : k < length c.args.out.now = omega (arith, c.copy_channel.auto.out) in c.copy_channel.ensures.put k within d)

pub returns-in_default : goal.returns-in_default
returns-in_default g c = ring-channel_is _ _ _ _ _ c.self.view_is c.self.invariant _ _ _ _ c.requires.channel (c.copy_channel-in_default.auto.out ∙ c.requires.len) refl c.as_slices.ensures (λ k h d. let within : k < length c.args.out.now = omega (arith, c.copy_channel-in_default.auto.out) in c.copy_channel-in_default.ensures.put k within d)
