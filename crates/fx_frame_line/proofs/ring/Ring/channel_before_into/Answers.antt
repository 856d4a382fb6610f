use Rattle.std.proofs.Common.{rules, ◌≤◌, ℕ, List, ◌≡◌, ◌+◌, ◌*◌, ◌++◌, ◌∙◌, [], ap, sym, arith, length, get_or}
use Rattle.fx_frame_line.specs.Line.{latest_frames}
use Rattle.fx_frame_base.proofs.ChannelPlaces.{others-joined, put-joined}
use Rattle.fx_frame_line.proofs.ManyFrames.{latest-silence, ring-channel_before, ring-channel_from, ring-places_before}
use Rattle.fx_frame_line.proofs.RingLaws.{ring-len}
use Rattle.fx_frame_line.proofs.ring.Ring.channel_before_into.Goals as goal

pub overflow_add-self-inside : goal.overflow_add-self-inside
overflow_add-self-inside g c =
    let held = ring-len _ _ _ _ _ c.self.view_is c.self.invariant in
    omega (arith, held)

pub overflow_mul-silent_frames : goal.overflow_mul-silent_frames
overflow_mul-silent_frames g c =
    let at = ring-places_before _ _ _ _ _ c.self.view_is c.self.invariant c.args.late c.args.count c.silent_before-silent_frames.result c.saturating_sub-first.result c.requires.late c.silent_before-silent_frames.ensures (omega arith) in
    let long = rw (← c.self.view_is) at c.requires.len in
    let inside : c.silent_before-silent_frames.result * c.self.inside.channels ≤ length c.args.out.now = omega (arith, at.whole, long) in
    search rules

pub split_at_mut-silent-requires : goal.split_at_mut-silent-requires
split_at_mut-silent-requires g c =
    let at = ring-places_before _ _ _ _ _ c.self.view_is c.self.invariant c.args.late c.args.count c.silent_before-silent_frames.result c.saturating_sub-first.result c.requires.late c.silent_before-silent_frames.ensures (omega arith) in
    let long = rw (← c.self.view_is) at c.requires.len in
    omega (arith, at.whole, long)

pub overflow_mul-from : goal.overflow_mul-from
overflow_mul-from g c =
    let from = ring-channel_from _ _ _ _ _ c.self.view_is c.self.invariant c.args.late c.args.count c.silent_before-silent_frames.result c.saturating_sub-first.result c.args.channel c.requires.late c.silent_before-silent_frames.ensures (omega arith) c.requires.channel in
    omega (arith, from.0)

pub overflow_add-from : goal.overflow_add-from
overflow_add-from g c =
    let from = ring-channel_from _ _ _ _ _ c.self.view_is c.self.invariant c.args.late c.args.count c.silent_before-silent_frames.result c.saturating_sub-first.result c.args.channel c.requires.late c.silent_before-silent_frames.ensures (omega arith) c.requires.channel in
    omega (arith, from.0)

pub copy_channel-requires : goal.copy_channel-requires
copy_channel-requires g c =
    let at = ring-places_before _ _ _ _ _ c.self.view_is c.self.invariant c.args.late c.args.count c.silent_before-silent_frames.result c.saturating_sub-first.result c.requires.late c.silent_before-silent_frames.ensures (omega arith) in
    let from = ring-channel_from _ _ _ _ _ c.self.view_is c.self.invariant c.args.late c.args.count c.silent_before-silent_frames.result c.saturating_sub-first.result c.args.channel c.requires.late c.silent_before-silent_frames.ensures (omega arith) c.requires.channel in
    let long = rw (← c.self.view_is) at c.requires.len in
    rw c.as_slices.ensures
    record {
      within = from.1;
      small = from.0;
      step = (c.self.invariant.some, c.self.invariant.bound);
      at = rw (← c.self.view_is) at c.requires.channel;
      free = omega (arith, at.whole, long, c.split_at_mut-silent.ensures.back_len);
    }

pub returns : goal.returns
returns g c =
    let silent_frames : ℕ = c.silent_before-silent_frames.result in
    let first : ℕ = c.saturating_sub-first.result in
    let channels : ℕ = c.self.inside.channels in
    let long : length c.fill_channel.new.out ≡ silent_frames * channels = c.fill_channel.auto.out ∙ c.split_at_mut-silent.ensures.front_len in
    let same : channels ≡ c.args.self.now.channels = ap (λ v. v.channels) c.self.view_is in
    let new : List g.row.T.Denot = c.fill_channel.new.out ++ c.copy_channel.new.out in
    let whole = ring-places_before _ _ _ _ _ c.self.view_is c.self.invariant c.args.late c.args.count silent_frames first c.requires.late c.silent_before-silent_frames.ensures (omega arith) in
    record {
      put = λ i h d. ap (λ m. get_or new (i * m + c.args.channel) d) (sym same)
          ∙ put-joined d (λ i. get_or (get_or (latest_frames c.args.silence c.args.late c.args.self.now) i []) c.args.channel d) c.fill_channel.new.out c.copy_channel.new.out channels c.args.channel silent_frames c.args.count (rw (← same) at c.requires.channel) long
          (λ i l. c.fill_channel.ensures.put i l d ∙ sym (latest-silence c.args.self.now c.args.silence d c.args.late i c.args.channel (omega arith) c.requires.channel))
          (λ i l. c.copy_channel.ensures.put i l d ∙ ap (λ xs. get_or xs (first * channels + c.args.channel + i * channels) d) c.as_slices.ensures
          ∙ ring-channel_before _ _ _ _ _ c.self.view_is c.self.invariant c.args.silence d c.args.late c.args.count silent_frames first c.args.channel i c.requires.late c.silent_before-silent_frames.ensures (omega arith) c.requires.channel l) i h;
      others = λ k other d. others-joined d c.split_at_mut-silent.result.0.now c.split_at_mut-silent.result.1.now c.fill_channel.new.out c.copy_channel.new.out channels c.args.channel silent_frames c.args.count whole.bound c.split_at_mut-silent.ensures.front_len long
          (λ k other. c.fill_channel.ensures.others k other d) (λ k other. c.copy_channel.ensures.others k other d) k (rw (← same) at other)
          ∙ ap (λ xs. get_or xs k d) (sym c.split_at_mut-silent.ensures.value);
    }
