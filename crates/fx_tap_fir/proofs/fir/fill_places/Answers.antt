use Rattle.std.proofs.Common.{◌≡◌, ap, ℕ, ℤ, pos, List, length, arith, slice_index_or}
use Rattle.std.proofs.lemmas.List.{length-map}
use Rattle.fx_frame_base.specs.Frame.{Samples}
use Rattle.fx_frame_base.specs.Lists.{pieces}
use Rattle.fx_tap_fir.proofs.FirBlocks.{none-left, places-left, window-joined}
use Rattle.fx_tap_fir.proofs.fir.fill_places.Goals as goal

pub returns : goal.returns
returns c =
    let items : List Samples = c.args.line.now.items in
    let xs : List Samples = pieces c.args.channels c.args.count c.args.frames.now in
    let held : ℕ = c.len-held.result in
    let held_samples : List ℤ = c.channel_into.new.samples in
    let size : held ≡ length items = c.len-held.ensures.count in
    let long : length held_samples ≡ held = omega (arith, size, ap length c.channel_into.ensures, length-map items (λ f. slice_index_or f c.args.channel (pos 0))) in
    let left = places-left held_samples c.args.window.now held c.args.count long (omega (arith, c.requires.window, size)) in
    let column = rw left at c.take_channel.ensures in
    window-joined items xs c.args.channel held held_samples _ c.take_channel.new.out _ c.channel_into.ensures size column (none-left _ held)
