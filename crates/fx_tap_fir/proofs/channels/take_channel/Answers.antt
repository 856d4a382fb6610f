use Rattle.std.proofs.Common.{rules, ◌≡◌, ◌+◌, ◌*◌, ◌<◌, ◌∙◌, ap, sym, ℕ, ℤ, pos, List, [], ◌∷◌, ◌++◌, length, take, drop, set, get_or, arith, slice_index_or, refl, add-one, to_z, of_z, w32}
use Rattle.std.proofs.Math.Nat.{suc-mul}
use Rattle.std.proofs.lemmas.List.{get_or-drop, get_or-take, map-append, take_more_set}
use Rattle.fx_frame_base.specs.Frame.{Samples}
use Rattle.fx_frame_line.specs.Line.{channel_of}
use Rattle.fx_frame_base.specs.Lists.{pieces}
use Rattle.fx_frame_base.proofs.ChannelPlaces.{within-frames}
use Rattle.fx_frame_base.proofs.Puts.{pieces-more}
use Rattle.fx_tap_fir.proofs.channels.take_channel.Goals as goal

-- one more frame's sample
channel-more : (frames out : List ℤ) (channels channel place at : ℕ) (y : ℤ) → channel < channels → at ≡ place * channels + channel → y ≡ get_or frames at (pos 0) → place < length out
    → take place out ≡ channel_of (pieces channels place frames) channel (pos 0) → take (place + 1) (set out place y) ≡ channel_of (pieces channels (place + 1) frames) channel (pos 0)
channel-more frames out channels channel place at y inside is sample free done =
    let x : Samples = take channels (drop (place * channels) frames) in
    let more : pieces channels (place + 1) frames ≡ pieces channels place frames ++ x ∷ [] = pieces-more channels place (place * channels) frames refl in
    let here : y ≡ get_or x channel (pos 0) = sample ∙ ap (λ i. get_or frames i (pos 0)) is ∙ sym (get_or-take channels (drop (place * channels) frames) channel (pos 0) inside ∙ get_or-drop (place * channels) frames channel (pos 0)) in
    take_more_set out place y free ∙ ap (λ l. l ++ y ∷ []) done ∙ ap (λ z. channel_of (pieces channels place frames) channel (pos 0) ++ z ∷ []) here
    ∙ sym (ap (λ fs. channel_of fs channel (pos 0)) more ∙ map-append (λ f. get_or f channel (pos 0)) (pieces channels place frames) (x ∷ []))

pub frames-preserved : goal.frames-preserved
frames-preserved c =
    let k : ℕ = c.frames.place in
    let old = c.frames.invariant in
    let y : ℤ = slice_index_or c.args.frames.now c.frames.at (pos 0) in
    let free : k < length c.frames.out = omega (arith, c.frames-test.true) in
    let there : k < length c.args.out.now = omega (arith, free, c.frames.auto.out) in
    let far = within-frames c.args.channels c.args.channel k (length c.args.out.now) c.requires.channel there in
    let inside : c.frames.at < length c.args.frames.now = omega (arith, far, old.at_is, c.requires.frames) in
    let back : to_z w32 (of_z w32 y) ≡ y = search rules in
    record {
      at_is = omega (arith, old.at_is, suc-mul k c.args.channels, add-one k);
      done = rw back (channel-more c.args.frames.now c.frames.out c.args.channels c.args.channel k c.frames.at y c.requires.channel old.at_is refl free old.done);
    }
