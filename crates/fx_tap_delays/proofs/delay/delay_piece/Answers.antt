-- One channel more is delayed, or stands as it came.
use Rattle.std.proofs.Common.{ap, pos, get_or, ◌*◌, ◌≡◌, ◌+◌, ◌<◌, ◌≤◌, ◌++◌, ℕ, ℤ, List, length, refl, sym, ◌∙◌, arith, slice_index}
use Rattle.fx_frame_base.proofs.ChannelPlaces.{other-channel}
use Rattle.fx_frame_base.specs.Frame.{Samples}
use Rattle.fx_frame_base.specs.Lists.{pieces}
use Rattle.fx_frame_base.proofs.Pieces.{length-pieces}
use Rattle.fx_frame.specs.History.{sample_before}
use Rattle.fx_tap_delays.proofs.DelayPieces.{delay-frames, late-by}
use Rattle.fx_tap_delays.proofs.EchoPieces.{coming-sample, late-sample}
use Rattle.fx_frame_base.proofs.ListPlaces.{channel-put}
use Rattle.fx_tap_delays.proofs.delay.delay_piece.Goals as goal
use Rattle.fx_tap_delays.proofs.delay.delay_piece.Goals.{then-late-ne0, else-late-ne0}

pub channels-preserved : goal.channels-preserved
channels-preserved c =
    let ds : List ℕ = c.args.delays.now in
    let ch : ℕ = length ds in
    let n : ℕ = c.args.count in
    let k : ℕ = c.channels.channel in
    let inside : k < ch = c.channels-test.true in
    let items : List Samples = c.args.line.now.items in
    let xs : List Samples = pieces ch n c.args.frames.now in
    let old = c.channels.invariant in
    let F : ℕ → ℕ → ℤ = λ i q. sample_before (items ++ xs) (length items + i) (slice_index ds q) q in
    elim c.if-late-ne0.branch [
      | then-late-ne0 w ↦
          let some : 0 < slice_index ds k = omega (arith, w.if-late-ne0.true) in
          let late : n ≤ slice_index ds k = late-by (slice_index ds k) n (c.requires.late k inside) some in
          let same : c.args.line.now.channels ≡ ch = c.requires.channels in
          let new : List ℤ = w.channel_before_into.new.out in
          let stay = rw same at w.channel_before_into.ensures.others in
          let others : (i q : ℕ) → q < ch → (q ≡ k → ⊥) → get_or new (i * ch + q) (pos 0) ≡ get_or c.channels.out (i * ch + q) (pos 0) = λ i q in_q other. stay (i * ch + q) (other-channel ch k n i q inside in_q other) (pos 0) in
          rw w.out-is
          record {
            done = channel-put F c.channels.out new ch k n inside (λ i l. ap (λ m. get_or new (i * m + k) (pos 0)) (sym same) ∙ w.channel_before_into.ensures.put i l (pos 0) ∙ late-sample c.args.line.now xs (slice_index ds k) n i k late l (omega (arith, same, inside))) others old.done;
            left = λ i q within later. others i q within (λ e. absurd (omega (arith, e, later))) ∙ old.left i q within (omega (arith, later));
          }
      | else-late-ne0 w ↦
          let none : slice_index ds k ≡ 0 = omega (arith, w.if-late-ne0.false) in
          rw w.out-is
          record {
            done = channel-put F c.channels.out c.channels.out ch k n inside (λ i l. old.left i k inside (omega arith) ∙ sym (rw none (coming-sample ch n i k items c.args.frames.now l inside))) (λ i q within other. refl) old.done;
            left = λ i q within later. old.left i q within (omega (arith, later));
          }
    ]

pub returns : goal.returns
returns c =
    let ds : List ℕ = c.args.delays.now in
    let ch : ℕ = length ds in
    let xs : List Samples = pieces ch c.args.count c.args.frames.now in
    let all : ch ≤ c.channels.channel = omega (arith, c.channels-test.false) in
    delay-frames ds c.args.line.now.items xs c.args.count c.channels.out (length-pieces ch c.args.count c.args.frames.now) (omega (arith, c.requires.out, c.channels.auto.out, c.copy_from_slice.auto.self)) (λ i k l within. c.channels.invariant.done i k l (omega (arith, within, all)))
