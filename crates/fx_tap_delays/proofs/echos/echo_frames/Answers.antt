use Rattle.std.proofs.Common.{◌≡◌, ◌+◌, ◌*◌, ◌<◌, ◌≤◌, ◌^◌, ℕ, ℤ, pos, List, length, ap, ◌∙◌, arith, slice_index_or, unsigned_abs}
use Rattle.fx_frame_base.specs.Lists.{pieces}
use Rattle.fx_frame_line.specs.Line.{Frames}
use Rattle.fx_frame_base.proofs.Pieces.{length-pieces}
use Rattle.fx_tap_delays.specs.EchosState.{IsEchoLine, delay_at, line_at, series_lines_after}
use Rattle.fx_tap_delays.proofs.EchosLaws.{series_lines-sound}
use Rattle.fx_tap_delays.proofs.EchosPieces.{piece-small}
use Rattle.fx_tap_delays.proofs.echos.echo_frames.Goals.{else-samples-le-SAMPLES_OF_BATCH, then-samples-le-SAMPLES_OF_BATCH}
use Rattle.fx_tap_delays.proofs.echos.echo_frames.Goals as goal

-- the lines after a batch
batch-sound : (ch came n : ℕ) (delay : ℕ → ℕ) (first new : List (Frames ℤ)) (samples : List ℤ) → length first ≤ 7 → length samples ≡ n * ch → ((k : ℕ) → k < length samples → unsigned_abs (slice_index_or samples k (pos 0)) ≤ 2 ^ 31)
    → new ≡ series_lines_after ch first (pieces ch n samples) → ((j : ℕ) → j < length first → IsEchoLine ch came j (delay j) (line_at first j)) → (j : ℕ) → j < length new → IsEchoLine ch (came + n) j (delay j) (line_at new j)
batch-sound ch came n delay first new samples bound size small went h j lt =
    let count : length (pieces ch n samples) ≡ n = length-pieces ch n samples in
    let inside : j < length (series_lines_after ch first (pieces ch n samples)) = omega (arith, lt, ap length went) in
    let is = series_lines-sound ch came delay first (pieces ch n samples) bound (λ i l. piece-small ch n (2 ^ 31) samples (omega (arith, size)) small i (omega (arith, l, count))) h j inside in
    rw went (rw count at is)

pub echo_batch-requires-clause-late : goal.echo_batch-requires-clause-late
echo_batch-requires-clause-late c j lt =
    let inside : j < length c.args.taps.now = omega (arith, lt, c.requires.taps) in
    let late = c.are_late.ensures c.if-are_late.true j (0, pos 0) inside in
    let full = (c.requires.lines.1 j lt).capacity in
    omega (arith, late, full)

pub echo_batch-requires-else-samples-le-SAMPLES_OF_BATCH-clause-late : goal.echo_batch-requires-else-samples-le-SAMPLES_OF_BATCH-clause-late
echo_batch-requires-else-samples-le-SAMPLES_OF_BATCH-clause-late c j lt =
    let inside : j < length c.args.taps.now = omega (arith, lt, c.requires.taps) in
    let late = c.are_late.ensures c.if-are_late.true j (0, pos 0) inside in
    let full = (c.requires.lines.1 j lt).capacity in
    omega (arith, late, full)

pub returns-then-are_late-clause-sound : goal.returns-then-are_late-clause-sound
returns-then-are_late-clause-sound c came h j lt =
    let bound : length c.args.lines.now ≤ 7 = omega (arith, c.requires.arguments.taps_max) in
    elim c.if-samples-le-SAMPLES_OF_BATCH.branch [
      | then-samples-le-SAMPLES_OF_BATCH w ↦ batch-sound c.args.channels came c.args.count (delay_at c.args.taps.now) c.args.lines.now c.if-samples-le-SAMPLES_OF_BATCH.lines c.args.samples.now bound c.requires.samples w.echo_batch.ensures.small (w.lines-is ∙ w.echo_batch.ensures.lines) h j lt
      | else-samples-le-SAMPLES_OF_BATCH w ↦ batch-sound c.args.channels came c.args.count (delay_at c.args.taps.now) c.args.lines.now c.if-samples-le-SAMPLES_OF_BATCH.lines c.args.samples.now bound c.requires.samples w.echo_batch-else-samples-le-SAMPLES_OF_BATCH.ensures.small (w.lines-is ∙ w.echo_batch-else-samples-le-SAMPLES_OF_BATCH.ensures.lines) h j lt
    ]
