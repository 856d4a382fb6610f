use Rattle.std.proofs.Common.{◌≡◌, ◌+◌, ◌-◌, ◌*◌, ◌≤◌, ◌<◌, ◌^◌, ℕ, pos, List, length, take, drop, sym, ap, ◌∙◌, arith, ℤ}
use Rattle.std.proofs.lemmas.List.{length-drop, length-take-le}
use Rattle.std.proofs.Math.Nat.{mul-le-mul_left}
use Rattle.fx_frame_base.specs.Frame.{Samples}
use Rattle.fx_frame_line.specs.Line.{Frames}
use Rattle.fx_frame_base.specs.Lists.{pieces}
use Rattle.fx_frame_base.proofs.Pieces.{length-pieces}
use Rattle.fx_tap_delays.specs.EchosState.{delay_at, series_lines_after}
use Rattle.fx_tap_delays.proofs.EchosGroups.{sent-clips, sent-frames, sent-lines}
use Rattle.fx_tap_delays.proofs.EchosLaws.{series_lines-sound}
use Rattle.fx_tap_delays.proofs.EchosPieces.{piece-small}
use Rattle.fx_tap_delays.proofs.Groups.{group-end, group-put, group-read, group-rest}
use Rattle.fx_tap_delays.proofs.echos.echo_many.Goals as goal

pub slice_bounds-frames-end : goal.slice_bounds-frames-end
slice_bounds-frames-end c = group-end c.args.channels c.pieces.done c.min-now.result c.args.count _ (omega arith) c.requires.input

pub slice_bounds-out-end : goal.slice_bounds-out-end
slice_bounds-out-end c = group-end c.args.channels c.pieces.done c.min-now.result c.args.count _ (omega arith) (omega (arith, c.requires.output, c.pieces.auto.output))

pub echo_piece-clips-requires-clause-lines : goal.echo_piece-clips-requires-clause-lines
echo_piece-clips-requires-clause-lines c j lt =
    let is = c.pieces.invariant.sound c.requires.lines.0 c.requires.lines.1 j lt in
    record { channels_are = is.channels_are; small = is.small }

pub echo_piece-clips-requires-clause-late : goal.echo_piece-clips-requires-clause-late
echo_piece-clips-requires-clause-late c j lt =
    let is = c.pieces.invariant.sound c.requires.lines.0 c.requires.lines.1 j lt in
    let inside : j < length c.args.taps.now = omega (arith, lt, c.pieces.auto.lines, c.requires.taps.0) in
    let late = c.frames_of_piece-maximum.ensures.late j (0, pos 0) inside in
    let full = is.capacity in
    omega (arith, late, full, c.min-now.ensures)

pub pieces-preserved : goal.pieces-preserved
pieces-preserved c =
    let ch : ℕ = c.args.channels in
    let done : ℕ = c.pieces.done in
    let n : ℕ = c.min-now.result in
    let input : List ℤ = c.args.input.now in
    let out : List ℤ = c.pieces.output in
    let made : List ℤ = c.echo_piece-clips.new.out in
    let first : List (Frames ℤ) = c.args.lines.now in
    let now : List (Frames ℤ) = c.pieces.lines in
    let old = c.pieces.invariant in
    let within : done + n ≤ c.args.count = omega arith in
    let width : done * ch + n * ch - done * ch ≡ n * ch = omega arith in
    let part : List ℤ = take (n * ch) (drop (done * ch) input) in
    let ys : List Samples = pieces ch n part in
    let inside = group-end ch done n c.args.count (length input) within c.requires.input in
    let more = group-read ch done n c.args.count within input c.requires.input in
    let free : c.args.count * ch ≤ length out = omega (arith, c.requires.output, c.pieces.auto.output) in
    let ensured = rw width at c.echo_piece-clips.ensures in
    let put = rw width at c.echo_piece-clips.auto.out in
    let bound : n * ch ≤ n * 16 = mul-le-mul_left n c.requires.channels.1 in
    let lines : c.echo_piece-clips.new.lines ≡ series_lines_after ch now ys = ensured.lines in
    let kept : length now ≡ length first = c.pieces.auto.lines in
    let long : length part ≡ n * ch = length-take-le (n * ch) (drop (done * ch) input) (omega (arith, inside, length-drop (done * ch) input)) in
    let count : length ys ≡ n = length-pieces ch n part in
    rw width
    record {
      within = within;
      lines = lines ∙ sent-lines ch done (done + n) first now input ys more old.lines;
      made = λ a suits wide many. sent-frames ch done (done + n) first now input ys more old.lines a wide out _ (pieces ch n made) (old.made a suits wide many) (group-put ch done n c.args.count within out made free put) (ensured.frames a suits wide (many ∙ sym kept));
      counted = λ a suits wide many. sent-clips ch done (done + n) first now input ys more old.lines a wide c.pieces.clips c.echo_piece-clips.result (old.counted a suits wide many) (ensured.clips a suits wide (many ∙ sym kept));
      bound = omega (arith, old.bound, ensured.bound, bound);
      rest_unchanged = group-rest ch done n c.args.count within out made free put c.args.output.now old.rest_unchanged;
      sound = λ came h j lt.
          let inside : j < length (series_lines_after ch now ys) = omega (arith, lt, ap length lines) in
          let sum : came + done + length ys ≡ came + (done + n) = omega (arith, count) in
          let is = series_lines-sound ch (came + done) (delay_at c.args.taps.now) now ys (omega (arith, kept, c.requires.taps.1)) (λ i l. piece-small ch n (2 ^ 31) part (omega (arith, long)) ensured.samples i (omega (arith, l, count))) (old.sound came h) j inside in
          rw lines (rw sum at is);
    }

pub returns-clause-sound : goal.returns-clause-sound
returns-clause-sound c came h j lt =
    let all : c.pieces.done ≡ c.args.count = omega arith in
    rw all at c.pieces.invariant.sound came h j lt
