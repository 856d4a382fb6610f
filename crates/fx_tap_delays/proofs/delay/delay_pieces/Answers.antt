use Rattle.std.proofs.Common.{◌^◌, inl, inr, ◌≡◌, ◌+◌, ◌-◌, ◌*◌, ◌≤◌, ℕ, List, length, take, drop, ap, ◌∙◌, arith, ℤ}
use Rattle.std.proofs.lemmas.Nat.{mul-le}
use Rattle.fx_fixed.specs.Extents.{largest}
use Rattle.fx_frame_base.specs.Lists.{pieces}
use Rattle.fx_frame_line.specs.Line.{Frames, pushed_all}
use Rattle.fx_tap_delays.specs.DelayState.{delay_taps}
use Rattle.fx_tap_delays.specs.Near.{delays-near}
use Rattle.fx_tap_delays.proofs.Groups.{group-end, group-put, group-read, group-rest, made-more, same-line}
use Rattle.fx_tap_delays.proofs.delay.delay_pieces.Goals as goal

pub overflow_mul-from : goal.overflow_mul-from
overflow_mul-from c = omega (arith, mul-le c.pieces.done (length c.args.delays.now) (2 ^ 56) 16 (omega arith) c.requires.some.1)

pub overflow_mul-to : goal.overflow_mul-to
overflow_mul-to c = omega (arith, mul-le c.min-now.result (length c.args.delays.now) (2 ^ 56) 16 (omega arith) c.requires.some.1)

pub offset_bounds-input-from : goal.offset_bounds-input-from
offset_bounds-input-from c = omega (arith, mul-le c.pieces.done (length c.args.delays.now) (2 ^ 56) 16 (omega arith) c.requires.some.1)

pub offset_bounds-output-from : goal.offset_bounds-output-from
offset_bounds-output-from c = omega (arith, mul-le c.pieces.done (length c.args.delays.now) (2 ^ 56) 16 (omega arith) c.requires.some.1)

pub overflow_add-to : goal.overflow_add-to
overflow_add-to c = omega (arith, mul-le c.pieces.done (length c.args.delays.now) (2 ^ 56) 16 (omega arith) c.requires.some.1, mul-le c.min-now.result (length c.args.delays.now) (2 ^ 56) 16 (omega arith) c.requires.some.1)

pub delay_piece-requires-clause-late : goal.delay_piece-requires-clause-late
delay_piece-requires-clause-late c = λ k h. elim (c.requires.late k h) [
  | inl none ↦ inl none
  | inr late ↦ inr (omega arith)
]

pub slice_bounds-frames-end : goal.slice_bounds-frames-end
slice_bounds-frames-end c = group-end (length c.args.delays.now) c.pieces.done c.min-now.result c.args.count _ (omega arith) c.requires.input

pub slice_bounds-delay_piece-end : goal.slice_bounds-delay_piece-end
slice_bounds-delay_piece-end c = group-end (length c.args.delays.now) c.pieces.done c.min-now.result c.args.count _ (omega arith) (omega (arith, c.requires.output, c.pieces.auto.output))

pub pieces-preserved : goal.pieces-preserved
pieces-preserved c =
    let ds : List ℕ = c.args.delays.now in
    let ch : ℕ = length ds in
    let done : ℕ = c.pieces.done in
    let n : ℕ = c.min-now.result in
    let out : List ℤ = c.pieces.output in
    let made : List ℤ = c.delay_piece.new.out in
    let start = c.args.line.now in
    let line = c.pieces.line in
    let old = c.pieces.invariant in
    let within : done + n ≤ c.args.count = omega arith in
    let width : done * ch + n * ch - done * ch ≡ n * ch = omega arith in
    let free : c.args.count * ch ≤ length out = omega (arith, c.requires.output, c.pieces.auto.output) in
    let long : largest ds ≤ start.capacity = let e = c.requires.capacity in omega arith in
    let part : List ℤ = take (n * ch) (drop (done * ch) c.args.input.now) in
    let more = group-read ch done n c.args.count within c.args.input.now c.requires.input in
    let ensured = rw width at c.delay_piece.ensures in
    let kept = rw width at c.delay_piece.auto.out in
    let pushes = rw width at c.push_frames.ensures.items in
    let lined : line.channels ≡ ch = ap (λ (l : Frames ℤ). l.channels) old.made.line ∙ c.requires.channels in
    rw width
    record {
      within = within;
      made = made-more delay_taps delays-near ds start line done (done + n) c.args.input.now c.args.output.now out (pieces ch n part) c.len-held.ensures.line.within long more old.made _ _ (pieces ch n made) (group-put ch done n c.args.count within out made free kept) (group-rest ch done n c.args.count within out made free kept c.args.output.now old.made.rest_unchanged) ensured (same-line _ line _ (pushes ∙ ap (λ k. pushed_all line (pieces k n part)) lined) c.push_frames.ensures.capacity c.push_frames.ensures.channels);
    }
