use Rattle.std.proofs.Common.{rules, ◌≡◌, ◌+◌, ◌-◌, ◌*◌, ◌≤◌, ◌++◌, ◌∙◌, ap, sym, refl, ℕ, ℤ, List, length, drop, take, reverse, arith, append_assoc}
use Rattle.std.proofs.lemmas.Grind.{common_steps}
use Rattle.std.proofs.Math.Nat.{add-mul, mul-le-mul_right}
use Rattle.std.proofs.lemmas.List.{drop-drop, length-append, length-drop, length-reverse}
use Rattle.fx_frame_base.specs.Frame.{Samples}
use Rattle.fx_frame_base.specs.Lists.{pieces}
use Rattle.fx_frame_base.proofs.Puts.{pieces-split, drop-put, pieces-take}
use Rattle.fx_frame_line.specs.Line.{Frames, pushed_block}
use Rattle.fx_frame_line.proofs.RingLaws.{keep-twice}
use Rattle.fx_tap_fir.specs.Fir.{FirArguments}
use Rattle.fx_tap_fir.specs.FirState.{fir_taps}
use Rattle.fx_frame.specs.Tapped.{clips_after, frames_after, last_of}
use Rattle.fx_tap_fir.proofs.FirBlocks.{fir-near, pieces-joined}
use Rattle.fx_frame.proofs.TapBlocks.{clips-joined, frames-joined, length-last}
use Rattle.fx_tap_fir.proofs.fir.filter_frames.Goals as goal

pub slice_bounds-frames-end : goal.slice_bounds-frames-end
slice_bounds-frames-end c =
    let more : c.pieces.done + c.min-piece.result ≤ c.args.count = omega (arith, c.min-piece.ensures, c.pieces.invariant.place) in
    let all : (c.pieces.done + c.min-piece.result) * c.args.channels ≤ c.args.count * c.args.channels = mul-le-mul_right c.args.channels more in
    let split = add-mul c.pieces.done c.min-piece.result c.args.channels in
    let fits : c.pieces.done * c.args.channels + c.min-piece.result * c.args.channels ≤ length c.args.input.now = omega (arith, all, split, c.requires.input) in
    search (rules, fits)

pub slice_bounds-filter_piece-end : goal.slice_bounds-filter_piece-end
slice_bounds-filter_piece-end c =
    let more : c.pieces.done + c.min-piece.result ≤ c.args.count = omega (arith, c.min-piece.ensures, c.pieces.invariant.place) in
    let all : (c.pieces.done + c.min-piece.result) * c.args.channels ≤ c.args.count * c.args.channels = mul-le-mul_right c.args.channels more in
    let split = add-mul c.pieces.done c.min-piece.result c.args.channels in
    let fits : c.pieces.done * c.args.channels + c.min-piece.result * c.args.channels ≤ length c.pieces.output = omega (arith, all, split, c.requires.output, c.pieces.auto.output) in
    search (rules, fits)

pub pieces-preserved : goal.pieces-preserved
pieces-preserved c =
    let r : FirArguments = record { channels = c.args.channels; coefficients = reverse c.args.kernel.now } in
    let size : ℕ = c.args.channels in
    let done : ℕ = c.pieces.done in
    let piece : ℕ = c.min-piece.result in
    let items : List Samples = c.args.line.now.items in
    let free : ℕ = c.args.line.now.capacity in
    let old = c.pieces.invariant in
    let more : done + piece ≤ c.args.count = omega (arith, c.min-piece.ensures, old.place) in
    let some : 1 ≤ piece = omega (arith, c.min-piece.ensures, c.max_at_once-maximum.ensures.some, c.pieces-test.true) in
    let all : (done + piece) * size ≤ c.args.count * size = mul-le-mul_right size more in
    let split = add-mul done piece size in
    let read : done * size + piece * size ≤ length c.args.input.now = omega (arith, all, split, c.requires.input) in
    let fits : done * size + piece * size ≤ length c.pieces.output = omega (arith, all, split, c.requires.output, c.pieces.auto.output) in
    let width : done * size + piece * size - done * size ≡ piece * size = omega arith in
    let xs : List Samples = pieces size done c.args.input.now in
    let ys : List Samples = pieces size piece (drop (done * size) c.args.input.now) in
    let left = length-drop (done * size) c.args.input.now in
    let front : pieces size piece (take (piece * size) (drop (done * size) c.args.input.now)) ≡ ys = pieces-take size piece (drop (done * size) c.args.input.now) (omega (arith, left, read)) in
    let long : fir_taps.reach r ≤ free = omega (arith, c.requires.capacity, length-reverse c.args.kernel.now) in
    let held : length items ≤ free = omega (arith, c.requires.full) in
    let both : pieces size (done + piece) c.args.input.now ≡ xs ++ ys = pieces-split size done piece c.args.input.now in
    let part : List ℤ = take (done * size + piece * size - done * size) (drop (done * size) c.args.input.now) in
    let seen : pieces size piece part ≡ ys = ap (λ n. pieces size piece (take n (drop (done * size) c.args.input.now))) width ∙ front in
    let out : List ℤ = c.filter_piece-clips.new.out in
    let rest : List ℤ = drop (done * size + piece * size - done * size) (drop (done * size) c.pieces.output) in
    let sides : length out ≡ piece * size = search (rules, width, fits) in
    let framed : pieces size piece out ≡ frames_after fir_taps r (last_of free (items ++ xs)) ys =
    c.filter_piece-clips.ensures.frames ∙ ap (λ (l : Frames ℤ). frames_after fir_taps r l.items (pieces size piece part)) old.line ∙ ap (frames_after fir_taps r (last_of free (items ++ xs))) seen in
    let clipped : c.filter_piece-clips.result ≡ clips_after fir_taps r (last_of free (items ++ xs)) ys =
    c.filter_piece-clips.ensures.clips ∙ ap (λ (l : Frames ℤ). clips_after fir_taps r l.items (pieces size piece part)) old.line ∙ ap (clips_after fir_taps r (last_of free (items ++ xs))) seen in
    let after : List Samples → Frames ℤ = λ fs. record c.args.line.now { items = last_of free (items ++ fs) } in
    let pushed : c.push_frames.new.self ≡ record c.pieces.line { items = pushed_block c.pieces.line piece part } = search (rules, c.push_frames.ensures) in
    let line : c.push_frames.new.self ≡ after (xs ++ ys) =
    pushed ∙ ap (λ (l : Frames ℤ). record l { items = pushed_block l piece part }) old.line
    ∙ ap (λ fs. record c.args.line.now { items = fs }) (ap (λ fs. last_of free (last_of free (items ++ xs) ++ fs)) (rw (← c.requires.channels) seen) ∙ keep-twice free (items ++ xs) ys ∙ ap (last_of free) (append_assoc items xs ys)) in
    let new : List ℤ = take (done * size) c.pieces.output ++ (out ++ rest) in
    let joined = pieces-joined size done piece c.pieces.output out rest new (omega (arith, fits)) sides refl in
    let put : new ≡ take (done * size) c.pieces.output ++ out ++ drop (done * size + length out) c.pieces.output =
    sym (append_assoc (take (done * size) c.pieces.output) out rest)
    ∙ ap (λ l. take (done * size) c.pieces.output ++ out ++ l) (drop-drop (done * size + piece * size - done * size) (done * size) c.pieces.output ∙ ap (λ n. drop (done * size + n) c.pieces.output) (width ∙ sym sides)) in
    record {
      place = more;
      frames = joined ∙ ap (λ ps. ps ++ pieces size piece out) old.frames ∙ ap (λ ps. frames_after fir_taps r items xs ++ ps) framed
          ∙ sym (ap (frames_after fir_taps r items) both ∙ frames-joined fir_taps fir-near r free xs ys items held long);
      rest_unchanged = rw split (drop-put (done * size) (piece * size) c.args.output.now c.pieces.output out new sides fits put old.rest_unchanged);
      counted = ap (λ n. n + c.filter_piece-clips.result) old.counted ∙ ap (λ n. clips_after fir_taps r items xs + n) clipped
          ∙ sym (ap (clips_after fir_taps r items) both ∙ clips-joined fir_taps fir-near r free xs ys items held long);
      bound = omega (arith, old.bound, c.filter_piece-clips.ensures.bound);
      line = line ∙ sym (ap after both);
      full = omega (arith, ap (λ (l : Frames ℤ). length l.items) line, length-last free (items ++ (xs ++ ys)), length-append items (xs ++ ys), c.requires.full);
    }

pub overflow_mul-to : goal.overflow_mul-to
overflow_mul-to c = grind (arith, common_steps)

pub overflow_add-to : goal.overflow_add-to
overflow_add-to c = grind (arith, common_steps)
