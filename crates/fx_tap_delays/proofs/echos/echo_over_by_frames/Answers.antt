use Rattle.std.proofs.Common.{add-zero, ◌≡◌, ◌+◌, ◌-◌, ◌*◌, ◌≤◌, ◌<◌, ℕ, List, [], ◌∷◌, length, take, drop, refl, sym, ap, ◌∙◌, arith, add-one, suc, ℤ}
use Rattle.std.proofs.lemmas.List.{length-drop, length-take-le}
use Rattle.std.proofs.Math.Nat.{suc-mul, mul-le-mul_right}
use Rattle.fx_frame_base.specs.Frame.{Samples}
use Rattle.fx_frame_line.specs.Line.{Frames}
use Rattle.fx_frame_base.proofs.Puts.{pieces-more}
use Rattle.fx_tap_delays.specs.Echo.{EchoArguments, echo_with}
use Rattle.fx_tap_delays.specs.EchosState.{delay_at, series_lines_after}
use Rattle.fx_tap_delays.proofs.EchosGroups.{sent-clips, sent-frames, sent-lines}
use Rattle.fx_tap_delays.proofs.EchosLaws.{series_lines-sound}
use Rattle.fx_tap_delays.proofs.Groups.{frame-put, frame-rest}
use Rattle.fx_tap_delays.proofs.echos.echo_over_by_frames.Goals as goal

pub slice_bounds-frame-end : goal.slice_bounds-frame-end
slice_bounds-frame-end c =
    let next : suc c.frames.turn * c.args.channels ≤ c.args.count * c.args.channels = mul-le-mul_right c.args.channels (omega arith) in
    omega (arith, next, suc-mul c.frames.turn c.args.channels, c.requires.samples, c.frames.auto.samples)

pub frames-preserved : goal.frames-preserved
frames-preserved c =
    let a : EchoArguments = echo_with c.args.channels c.args.gains.0 c.args.gains.1 c.args.taps.now in
    let ch : ℕ = c.args.channels in
    let turn : ℕ = c.frames.turn in
    let at : ℕ = turn * ch in
    let old = c.frames.invariant in
    let input : List ℤ = c.args.samples.now in
    let out : List ℤ = c.frames.samples in
    let made : Samples = c.echo_over-clips.new.samples in
    let first : List (Frames ℤ) = c.args.lines.now in
    let now : List (Frames ℤ) = c.frames.lines in
    let x : Samples = take ch (drop at input) in
    let width : at + ch - at ≡ ch = omega arith in
    let next : suc turn * ch ≤ c.args.count * ch = mul-le-mul_right ch (omega arith) in
    let one : (turn + 1) * ch ≡ at + ch = rw add-one (omega (arith, suc-mul turn ch)) in
    let fits : at + ch ≤ length out = omega (arith, next, suc-mul turn ch, c.requires.samples, c.frames.auto.samples) in
    let kept = rw width at c.echo_over-clips.auto.samples in
    let sides : length made ≡ ch = kept ∙ length-take-le ch (drop at out) (omega (arith, fits, length-drop at out)) in
    let more = pieces-more ch turn at input refl in
    let ensured = rw (width, old.rest_unchanged) at c.echo_over-clips.ensures in
    let lines : c.echo_over-clips.new.lines ≡ series_lines_after ch now (x ∷ []) = ensured.lines in
    rw width
    record {
      lines = lines ∙ sent-lines ch turn (turn + 1) first now input (x ∷ []) more old.lines;
      made = sent-frames ch turn (turn + 1) first now input (x ∷ []) more old.lines a refl out _ (made ∷ []) old.made (frame-put ch turn at out made refl sides fits) (ap (λ y. y ∷ []) ensured.frame);
      counted = sent-clips ch turn (turn + 1) first now input (x ∷ []) more old.lines a refl c.frames.clips c.echo_over-clips.result old.counted (ensured.clips ∙ sym (add-zero _));
      bound = omega (arith, old.bound, ensured.bound);
      rest_unchanged = rw one (frame-rest ch turn at out made refl sides fits input old.rest_unchanged);
      sound = λ came h j lt.
          let inside : j < length (series_lines_after ch now (x ∷ [])) = omega (arith, lt, ap length lines) in
          let sum : came + turn + 1 ≡ came + (turn + 1) = omega arith in
          let is = series_lines-sound ch (came + turn) (delay_at c.args.taps.now) now (x ∷ []) (omega (arith, c.frames.auto.lines, c.requires.arguments.taps_max)) (λ i l. let zero : i ≡ 0 = omega arith in rw zero ensured.small) (old.sound came h) j inside in
          rw lines (rw sum at is);
    }

pub overflow_add-clips : goal.overflow_add-clips
overflow_add-clips c = omega (arith, c.frames.invariant.bound, c.echo_over-clips.ensures.bound, c.requires.bound)

pub echo_over-clips-requires-clause-lines : goal.echo_over-clips-requires-clause-lines
echo_over-clips-requires-clause-lines c j lt =
    let is = c.frames.invariant.sound c.requires.lines.0 c.requires.lines.1 j lt in
    record { channels_are = is.channels_are; small = is.small }

pub echo_over-clips-requires-clause-late : goal.echo_over-clips-requires-clause-late
echo_over-clips-requires-clause-late c j lt =
    let is = c.frames.invariant.sound c.requires.lines.0 c.requires.lines.1 j lt in
    let full = is.capacity in
    omega (arith, is.some, full)

pub returns-clause-sound : goal.returns-clause-sound
returns-clause-sound c came h j lt =
    let all : c.frames.turn ≡ c.args.count = omega (arith, c.frames.auto.turn-end) in
    rw all at c.frames.invariant.sound came h j lt
