use Rattle.std.proofs.Common.{◌≡◌, ◌≤◌, ◌++◌, ◌∷◌, [], ◌∙◌, inr, ℕ, ℤ, List, length, get_or, min, take, drop, pos, refl, sym, ap, arith}
use Rattle.std.proofs.Math.Logic.{⊎_map}
use Rattle.std.proofs.lemmas.List.{length-append}
use Rattle.std.proofs.lemmas.List.Elements.{All-get_or}
use Rattle.std.proofs.lemmas.Result.{err_from_is_err_and}
use Rattle.fx_frame_base.specs.Frame.{Samples}
use Rattle.fx_frame.specs.Frozen.{line_of}
use Rattle.fx_frame_line.specs.Line.{Frames}
use Rattle.fx_tap_delays.specs.EchosState.{IsEchoLine, delay_at, line_at}
use Rattle.fx_tap_delays.proofs.EchosLaws.{late-each}
use Rattle.fx_tap_delays.specs.DelayExtents.{Tap}
use Rattle.fx_tap_delays.proofs.EchosStored.{cut-on, delay-is, held_at, next-line, series-pushed, thawed-sound}
use Rattle.fx_tap_delays.proofs.series_lines.thawed_series.Goals as goal

pub returns-then-count-rest-clause-refused : goal.returns-then-count-rest-clause-refused
returns-then-count-rest-clause-refused c =
    inr (
      refl,
      λ lines series e.
          let next = next-line c.args.channels c.args.came c.args.taps.now lines c.taps.rest.now c.taps.place series c.taps-test.true (c.taps.invariant.only lines series e).1 in
          let count : c.min-count.result ≡ held_at c.args.came c.args.taps.now c.taps.place = c.min-count.ensures ∙ ap (min c.args.came) (delay-is c.args.taps.now c.taps.place c.index-taps-place.result c.taps-test.true) in
          let free = next.free in
          omega (arith, count, free),
    )

pub returns-in_err-line-clause-refused : goal.returns-in_err-line-clause-refused
returns-in_err-line-clause-refused c =
    let fault = err_from_is_err_and c.from_residual.result c.from_residual.ensures.1 in
    rw (fault.1, fault.2)
    (⊎_map (λ m. m) (λ b. (
      b.0,
      λ lines series e.
          let next = next-line c.args.channels c.args.came c.args.taps.now lines c.taps.rest.now c.taps.place series c.taps-test.true (c.taps.invariant.only lines series e).1 in
          let delay = delay-is c.args.taps.now c.taps.place c.index-taps-place.result c.taps-test.true in
          let count : c.min-count.result ≡ held_at c.args.came c.args.taps.now c.taps.place = c.min-count.ensures ∙ ap (min c.args.came) delay in
          let part : c.split_at.result.0.now ≡ take (held_at c.args.came c.args.taps.now c.taps.place) c.taps.rest.now = c.split_at.ensures.front ∙ ap (λ n. take n c.taps.rest.now) count in
          let same : line_at lines c.taps.place ≡ line_of c.args.channels (get_or c.args.taps.now c.taps.place c.index-taps-place.result).0 c.split_at.result.0.now = rw (delay, part) next.is_line in
          b.1 (rw same at next.here.line) (rw same at next.here.small),
    )) c.in_err-line.ensures.refused)

pub taps-preserved : goal.taps-preserved
taps-preserved c =
    let channels : ℕ = c.args.channels in
    let came : ℕ = c.args.came in
    let taps : List Tap = c.args.taps.now in
    let place : ℕ = c.taps.place in
    let rest : List Samples = c.taps.rest.now in
    let ls : List (Frames ℤ) = c.taps.lines.items in
    let l : Frames ℤ = c.in_ok-line.line in
    let delay = delay-is taps place c.index-taps-place.result c.taps-test.true in
    let count : c.min-count.result ≡ held_at came taps place = c.min-count.ensures ∙ ap (min came) delay in
    let part : c.split_at.result.0.now ≡ take (held_at came taps place) rest = c.split_at.ensures.front ∙ ap (λ n. take n rest) count in
    let after : c.split_at.result.1.now ≡ drop (held_at came taps place) rest = c.split_at.ensures.back ∙ ap (λ n. drop n rest) count in
    let found : l ≡ line_of channels (delay_at taps place) (take (held_at came taps place) rest) = c.in_ok-line.ensures.found ∙ ap (λ n. line_of channels n c.split_at.result.0.now) delay ∙ ap (line_of channels (delay_at taps place)) part in
    let items : l.items ≡ take (held_at came taps place) rest = ap (λ (k : Frames ℤ). k.items) found in
    let many : length ls ≡ place = c.taps.invariant.as_many in
    let some : 1 ≤ delay_at taps place = All-get_or (λ e. 1 ≤ e.0) taps place (0, pos 0) c.taps-test.true c.requires.delays in
    let long : length (take (held_at came taps place) rest) ≡ min came (delay_at taps place) = ap length (sym part) ∙ c.split_at.ensures.front_len ∙ count in
    let here : IsEchoLine channels came place (delay_at taps place) l = thawed-sound channels came place (delay_at taps place) l (take (held_at came taps place) rest) found c.in_ok-line.ensures.line c.in_ok-line.ensures.small some long in
    let long_all = length-append ls (l ∷ []) in
    rw (c.in-Ok.ensures.items, after)
    record {
      as_many = omega (arith, long_all, many);
      lines_are = λ j lt. series-pushed (λ i k. IsEchoLine channels came i (delay_at taps i) k) ls l c.taps.invariant.lines_are (rw many here) j (omega (arith, long_all, lt));
      cut = cut-on ls l rest c.args.frames.now (held_at came taps place) items c.taps.invariant.cut;
      only = λ lines series e.
          let before = c.taps.invariant.only lines series e in
          let next = next-line channels came taps lines rest place series c.taps-test.true before.1 in
          (next.more ∙ ap (λ a. a ++ line_at lines place ∷ []) before.0 ∙ ap (λ k. ls ++ k ∷ []) (next.is_line ∙ sym found), next.left);
    }

pub thawed_series_line-requires-clause-delay : goal.thawed_series_line-requires-clause-delay
thawed_series_line-requires-clause-delay c =
    let maximum = late-each c.args.taps.now c.taps.place c.index-taps-place.result c.taps-test.true in
    omega (arith, maximum, c.requires.lines)
