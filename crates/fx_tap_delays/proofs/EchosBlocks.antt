-- Many frames that an `echos` takes and gives in one call.
use Rattle.std.proofs.Common.{◌≡◌, ◌+◌, ◌*◌, ◌<◌, ◌≤◌, ◌^◌, ℕ, ℤ, pos, false, List, [], ◌∷◌, length, map, replicate, refl, sym, ap, ◌∙◌, arith, add-zero, length-append, subst, None, Some}
use Rattle.std.proofs.lemmas.List.{length-map}
use Rattle.fx_tap_delays.specs.DelayExtents.{sum_of_delays}
use Rattle.fx_frame_base.specs.declared.feed.Passing.TheVariants.{Through}
use Rattle.fx_frame_base.specs.Feed.{Fed, GaveNext, PassedOn, TookNext}
use Rattle.fx_frame_base.specs.Frame.{Samples}
use Rattle.fx_frame_base.specs.Holds.{total}
use Rattle.fx_frame_line.specs.Line.{Frames, pushed, pushed_out}
use Rattle.fx_frame_base.specs.Lists.{pieces}
use Rattle.fx_frame_base.specs.Pipeline.{EachThrough}
use Rattle.fx_frame_base.specs.Stage.{Given, IsDry}
use Rattle.fx_frame_base.specs.StageCore.{after_passing}
use Rattle.fx_frame_base.proofs.Cores.{IsCore-passed, is-passed-core, passed_core}
use Rattle.fx_frame_base.proofs.FedLaws.{Fed-through}
use Rattle.fx_frame_base.proofs.Pieces.{length-pieces}
use Rattle.fx_tap_delays.specs.Echo.{EchoArguments}
use Rattle.fx_tap_delays.specs.EchosState.{EchosState, IsEchoLine, IsEchos, came_of, delay_at, echos_acts, fed, frame_of_lines, frames_of_lines, line_outputs, line_at, lines_after, or_silence, echo_places, series_lines_after, through_lines}
use Rattle.fx_tap_delays.proofs.EchosLaws.{places-late}
use Rattle.fx_tap_delays.proofs.EchosPieces.{pushed-within}
use Rattle.fx_frame_base.proofs.Tabulate.{length-tabulate}

after-bound : (c : ℕ) (ls : List (Frames ℤ)) (x b : Samples) → length (frames_of_lines (lines_after c ls x b)) ≤ echo_places ls
after-bound c [] x b = omega arith
after-bound c (l ∷ ls) x b =
    let more = after-bound c ls x (or_silence c (pushed_out l (fed c x b))) in
    let one = pushed-within l (fed c x b) in
    omega (arith, more, one, length-append (pushed l (fed c x b)) (frames_of_lines (lines_after c ls x (or_silence c (pushed_out l (fed c x b))))))

places-after : (c : ℕ) (ls : List (Frames ℤ)) (x b : Samples) → echo_places (lines_after c ls x b) ≡ echo_places ls
places-after c [] x b = refl
places-after c (l ∷ ls) x b = ap (λ n. l.capacity + n) (places-after c ls x (or_silence c (pushed_out l (fed c x b))))

frame-wide : (a : EchoArguments) (x : Samples) (line_output : List Samples) → length (frame_of_lines a x line_output).samples ≡ a.channels
frame-wide a x line_output = length-map _ _ ∙ length-tabulate _ 0 a.channels

module _ (a : EchoArguments) where
  -- such a stage with no pending frame, which has given what it took
  abbrev pub ready : List (Frames ℤ) → ℕ → ℕ → EchosState
  ready lines count clips = record { arguments = a; lines = lines; core = passed_core count clips; tail = 0 }

  -- what is given for a frame, and the lines after it
  abbrev pub made : List (Frames ℤ) → Samples → Given
  made lines x = frame_of_lines a x (line_outputs a.channels lines x (replicate a.channels (pos 0)))

  abbrev pub next : List (Frames ℤ) → Samples → List (Frames ℤ)
  next lines x = lines_after a.channels lines x (replicate a.channels (pos 0))

  one-passed : (lines : List (Frames ℤ)) (count clips : ℕ) (x : Samples) → echo_places lines ≡ sum_of_delays a.echo.taps
      → PassedOn echos_acts Through (ready lines count clips) (ready (next lines x) (count + 1) (clips + (made lines x).clips)) x (made lines x).samples
  one-passed lines count clips x places =
      let first : EchosState = ready lines count clips in
      let mid : EchosState = record { arguments = a; lines = next lines x; core = record (passed_core count clips) { pending = Some (made lines x).samples; pending_clips = (made lines x).clips; taken = count + 1 }; tail = 0 } in
      let last : EchosState = ready (next lines x) (count + 1) (clips + (made lines x).clips) in
      let bound = after-bound a.channels lines x (replicate a.channels (pos 0)) in
      let took : TookNext echos_acts first mid x = record {
        dry = refl;
        due = refl;
        not_ended = refl;
        not_spent = refl;
        took = record { rest = λ z. refl; counted = refl; recipe_stays = refl };
        held = omega (arith, bound, places, length-append (frames_of_lines (next lines x)) ((made lines x).samples ∷ []));
      } in
      let gave : GaveNext echos_acts mid last (made lines x).samples = record {
        gave = record {
          was_wet = refl;
          gives = record { clips = (made lines x).clips; first = λ z. refl; counted = refl };
          channels = frame-wide a x (line_outputs a.channels lines x (replicate a.channels (pos 0)));
          due = λ e. omega arith;
          maximum = omega arith;
          recipe_stays = refl;
        };
        held = omega (arith, bound, places, length-append (frames_of_lines (next lines x)) []);
      } in
      (mid, took, gave, refl)

  ready-dry : (lines : List (Frames ℤ)) (count clips : ℕ) → IsDry echos_acts (ready lines count clips)
  ready-dry lines count clips = record { due = λ e. refl; over = λ e. absurd (cc (e)) }

  -- each given before the next is taken
  lines-through : (xs : List Samples) (lines : List (Frames ℤ)) (count clips : ℕ) → echo_places lines ≡ sum_of_delays a.echo.taps
      → EachThrough echos_acts xs (map (λ (g : Given). g.samples) (through_lines a lines xs)) (ready lines count clips) (ready (series_lines_after a.channels lines xs) (count + length xs) (clips + total (λ (g : Given). g.clips) (through_lines a lines xs)))
  lines-through [] lines count clips places = rw (add-zero, add-zero) refl
  lines-through (x ∷ xs) lines count clips places =
      let more = lines-through xs (next lines x) (count + 1) (clips + (made lines x).clips) (places-after a.channels lines x (replicate a.channels (pos 0)) ∙ places) in
      let many : count + 1 + length xs ≡ count + length (x ∷ xs) = omega arith in
      let clipped : clips + (made lines x).clips + total (λ (g : Given). g.clips) (through_lines a (next lines x) xs) ≡ clips + total (λ (g : Given). g.clips) (through_lines a lines (x ∷ xs)) = omega arith in (
        ready (next lines x) (count + 1) (clips + (made lines x).clips),
        one-passed lines count clips x places,
        ready-dry (next lines x) (count + 1) (clips + (made lines x).clips),
        rw (many, clipped) at more,
      )

-- such a stage is one with no pending frame that has not ended
ready-is : (s : EchosState) → IsEchos s → s.core.pending ≡ None → s.core.ended ≡ false → ready s.arguments s.lines s.core.taken s.core.clips ≡ s
ready-is s is none running =
    let zero : s.core.pending_clips ≡ 0 = is.core.idle (rw none refl) in
    let no_tail : s.tail ≡ 0 = is.not_ended running in
    let counted : s.core.given + 0 + s.tail ≡ s.core.taken + 0 = rw (none, running) at is.counted in
    let even : s.core.given ≡ s.core.taken = omega (arith, counted, no_tail) in
    let core = sym (is-passed-core s.core none zero running even) in
    rw (core, ← no_tail) refl

-- the stage after so many frames went through it
abbrev pub passed_echos : EchosState → List (Frames ℤ) → ℕ → ℕ → EchosState
passed_echos s lines n clips = record s { lines = lines; core = after_passing n clips s.core }

module _ (s : EchosState) (lines : List (Frames ℤ)) (is : IsEchos s) (none : s.core.pending ≡ None) (running : s.core.ended ≡ false) where
  -- one frame, passed on in its place
  pub frame-passed : (x y : Samples) (clips : ℕ) → y ≡ (made s.arguments s.lines x).samples → clips ≡ (made s.arguments s.lines x).clips → lines ≡ next s.arguments s.lines x → PassedOn echos_acts Through s (passed_echos s lines 1 clips) x y
  frame-passed x y clips out_is counted went =
      rw (out_is, counted, went)
      (subst (λ (u : EchosState). PassedOn echos_acts Through u (passed_echos u (next s.arguments s.lines x) 1 (made s.arguments s.lines x).clips) x (made s.arguments s.lines x).samples) (ready-is s is none running) (one-passed s.arguments s.lines s.core.taken s.core.clips x (places-late s is)))

  module _ (n clips : ℕ) (input output : List ℤ) (out_is : pieces s.arguments.channels n output ≡ map (λ (g : Given). g.samples) (through_lines s.arguments s.lines (pieces s.arguments.channels n input)))
      (counted : clips ≡ total (λ (g : Given). g.clips) (through_lines s.arguments s.lines (pieces s.arguments.channels n input))) (went : lines ≡ series_lines_after s.arguments.channels s.lines (pieces s.arguments.channels n input)) where
    -- a block of frames, each given before the next is taken: the counters are added to once
    pub block-through : EachThrough echos_acts (pieces s.arguments.channels n input) (pieces s.arguments.channels n output) s (passed_echos s lines n clips)
    block-through =
        let xs : List Samples = pieces s.arguments.channels n input in
        let gs : List Given = through_lines s.arguments s.lines xs in
        let through = lines-through s.arguments xs s.lines s.core.taken s.core.clips (places-late s is) in
        rw (out_is, counted, went)
        (subst (λ (u : EchosState). EachThrough echos_acts xs (map (λ (g : Given). g.samples) gs) u (passed_echos u (series_lines_after s.arguments.channels s.lines xs) n (total (λ (g : Given). g.clips) gs))) (ready-is s is none running)
        (rw (length-pieces s.arguments.channels n input) at through))

    pub block-fed : Fed echos_acts s (pieces s.arguments.channels n input) (pieces s.arguments.channels n output) (passed_echos s lines n clips)
    block-fed = Fed-through echos_acts _ _ s (passed_echos s lines n clips) block-through

-- the state after it
pub IsEchos-block : (s : EchosState) (lines : List (Frames ℤ)) (n clips : ℕ) → IsEchos s → s.core.pending ≡ None → s.core.ended ≡ false → s.core.taken + n ≤ 2 ^ 56 → length lines ≡ length s.lines
    → ((j : ℕ) → j < length lines → IsEchoLine s.arguments.channels (came_of s + n) j (delay_at s.arguments.echo.taps j) (line_at lines j)) → clips ≤ n * 16
    → IsEchos (passed_echos s lines n clips)
IsEchos-block s lines n clips is none running bound many sound little =
    let counted : s.core.given + 0 + s.tail ≡ s.core.taken + 0 = rw (none, running) at is.counted in
    let came : s.core.given + 0 + n ≡ s.core.given + n + 0 = omega arith in
    let now = rw (none, came) at sound in
    record {
      arguments = is.arguments;
      whole = is.whole;
      as_many = many ∙ is.as_many;
      lines = rw none now;
      counted = rw (none, running) (omega arith);
      not_ended = is.not_ended;
      core = IsCore-passed s.arguments.channels 16 n clips s.core is.core bound little;
    }
