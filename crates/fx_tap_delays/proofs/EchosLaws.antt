-- How an `Echos` behaves.
use Rattle.std.proofs.Common.{ℕ, ℤ, pos, suc, zero, ◌+◌, ◌-◌, ◌*◌, ◌^◌, ◌<◌, ◌≤◌, ◌≡◌, true, false, map, List, [], ◌∷◌, ◌++◌, length, get_or, drop, replicate, refl, sym, ap, ◌∙◌, arith, add-zero, zero-add, sub-one, FitsSigned, unsigned_abs, Some, None}
use Rattle.std.proofs.lemmas.Bool.{true_from_ne_false}
use Rattle.std.specs.List.{All}
use Rattle.std.specs.Int.{w64}
use Rattle.std.proofs.lemmas.Int.{fits_signed_from_abs}
use Rattle.std.proofs.lemmas.List.{length-append, length-drop, length-map, get_or-map}
use Rattle.std.proofs.lemmas.List.Elements.{All-nil, All-drop, All-push, All-weaker, All-from_get_or, All-get_or}
use Rattle.fx_tap_delays.specs.DelayExtents.{sum_of_delays, Tap}
use Rattle.fx_frame_base.specs.Frame.{IsChannelCount, Samples, silence, IsFrame}
use Rattle.fx_frame_line.specs.Line.{Frames, IsSamples, pushed_out, empty}
use Rattle.fx_frame_base.specs.Stage.{Gave}
use Rattle.fx_frame_base.specs.StageCore.{new_core}
use Rattle.fx_tap_delays.specs.Echo.{EchoArguments, IsEcho}
use Rattle.fx_tap_delays.specs.EchosState.{EchosState, IsEchos, IsEchoLine, IsSeriesLine, after_push, came_of, delay_at, echos_acts, fed, frame_of_lines, frames_of_lines, line_outputs, line_at, lines_after, or_silence, echo_places, series_lines_after, through_lines}
use Rattle.fx_frame.proofs.DryLaws.{dry-pending, dry-tail}
use Rattle.fx_tap_delays.proofs.EchosSeries.{Small, small-fed, small-line_output}
use Rattle.fx_frame_base.proofs.Tabulate.{length-tabulate}

-- ---- the lines after one frame more

all_of : (m : ℕ) (u : Samples) → Small m u → All (λ x. unsigned_abs x ≤ m) u
all_of m u h = All-from_get_or (λ x. unsigned_abs x ≤ m) u (pos 0) (λ i l. h i)

series-of : (c came j delay : ℕ) (l : Frames ℤ) → IsEchoLine c came j delay l → IsSeriesLine c j l
series-of c came j delay l is = record { channels_are = is.channels_are; small = is.small }

pub series-lines : (s : EchosState) → IsEchos s → (j : ℕ) → j < length s.lines → IsSeriesLine s.arguments.channels j (line_at s.lines j)
series-lines s is j lt = series-of s.arguments.channels (came_of s) j (delay_at s.arguments.echo.taps j) (line_at s.lines j) (is.lines j lt)

push-sound : (c came j delay : ℕ) (l : Frames ℤ) (u : Samples) → j ≤ 6 → IsEchoLine c came j delay l → length u ≡ c → Small ((j + 1) * 2 ^ 31) u → IsEchoLine c (came + 1) j delay (after_push l u)
push-sound c came j delay l u bound is wide small =
    let whole : List Samples = l.items ++ u ∷ [] in
    let n : ℕ = length whole - l.capacity in
    let long : length whole ≡ length l.items + 1 = length-append l.items (u ∷ []) in
    let left : length (drop n whole) ≡ length whole - n = length-drop n whole in
    let held = is.held in
    let full = is.capacity in
    let within = is.line.within in
    let all : All (λ x. unsigned_abs x ≤ (j + 1) * 2 ^ 31) u = all_of ((j + 1) * 2 ^ 31) u small in
    let fits : All (FitsSigned w64) u = All-weaker (λ x. unsigned_abs x ≤ (j + 1) * 2 ^ 31) (FitsSigned w64) (λ x h. fits_signed_from_abs w64 x (omega arith)) u all in
    let one : IsSamples w64 l.channels u = record { count = wide ∙ sym is.channels_are; fits = fits } in
    record {
      line = record {
        some = is.line.some;
        bound = is.line.bound;
        small = is.line.small;
        within = omega arith;
        frames = All-drop (IsSamples w64 l.channels) n whole (All-push (IsSamples w64 l.channels) l.items u is.line.frames one);
      };
      channels_are = is.channels_are;
      capacity = is.capacity;
      some = is.some;
      held = omega arith;
      small = All-drop (All (λ x. unsigned_abs x ≤ (j + 1) * 2 ^ 31)) n whole (All-push (All (λ x. unsigned_abs x ≤ (j + 1) * 2 ^ 31)) l.items u is.small all);
    }

after-sound : (c came j : ℕ) (d : ℕ → ℕ) (ls : List (Frames ℤ)) (x b : Samples) → j + length ls ≤ 7 → Small (2 ^ 31) x → Small (j * 2 ^ 31) b
    → ((i : ℕ) → i < length ls → IsEchoLine c came (j + i) (d i) (line_at ls i)) → (i : ℕ) → i < length (lines_after c ls x b) → IsEchoLine c (came + 1) (j + i) (d i) (line_at (lines_after c ls x b) i)
after-sound c came j d [] x b bound xs bs h i lt = absurd (omega arith)
after-sound c came j d (l ∷ ls) x b bound xs bs h zero lt =
    let here : IsEchoLine c came j (d 0) l = simp add-zero at (h 0 (omega arith)) in
    let u = small-fed c j x b xs bs in
    rw add-zero (push-sound c came j (d 0) l (fed c x b) (omega arith) here (length-tabulate _ 0 c) u)
after-sound c came j d (l ∷ ls) x b bound xs bs h (suc i) lt =
    let here : IsEchoLine c came j (d 0) l = simp add-zero at (h 0 (omega arith)) in
    let u = small-fed c j x b xs bs in
    let one : j + 1 ≡ suc j = omega arith in
    let line_output = rw one at (small-line_output c j l (fed c x b) (series-of c came j (d 0) l here) u) in
    let at : suc j + i ≡ j + suc i = omega arith in
    rw (← at) (after-sound c came (suc j) (λ i. d (suc i)) ls x (or_silence c (pushed_out l (fed c x b))) (omega arith) xs line_output
    (λ i l. let at : suc j + i ≡ j + suc i = omega arith in rw at (h (suc i) (omega arith))) i (omega arith))

pub length-after : (c : ℕ) (ls : List (Frames ℤ)) (x b : Samples) → length (lines_after c ls x b) ≡ length ls
length-after c [] x b = refl
length-after c (l ∷ ls) x b = ap suc (length-after c ls x (or_silence c (pushed_out l (fed c x b))))

small-none : (c : ℕ) → Small (0 * 2 ^ 31) (replicate c (pos 0))
small-none zero k = omega arith
small-none (suc c) zero = omega arith
small-none (suc c) (suc k) = small-none c k

-- the lines after one frame more, and after many
series-sound : (c came : ℕ) (d : ℕ → ℕ) (ls : List (Frames ℤ)) (x : Samples) → length ls ≤ 7 → Small (2 ^ 31) x → ((j : ℕ) → j < length ls → IsEchoLine c came j (d j) (line_at ls j))
    → (j : ℕ) → j < length (lines_after c ls x (replicate c (pos 0))) → IsEchoLine c (came + 1) j (d j) (line_at (lines_after c ls x (replicate c (pos 0))) j)
series-sound c came d ls x bound xs h j lt = rw zero-add at (after-sound c came 0 d ls x (replicate c (pos 0)) (omega arith) xs (small-none c) (λ i l. rw zero-add (h i l)) j lt)

pub series_lines-sound : (c came : ℕ) (d : ℕ → ℕ) (ls : List (Frames ℤ)) (xs : List Samples) → length ls ≤ 7 → ((i : ℕ) → i < length xs → Small (2 ^ 31) (get_or xs i [])) → ((j : ℕ) → j < length ls → IsEchoLine c came j (d j) (line_at ls j))
    → (j : ℕ) → j < length (series_lines_after c ls xs) → IsEchoLine c (came + length xs) j (d j) (line_at (series_lines_after c ls xs) j)
series_lines-sound c came d ls [] bound small h j lt = rw add-zero (h j lt)
series_lines-sound c came d ls (x ∷ xs) bound small h j lt =
    let next : List (Frames ℤ) = lines_after c ls x (replicate c (pos 0)) in
    let at : came + 1 + length xs ≡ came + length (x ∷ xs) = omega arith in
    rw at at (series_lines-sound c (came + 1) d next xs (omega (arith, length-after c ls x (replicate c (pos 0)))) (λ i l. small (suc i) (omega arith)) (series-sound c came d ls x bound (small 0 (omega arith)) h) j lt)

-- the lines of a state after one frame more
pub lines-sound : (s : EchosState) (x : Samples) → IsEchos s → Small (2 ^ 31) x → (j : ℕ) → j < length (lines_after s.arguments.channels s.lines x (replicate s.arguments.channels (pos 0)))
    → IsEchoLine s.arguments.channels (came_of s + 1) j (delay_at s.arguments.echo.taps j) (line_at (lines_after s.arguments.channels s.lines x (replicate s.arguments.channels (pos 0))) j)
lines-sound s x is xs j lt = series-sound s.arguments.channels (came_of s) (delay_at s.arguments.echo.taps) s.lines x (let bound = is.arguments.taps_max in let many = is.as_many in omega arith) xs is.lines j lt

-- ---- places and frames

frames-bound : (ls : List (Frames ℤ)) → ((j : ℕ) → j < length ls → length (line_at ls j).items ≤ (line_at ls j).capacity) → length (frames_of_lines ls) ≤ echo_places ls
frames-bound [] h = omega arith
frames-bound (l ∷ ls) h =
    let first = h 0 (omega arith) in
    let more = frames-bound ls (λ j lt. h (suc j) (omega arith)) in
    omega (arith, length-append l.items (frames_of_lines ls))

places-are : (es : List Tap) (ls : List (Frames ℤ)) → length ls ≡ length es → ((j : ℕ) → j < length ls → (line_at ls j).capacity ≡ delay_at es j) → echo_places ls ≡ sum_of_delays es
places-are [] [] many h = refl
places-are [] (l ∷ ls) many h = absurd (omega arith)
places-are (e ∷ es) [] many h = absurd (omega arith)
places-are (e ∷ es) (l ∷ ls) many h =
    let first = h 0 (omega arith) in
    let more = places-are es ls (omega arith) (λ j lt. h (suc j) (omega arith)) in
    omega arith

pub places-late : (s : EchosState) → IsEchos s → echo_places s.lines ≡ sum_of_delays s.arguments.echo.taps
places-late s is = places-are s.arguments.echo.taps s.lines is.as_many (λ j lt. (is.lines j lt).capacity)

pub frames-late : (s : EchosState) → IsEchos s → length (frames_of_lines s.lines) ≤ sum_of_delays s.arguments.echo.taps
frames-late s is =
    let bound = frames-bound s.lines (λ j lt. (is.lines j lt).line.within) in
    let all = places-late s is in
    omega arith

-- ---- what comes and goes

-- what falls out of the lines for a frame
abbrev pub series_outputs : EchosState → Samples → List Samples
series_outputs s x = line_outputs s.arguments.channels s.lines x (replicate s.arguments.channels (pos 0))

abbrev pub series_after : EchosState → Samples → List (Frames ℤ)
series_after s x = lines_after s.arguments.channels s.lines x (replicate s.arguments.channels (pos 0))

-- the state after a frame came
abbrev pub taken_echos : EchosState → List (Frames ℤ) → Samples → ℕ → EchosState
taken_echos s lines out clips = record s { lines = lines; core = record s.core { pending = Some out; pending_clips = clips; taken = s.core.taken + 1 } }

pub IsEchos-taken : (s : EchosState) (lines : List (Frames ℤ)) (frame out : Samples) (clips : ℕ) → IsEchos s → echos_acts.dry s ≡ true → s.core.ended ≡ false → s.core.taken < 2 ^ 56 → lines ≡ series_after s frame → Small (2 ^ 31) frame
    → clips ≤ 16 → IsFrame out → length out ≡ s.arguments.channels → IsEchos (taken_echos s lines out clips)
IsEchos-taken s lines frame out clips is dry running bound lines_are small clips_bound framed long =
    let none = dry-pending s.core.pending s.tail dry in
    let counted : s.core.given + 0 + s.tail ≡ s.core.taken + 0 = rw (none, running) at is.counted in
    let came : s.core.given + 0 + 1 ≡ s.core.given + 1 = omega arith in
    let sound = rw (none, came) at (lines-sound s frame is small) in
    record {
      arguments = is.arguments;
      whole = is.whole;
      as_many = ap length lines_are ∙ length-after s.arguments.channels s.lines frame (replicate s.arguments.channels (pos 0)) ∙ is.as_many;
      lines = rw lines_are sound;
      counted = rw running (omega arith);
      not_ended = is.not_ended;
      core = record {
        bound = omega arith;
        clips_max = is.core.clips_max;
        pending_max = clips_bound;
        idle = λ none. absurd (omega arith);
        over = λ ended. absurd (cc (running, ended));
        fits = λ x q. let same : out ≡ x = cc in (rw (← same) framed, rw (← same) long);
      };
    }

ended-tail : (s : EchosState) → IsEchos s → 0 < s.tail → s.core.ended ≡ true
ended-tail s is some = true_from_ne_false s.core.ended (λ e. let k = is.not_ended e in absurd (omega arith))

-- the state after a silent frame went through the lines
abbrev pub drained_echos : EchosState → List (Frames ℤ) → ℕ → EchosState
drained_echos s lines clips = record s { lines = lines; core = record s.core { given = s.core.given + 1; clips = s.core.clips + clips }; tail = s.tail - 1 }

silence-step : (a : EchoArguments) (lines : List (Frames ℤ)) (silent_frame : Samples) (tail : ℕ) → 0 < tail
    → through_lines a lines (replicate tail silent_frame) ≡ frame_of_lines a silent_frame (line_outputs a.channels lines silent_frame (replicate a.channels (pos 0))) ∷ through_lines a (lines_after a.channels lines silent_frame (replicate a.channels (pos 0))) (replicate (tail - 1) silent_frame)
silence-step a lines silent_frame zero some = absurd (omega arith)
silence-step a lines silent_frame (suc t) some = rw sub-one refl

pub Gave-silence : (s : EchosState) (lines : List (Frames ℤ)) (silent_frame out : Samples) (clips : ℕ) → IsEchos s → s.core.pending ≡ None → 0 < s.tail → silent_frame ≡ silence s.arguments.channels → lines ≡ series_after s silent_frame
    → out ≡ (frame_of_lines s.arguments silent_frame (series_outputs s silent_frame)).samples → clips ≡ (frame_of_lines s.arguments silent_frame (series_outputs s silent_frame)).clips → length out ≡ s.arguments.channels → Gave echos_acts s (drained_echos s lines clips) out
Gave-silence s lines silent_frame out clips is none some q lines_are out_is clips_are long =
    let over = ended-tail s is some in
    let counted : s.core.given + 0 + s.tail ≡ s.core.taken + sum_of_delays s.arguments.echo.taps = rw (none, over) at is.counted in
    record {
      was_wet = dry-tail s.core.pending s.tail some;
      gives = record {
        clips = clips;
        first = λ z. rw (none, over, lines_are, out_is, clips_are, q) (silence-step s.arguments s.lines (silence s.arguments.channels) s.tail some);
        counted = refl;
      };
      channels = long;
      due = λ running. absurd (cc (running, over));
      maximum = omega arith;
      recipe_stays = refl;
    }

pub IsEchos-drained : (s : EchosState) (lines : List (Frames ℤ)) (silent_frame : Samples) (clips : ℕ) → IsEchos s → s.core.pending ≡ None → 0 < s.tail → Small (2 ^ 31) silent_frame → lines ≡ series_after s silent_frame → clips ≤ 16 → IsEchos (drained_echos s lines clips)
IsEchos-drained s lines silent_frame clips is none some small lines_are clips_bound =
    let over = ended-tail s is some in
    let counted : s.core.given + 0 + s.tail ≡ s.core.taken + sum_of_delays s.arguments.echo.taps = rw (none, over) at is.counted in
    let came : s.core.given + 0 + 1 ≡ s.core.given + 1 + 0 = omega arith in
    let sound = rw (none, came) at (lines-sound s silent_frame is small) in
    let bound = is.core.clips_max in
    record {
      arguments = is.arguments;
      whole = is.whole;
      as_many = ap length lines_are ∙ length-after s.arguments.channels s.lines silent_frame (replicate s.arguments.channels (pos 0)) ∙ is.as_many;
      lines = rw (lines_are, none) sound;
      counted = rw (none, over) (omega arith);
      not_ended = λ e. let k = is.not_ended e in omega arith;
      core = record { bound = is.core.bound; clips_max = omega arith; pending_max = is.core.pending_max; idle = is.core.idle; over = is.core.over; fits = is.core.fits };
    }

-- ---- a new one

pub late-each : (es : List Tap) (k : ℕ) (d : Tap) → k < length es → (get_or es k d).0 ≤ sum_of_delays es
late-each [] k d lt = absurd (omega arith)
late-each (e ∷ es) zero d lt = omega arith
late-each (e ∷ es) (suc k) d lt = let more = late-each es k d (omega arith) in omega arith

empty-line : (c j d : ℕ) → IsChannelCount c → 1 ≤ d → d ≤ 2 ^ 28 → IsEchoLine c 0 j d (empty c d)
empty-line c j d channels late small = record {
  line = record { some = channels.0; bound = channels.1; small = small; within = omega arith; frames = All-nil (IsSamples w64 c) };
  channels_are = refl;
  capacity = refl;
  some = late;
  held = omega arith;
  small = All-nil (All (λ x. unsigned_abs x ≤ (j + 1) * 2 ^ 31));
}

pub IsEchos-new : (a : EchoArguments) → IsEcho a → sum_of_delays a.echo.taps ≤ 2 ^ 28 → IsEchos (record { arguments = a; lines = map (λ e. empty a.channels e.0) a.echo.taps; core = new_core; tail = 0 })
IsEchos-new a is whole = record {
  arguments = is;
  whole = whole;
  as_many = length-map a.echo.taps _;
  lines = λ j lt.
      let long = length-map a.echo.taps (λ e. empty {X = ℤ} a.channels e.0) in
      let within : j < length a.echo.taps = omega (arith, long, lt) in
      let maximum = late-each a.echo.taps j (0, pos 0) within in
      rw (get_or-map (λ e. empty {X = ℤ} a.channels e.0) a.echo.taps j (0, pos 0) (empty {X = ℤ} 0 0) within)
      (empty-line a.channels j (delay_at a.echo.taps j) is.channels (All-get_or (λ e. 1 ≤ e.0) a.echo.taps j (0, pos 0) within is.delays) (omega arith));
  counted = refl;
  not_ended = λ e. refl;
  core = record {
    bound = omega arith;
    clips_max = omega arith;
    pending_max = omega arith;
    idle = λ none. refl;
    over = λ ended. refl;
    fits = λ x q. absurd (cc);
  };
}

-- no frame is stored
pub frames-none : (c : ℕ) (es : List Tap) → frames_of_lines (map (λ e. empty c e.0) es) ++ [] ≡ []
frames-none c [] = refl
frames-none c (e ∷ es) = frames-none c es
