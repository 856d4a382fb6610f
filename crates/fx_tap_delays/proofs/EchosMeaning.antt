-- What a row of empty lines gives is the definition of `echos`, by index.
use Rattle.std.proofs.Common.{ℕ, ℤ, pos, suc, zero, ◌+◌, ◌-◌, ◌*◌, ◌<◌, ◌≤◌, ◌≡◌, ◌+ℤ◌, ◌*ℤ◌, Bool, true, false, cond, min, map, List, [], ◌∷◌, ◌++◌, length, get_or, take, drop, replicate, refl, sym, ap, ◌∙◌, arith, add-zero, zero-add, nat_le, nat_lt, slice_get, Some, None, if◌then◌else◌}
use Rattle.std.proofs.lemmas.Bool.Decides.{nat_tests}
use Rattle.std.proofs.lemmas.Int.{ints}
use Rattle.std.proofs.lemmas.List.{drop_more, take_more, length-append, length-take, length-replicate, drop-append-le}
use borrow.Author.Tests.{ltb-true, ltb-false}
use Rattle.fx_tap_delays.specs.DelayExtents.{sum_of_delays, Tap}
use Rattle.fx_fixed.specs.Rounding.{rounding}
use Rattle.fx_fixed.specs.declared.gains.TheConstants.{UNIT}
use Rattle.fx_frame_base.specs.Frame.{Samples, silence}
use Rattle.fx_frame_line.specs.Line.{Frames, pushed_out, channel_of, empty}
use Rattle.fx_tap_delays.specs.Echo.{EchoArguments}
use Rattle.fx_tap_delays.specs.Echos.{decays, echos, echos_frame, passed, sum_below, way}
use Rattle.fx_tap_delays.specs.EchosState.{after_push, delay_at, fed, frame_of_lines, line_outputs, lines_after, or_silence, through_lines}
use Rattle.fx_frame_base.specs.Lists.{tabulate}
use Rattle.fx_tap_sums.specs.Products.{sum_of_products}
use Rattle.fx_frame_base.specs.Given.{given_samples}
use Rattle.fx_frame.specs.History.{History, sample_before}
use Rattle.fx_frame.proofs.DelayLaws.{silence-after}
use Rattle.fx_frame_base.proofs.ListPlaces.{zeros-sample}
use Rattle.fx_frame_base.proofs.Tabulate.{tabulate-append, tabulate-same, length-tabulate}

-- ---- sums and tables

sum-zero : (f : ℕ → ℤ) (n : ℕ) → ((i : ℕ) → i < n → f i ≡ pos 0) → sum_below f n ≡ pos 0
sum-zero f zero h = refl
sum-zero f (suc n) h =
    let more = sum-zero f n (λ i l. h i (omega arith)) in
    let last = h n (omega arith) in
    rw (more, last) refl

sum-same : (f g : ℕ → ℤ) (n : ℕ) → ((i : ℕ) → i < n → f i ≡ g i) → sum_below f n ≡ sum_below g n
sum-same f g zero h = refl
sum-same f g (suc n) h =
    let more = sum-same f g n (λ i l. h i (omega arith)) in
    let last = h n (omega arith) in
    rw (more, last) refl

-- one of a table
pub read-table : {X : Type 0} (f : ℕ → X) (from count k : ℕ) (d : X) → k < count → get_or (tabulate f from count) k d ≡ f (from + k)
read-table f from zero k d h = absurd (omega arith)
read-table f from (suc count) zero d h = rw add-zero refl
read-table f from (suc count) (suc k) d h =
    let at : suc from + k ≡ from + suc k = omega arith in
    read-table f (suc from) count k d (omega arith) ∙ ap f at

drop-table : {X : Type 0} (f : ℕ → X) (j from count : ℕ) → j ≤ count → drop j (tabulate f from count) ≡ tabulate f (from + j) (count - j)
drop-table f zero from count h =
    let at : from ≡ from + 0 = omega arith in
    let left : count ≡ count - 0 = omega arith in
    ap (λ n. tabulate f n count) at ∙ ap (tabulate f (from + 0)) left
drop-table f (suc j) from zero h = absurd (omega arith)
drop-table f (suc j) from (suc count) h =
    let at : suc from + j ≡ from + suc j = omega arith in
    let left : count - j ≡ suc count - suc j = omega arith in
    drop-table f j (suc from) count (omega arith) ∙ ap (λ n. tabulate f n (count - j)) at ∙ ap (tabulate f (from + suc j)) left

-- ---- how late

late-append : (es fs : List Tap) → sum_of_delays (es ++ fs) ≡ sum_of_delays es + sum_of_delays fs
late-append [] fs = omega arith
late-append (e ∷ es) fs = let more = late-append es fs in omega arith

-- one line more makes all echoes later
way-more : (es : List Tap) (i j : ℕ) → i ≤ j → j < length es → way es i (suc j) ≡ way es i j + delay_at es j
way-more es i j h lt =
    let one : suc j ≡ j + 1 = omega arith in
    let cut = take_more es j (0, pos 0) lt in
    let free : i ≤ length (take j es) = omega (arith, length-take j es) in
    ap (λ n. sum_of_delays (drop i (take n es))) one ∙ ap (λ l. sum_of_delays (drop i l)) cut ∙ ap sum_of_delays (drop-append-le i (take j es) (get_or es j (0, pos 0) ∷ []) free)
    ∙ late-append (drop i (take j es)) (get_or es j (0, pos 0) ∷ []) ∙ omega arith

way-none : (es : List Tap) (j : ℕ) → way es j j ≡ 0
way-none [] zero = refl
way-none [] (suc j) = refl
way-none (e ∷ es) zero = refl
way-none (e ∷ es) (suc j) = way-none es j

-- so many frames before a frame that is itself so many frames before
before-by : (w : List Samples) (n t d k : ℕ) (b : Bool) → nat_le (t + d) n ≡ b → d ≤ n → sample_before w n (t + d) k ≡ sample_before w (n - d) t k
before-by w n t d k true e h =
    let le : nat_le t (n - d) ≡ true = grind (arith, nat_tests) in
    let at : n - (t + d) ≡ n - d - t = omega arith in
    rw (e, le, at) refl
before-by w n t d k false e h =
    let le : nat_le t (n - d) ≡ false = grind (arith, nat_tests) in
    rw (e, le) refl

before-before : (w : List Samples) (n t d k : ℕ) → d ≤ n → sample_before w n (t + d) k ≡ sample_before w (n - d) t k
before-before w n t d k h = before-by w n t d k (nat_le (t + d) n) refl h

before-none : (w : List Samples) (n d k : ℕ) → n < d → sample_before w n d k ≡ pos 0
before-none w n d k h =
    let le : nat_le d n ≡ false = grind (arith, nat_tests) in
    rw le refl

before-now : (w : List Samples) (n k : ℕ) → sample_before w n 0 k ≡ get_or (get_or w n []) k (pos 0)
before-now w n k =
    let le : nat_le 0 n ≡ true = grind (arith, nat_tests) in
    let at : n - 0 ≡ n = omega arith in
    rw (le, at) refl

-- what comes out of one line more is the frame and what went into it, so many frames ago
passed-early : (w : List Samples) (es : List Tap) (n j k : ℕ) → j < length es → n < delay_at es j → passed es (sample_before w n) (suc j) k ≡ pos 0
passed-early w es n j k lt early =
    sum-zero (λ i. sample_before w n (way es i (suc j)) k) (suc j) (λ i l. before-none w n (way es i (suc j)) k (let more = way-more es i j (omega arith) lt in omega arith))

passed-more : (w : List Samples) (es : List Tap) (n j k : ℕ) → j < length es → delay_at es j ≤ n
    → passed es (sample_before w n) (suc j) k ≡ sample_before w (n - delay_at es j) 0 k +ℤ passed es (sample_before w (n - delay_at es j)) j k
passed-more w es n j k lt h =
    let d : ℕ = delay_at es j in
    let first : sum_below (λ i. sample_before w n (way es i (suc j)) k) j ≡ passed es (sample_before w (n - d)) j k =
    sum-same _ _ j (λ i l. ap (λ t. sample_before w n t k) (way-more es i j (omega arith) lt) ∙ before-before w n (way es i j) d k h) in
    let last : sample_before w n (way es j (suc j)) k ≡ sample_before w (n - d) 0 k =
    ap (λ t. sample_before w n t k) (way-more es j j (omega arith) lt ∙ ap (λ t. t + d) (way-none es j)) ∙ before-before w n 0 d k h in
    rw (first, last) (omega (arith, ints))

-- ---- the lines, after n frames of a sound

module _ (c : ℕ) (w : List Samples) (es : List Tap) where
  -- what the line at place j takes with frame n
  abbrev taken_at : ℕ → ℕ → Samples
  taken_at j n = tabulate (λ k. sample_before w n 0 k +ℤ passed es (sample_before w n) j k) 0 c

  -- the line at place j after n frames
  abbrev series_line : ℕ → ℕ → Frames ℤ
  series_line n j = record { items = tabulate (taken_at j) (n - min n (delay_at es j)) (min n (delay_at es j)); capacity = delay_at es j; channels = c }

  -- what fell out is read as what comes out of j lines
  abbrev IsLineOutput : ℕ → ℕ → Samples → Type 0
  IsLineOutput n j b = (k : ℕ) → k < c → get_or b k (pos 0) ≡ passed es (sample_before w n) j k

  fed-is : (n j : ℕ) (b : Samples) → IsLineOutput n j b → fed c (get_or w n []) b ≡ taken_at j n
  fed-is n j b line_output = tabulate-same _ _ 0 0 c (λ k l. rw (before-now w n (0 + k), line_output (0 + k) (rw zero-add l)) refl)

  whole-items : (n j : ℕ) → tabulate (taken_at j) (n - min n (delay_at es j)) (min n (delay_at es j)) ++ taken_at j n ∷ [] ≡ tabulate (taken_at j) (n - min n (delay_at es j)) (min n (delay_at es j) + 1)
  whole-items n j =
      let at : n - min n (delay_at es j) + min n (delay_at es j) ≡ n = omega arith in
      let more = tabulate-append (taken_at j) (n - min n (delay_at es j)) (min n (delay_at es j)) 1 in
      sym (more ∙ ap (λ m. tabulate (taken_at j) (n - min n (delay_at es j)) (min n (delay_at es j)) ++ taken_at j m ∷ []) at)

  push-is : (n j : ℕ) → after_push (series_line n j) (taken_at j n) ≡ series_line (n + 1) j
  push-is n j =
      let d : ℕ = delay_at es j in
      let whole = whole-items n j in
      let long : length (tabulate (taken_at j) (n - min n d) (min n d) ++ taken_at j n ∷ []) ≡ min n d + 1 = ap length whole ∙ length-tabulate (taken_at j) (n - min n d) (min n d + 1) in
      let cut = drop-table (taken_at j) (min n d + 1 - d) (n - min n d) (min n d + 1) (omega arith) in
      let at : n - min n d + (min n d + 1 - d) ≡ n + 1 - min (n + 1) d = omega arith in
      let left : min n d + 1 - (min n d + 1 - d) ≡ min (n + 1) d = omega arith in
      ap (λ (items : List Samples). record { items = items; capacity = d; channels = c })
      (ap (λ m. drop (m - d) (tabulate (taken_at j) (n - min n d) (min n d) ++ taken_at j n ∷ [])) long ∙ ap (drop (min n d + 1 - d)) whole ∙ cut
      ∙ ap (λ m. tabulate (taken_at j) m (min n d + 1 - (min n d + 1 - d))) at ∙ ap (tabulate (taken_at j) (n + 1 - min (n + 1) d)) left)

  line_output-by : (n j : ℕ) (b : Bool) → j < length es → 1 ≤ delay_at es j → nat_lt (length (series_line n j).items) (delay_at es j) ≡ b
      → IsLineOutput n (suc j) (or_silence c (if b then None else slice_get ((series_line n j).items ++ taken_at j n ∷ []) 0))
  line_output-by n j true lt some t k l =
      let d : ℕ = delay_at es j in
      let long = length-tabulate (taken_at j) (n - min n d) (min n d) in
      let less = ltb-true _ _ t in
      zeros-sample c k ∙ sym (passed-early w es n j k lt (omega arith))
  line_output-by n j false lt some t k l =
      let d : ℕ = delay_at es j in
      let long = length-tabulate (taken_at j) (n - min n d) (min n d) in
      let full = ltb-false _ _ t in
      let h : d ≤ n = omega arith in
      let count : min n d ≡ suc (d - 1) = omega arith in
      let from : n - min n d ≡ n - d = omega arith in
      let first : slice_get ((series_line n j).items ++ taken_at j n ∷ []) 0 ≡ Some (taken_at j (n - d)) =
      ap (λ m. slice_get (tabulate (taken_at j) (n - min n d) m ++ taken_at j n ∷ []) 0) count ∙ ap (λ m. Some (taken_at j m)) from in
      rw first (read-table (λ k. sample_before w (n - d) 0 k +ℤ passed es (sample_before w (n - d)) j k) 0 c k (pos 0) l
      ∙ ap (λ m. sample_before w (n - d) 0 m +ℤ passed es (sample_before w (n - d)) j m) (zero-add k) ∙ sym (passed-more w es n j k lt h))

  line_output-is : (n j : ℕ) → j < length es → 1 ≤ delay_at es j → IsLineOutput n (suc j) (or_silence c (pushed_out (series_line n j) (taken_at j n)))
  line_output-is n j lt some = line_output-by n j (nat_lt (length (series_line n j).items) (delay_at es j)) lt some refl

  -- the lines after one frame more, and what falls out of them
  series-step : (n j count : ℕ) (b : Samples) → ((i : ℕ) → i < length es → 1 ≤ delay_at es i) → j + count ≤ length es → IsLineOutput n j b
      → (lines_after c (tabulate (series_line n) j count) (get_or w n []) b ≡ tabulate (series_line (n + 1)) j count)
      × ((k : ℕ) → k < c → channel_of (line_outputs c (tabulate (series_line n) j count) (get_or w n []) b) k (pos 0) ≡ tabulate (λ i. passed es (sample_before w n) (suc i) k) j count)
  series-step n j zero b some free line_output = (refl, λ k l. refl)
  series-step n j (suc count) b some free line_output =
      let u = fed-is n j b line_output in
      let next = line_output-is n j (omega arith) (some j (omega arith)) in
      let more = series-step n (suc j) count (or_silence c (pushed_out (series_line n j) (taken_at j n))) some (omega arith) next in (
        rw u (ap (λ l. l ∷ lines_after c (tabulate (series_line n) (suc j) count) (get_or w n []) (or_silence c (pushed_out (series_line n j) (taken_at j n)))) (push-is n j) ∙ ap (λ ls. series_line (n + 1) j ∷ ls) more.0),
        λ k l. rw (u, next k l) (ap (λ ys. passed es (sample_before w n) (suc j) k ∷ ys) (more.1 k l)),
      )

-- ---- a whole sound

-- the same past, the same frame
history-same : (a : EchoArguments) (p q : History) → ((d k : ℕ) → p d k ≡ q d k) → echos_frame a p ≡ echos_frame a q
history-same a p q h = ap (echos_frame a) (let e : p ≡ q = λ i d k. h d k i in e)

module _ (a : EchoArguments) (w : List Samples) (some : (i : ℕ) → i < length a.echo.taps → 1 ≤ delay_at a.echo.taps i) where
  abbrev series_lines_at : ℕ → List (Frames ℤ)
  series_lines_at n = tabulate (series_line a.channels w a.echo.taps n) 0 (length a.echo.taps)

  silent-line_output : (n : ℕ) → IsLineOutput a.channels w a.echo.taps n 0 (replicate a.channels (pos 0))
  silent-line_output n k l = zeros-sample a.channels k

  frame-is : (n : ℕ) → frame_of_lines a (get_or w n []) (line_outputs a.channels (series_lines_at n) (get_or w n []) (replicate a.channels (pos 0))) ≡ echos_frame a (sample_before w n)
  frame-is n =
      let step = series-step a.channels w a.echo.taps n 0 (length a.echo.taps) (replicate a.channels (pos 0)) some (omega arith) (silent-line_output n) in
      ap given_samples (tabulate-same _ _ 0 0 a.channels (λ k l.
      ap (λ z. rounding (a.echo.gain_out *ℤ z) (UNIT * UNIT))
      (ap (λ z. (a.echo.gain_in *ℤ get_or (get_or w n []) (0 + k) (pos 0)) +ℤ sum_of_products (decays a.echo.taps) z) (step.1 (0 + k) (rw zero-add l))
      ∙ ap (λ z. (a.echo.gain_in *ℤ z) +ℤ sum_of_products (decays a.echo.taps) (tabulate (λ i. passed a.echo.taps (sample_before w n) (suc i) (0 + k)) 0 (length a.echo.taps))) (sym (before-now w n (0 + k))))))

  -- frames that come after n frames of the sound
  run-is : (n : ℕ) (xs : List Samples) → drop n w ≡ xs → n + length xs ≡ length w → through_lines a (series_lines_at n) xs ≡ tabulate (λ m. echos_frame a (sample_before w m)) n (length xs)
  run-is n [] e long = refl
  run-is n (x ∷ xs) e long =
      let lt : n < length w = omega arith in
      let more = drop_more w n [] lt in
      let both : get_or w n [] ∷ drop (n + 1) w ≡ x ∷ xs = sym more ∙ e in
      let first : get_or w n [] ≡ x = cc in
      let left : drop (n + 1) w ≡ xs = cc in
      let one : n + 1 ≡ suc n = omega arith in
      let step = series-step a.channels w a.echo.taps n 0 (length a.echo.taps) (replicate a.channels (pos 0)) some (omega arith) (silent-line_output n) in
      let rest = run-is (n + 1) xs left (omega arith) in
      let frame = frame-is n in
      rw (← first) (
      ap (λ ls. frame_of_lines a (get_or w n []) (line_outputs a.channels (series_lines_at n) (get_or w n []) (replicate a.channels (pos 0))) ∷ through_lines a ls xs) step.0
      ∙ ap (λ y. y ∷ through_lines a (series_lines_at (n + 1)) xs) frame
      ∙ ap (λ ys. echos_frame a (sample_before w n) ∷ ys) (rest ∙ ap (λ m. tabulate (λ m. echos_frame a (sample_before w m)) m (length xs)) one))

-- lines without a frame
series_lines-empty : (c : ℕ) (es : List Tap) (f : ℕ → Frames ℤ) (from : ℕ) → ((i : ℕ) → i < length es → f (from + i) ≡ empty c (delay_at es i)) → tabulate f from (length es) ≡ map (λ e. empty c e.0) es
series_lines-empty c [] f from h = refl
series_lines-empty c (e ∷ es) f from h =
    let here : f from ≡ empty c e.0 = simp add-zero at (h 0 (omega arith)) in
    let more : (i : ℕ) → i < length es → f (suc from + i) ≡ empty c (delay_at es i) = λ i l.
    let at : suc from + i ≡ from + suc i = omega arith in
    rw at (h (suc i) (omega arith)) in
    rw here (ap (λ l. empty c e.0 ∷ l) (series_lines-empty c es f (suc from) more))

-- with empty lines it is the whole list
pub through-all : (a : EchoArguments) (z : List Samples) → ((i : ℕ) → i < length a.echo.taps → 1 ≤ delay_at a.echo.taps i)
    → through_lines a (map (λ e. empty a.channels e.0) a.echo.taps) (z ++ replicate (sum_of_delays a.echo.taps) (silence a.channels)) ≡ echos a z
through-all a z some =
    let w : List Samples = z ++ replicate (sum_of_delays a.echo.taps) (silence a.channels) in
    let long : length w ≡ length z + sum_of_delays a.echo.taps = length-append z (replicate (sum_of_delays a.echo.taps) (silence a.channels)) ∙ ap (λ n. length z + n) (length-replicate (sum_of_delays a.echo.taps) (silence a.channels)) in
    let start : series_lines_at a w some 0 ≡ map (λ e. empty a.channels e.0) a.echo.taps = series_lines-empty a.channels a.echo.taps (series_line a.channels w a.echo.taps 0) 0 (λ i l.
    let at : 0 + i ≡ i = omega arith in
    let none : min 0 (delay_at a.echo.taps i) ≡ 0 = omega arith in
    rw (at, none) refl) in
    rw (← start) (
    run-is a w some 0 w refl (omega arith)
    ∙ ap (tabulate (λ m. echos_frame a (sample_before w m)) 0) long
    ∙ tabulate-same _ _ 0 0 (length z + sum_of_delays a.echo.taps) (λ n l. history-same a (sample_before w (0 + n)) (sample_before z (0 + n)) (λ d k.
    ap (λ s. cond (nat_le d (0 + n)) s (pos 0)) (silence-after z (sum_of_delays a.echo.taps) a.channels (0 + n - d) k))))
