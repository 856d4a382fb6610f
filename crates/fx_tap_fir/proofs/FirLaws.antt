-- How a `Fir` behaves.
use Rattle.std.proofs.Common.{ℕ, ℤ, pos, zero, suc, ◌+◌, ◌-◌, ◌<◌, ◌≤◌, ◌≡◌, Bool, true, false, cond, min, List, [], ◌∷◌, ◌++◌, length, drop, get_or, set, reverse, refl, sym, ap, ◌∙◌, arith, zero-add, append_assoc, append-nil, slice_get, slice_index_or, Option, Some, None, nat_eq}
use Rattle.std.proofs.lemmas.Bool.{true_from_ne_false}
use Rattle.std.proofs.Math.Seq.{set-append_seam}
use Rattle.std.proofs.lemmas.List.{length-append, length-drop, length-map, length-reverse, reverse-reverse, map-append, drop-append-le}
use Rattle.fx_frame_base.specs.Frame.{Samples}
use Rattle.fx_frame_line.specs.Line.{Frames, pushed, channel_of}
use Rattle.fx_frame.specs.Frozen.{IsStored}
use Rattle.fx_frame_base.specs.StageCore.{pending_frames}
use Rattle.fx_frame_base.specs.Stage.{Gave, Took, Freezes, numbers_of}
use Rattle.fx_frame.specs.Numbers.{by_name, core_of}
use Rattle.fx_frame.specs.History.{sample_before}
use Rattle.fx_frame.proofs.CoreLaws.{AreCoreNumbers-of, core_of-numbers}
use Rattle.fx_frame.proofs.Counts.{flag-false}
use Rattle.fx_tap_fir.specs.Fir.{FirArguments, centre, filtered_frame, filtered_at, filtered}
use Rattle.fx_tap_fir.specs.FirState.{AreFirCounts, FirState, IsFir, fir_after, fir_tail, fir_acts, arguments_of}
use Rattle.fx_frame_base.specs.Lists.{tabulate}
use Rattle.fx_tap_sums.specs.Products.{sum_of_products}
use Rattle.fx_frame_base.specs.Given.{given_samples}
use Rattle.fx_fixed.specs.Rounding.{rounding}
use Rattle.fx_fixed.specs.declared.gains.TheConstants.{UNIT}
use Rattle.fx_frame.proofs.DryLaws.{dry-pending, dry-tail}
use Rattle.fx_frame.proofs.DelayLaws.{sample_before-append, sample_before-drop}
use Rattle.fx_frame_base.proofs.Tabulate.{tabulate-same}

-- ---- a window

one-latest : (latest : List Samples) (f : Samples) → length latest ≤ 1 → slice_get latest 0 ≡ Some f → latest ≡ f ∷ []
one-latest [] f bound e = absurd (cc)
one-latest (g ∷ []) f bound e = let same : g ≡ f = cc in ap (λ x. x ∷ []) same
one-latest (g ∷ h ∷ more) f bound e = absurd (omega arith)

last-set : (whole rest : List ℤ) (n : ℕ) (v : ℤ) → length whole ≡ n → length rest ≡ 1 → set (whole ++ rest) n v ≡ whole ++ v ∷ []
last-set whole [] n v long one = absurd (omega arith)
last-set whole (w ∷ []) n v long one = rw (← long) (set-append_seam _ _ _ _)
last-set whole (w ∷ u ∷ rest) n v long one = absurd (omega arith)

-- the latest sample comes after those of the line
pub window-filled : (items latest : List Samples) (window : List ℤ) (channel : ℕ) (f : Samples) (v : ℤ) → length latest ≤ 1 → slice_get latest 0 ≡ Some f → length window ≡ length items + length latest → v ≡ get_or f channel (pos 0)
    → set (channel_of items channel (pos 0) ++ drop (length items) window) (length items) v ≡ channel_of (items ++ latest) channel (pos 0)
window-filled items latest window channel f v bound e long is =
    let one = one-latest latest f bound e in
    let size : length latest ≡ 1 = ap length one in
    let left = length-drop (length items) window in
    last-set (channel_of items channel (pos 0)) (drop (length items) window) (length items) v (length-map items _) (omega arith)
    ∙ ap (λ z. channel_of items channel (pos 0) ++ z ∷ []) is
    ∙ sym (map-append (λ x. get_or x channel (pos 0)) items (f ∷ []))
    ∙ ap (λ l. channel_of (items ++ l) channel (pos 0)) (sym one)

-- ---- a frame, channel by channel

-- ---- what comes and goes

-- two lists that agree at the frames that are read give the same frame
filtered_frame-same : (r : FirArguments) (x y : List Samples) (m n : ℕ) → ((k c : ℕ) → k < length r.coefficients → sample_before x m k c ≡ sample_before y n k c) → filtered_frame r x m ≡ filtered_frame r y n
filtered_frame-same r x y m n h =
    ap given_samples (tabulate-same _ _ 0 0 r.channels (λ c l.
    ap (λ s. rounding (sum_of_products s r.coefficients) UNIT)
    (tabulate-same _ _ 0 0 (length r.coefficients) (λ k less. h (0 + k) (0 + c) (rw zero-add less)))))

-- what comes later is not read
pub filtered-later : (r : FirArguments) (x y : List Samples) (n : ℕ) → n + centre (length r.coefficients) < length x → filtered_at r (x ++ y) n ≡ filtered_at r x n
filtered-later r x y n h = filtered_frame-same r (x ++ y) x _ _ (λ k c l. sample_before-append x y (n + centre (length r.coefficients)) k c h)

-- where no frame before the first is read, the first frames may be dropped
pub filtered-dropped : (r : FirArguments) (x : List Samples) (j n : ℕ) → (0 < j → length r.coefficients ≤ n + centre (length r.coefficients) + 1) → filtered_at r (drop j x) n ≡ filtered_at r x (n + j)
filtered-dropped r x j n h =
    let at : n + centre (length r.coefficients) + j ≡ n + j + centre (length r.coefficients) = omega arith in
    rw (← at) (filtered_frame-same r (drop j x) x _ _ (λ k c l. sample_before-drop x j (n + centre (length r.coefficients)) k c (λ p. let e = h p in omega arith)))

centre-le : (n : ℕ) → centre n ≤ n - 1
centre-le n = omega arith

-- one more frame comes, and one is due
pub rest_unchanged-due : (r : FirArguments) (items z : List Samples) (f : Samples) (capacity : ℕ) → capacity + 1 ≡ length r.coefficients → length items ≤ capacity → centre (length r.coefficients) ≤ length items
    → fir_after r items (f ∷ z) ≡ filtered_frame r (items ++ f ∷ []) (length items) ∷ fir_after r (drop (length (items ++ f ∷ []) - capacity) (items ++ f ∷ [])) z
rest_unchanged-due r items z f capacity full held due =
    let c : ℕ = centre (length r.coefficients) in
    let whole : List Samples = items ++ f ∷ [] in
    let long : length whole ≡ length items + 1 = length-append items (f ∷ []) in
    let j : ℕ = length whole - capacity in
    let split : items ++ f ∷ z ≡ whole ++ z = sym (append_assoc items (f ∷ []) z) in
    let left : length (drop j whole) ≡ length whole - j = length-drop j whole in
    let dropped : drop j whole ++ z ≡ drop j (whole ++ z) = sym (drop-append-le j whole z (omega arith)) in
    let count : min (length items) c + suc (length z) ≡ suc (c + length z) = omega arith in
    let kept : min (length (drop j whole)) c + length z ≡ c + length z = let le = centre-le (length r.coefficients) in omega arith in
    let here : filtered_at r (items ++ f ∷ z) (length items - c) ≡ filtered_frame r whole (length items) =
    let place : length items - c + c ≡ length items = omega arith in
    rw split (filtered-later r whole z (length items - c) (omega arith)) ∙ ap (filtered_frame r whole) place in
    let more : tabulate (filtered_at r (items ++ f ∷ z)) (suc (length items - c)) (c + length z) ≡ tabulate (filtered_at r (drop j whole ++ z)) (length (drop j whole) - c) (c + length z) =
    tabulate-same _ _ _ _ (c + length z) (λ k l.
    let at : suc (length items - c) + k ≡ length (drop j whole) - c + k + j = let le = centre-le (length r.coefficients) in omega arith in
    rw (split, dropped, at) (sym (filtered-dropped r (whole ++ z) j (length (drop j whole) - c + k) (λ p. omega arith)))) in
    ap (tabulate (filtered_at r (items ++ f ∷ z)) (length items - c)) count
    ∙ ap (λ y. y ∷ tabulate (filtered_at r (items ++ f ∷ z)) (suc (length items - c)) (c + length z)) here
    ∙ ap (λ ys. filtered_frame r whole (length items) ∷ ys) (more ∙ ap (tabulate (filtered_at r (drop j whole ++ z)) (length (drop j whole) - c)) (sym kept))

-- one of the last frames is given
pub tail-step : (r : FirArguments) (items : List Samples) (tail : ℕ) → 0 < tail → tail ≤ length items → fir_tail r items tail ≡ filtered_at r items (length items - tail) ∷ fir_tail r items (tail - 1)
tail-step r items zero some within = absurd (omega arith)
tail-step r items (suc t) some within =
    let at : suc (length items - suc t) ≡ length items - (suc t - 1) = omega arith in
    let count : t ≡ suc t - 1 = omega arith in
    ap (λ ys. filtered_at r items (length items - suc t) ∷ ys) (ap (λ n. tabulate (filtered_at r items) n t) at ∙ ap (tabulate (filtered_at r items) (length items - (suc t - 1))) count)

-- with an empty line it is the whole filtered list
pub rest_unchanged-all : (r : FirArguments) (z : List Samples) → fir_after r [] z ≡ filtered r z
rest_unchanged-all r z =
    let from : 0 - centre (length r.coefficients) ≡ 0 = omega arith in
    let count : min 0 (centre (length r.coefficients)) + length z ≡ length z = omega arith in
    rw (from, count) refl

-- the coefficients are as many as they are backwards
count-back : (s : FirState) → IsFir s → s.line.capacity + 1 ≡ length (reverse s.backwards)
count-back s is = is.capacity ∙ sym (length-reverse s.backwards)

-- the state after a frame came and one was due
abbrev pub taken_fir : FirState → Frames ℤ → Samples → ℕ → FirState
taken_fir s line out clips = record s { line = line; core = record s.core { pending = Some out; pending_clips = clips; taken = s.core.taken + 1 } }

pub Took-due : (s : FirState) (line : Frames ℤ) (frame out : Samples) (clips : ℕ) → IsFir s → fir_acts.dry s ≡ true → s.core.ended ≡ false → centre (length s.backwards) ≤ length s.line.items
    → out ≡ (filtered_frame (arguments_of s) (s.line.items ++ frame ∷ []) (length s.line.items)).samples → clips ≡ (filtered_frame (arguments_of s) (s.line.items ++ frame ∷ []) (length s.line.items)).clips
    → line.items ≡ pushed s.line frame → Took fir_acts s (taken_fir s line out clips) frame
Took-due s line frame out clips is dry running due out_is clips_are items =
    let none = dry-pending s.core.pending s.tail dry in
    let same = length-reverse s.backwards in
    let enough : centre (length (reverse s.backwards)) ≤ length s.line.items = rw same due in
    record {
      rest = λ z. rw (none, running, items, out_is, clips_are) (sym (rest_unchanged-due (arguments_of s) s.line.items z frame s.line.capacity (count-back s is) is.line.within enough));
      counted = refl;
      recipe_stays = refl;
    }

ended-tail : (s : FirState) → IsFir s → 0 < s.tail → s.core.ended ≡ true
ended-tail s is some = true_from_ne_false s.core.ended (λ e. let k = is.not_ended e in absurd (omega arith))

-- the state after one of the last frames was given
abbrev pub drained_fir : FirState → ℕ → FirState
drained_fir s clips = record s { tail = s.tail - 1; core = record s.core { given = s.core.given + 1; clips = s.core.clips + clips } }

pub Gave-last : (s : FirState) (out : Samples) (clips : ℕ) → IsFir s → s.core.pending ≡ None → 0 < s.tail
    → out ≡ (filtered_frame (arguments_of s) (s.line.items ++ []) (length s.line.items - s.tail + centre (length s.backwards))).samples
    → clips ≡ (filtered_frame (arguments_of s) (s.line.items ++ []) (length s.line.items - s.tail + centre (length s.backwards))).clips
    → length out ≡ s.channels → Gave fir_acts s (drained_fir s clips) out
Gave-last s out clips is none some out_is clips_are long =
    let over = ended-tail s is some in
    let same = length-reverse s.backwards in
    let counted : s.core.given + 0 + s.tail ≡ s.core.taken = rw (none, over) at is.counted in
    let place : length s.line.items - s.tail + centre (length s.backwards) ≡ length s.line.items - s.tail + centre (length (reverse s.backwards)) = rw same refl in
    record {
      was_wet = dry-tail s.core.pending s.tail some;
      gives = record {
        clips = clips;
        first = λ z. rw (none, over, out_is, clips_are, append-nil, place) (tail-step (arguments_of s) s.line.items s.tail some is.tail_held);
        counted = refl;
      };
      channels = long;
      due = λ running. absurd (cc (running, over));
      maximum = omega arith;
      recipe_stays = refl;
    }

-- the coefficients of a stage fix what it stores of them
pub backwards_of : (s : FirState) (channels : ℕ) (h : List ℤ) → arguments_of s ≡ record { channels = channels; coefficients = h } → s.backwards ≡ reverse h
backwards_of s channels h e = sym (reverse-reverse s.backwards) ∙ ap (λ (r : FirArguments). reverse r.coefficients) e

-- a stage of these arguments that froze to these frames and numbers has such a line and pending frame
pub stored-is : (s : FirState) (channels : ℕ) (h : List ℤ) (frames : List Samples) (numbers : List ℕ) → IsFir s → arguments_of s ≡ record { channels = channels; coefficients = h } → Freezes fir_acts s frames numbers
    → IsStored channels (length h - 1) (slice_index_or numbers 6 0) frames s.line s.core.pending
stored-is s channels h frames numbers is made froze =
    let wide : s.channels ≡ channels = ap (λ (r : FirArguments). r.channels) made in
    let same : length s.backwards ≡ length h = sym (length-reverse s.backwards) ∙ ap (λ (r : FirArguments). length r.coefficients) made in
    let full = is.capacity in
    record {
      lined = is.line;
      channels_are = is.channels ∙ wide;
      capacity_is = omega arith;
      held = rw (← wide) is.core.fits;
      pending_count_is = rw froze.counted refl;
      stored = froze.stored;
    }

-- and it is the stage that is made of them
pub thawed-is : (s : FirState) (channels : ℕ) (h backwards : List ℤ) (line : Frames ℤ) (pending : Option Samples) (numbers : List ℕ) → arguments_of s ≡ record { channels = channels; coefficients = h } → numbers ≡ numbers_of fir_acts s
    → line ≡ s.line → pending ≡ s.core.pending → backwards ≡ reverse h
    → record { channels = channels; backwards = backwards; line = line; core = core_of (by_name numbers).core pending; tail = (by_name numbers).tail } ≡ s
thawed-is s channels h backwards line pending numbers made counted line_is pending_is back_is =
    let wide : channels ≡ s.channels = sym (ap (λ (r : FirArguments). r.channels) made) in
    let back : backwards ≡ s.backwards = back_is ∙ sym (backwards_of s channels h made) in
    rw (wide, back, line_is, pending_is, counted, core_of-numbers s.core) refl

-- the frames made, by whether the end came
by_end : (b : Bool) (made taken late : ℕ) → made ≡ cond b taken (taken - late) → (◌≡◌ {A = ℕ} (cond b 1 0) 0 → made ≡ taken - late) × (1 ≤ cond b 1 0 → made ≡ taken)
by_end true made taken late e = (λ z. absurd (omega arith), λ some. e)
by_end false made taken late e = (λ z. e, λ some. absurd (omega arith))

pub by_flag : (ended made taken late : ℕ) → ended ≤ 1 → (ended ≡ 0 → made ≡ taken - late) → (1 ≤ ended → made ≡ taken) → made ≡ cond (nat_eq ended 1) taken (taken - late)
by_flag zero made taken late flag running through = running refl
by_flag (suc zero) made taken late flag running through = through (omega arith)
by_flag (suc (suc n)) made taken late flag running through = absurd (omega arith)

-- a stage of these arguments that froze to these frames and numbers has such counts
pub counts-are : (s : FirState) (channels : ℕ) (h : List ℤ) (frames : List Samples) (numbers : List ℕ) → IsFir s → arguments_of s ≡ record { channels = channels; coefficients = h } → Freezes fir_acts s frames numbers
    → AreFirCounts (length h) (length frames) (by_name numbers)
counts-are s channels h frames numbers is made froze =
    let same : length s.backwards ≡ length h = sym (length-reverse s.backwards) ∙ ap (λ (r : FirArguments). length r.coefficients) made in
    let all : length (s.line.items ++ pending_frames s.core) ≡ length s.line.items + length (pending_frames s.core) = length-append s.line.items (pending_frames s.core) in
    let held = is.held in
    let full = is.capacity in
    let tail = is.tail_held in
    let bound = is.tail_bound in
    let sum = by_end s.core.ended (s.core.given + length (pending_frames s.core) + s.tail) s.core.taken (centre (length s.backwards)) is.counted in
    rw froze.counted
    record {
      core = AreCoreNumbers-of _ _ s.core is.core;
      all = ap length (sym froze.stored);
      held = omega (arith, all, held, full, same);
      running = λ z. let e = sum.0 z in omega (arith, e, same);
      through = sum.1;
      tail_held = omega (arith, tail, held, full, same);
      tail_bound = omega (arith, bound, same);
      not_ended = λ z. is.not_ended (flag-false s.core.ended z);
    }
