-- A frame goes through a row of lines.
use Rattle.std.proofs.Common.{ℕ, ℤ, pos, suc, zero, ◌+◌, ◌-◌, ◌*◌, ◌^◌, ◌<◌, ◌≤◌, ◌≡◌, ◌+ℤ◌, ◌*ℤ◌, Bool, true, false, List, [], ◌∷◌, ◌++◌, length, get_or, set, take, drop, replicate, refl, sym, ap, ◌∙◌, arith, append_assoc, zero-add, FitsSigned, unsigned_abs, slice_index_or, slice_get, nat_lt, None, if◌then◌else◌}
use Rattle.std.specs.Int.{w32}
use Rattle.std.specs.List.{All}
use Rattle.std.proofs.lemmas.Int.{ints}
use Rattle.std.proofs.lemmas.List.{drop_more, take_more_set, get_or-drop, drop-drop, drop-set-lt}
use Rattle.std.proofs.lemmas.List.Elements.{All-head, All-tail}
use Rattle.fx_fixed.specs.declared.gains.TheConstants.{UNIT}
use Rattle.fx_frame_base.specs.Frame.{Samples}
use Rattle.fx_frame_line.specs.Line.{Frames, pushed_out, channel_of, empty}
use Rattle.fx_fixed.specs.Rounding.{rounding}
use Rattle.fx_tap_delays.specs.Echo.{EchoArguments}
use Rattle.fx_frame_base.specs.Given.{given_samples}
use Rattle.fx_frame_base.proofs.Tabulate.{tabulate-same}
use Rattle.fx_tap_delays.specs.Echos.{decays}
use Rattle.fx_tap_delays.specs.EchosState.{IsSeriesLine, after_push, fed, frame_of_lines, line_outputs, line_at, lines_after, or_silence}
use Rattle.fx_frame_base.specs.Lists.{tabulate}
use Rattle.fx_tap_sums.specs.Products.{sum_of_products}
use borrow.Author.Tests.{ltb-true, ltb-false}
use Rattle.fx_frame_base.proofs.ListPlaces.{zeros-sample}
use Rattle.fx_tap_sums.proofs.Magnitudes.{added-bound, scaled-bound}

-- ---- how large

-- no sample that is read is larger
abbrev pub Small : ℕ → Samples → Type 0
Small m f = (k : ℕ) → unsigned_abs (slice_index_or f k (pos 0)) ≤ m

pub small_of : (m : ℕ) (f : Samples) → All (λ x. unsigned_abs x ≤ m) f → Small m f
small_of m [] h k = omega arith
small_of m (x ∷ f) h zero = All-head (λ x. unsigned_abs x ≤ m) x f h
small_of m (x ∷ f) h (suc k) = small_of m f (All-tail (λ x. unsigned_abs x ≤ m) x f h) k

pub small-frame : (f : Samples) → All (FitsSigned w32) f → Small (2 ^ 31) f
small-frame [] h k = omega arith
small-frame (x ∷ f) h zero = let fits : FitsSigned w32 x = All-head (FitsSigned w32) x f h in omega (arith, ints)
small-frame (x ∷ f) h (suc k) = small-frame f (All-tail (FitsSigned w32) x f h) k

small-table : (F : ℕ → ℤ) (from count m : ℕ) → ((k : ℕ) → unsigned_abs (F k) ≤ m) → Small m (tabulate F from count)
small-table F from zero m h k = omega arith
small-table F from (suc count) m h zero = h from
small-table F from (suc count) m h (suc k) = small-table F (suc from) count m h k

pub small-fed : (c j : ℕ) (x before : Samples) → Small (2 ^ 31) x → Small (j * 2 ^ 31) before → Small ((j + 1) * 2 ^ 31) (fed c x before)
small-fed c j x before h b =
    small-table (λ k. slice_index_or x k (pos 0) +ℤ slice_index_or before k (pos 0)) 0 c ((j + 1) * 2 ^ 31) (λ k.
    let maximum = added-bound (slice_index_or x k (pos 0)) (slice_index_or before k (pos 0)) _ _ (h k) (b k) in
    omega arith)

pub small-silence : (m c : ℕ) → Small m (replicate c (pos 0))
small-silence m c k = rw (zeros-sample c k) (omega arith)

line_output-by : (m c : ℕ) (items : List Samples) (u : Samples) (b : Bool) → All (All (λ x. unsigned_abs x ≤ m)) items → Small m u → Small m (or_silence c (if b then None else slice_get (items ++ u ∷ []) 0))
line_output-by m c items u true h s = small-silence m c
line_output-by m c [] u false h s = s
line_output-by m c (f ∷ items) u false h s = small_of m f (All-head (All (λ x. unsigned_abs x ≤ m)) f items h)

pub small-line_output : (c j : ℕ) (l : Frames ℤ) (u : Samples) → IsSeriesLine c j l → Small ((j + 1) * 2 ^ 31) u → Small ((j + 1) * 2 ^ 31) (or_silence c (pushed_out l u))
small-line_output c j l u is s = line_output-by ((j + 1) * 2 ^ 31) c l.items u (nat_lt (length l.items) l.capacity) is.small s

-- ---- one line more

pub lines-step : (c p : ℕ) (old now : List (Frames ℤ)) (x b : Samples) (W : List (Frames ℤ)) → p < length old → length now ≡ length old
    → take p now ++ lines_after c (drop p old) x b ≡ W
    → take (p + 1) (set now p (after_push (line_at old p) (fed c x b))) ++ lines_after c (drop (p + 1) old) x (or_silence c (pushed_out (line_at old p) (fed c x b))) ≡ W
lines-step c p old now x b W lt same e =
    let more = drop_more old p (empty 0 0) lt in
    let cut = take_more_set now p (after_push (line_at old p) (fed c x b)) (omega arith) in
    ap (λ l. l ++ lines_after c (drop (p + 1) old) x (or_silence c (pushed_out (line_at old p) (fed c x b)))) cut
    ∙ append_assoc (take p now) _ _
    ∙ ap (λ l. take p now ++ lines_after c l x b) (sym more)
    ∙ e

pub left-step : (p : ℕ) (old now : List (Frames ℤ)) (v : Frames ℤ) → drop p now ≡ drop p old → drop (p + 1) (set now p v) ≡ drop (p + 1) old
left-step p old now v e =
    drop-set-lt (p + 1) now p v (omega arith) ∙ sym (drop-drop 1 p now) ∙ ap (drop 1) e ∙ drop-drop 1 p old

pub same-line : (p : ℕ) (old now : List (Frames ℤ)) → drop p now ≡ drop p old → line_at now p ≡ line_at old p
same-line p old now e =
    let at : p + 0 ≡ p = omega arith in
    ap (λ i. get_or now i (empty 0 0)) (sym at) ∙ sym (get_or-drop p now 0 (empty 0 0)) ∙ ap (λ l. get_or l 0 (empty 0 0)) e ∙ get_or-drop p old 0 (empty 0 0) ∙ ap (λ i. get_or old i (empty 0 0)) at

pub sums-step : (c p k : ℕ) (old : List (Frames ℤ)) (D : List ℤ) (x b : Samples) (S S' W : ℤ) → p < length old → p < length D
    → S' ≡ S +ℤ (get_or D p (pos 0) *ℤ get_or (or_silence c (pushed_out (line_at old p) (fed c x b))) k (pos 0))
    → S +ℤ sum_of_products (drop p D) (channel_of (line_outputs c (drop p old) x b) k (pos 0)) ≡ W
    → S' +ℤ sum_of_products (drop (p + 1) D) (channel_of (line_outputs c (drop (p + 1) old) x (or_silence c (pushed_out (line_at old p) (fed c x b)))) k (pos 0)) ≡ W
sums-step c p k old D x b S S' W lt lt_D added e =
    let more = drop_more old p (empty 0 0) lt in
    let more_D = drop_more D p (pos 0) lt_D in
    let first = ap (λ l. S +ℤ sum_of_products l (channel_of (line_outputs c (drop p old) x b) k (pos 0))) (sym more_D) ∙ e in
    let both = ap (λ l. S +ℤ sum_of_products (get_or D p (pos 0) ∷ drop (p + 1) D) (channel_of (line_outputs c l x b) k (pos 0))) (sym more) ∙ first in
    rw added (omega (arith, ints, both))

-- the numbers from 1 to n, added
abbrev pub up_to : ℕ → ℕ
up_to zero = 0
up_to (suc n) = up_to n + suc n

-- the sums stay small
pub bound-step : (p : ℕ) (s d g : ℤ) → unsigned_abs d ≤ UNIT → unsigned_abs g ≤ (p + 1) * 2 ^ 31 → unsigned_abs s ≤ (1 + up_to p) * (UNIT * 2 ^ 31) → unsigned_abs (s +ℤ (d *ℤ g)) ≤ (1 + up_to (suc p)) * (UNIT * 2 ^ 31)
bound-step p s d g decay small bound =
    let product = scaled-bound d g UNIT ((p + 1) * 2 ^ 31) decay small in
    let maximum = added-bound s (d *ℤ g) _ _ bound product in
    omega arith

-- at most seven lines
up_to-le : (p q : ℕ) → p ≤ q → up_to p ≤ up_to q
up_to-le zero q h = omega arith
up_to-le (suc p) zero h = absurd (omega arith)
up_to-le (suc p) (suc q) h = let more = up_to-le p q (omega arith) in omega arith

pub bound-seven : (p : ℕ) (s : ℤ) → p ≤ 7 → unsigned_abs s ≤ (1 + up_to p) * (UNIT * 2 ^ 31) → unsigned_abs s ≤ 29 * (UNIT * 2 ^ 31)
bound-seven p s h bound = let maximum = up_to-le p 7 h in omega arith

-- one channel more or less
bound-by : (p c k : ℕ) (S S' d g : ℤ) (b : Bool) → nat_lt k c ≡ b → unsigned_abs d ≤ UNIT → unsigned_abs g ≤ (p + 1) * 2 ^ 31 → unsigned_abs S ≤ (1 + up_to p) * (UNIT * 2 ^ 31)
    → (k < c → S' ≡ S +ℤ (d *ℤ g)) → (c ≤ k → S' ≡ S) → unsigned_abs S' ≤ (1 + up_to (p + 1)) * (UNIT * 2 ^ 31)
bound-by p c k S S' d g true t decay small bound added left =
    let one : suc p ≡ p + 1 = omega arith in
    rw (added (ltb-true k c t), ← one) (bound-step p S d g decay small bound)
bound-by p c k S S' d g false t decay small bound added left =
    let one : suc p ≡ p + 1 = omega arith in
    rw (left (ltb-false k c t), ← one) (omega arith)

pub bound-more : (p c k : ℕ) (S S' d g : ℤ) → unsigned_abs d ≤ UNIT → unsigned_abs g ≤ (p + 1) * 2 ^ 31 → unsigned_abs S ≤ (1 + up_to p) * (UNIT * 2 ^ 31)
    → (k < c → S' ≡ S +ℤ (d *ℤ g)) → (c ≤ k → S' ≡ S) → unsigned_abs S' ≤ (1 + up_to (p + 1)) * (UNIT * 2 ^ 31)
bound-more p c k S S' d g decay small bound added left = bound-by p c k S S' d g (nat_lt k c) refl decay small bound added left

-- ---- the frame that is given, and the frames that are stored

pub echoed-is : (a : EchoArguments) (x sums : Samples) (line_output : List Samples) → ((k : ℕ) → k < a.channels → slice_index_or sums k (pos 0) ≡ (a.echo.gain_in *ℤ slice_index_or x k (pos 0)) +ℤ sum_of_products (decays a.echo.taps) (channel_of line_output k (pos 0)))
    → given_samples (tabulate (λ k. rounding (a.echo.gain_out *ℤ slice_index_or sums k (pos 0)) (UNIT * UNIT)) 0 a.channels) ≡ frame_of_lines a x line_output
echoed-is a x sums line_output h = ap given_samples (tabulate-same _ _ 0 0 a.channels (λ k l. ap (λ z. rounding (a.echo.gain_out *ℤ z) (UNIT * UNIT)) (h (0 + k) (rw zero-add l))))

pub get-left : (xs ys : List Samples) (i : ℕ) → i < length xs → slice_get (xs ++ ys) i ≡ slice_get xs i
get-left [] ys i h = absurd (omega arith)
get-left (x ∷ xs) ys zero h = refl
get-left (x ∷ xs) ys (suc i) h = get-left xs ys i (omega arith)

pub get-right : (xs ys : List Samples) (i : ℕ) → length xs ≤ i → slice_get (xs ++ ys) i ≡ slice_get ys (i - length xs)
get-right [] ys i h = ap (slice_get ys) (let e : i ≡ i - 0 = omega arith in e)
get-right (x ∷ xs) ys zero h = absurd (omega arith)
get-right (x ∷ xs) ys (suc i) h = get-right xs ys i (omega arith) ∙ ap (slice_get ys) (let e : i - length xs ≡ suc i - suc (length xs) = omega arith in e)
