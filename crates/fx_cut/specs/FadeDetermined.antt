-- What `fade` gives of a frame is determined that many frames later: the distance of the stop from the end and the fall before
-- it.
use Rattle.std.proofs.Common.{◌≡◌, ℕ, zero, suc, ◌+◌, ◌-◌, ◌<◌, ◌≤◌, min, true, false, cond, List, [], ◌∷◌, map, length, refl, sym, ◌∙◌, ap, arith, inl, inr, ◌⊎◌}
use Rattle.std.specs.Prelude.{Option, Some, None, count_by, filter, nat_lt, slice_index_or}
use Rattle.std.specs.List.{range_with_len}
use Rattle.std.proofs.lemmas.Bool.{cases_lt, le-ltb, lt-ltb}
use Rattle.fx_cut.specs.FadeExtents.{stop_line}
use Rattle.fx_fixed.specs.declared.positions.At.{At}
use Rattle.fx_fixed.specs.declared.positions.At.TheVariants.{Start, End}
use Rattle.fx_frame_base.specs.Frame.{Samples}
use Rattle.fx_cut.specs.declared.fade.words.Fading.{Fading}
use Rattle.fx_cut.specs.Fade.{FadeArguments, due_by, fade_enough, fade_meaning, faded_frame, stop_in, until, weight}
use Rattle.fx_cut.specs.FadeState.{fade_selects, is_before}
use Rattle.fx_cut.specs.Selected.{AreDetermined, selected_from}
use Rattle.fx_cut.specs.Picked.{picked}
use Rattle.fx_cut.specs.Ranges.{count_const, count_same, kept_next}

-- ---- the frames before the stop

until-next : (stop : Option ℕ) (n : ℕ) → until stop n + cond (is_before stop n) 1 0 ≡ until stop (n + 1)
until-next None n = refl
until-next (Some s) n = go (cases_lt n s)
  where
    go : (n < s) ⊎ (s ≤ n) → min n s + cond (nat_lt n s) 1 0 ≡ min (n + 1) s
    go (inl l) = let e : nat_lt n s ≡ true = lt-ltb n s l in rw e (omega arith)
    go (inr g) = let e : nat_lt n s ≡ false = le-ltb n s g in rw e (omega arith)

until-none : (stop : Option ℕ) → until stop 0 ≡ 0
until-none None = refl
until-none (Some s) = omega arith

-- how many of the first frames lie before the stop
pub until-count : (stop : Option ℕ) (n : ℕ) → count_by (is_before stop) (range_with_len 0 n) ≡ until stop n
until-count stop zero = sym (until-none stop)
until-count stop (suc n) =
    let e : suc n ≡ n + 1 = omega arith in
    ap (λ k. count_by (is_before stop) (range_with_len 0 k)) e
    ∙ kept_next (is_before stop) n
    ∙ ap (λ k. k + cond (is_before stop n) 1 0) (until-count stop n)
    ∙ until-next stop n
    ∙ ap (until stop) (sym e)

all-before : (a n : ℕ) → filter (is_before None) (range_with_len a n) ≡ range_with_len a n
all-before a zero = refl
all-before a (suc n) = ap (λ l. a ∷ l) (all-before (a + 1) n)

some-before : (s a n : ℕ) → filter (is_before (Some s)) (range_with_len a n) ≡ range_with_len a (min n (s - a))
some-before s a zero = ap (range_with_len a) (let e : 0 ≡ min 0 (s - a) = omega arith in e)
some-before s a (suc n) = go (cases_lt a s) (some-before s (a + 1) n)
  where
    go : (a < s) ⊎ (s ≤ a) → filter (is_before (Some s)) (range_with_len (a + 1) n) ≡ range_with_len (a + 1) (min n (s - (a + 1))) → cond (nat_lt a s) (a ∷ filter (is_before (Some s)) (range_with_len (a + 1) n)) (filter (is_before (Some s)) (range_with_len (a + 1) n)) ≡ range_with_len a (min (suc n) (s - a))
    go (inl l) rest =
        let e : nat_lt a s ≡ true = lt-ltb a s l in
        let m : min (suc n) (s - a) ≡ suc (min n (s - (a + 1))) = omega arith in
        rw (e, m) (ap (λ l. a ∷ l) rest)
    go (inr g) rest =
        let e : nat_lt a s ≡ false = le-ltb a s g in
        let m : min (suc n) (s - a) ≡ 0 = omega arith in
        let none : min n (s - (a + 1)) ≡ 0 = omega arith in
        rw (e, m) (rest ∙ ap (range_with_len (a + 1)) none)

before-until : (stop : Option ℕ) (n : ℕ) → filter (is_before stop) (range_with_len 0 n) ≡ range_with_len 0 (until stop n)
before-until None n = all-before 0 n
before-until (Some s) n = some-before s 0 n ∙ ap (range_with_len 0) (let e : min n (s - 0) ≡ min n s = omega arith in e)

-- ---- what is determined

-- from its length on a weight is 1
weight-far : (len k j : ℕ) → len ≤ k → len ≤ j → weight len k ≡ weight len j
weight-far zero k j h g = refl
weight-far (suc len) k j h g = ap (λ n. (n, suc len)) (let e : min k (suc len) ≡ min j (suc len) = omega arith in e)

gives-determined : (stop : Option At) (out frames n : ℕ) → n + stop_line stop out < frames → is_before (stop_in frames stop) n ≡ is_before (stop_in (n + stop_line stop out + 1) stop) n
gives-determined None out frames n h = refl
gives-determined (Some (Start p)) out frames n h = refl
gives-determined (Some (End b)) out frames n h =
    let one : nat_lt n (frames - b) ≡ true = lt-ltb n (frames - b) (omega arith) in
    let other : nat_lt n (n + (b + out) + 1 - b) ≡ true = lt-ltb n (n + (b + out) + 1 - b) (omega arith) in
    one ∙ sym other

made-determined : (f : Fading) (stop : Option At) (frames n : ℕ) (frame : Samples) → n + stop_line stop f.fade_out < frames
    → faded_frame f (stop_in frames stop) n frame ≡ faded_frame f (stop_in (n + stop_line stop f.fade_out + 1) stop) n frame
made-determined f None frames n frame h = refl
made-determined f (Some (Start p)) frames n frame h = refl
made-determined f (Some (End b)) frames n frame h =
    let w : weight f.fade_out (frames - b - n) ≡ weight f.fade_out (n + (b + f.fade_out) + 1 - b - n) = weight-far f.fade_out _ _ (omega arith) (omega arith) in
    rw w refl

due-determined : (stop : Option At) (out taken : ℕ) → due_by stop out taken ≡ count_by (λ n. is_before (stop_in (n + stop_line stop out + 1) stop) n) (range_with_len 0 (taken - stop_line stop out))
due-determined None out taken = (let e : taken ≡ taken - 0 = omega arith in e) ∙ sym (until-count None (taken - 0))
due-determined (Some (Start p)) out taken = ap (λ n. min n p) (let e : taken ≡ taken - 0 = omega arith in e) ∙ sym (until-count (Some p) (taken - 0))
due-determined (Some (End b)) out taken = determined-counts
  where
    determined-counts : taken - b - out ≡ count_by (λ n. is_before (stop_in (n + (b + out) + 1) (Some (End b))) n) (range_with_len 0 (taken - (b + out)))
    determined-counts =
        let less : taken - b - out ≡ taken - (b + out) = omega arith in
        less ∙ sym (count_const true 0 (taken - (b + out)))
        ∙ count_same (λ n. true) (λ n. is_before (stop_in (n + (b + out) + 1) (Some (End b))) n) 0 (taken - (b + out)) (λ i low high. sym (lt-ltb i (i + (b + out) + 1 - b) (omega arith)))

enough-determined : (stop : Option At) (out maximum : ℕ) → fade_enough stop ≡ Some maximum → (stop_line stop out ≡ 0) × ((frames n : ℕ) → maximum ≤ n → is_before (stop_in frames stop) n ≡ false)
enough-determined None out maximum e = absurd (cc (e))
enough-determined (Some (End b)) out maximum e = absurd (cc (e))
enough-determined (Some (Start p)) out maximum e = let same : p ≡ maximum = cc (e) in (refl, λ frames n h. le-ltb n p (rw same h))

fade-whole : (r : FadeArguments) (x : List Samples) → fade_meaning r x ≡ selected_from fade_selects r (length x) 0 x
fade-whole r x =
    let stop : Option ℕ = stop_in (length x) r.shape.stop in
    ap (map (λ n. faded_frame r.shape stop n (slice_index_or x n []))) (sym (before-until stop (length x)))
    ∙ picked (faded_frame r.shape stop) (is_before stop) x

pub fade-determined : AreDetermined fade_selects
fade-determined = record {
  gives = λ r. gives-determined r.shape.stop r.shape.fade_out;
  made = λ r. made-determined r.shape r.shape.stop;
  due = λ r. due-determined r.shape.stop r.shape.fade_out;
  enough = λ r. enough-determined r.shape.stop r.shape.fade_out;
  whole = fade-whole;
}
