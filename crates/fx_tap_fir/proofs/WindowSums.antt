-- A sum of coefficients times samples, from one place of a window on backwards.
use Rattle.std.proofs.Common.{◌≡◌, ℕ, zero, suc, ◌+◌, ◌-◌, ◌≤◌, Bool, true, false, cond, List, [], ◌∷◌, ◌++◌, length, drop, reverse, get_or, refl, sym, ap, ◌∙◌, arith, ℤ, pos, ◌+ℤ◌, ◌*ℤ◌, zero-add, nat_le, slice_index_or}
use Rattle.std.proofs.lemmas.Int.{ints}
use Rattle.std.proofs.lemmas.Bool.Decides.{nat_tests}
use Rattle.std.proofs.lemmas.List.{reverse-append, length-reverse}
use Rattle.fx_fixed.specs.Rounding.{rounding}
use Rattle.fx_fixed.specs.declared.gains.TheConstants.{UNIT}
use Rattle.fx_frame_base.specs.Frame.{Samples}
use Rattle.fx_frame_line.specs.Line.{channel_of}
use Rattle.fx_tap_fir.specs.Fir.{samples_back, filtered_sample}
use Rattle.fx_tap_fir.specs.FirState.{samples_of_window}
use Rattle.fx_frame_base.specs.Lists.{tabulate}
use Rattle.fx_tap_sums.specs.Products.{sum_of_products}
use Rattle.fx_frame_base.proofs.Tabulate.{tabulate-append, tabulate-same, length-tabulate}

-- one product more
pub sum_of_products-more : (xs cs : List ℤ) (x c : ℤ) → length xs ≡ length cs → sum_of_products (xs ++ x ∷ []) (cs ++ c ∷ []) ≡ (x *ℤ c) +ℤ sum_of_products xs cs
sum_of_products-more [] [] x c same = refl
sum_of_products-more [] (d ∷ cs) x c same = absurd (omega arith)
sum_of_products-more (y ∷ xs) [] x c same = absurd (omega arith)
sum_of_products-more (y ∷ xs) (d ∷ cs) x c same =
    let more = sum_of_products-more xs cs x c (omega arith) in
    omega (arith, ints)

-- the sample of a window so many places before a place
abbrev at_back : List ℤ → ℕ → ℕ → ℤ
at_back window place k = cond (nat_le k place) (slice_index_or window (place - k) (pos 0)) (pos 0)

-- the sum, with its last coefficient first
abbrev pub back_sum : List ℤ → ℕ → List ℤ → ℤ
back_sum window place b = sum_of_products (samples_of_window window place (length b)) (reverse b)

back_sum-cons : (window : List ℤ) (place : ℕ) (c : ℤ) (b : List ℤ) → back_sum window place (c ∷ b) ≡ (at_back window place (length b) *ℤ c) +ℤ back_sum window place b
back_sum-cons window place c b =
    let one : suc (length b) ≡ length b + 1 = omega arith in
    let last : reverse (c ∷ b) ≡ reverse b ++ c ∷ [] = reverse-append (c ∷ []) b in
    let more : tabulate (at_back window place) 0 (length b + 1) ≡ tabulate (at_back window place) 0 (length b) ++ at_back window place (length b) ∷ [] = rw zero-add at (tabulate-append (at_back window place) 0 (length b) 1) in
    let long : length (tabulate (at_back window place) 0 (length b)) ≡ length (reverse b) = length-tabulate (at_back window place) 0 (length b) ∙ sym (length-reverse b) in
    ap (λ n. sum_of_products (tabulate (at_back window place) 0 n) (reverse (c ∷ b))) one
    ∙ ap (λ l. sum_of_products l (reverse (c ∷ b))) more
    ∙ ap (λ l. sum_of_products (tabulate (at_back window place) 0 (length b) ++ at_back window place (length b) ∷ []) l) last
    ∙ (sum_of_products-more (tabulate (at_back window place) 0 (length b)) (reverse b) (at_back window place (length b)) c long)

drop_nil : (n : ℕ) → drop {A = ℤ} n [] ≡ []
drop_nil zero = refl
drop_nil (suc n) = refl

-- where the window reaches back as far as the coefficients do
reaching : (window : List ℤ) (place : ℕ) (b : List ℤ) → length b ≤ place + 1 → back_sum window place b ≡ sum_of_products (drop (place + 1 - length b) window) b
reaching window place [] h = drop_none (drop (place + 1 - 0) window)
  where
    drop_none : (xs : List ℤ) → pos 0 ≡ sum_of_products xs []
    drop_none [] = refl
    drop_none (x ∷ xs) = refl
reaching window place (c ∷ b) h =
    let more = reaching window place b (omega arith) in
    let le : nat_le (length b) place ≡ true = grind (arith, nat_tests) in
    let here : at_back window place (length b) ≡ get_or window (place - length b) (pos 0) = rw le refl in
    let at : place + 1 - suc (length b) ≡ place - length b = omega arith in
    let next : place + 1 - length b ≡ suc (place - length b) = omega arith in
    back_sum-cons window place c b
    ∙ ap (λ z. (z *ℤ c) +ℤ back_sum window place b) here
    ∙ ap (λ z. (get_or window (place - length b) (pos 0) *ℤ c) +ℤ z) (more ∙ ap (λ n. sum_of_products (drop n window) b) next)
    ∙ step window (place - length b) c b
    ∙ ap (λ n. sum_of_products (drop n window) (c ∷ b)) (sym at)
  where
    history : (xs : List ℤ) (n : ℕ) (c : ℤ) (b : List ℤ) → length xs ≤ n → (get_or xs n (pos 0) *ℤ c) +ℤ sum_of_products (drop (suc n) xs) b ≡ sum_of_products (drop n xs) (c ∷ b)
    history [] zero c b l = omega (arith, ints)
    history [] (suc n) c b l = omega (arith, ints)
    history (x ∷ xs) zero c b l = absurd (omega arith)
    history (x ∷ xs) (suc n) c b l = history xs n c b (omega arith)

    step : (xs : List ℤ) (n : ℕ) (c : ℤ) (b : List ℤ) → (get_or xs n (pos 0) *ℤ c) +ℤ sum_of_products (drop (suc n) xs) b ≡ sum_of_products (drop n xs) (c ∷ b)
    step [] zero c b = history [] zero c b (omega arith)
    step [] (suc n) c b = history [] (suc n) c b (omega arith)
    step (x ∷ xs) zero c b = refl
    step (x ∷ xs) (suc n) c b = step xs n c b

-- the sum over the samples that the window has
pub back_sum-is : (window : List ℤ) (place : ℕ) (b : List ℤ) → back_sum window place b ≡ sum_of_products (drop (place + 1 - length b) window) (drop (length b - (place + 1)) b)
back_sum-is window place [] = rw drop_nil (reaching window place [] (omega arith))
back_sum-is window place (c ∷ b) = by_reach (back_sum-is window place b) (nat_le (suc (length b)) (place + 1)) refl
  where
    by_reach : back_sum window place b ≡ sum_of_products (drop (place + 1 - length b) window) (drop (length b - (place + 1)) b) → (t : Bool) → nat_le (suc (length b)) (place + 1) ≡ t → back_sum window place (c ∷ b) ≡ sum_of_products (drop (place + 1 - suc (length b)) window) (drop (suc (length b) - (place + 1)) (c ∷ b))
    by_reach more true t =
        let h : suc (length b) ≤ place + 1 = grind (arith, nat_tests) in
        let none : suc (length b) - (place + 1) ≡ 0 = omega arith in
        rw none (reaching window place (c ∷ b) h)
    by_reach more false t =
        let h : place + 1 ≤ length b = grind (arith, nat_tests) in
        let history : nat_le (length b) place ≡ false = grind (arith, nat_tests) in
        let silent : at_back window place (length b) ≡ pos 0 = rw history refl in
        let all : place + 1 - suc (length b) ≡ place + 1 - length b = omega arith in
        let one : suc (length b) - (place + 1) ≡ suc (length b - (place + 1)) = omega arith in
        let none : (pos 0 *ℤ c) +ℤ back_sum window place b ≡ back_sum window place b = omega (arith, ints) in
        rw (all, one) (back_sum-cons window place c b ∙ ap (λ z. (z *ℤ c) +ℤ back_sum window place b) silent ∙ none ∙ more)

-- one channel of each frame, read by its place
channel-at : (x : List Samples) (channel i : ℕ) → get_or (channel_of x channel (pos 0)) i (pos 0) ≡ get_or (get_or x i []) channel (pos 0)
channel-at [] channel i = refl
channel-at (f ∷ x) channel zero = refl
channel-at (f ∷ x) channel (suc i) = channel-at x channel i

-- the samples of a window that is one channel of a list of frames
pub window-back : (x : List Samples) (place channel count : ℕ) → samples_of_window (channel_of x channel (pos 0)) place count ≡ samples_back x place channel count
window-back x place channel count = tabulate-same _ _ 0 0 count (λ k l. ap (λ s. cond (nat_le (0 + k) place) s (pos 0)) (channel-at x channel (place - (0 + k))))

-- a sum over the frames of a list, rounded
pub filtered-is : (b : List ℤ) (x : List Samples) (place channel : ℕ) (sum : ℤ) → sum ≡ sum_of_products (samples_of_window (channel_of x channel (pos 0)) place (length b)) (reverse b) → rounding sum UNIT ≡ filtered_sample (reverse b) x place channel
filtered-is b x place channel sum e =
    ap (λ z. rounding z UNIT) (e ∙ ap (λ l. sum_of_products l (reverse b)) (window-back x place channel (length b) ∙ ap (samples_back x place channel) (sym (length-reverse b))))
