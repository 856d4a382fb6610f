-- Frames of places, channel by channel.
use Rattle.std.proofs.Common.{◌≡◌, ◌+◌, ◌<◌, ℕ, suc, List, [], ◌∷◌, length, map, get_or, refl, ap, arith, add-zero, ℤ, zero, Bool, pos, ◌≤◌, take, drop, ◌∙◌, ◌*◌, ◌++◌, sym, zero-add, subst, cond}
use Rattle.fx_frame_base.specs.Lists.{tabulate, pieces}
use Rattle.fx_frame_base.specs.Rounded.{samples_of, clips_rounded}
use Rattle.fx_frame_base.specs.Holds.{total}
use Rattle.std.proofs.lemmas.List.Sums.{sum_by-cons}
use Rattle.fx_frame_base.proofs.Rounds.{clips_of-next}
use Rattle.std.proofs.lemmas.List.{drop_more}
use Rattle.std.proofs.Math.Nat.{suc-mul}
use Rattle.fx_frame_base.proofs.Puts.{pieces-more}
use Rattle.fx_frame_base.proofs.Tabulate.{tabulate-append, tabulate-same}

-- what is made of each element, by its place
pub map-table : {X Y : Type 0} (g : X → Y) (h : ℕ → Y) (d : X) (xs : List X) (from : ℕ) → ((i : ℕ) → i < length xs → g (get_or xs i d) ≡ h (from + i)) → map g xs ≡ tabulate h from (length xs)
map-table g h d [] from e = refl
map-table g h d (x ∷ xs) from e =
    let here : g x ≡ h from = simp add-zero at (e 0 (omega arith)) in
    let more : (i : ℕ) → i < length xs → g (get_or xs i d) ≡ h (suc from + i) = λ i l.
    let at : suc from + i ≡ from + suc i = omega arith in
    rw at (e (suc i) (omega arith)) in
    rw here (ap (λ l. h from ∷ l) (map-table g h d xs (suc from) more))

pub map-tabulate : {X Y : Type 0} (f : X → Y) (g : ℕ → X) (from count : ℕ) → map f (tabulate g from count) ≡ tabulate (λ n. f (g n)) from count
map-tabulate f g from zero = refl
map-tabulate f g from (suc count) = ap (λ l. f (g from) ∷ l) (map-tabulate f g (suc from) count)

pub samples_of-tabulate : (g : ℕ → ℤ × Bool) (from count : ℕ) → samples_of (tabulate g from count) ≡ tabulate (λ k. (g k).0) from count
samples_of-tabulate g from zero = refl
samples_of-tabulate g from (suc count) = ap (λ l. (g from).0 ∷ l) (samples_of-tabulate g (suc from) count)

-- how many samples were clipped in so many frames of so many channels
abbrev pub all_clips : (ℕ → ℕ → ℤ × Bool) → ℕ → ℕ → ℕ → ℕ
all_clips F width from count = total clips_rounded (tabulate (λ i. tabulate (F i) 0 width) from count)

pub all_clips-none : (F : ℕ → ℕ → ℤ × Bool) (from count : ℕ) → all_clips F 0 from count ≡ 0
all_clips-none F from zero = refl
all_clips-none F from (suc count) = let rest = all_clips-none F (suc from) count in omega (arith, rest)

first-clip : (f : ℕ → ℤ × Bool) (from count : ℕ) → clips_rounded (tabulate f from (suc count)) ≡ cond (f from).1 1 0 + clips_rounded (tabulate f (suc from) count)
first-clip f from count = sum_by-cons (λ (r : ℤ × Bool). cond (r.1) 1 0) (f from) (tabulate f (suc from) count)

pub all_clips-more : (F : ℕ → ℕ → ℤ × Bool) (width from count : ℕ) → all_clips F (width + 1) from count ≡ all_clips F width from count + clips_rounded (tabulate (λ i. F i width) from count)
all_clips-more F width from zero = refl
all_clips-more F width from (suc count) =
    let rest = all_clips-more F width (suc from) count in
    let here = clips_of-next (F from) width (clips_rounded (tabulate (F from) 0 width)) ((F from width).1) refl refl in
    let column = first-clip (λ i. F i width) from count in
    omega (arith, rest, here, column)

-- the samples from a place on
taken-table : (xs : List ℤ) (from size : ℕ) → from + size ≤ length xs → take size (drop from xs) ≡ tabulate (λ c. get_or xs c (pos 0)) from size
taken-table xs from zero free = refl
taken-table xs from (suc size) free =
    let next : from + 1 ≡ suc from = omega arith in
    let more = taken-table xs (from + 1) size (omega (arith, free)) in
    let rest : take size (drop (from + 1) xs) ≡ tabulate (λ c. get_or xs c (pos 0)) (suc from) size = more ∙ ap (λ k. tabulate (λ c. get_or xs c (pos 0)) k size) next in
    rw (drop_more xs from (pos 0) (omega (arith, free))) (ap (λ l. get_or xs from (pos 0) ∷ l) rest)

-- frame by frame, channel by channel
pub pieces-table : (size n : ℕ) (xs : List ℤ) → n * size ≤ length xs → pieces size n xs ≡ tabulate (λ i. tabulate (λ c. get_or xs (i * size + c) (pos 0)) 0 size) 0 n
pieces-table size zero xs free = refl
pieces-table size (suc n) xs free =
    let all : n * size + size ≤ length xs = omega (arith, free, suc-mul n size) in
    let one : n + 1 ≡ suc n = omega arith in
    let last : take size (drop (n * size) xs) ≡ tabulate (λ c. get_or xs (n * size + c) (pos 0)) 0 size =
    taken-table xs (n * size) size all ∙ tabulate-same _ _ (n * size) 0 size (λ c l. rw zero-add refl) in
    let more : tabulate (λ i. tabulate (λ c. get_or xs (i * size + c) (pos 0)) 0 size) 0 (n + 1) ≡ tabulate (λ i. tabulate (λ c. get_or xs (i * size + c) (pos 0)) 0 size) 0 n ++ tabulate (λ c. get_or xs (n * size + c) (pos 0)) 0 size ∷ [] =
    rw zero-add at (tabulate-append (λ i. tabulate (λ c. get_or xs (i * size + c) (pos 0)) 0 size) 0 n 1) in
    let whole : pieces size (n + 1) xs ≡ tabulate (λ i. tabulate (λ c. get_or xs (i * size + c) (pos 0)) 0 size) 0 (n + 1) =
    pieces-more size n (n * size) xs refl ∙ ap (λ ps. ps ++ take size (drop (n * size) xs) ∷ []) (pieces-table size n xs (omega (arith, all))) ∙ ap (λ f. tabulate (λ i. tabulate (λ c. get_or xs (i * size + c) (pos 0)) 0 size) 0 n ++ f ∷ []) last ∙ sym more in
    subst (λ m. pieces size m xs ≡ tabulate (λ i. tabulate (λ c. get_or xs (i * size + c) (pos 0)) 0 size) 0 m) one whole
