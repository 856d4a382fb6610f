-- A piece of frames goes through a row of lines, line after line.
use Rattle.std.proofs.Common.{◌≡◌, ◌+◌, ◌-◌, ◌*◌, ◌^◌, ◌<◌, ◌≤◌, ◌⊎◌, ◌+ℤ◌, ◌*ℤ◌, ℕ, ℤ, zero, suc, inl, inr, pos, true, false, List, [], ◌∷◌, ◌++◌, length, map, take, drop, get_or, set, replicate, refl, sym, ap, ◌∙◌, arith, zero-add, append_assoc, length-append, length-drop, FitsSigned, unsigned_abs, nat_lt, slice_get}
use Rattle.std.specs.Int.{w64}
use Rattle.std.specs.List.{All}
use Rattle.std.proofs.lemmas.Bool.{cases_lt}
use Rattle.std.proofs.lemmas.Bool.Decides.{nat_tests}
use Rattle.std.proofs.lemmas.Int.{fits_signed_from_abs, ints}
use Rattle.std.proofs.lemmas.List.{drop_more, get_or-take, get_or-drop, get_or_past, length-replicate, take-append-le, take_more_set}
use Rattle.std.proofs.lemmas.List.Elements.{All-append, All-drop, All-from_get_or, All-head, All-replicate, All-tail, All-take}
use Rattle.std.proofs.Math.Nat.{suc-mul}
use Rattle.fx_frame_base.specs.Frame.{Samples}
use Rattle.fx_frame_line.specs.Line.{Frames, channel_of, empty, latest_frames, pushed, pushed_all, pushed_out}
use Rattle.fx_frame_base.specs.Lists.{pieces, tabulate}
use Rattle.fx_frame_base.proofs.Pieces.{get_or-piece, length-pieces}
use Rattle.fx_tap_delays.specs.Echo.{EchoArguments}
use Rattle.fx_tap_delays.specs.EchosState.{after_push, fed, frame_of_lines, line_outputs_at, line_outputs, line_at, lines_after, or_silence, series_lines_after, through_lines}
use Rattle.fx_tap_sums.specs.Products.{sum_of_products}
use Rattle.fx_frame.proofs.SamplePieces.{pieces-sides}
use Rattle.fx_tap_delays.proofs.Delaying.{index-take}
use Rattle.fx_tap_delays.proofs.EchosSeries.{Small, small_of}
use Rattle.fx_tap_delays.proofs.EchosStored.{same-line}
use Rattle.fx_frame.proofs.TapBlocks.{last-joined, last-whole, length-last}
use Rattle.fx_frame_base.proofs.Tabulate.{tabulate-same}
use Rattle.fx_frame_base.proofs.ChannelPlaces.{within-frames}

-- ---- one line

-- what falls out of a line for frames that come one after the other, or silence
abbrev pub let_out : ℕ → Frames ℤ → List Samples → List Samples
let_out c l [] = []
let_out c l (f ∷ fs) = or_silence c (pushed_out l f) ∷ let_out c (after_push l f) fs

-- the line after them
abbrev pub after_all : Frames ℤ → List Samples → Frames ℤ
after_all l [] = l
after_all l (f ∷ fs) = after_all (after_push l f) fs

-- its frames, and silence before them
abbrev after_silence : ℕ → Frames ℤ → List Samples
after_silence c l = replicate (l.capacity - length l.items) (replicate c (pos 0)) ++ l.items

out-by : (c : ℕ) (l : Frames ℤ) (f : Samples) → length l.items ≤ l.capacity → (length l.items < l.capacity) ⊎ (l.capacity ≤ length l.items)
    → (or_silence c (pushed_out l f) ≡ get_or (after_silence c l ++ f ∷ []) 0 []) × (after_silence c (after_push l f) ≡ drop 1 (after_silence c l ++ f ∷ []))
out-by c l f within (inl lt) =
    let yes : nat_lt (length l.items) l.capacity ≡ true = grind (arith, nat_tests) in
    let some : l.capacity - length l.items ≡ suc (l.capacity - (length l.items + 1)) = omega arith in
    let long : length (l.items ++ f ∷ []) ≡ length l.items + 1 = length-append l.items (f ∷ []) in
    let none : length l.items + 1 - l.capacity ≡ 0 = omega arith in
    let left : length (pushed l f) ≡ length l.items + 1 = omega (arith, long, length-drop (length (l.items ++ f ∷ []) - l.capacity) (l.items ++ f ∷ [])) in
    let kept : pushed l f ≡ l.items ++ f ∷ [] = ap (λ n. drop (n - l.capacity) (l.items ++ f ∷ [])) long ∙ ap (λ n. drop n (l.items ++ f ∷ [])) none in (
      rw (yes, some) refl,
      rw some (ap (λ n. replicate (l.capacity - n) (replicate c (pos 0)) ++ pushed l f) left ∙ ap (λ xs. replicate (l.capacity - (length l.items + 1)) (replicate c (pos 0)) ++ xs) kept
          ∙ sym (append_assoc (replicate (l.capacity - (length l.items + 1)) (replicate c (pos 0))) l.items (f ∷ []))),
    )
out-by c l f within (inr ge) =
    let no : nat_lt (length l.items) l.capacity ≡ false = grind (arith, nat_tests) in
    let none : l.capacity - length l.items ≡ 0 = omega arith in
    let long : length (l.items ++ f ∷ []) ≡ length l.items + 1 = length-append l.items (f ∷ []) in
    let one : length l.items + 1 - l.capacity ≡ 1 = omega arith in
    let kept : pushed l f ≡ drop 1 (l.items ++ f ∷ []) = ap (λ n. drop (n - l.capacity) (l.items ++ f ∷ [])) long ∙ ap (λ n. drop n (l.items ++ f ∷ [])) one in
    let full : l.capacity - length (pushed l f) ≡ 0 = omega (arith, ap length kept, length-drop 1 (l.items ++ f ∷ []), long) in
    (rw (no, none) (first-is c l.items f), rw (full, none) kept)
  where
    first-is : (c : ℕ) (xs : List Samples) (f : Samples) → or_silence c (slice_get (xs ++ f ∷ []) 0) ≡ get_or (xs ++ f ∷ []) 0 []
    first-is c [] f = refl
    first-is c (x ∷ xs) f = refl

pub pushed-within : (l : Frames ℤ) (f : Samples) → length (pushed l f) ≤ l.capacity
pushed-within l f = let n = length-last l.capacity (l.items ++ f ∷ []) in omega (arith, n)

first-of : (xs ys : List Samples) (f : Samples) (n : ℕ) → take (suc n) (xs ++ f ∷ ys) ≡ get_or (xs ++ f ∷ []) 0 [] ∷ take n (drop 1 (xs ++ f ∷ []) ++ ys)
first-of [] ys f n = refl
first-of (x ∷ xs) ys f n = ap (λ zs. x ∷ take n zs) (sym (append_assoc xs (f ∷ []) ys))

out-is : (c : ℕ) (l : Frames ℤ) (fs : List Samples) → length l.items ≤ l.capacity → let_out c l fs ≡ take (length fs) (after_silence c l ++ fs)
out-is c l [] within = refl
out-is c l (f ∷ fs) within =
    let step = out-by c l f within (cases_lt (length l.items) l.capacity) in
    let more = out-is c (after_push l f) fs (pushed-within l f) in
    ap (λ g. g ∷ let_out c (after_push l f) fs) step.0
    ∙ ap (λ gs. get_or (after_silence c l ++ f ∷ []) 0 [] ∷ gs) (more ∙ ap (λ xs. take (length fs) (xs ++ fs)) step.1)
    ∙ sym (first-of (after_silence c l) fs f (length fs))

-- no more frames than the line has places come out of it as they stand there
pub let_out-is : (c : ℕ) (l : Frames ℤ) (fs : List Samples) → l.channels ≡ c → length l.items ≤ l.capacity → length fs ≤ l.capacity → let_out c l fs ≡ take (length fs) (latest_frames (pos 0) l.capacity l)
let_out-is c l fs same within bound =
    let none : length l.items - l.capacity ≡ 0 = omega arith in
    let long : length (after_silence c l) ≡ l.capacity = omega (arith, length-append (replicate (l.capacity - length l.items) (replicate c (pos 0))) l.items, length-replicate (l.capacity - length l.items) (replicate c (pos 0))) in
    let as_latest : after_silence c l ≡ latest_frames (pos 0) l.capacity l =
    ap (λ n. replicate (l.capacity - length l.items) (replicate n (pos 0)) ++ l.items) (sym same) ∙ ap (λ n. replicate (l.capacity - length l.items) (replicate l.channels (pos 0)) ++ drop n l.items) (sym none) in
    out-is c l fs within ∙ take-append-le (length fs) (after_silence c l) fs (omega arith) ∙ ap (take (length fs)) as_latest

pub after_all-is : (l : Frames ℤ) (fs : List Samples) → length l.items ≤ l.capacity → after_all l fs ≡ record { items = pushed_all l fs; capacity = l.capacity; channels = l.channels }
after_all-is l [] within = ap (λ (items : List Samples). record { items = items; capacity = l.capacity; channels = l.channels }) (sym (last-whole l.capacity l.items within))
after_all-is l (f ∷ fs) within =
    after_all-is (after_push l f) fs (pushed-within l f) ∙ ap (λ (items : List Samples). record { items = items; capacity = l.capacity; channels = l.channels }) (last-joined l.capacity l.items (f ∷ []) fs)

-- the line that frames were pushed to
pub pushed-is : (l new : Frames ℤ) (fs : List Samples) → length l.items ≤ l.capacity → new.items ≡ pushed_all l fs → new.capacity ≡ l.capacity → new.channels ≡ l.channels → new ≡ after_all l fs
pushed-is l new fs within items capacity channels = same-line new l.channels l.capacity (pushed_all l fs) items capacity channels ∙ sym (after_all-is l fs within)

-- ---- a row of lines

-- each frame and what fell out of the line before for it, added
abbrev pub fed_all : ℕ → List Samples → List Samples → List Samples
fed_all c [] bs = []
fed_all c (x ∷ xs) [] = []
fed_all c (x ∷ xs) (b ∷ bs) = fed c x b ∷ fed_all c xs bs

-- what falls out of each line for all frames
abbrev pub series_outputs : ℕ → List (Frames ℤ) → List Samples → List Samples → List (List Samples)
series_outputs c [] xs bs = []
series_outputs c (l ∷ ls) xs bs = let_out c l (fed_all c xs bs) ∷ series_outputs c ls xs (let_out c l (fed_all c xs bs))

-- the lines after all frames
abbrev pub series_after : ℕ → List (Frames ℤ) → List Samples → List Samples → List (Frames ℤ)
series_after c [] xs bs = []
series_after c (l ∷ ls) xs bs = after_all l (fed_all c xs bs) ∷ series_after c ls xs (let_out c l (fed_all c xs bs))

-- what falls out of all lines for one of the frames
abbrev pub column : ℕ → List (List Samples) → List Samples
column i line_output = map (λ (gs : List Samples). get_or gs i []) line_output

series-first : (c : ℕ) (ls : List (Frames ℤ)) (x b : Samples) (xs bs : List Samples) → column 0 (series_outputs c ls (x ∷ xs) (b ∷ bs)) ≡ line_outputs c ls x b
series-first c [] x b xs bs = refl
series-first c (l ∷ ls) x b xs bs = ap (λ gs. or_silence c (pushed_out l (fed c x b)) ∷ gs) (series-first c ls x (or_silence c (pushed_out l (fed c x b))) xs (let_out c (after_push l (fed c x b)) (fed_all c xs bs)))

series-next : (c i : ℕ) (ls : List (Frames ℤ)) (x b : Samples) (xs bs : List Samples) → column (suc i) (series_outputs c ls (x ∷ xs) (b ∷ bs)) ≡ column i (series_outputs c (lines_after c ls x b) xs bs)
series-next c i [] x b xs bs = refl
series-next c i (l ∷ ls) x b xs bs =
    ap (λ gs. get_or (let_out c (after_push l (fed c x b)) (fed_all c xs bs)) i [] ∷ gs) (series-next c i ls x (or_silence c (pushed_out l (fed c x b))) xs (let_out c (after_push l (fed c x b)) (fed_all c xs bs)))

series-lines : (c : ℕ) (ls : List (Frames ℤ)) (x b : Samples) (xs bs : List Samples) → series_after c ls (x ∷ xs) (b ∷ bs) ≡ series_after c (lines_after c ls x b) xs bs
series-lines c [] x b xs bs = refl
series-lines c (l ∷ ls) x b xs bs =
    ap (λ ms. after_all (after_push l (fed c x b)) (fed_all c xs bs) ∷ ms) (series-lines c ls x (or_silence c (pushed_out l (fed c x b))) xs (let_out c (after_push l (fed c x b)) (fed_all c xs bs)))

series-none : (c : ℕ) (ls : List (Frames ℤ)) (bs : List Samples) → series_after c ls [] bs ≡ ls
series-none c [] bs = refl
series-none c (l ∷ ls) bs = ap (λ ms. l ∷ ms) (series-none c ls [])

-- line after line the lines become what they become frame after frame
pub series_after-is : (c : ℕ) (ls : List (Frames ℤ)) (xs : List Samples) → series_after c ls xs (replicate (length xs) (replicate c (pos 0))) ≡ series_lines_after c ls xs
series_after-is c ls [] = series-none c ls []
series_after-is c ls (x ∷ xs) =
    series-lines c ls x (replicate c (pos 0)) xs (replicate (length xs) (replicate c (pos 0))) ∙ series_after-is c (lines_after c ls x (replicate c (pos 0))) xs

-- and so does what falls out of them
pub column-is : (c i : ℕ) (ls : List (Frames ℤ)) (xs : List Samples) → i < length xs → column i (series_outputs c ls xs (replicate (length xs) (replicate c (pos 0)))) ≡ line_outputs_at c ls xs i
column-is c i ls [] lt = absurd (omega arith)
column-is c zero ls (x ∷ xs) lt = series-first c ls x (replicate c (pos 0)) xs (replicate (length xs) (replicate c (pos 0)))
column-is c (suc i) ls (x ∷ xs) lt =
    series-next c i ls x (replicate c (pos 0)) xs (replicate (length xs) (replicate c (pos 0))) ∙ column-is c i (lines_after c ls x (replicate c (pos 0))) xs (omega arith)

-- what is given, frame by frame
pub through-table : (a : EchoArguments) (ls : List (Frames ℤ)) (xs : List Samples) → through_lines a ls xs ≡ tabulate (λ i. frame_of_lines a (get_or xs i []) (line_outputs_at a.channels ls xs i)) 0 (length xs)
through-table a ls [] = refl
through-table a ls (x ∷ xs) =
    let next : List (Frames ℤ) = lines_after a.channels ls x (replicate a.channels (pos 0)) in
    ap (λ gs. frame_of_lines a x (line_outputs a.channels ls x (replicate a.channels (pos 0))) ∷ gs)
    (through-table a next xs ∙ tabulate-same (λ i. frame_of_lines a (get_or xs i []) (line_outputs_at a.channels next xs i)) (λ i. frame_of_lines a (get_or (x ∷ xs) i []) (line_outputs_at a.channels ls (x ∷ xs) i)) 0 1 (length xs) (λ k l.
    let at : 0 + k ≡ k = zero-add k in
    let on : 1 + k ≡ suc k = omega arith in
    rw (at, on) refl))

pub through-more : (a : EchoArguments) (ls : List (Frames ℤ)) (xs ys : List Samples) → through_lines a ls (xs ++ ys) ≡ through_lines a ls xs ++ through_lines a (series_lines_after a.channels ls xs) ys
through-more a ls [] ys = refl
through-more a ls (x ∷ xs) ys = ap (λ gs. frame_of_lines a x (line_outputs a.channels ls x (replicate a.channels (pos 0))) ∷ gs) (through-more a (lines_after a.channels ls x (replicate a.channels (pos 0))) xs ys)

pub series_lines-more : (c : ℕ) (ls : List (Frames ℤ)) (xs ys : List Samples) → series_lines_after c ls (xs ++ ys) ≡ series_lines_after c (series_lines_after c ls xs) ys
series_lines-more c ls [] ys = refl
series_lines-more c ls (x ∷ xs) ys = series_lines-more c (lines_after c ls x (replicate c (pos 0))) xs ys

-- ---- samples that lie one after another

-- the sums of so many frames and what fell out of the line before
pub fed-pieces : (c n : ℕ) (ys frames before : List ℤ) → n * c ≤ length ys → ((k : ℕ) → k < n * c → get_or ys k (pos 0) ≡ get_or frames k (pos 0) +ℤ get_or before k (pos 0)) → pieces c n ys ≡ fed_all c (pieces c n frames) (pieces c n before)
fed-pieces c zero ys frames before free h = refl
fed-pieces c (suc n) ys frames before free h =
    let all : suc n * c ≡ n * c + c = suc-mul n c in
    let first : take c ys ≡ fed c (take c frames) (take c before) =
    sym (index-take ys 0 c (pos 0) (omega arith)) ∙ tabulate-same _ _ 0 0 c (λ k l.
    let at : 0 + k ≡ k = zero-add k in
    rw (at, get_or-take c frames k (pos 0) l, get_or-take c before k (pos 0) l) (h k (omega arith))) in
    let rest = fed-pieces c n (drop c ys) (drop c frames) (drop c before) (omega (arith, length-drop c ys)) (λ k l.
    rw (get_or-drop c ys k (pos 0), get_or-drop c frames k (pos 0), get_or-drop c before k (pos 0)) (h (c + k) (omega arith))) in
    rw (first, rest) refl

-- small frames are small samples
pub flat-small : (c n m : ℕ) (xs : List ℤ) → length xs ≡ n * c → All (All (λ x. unsigned_abs x ≤ m)) (pieces c n xs) → (k : ℕ) → unsigned_abs (get_or xs k (pos 0)) ≤ m
flat-small c zero m xs long all k =
    let none : length xs ≤ k = omega arith in
    rw (get_or_past xs k (pos 0) none) (omega arith)
flat-small c (suc n) m xs long all k = go (cases_lt k c) (flat-small c n m (drop c xs) (omega (arith, suc-mul n c, length-drop c xs)) (All-tail (All (λ x. unsigned_abs x ≤ m)) (take c xs) (pieces c n (drop c xs)) all) (k - c))
  where
    go : (k < c) ⊎ (c ≤ k) → unsigned_abs (get_or (drop c xs) (k - c) (pos 0)) ≤ m → unsigned_abs (get_or xs k (pos 0)) ≤ m
    go (inl lt) more = rw (sym (get_or-take c xs k (pos 0) lt)) (small_of m (take c xs) (All-head (All (λ x. unsigned_abs x ≤ m)) (take c xs) (pieces c n (drop c xs)) all) k)
    go (inr ge) more =
        let at : c + (k - c) ≡ k = omega arith in
        let there : unsigned_abs (get_or xs (c + (k - c)) (pos 0)) ≤ m = rw (get_or-drop c xs (k - c) (pos 0)) at more in
        rw at at there

-- what falls out of a line is no larger than its frames
pub latest-small : (m n late : ℕ) (l : Frames ℤ) → All (All (λ x. unsigned_abs x ≤ m)) l.items → All (All (λ x. unsigned_abs x ≤ m)) (take n (latest_frames (pos 0) late l))
latest-small m n late l small =
    let silent_frame : All (λ x. unsigned_abs x ≤ m) (replicate l.channels (pos 0)) = All-replicate (λ x. unsigned_abs x ≤ m) l.channels (pos 0) (omega arith) in
    All-take (All (λ x. unsigned_abs x ≤ m)) n (latest_frames (pos 0) late l)
    (All-append (All (λ x. unsigned_abs x ≤ m)) (replicate (late - length l.items) (replicate l.channels (pos 0))) (drop (length l.items - late) l.items)
    (All-replicate (All (λ x. unsigned_abs x ≤ m)) (late - length l.items) (replicate l.channels (pos 0)) silent_frame) (All-drop (All (λ x. unsigned_abs x ≤ m)) (length l.items - late) l.items small))

pub piece-small : (c n m : ℕ) (xs : List ℤ) → n * c ≤ length xs → ((k : ℕ) → k < length xs → unsigned_abs (get_or xs k (pos 0)) ≤ m) → (i : ℕ) → i < n → Small m (get_or (pieces c n xs) i [])
piece-small c n m xs free h i lt k = go (cases_lt k c)
  where
    go : (k < c) ⊎ (c ≤ k) → unsigned_abs (get_or (get_or (pieces c n xs) i []) k (pos 0)) ≤ m
    go (inl l) = rw (get_or-piece c n xs i k (pos 0) lt l) (h (i * c + k) (omega (arith, within-frames c k i n l lt, free)))
    go (inr g) =
        let side : length (get_or (pieces c n xs) i []) ≡ c = pieces-sides c n xs free i [] (omega (arith, lt, length-pieces c n xs)) in
        rw (get_or_past (get_or (pieces c n xs) i []) k (pos 0) (omega arith)) (omega arith)

pub flat-fits : (xs : List ℤ) → ((k : ℕ) → k < length xs → unsigned_abs (get_or xs k (pos 0)) ≤ 2 ^ 35) → All (FitsSigned w64) xs
flat-fits xs h = All-from_get_or (FitsSigned w64) xs (pos 0) (λ i l. fits_signed_from_abs w64 (get_or xs i (pos 0)) (let bound = h i l in omega (arith, bound)))

-- ---- one line more

pub series_lines-step : (c p : ℕ) (old now : List (Frames ℤ)) (new : Frames ℤ) (xs bs line_output : List Samples) (W : List (Frames ℤ)) → p < length old → length now ≡ length old
    → new ≡ after_all (line_at old p) (fed_all c xs bs) → line_output ≡ let_out c (line_at old p) (fed_all c xs bs)
    → take p now ++ series_after c (drop p old) xs bs ≡ W → take (p + 1) (set now p new) ++ series_after c (drop (p + 1) old) xs line_output ≡ W
series_lines-step c p old now new xs bs line_output W lt same is left e =
    let more = drop_more old p (empty 0 0) lt in
    let cut = take_more_set now p new (omega arith) in
    ap (λ l. l ++ series_after c (drop (p + 1) old) xs line_output) cut
    ∙ append_assoc (take p now) (new ∷ []) (series_after c (drop (p + 1) old) xs line_output)
    ∙ ap (λ l. take p now ++ (l ∷ series_after c (drop (p + 1) old) xs line_output)) is
    ∙ ap (λ gs. take p now ++ (after_all (line_at old p) (fed_all c xs bs) ∷ series_after c (drop (p + 1) old) xs gs)) left
    ∙ ap (λ ls. take p now ++ series_after c ls xs bs) (sym more) ∙ e

-- the product at one place, and those after it
products-at : (ws : List ℤ) (j : ℕ) (g : ℤ) (rest : List ℤ) → sum_of_products (drop j ws) (g ∷ rest) ≡ (get_or ws j (pos 0) *ℤ g) +ℤ sum_of_products (drop (j + 1) ws) rest
products-at [] zero g rest = omega (arith, ints)
products-at [] (suc j) g rest = let e : suc j + 1 ≡ suc (j + 1) = omega arith in rw e (omega (arith, ints))
products-at (w ∷ ws) zero g rest = refl
products-at (w ∷ ws) (suc j) g rest = let e : suc j + 1 ≡ suc (j + 1) = omega arith in rw e (products-at ws j g rest)

pub sums-step : (c p i k : ℕ) (old : List (Frames ℤ)) (ws : List ℤ) (xs bs line_output : List Samples) (S S' W : ℤ) → p < length old → line_output ≡ let_out c (line_at old p) (fed_all c xs bs)
    → S' ≡ S +ℤ (get_or ws (p + 1) (pos 0) *ℤ get_or (get_or line_output i []) k (pos 0))
    → S +ℤ sum_of_products (drop (p + 1) ws) (channel_of (column i (series_outputs c (drop p old) xs bs)) k (pos 0)) ≡ W
    → S' +ℤ sum_of_products (drop (p + 1 + 1) ws) (channel_of (column i (series_outputs c (drop (p + 1) old) xs line_output)) k (pos 0)) ≡ W
sums-step c p i k old ws xs bs line_output S S' W lt left added e =
    let more = drop_more old p (empty 0 0) lt in
    let both = ap (λ l. S +ℤ sum_of_products (drop (p + 1) ws) (channel_of (column i (series_outputs c l xs bs)) k (pos 0))) (sym more) ∙ e in
    let whole = ap (λ gs. S +ℤ sum_of_products (drop (p + 1) ws) (get_or (get_or gs i []) k (pos 0) ∷ channel_of (column i (series_outputs c (drop (p + 1) old) xs gs)) k (pos 0))) left ∙ both in
    let cut = products-at ws (p + 1) (get_or (get_or line_output i []) k (pos 0)) (channel_of (column i (series_outputs c (drop (p + 1) old) xs line_output)) k (pos 0)) in
    rw added (omega (arith, ints, whole, cut))
