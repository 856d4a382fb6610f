use Rattle.std.proofs.Common.{ℕ, ℤ, pos, zero, suc, ◌+◌, ◌-◌, ◌<◌, ◌≤◌, ◌≡◌, Bool, true, false, cond, List, [], ◌∷◌, ◌++◌, length, drop, get_or, refl, sym, arith, replicate, add-zero, zero-add, append_assoc, nat_le, nat_lt, slice_get, unwrap_or, Option, Some, None}
use borrow.Author.Tests.{ltb-true, ltb-false}
use Rattle.std.proofs.Math.ListN.{set}
use Rattle.std.proofs.Math.Seq.{set-append_seam}
use Rattle.std.proofs.lemmas.Option.{get_or_from_slice_get, slice_get-get_or}
use Rattle.std.proofs.lemmas.Bool.Decides.{nat_tests}
use Rattle.std.proofs.lemmas.List.{get_or_append_left, get_or-drop}
use Rattle.fx_frame_base.specs.Frame.{Samples, silence}
use Rattle.fx_frame_base.specs.Lists.{tabulate}
use Rattle.fx_frame.specs.History.{sample_before}
use Rattle.fx_frame_base.proofs.Tabulate.{tabulate-append, length-tabulate}
use Rattle.fx_frame_base.proofs.ListPlaces.{zeros-sample}

-- what comes later is not read
pub sample_before-append : (x y : List Samples) (n d k : ℕ) → n < length x → sample_before (x ++ y) n d k ≡ sample_before x n d k
sample_before-append x y n d k h =
    let l : n - d < length x = omega arith in
    rw (get_or_append_left x y [] (n - d) l) refl

-- where no frame before the first is read, the first frames may be dropped
pub sample_before-drop : (x : List Samples) (j m d k : ℕ) → (0 < j → d ≤ m) → sample_before (drop j x) m d k ≡ sample_before x (m + j) d k
sample_before-drop x zero m d k h = rw add-zero refl
sample_before-drop x (suc j) m d k h =
    let l : d ≤ m = h (omega arith) in
    let a : nat_le d m ≡ true = grind (arith, nat_tests) in
    let b : nat_le d (m + suc j) ≡ true = grind (arith, nat_tests) in
    let i : suc j + (m - d) ≡ m + suc j - d = omega arith in
    rw (a, b, get_or-drop (suc j) x (m - d) [], i) refl

silence-frame : (count channels i k : ℕ) → get_or (get_or (replicate count (silence channels)) i []) k (pos 0) ≡ pos 0
silence-frame zero channels i k = refl
silence-frame (suc count) channels zero k = zeros-sample channels k
silence-frame (suc count) channels (suc i) k = silence-frame count channels i k

-- silence after the last frame is as good as no frame
pub silence-after : (z : List Samples) (count channels i k : ℕ) → get_or (get_or (z ++ replicate count (silence channels)) i []) k (pos 0) ≡ get_or (get_or z i []) k (pos 0)
silence-after [] count channels i k = silence-frame count channels i k
silence-after (x ∷ z) count channels zero k = refl
silence-after (x ∷ z) count channels (suc i) k = silence-after z count channels i k

-- what the line answers is the sample
back-some : (items : List Samples) (f x : Samples) (d k : ℕ) (b : Bool) → nat_lt (d - 1) (length items) ≡ b → 0 < d → Some x ≡ cond b (slice_get items (length items - (d - 1) - 1)) None
    → get_or x k (pos 0) ≡ sample_before (items ++ f ∷ []) (length items) d k
back-some items f x d k true t some e =
    let l : d - 1 < length items = ltb-true _ _ t in
    let a : nat_le d (length items) ≡ true = grind (arith, nat_tests) in
    let i : length items - (d - 1) - 1 ≡ length items - d = omega arith in
    let n : length items - d < length items = omega arith in
    let g : get_or items (length items - d) [] ≡ x = get_or_from_slice_get items (length items - d) x [] (rw i at (sym e)) in
    rw (a, get_or_append_left items (f ∷ []) [] (length items - d) n, g) refl
back-some items f x d k false t some e = absurd (cc)

back-none : (items : List Samples) (f : Samples) (d k : ℕ) (b : Bool) → nat_lt (d - 1) (length items) ≡ b → 0 < d → None ≡ cond b (slice_get items (length items - (d - 1) - 1)) None
    → pos 0 ≡ sample_before (items ++ f ∷ []) (length items) d k
back-none items f d k true t some e =
    let l : d - 1 < length items = ltb-true _ _ t in
    let n : length items - (d - 1) - 1 < length items = omega arith in
    absurd (let g = slice_get-get_or items _ [] n in cc)
back-none items f d k false t some e =
    let l : length items ≤ d - 1 = ltb-false _ _ t in
    let a : nat_le d (length items) ≡ false = grind (arith, nat_tests) in
    rw a refl

pub sample-some : (items : List Samples) (f x : Samples) (d k : ℕ) → 0 < d → Some x ≡ cond (nat_lt (d - 1) (length items)) (slice_get items (length items - (d - 1) - 1)) None → get_or x k (pos 0) ≡ sample_before (items ++ f ∷ []) (length items) d k
sample-some items f x d k some e = back-some items f x d k _ refl some e

pub sample-none : (items : List Samples) (f : Samples) (d k : ℕ) → 0 < d → None ≡ cond (nat_lt (d - 1) (length items)) (slice_get items (length items - (d - 1) - 1)) None → pos 0 ≡ sample_before (items ++ f ∷ []) (length items) d k
sample-none items f d k some e = back-none items f d k _ refl some e

-- and where there is none, silence
sample-of : (items : List Samples) (f : Samples) (d k : ℕ) (o : Option Samples) → 0 < d → o ≡ cond (nat_lt (d - 1) (length items)) (slice_get items (length items - (d - 1) - 1)) None → get_or (unwrap_or o []) k (pos 0) ≡ sample_before (items ++ f ∷ []) (length items) d k
sample-of items f d k (Some x) some e = sample-some items f x d k some e
sample-of items f d k None some e = sample-none items f d k some e

pub sample-back : (items : List Samples) (f : Samples) (d k : ℕ) → 0 < d → get_or (unwrap_or (cond (nat_lt (d - 1) (length items)) (slice_get items (length items - (d - 1) - 1)) None) []) k (pos 0) ≡ sample_before (items ++ f ∷ []) (length items) d k
sample-back items f d k some = sample-of items f d k _ some refl

-- one more channel
pub channel-set : (f : ℕ → ℤ) (n k : ℕ) → k < n → set (tabulate f 0 k ++ replicate (n - k) (pos 0)) k (f k) ≡ tabulate f 0 (k + 1) ++ replicate (n - (k + 1)) (pos 0)
channel-set f n k h =
    let len : length (tabulate f 0 k) ≡ k = length-tabulate f 0 k in
    let some : n - k ≡ suc (n - (k + 1)) = omega arith in
    let seam : set (tabulate f 0 k ++ pos 0 ∷ replicate (n - (k + 1)) (pos 0)) (length (tabulate f 0 k)) (f k) ≡ tabulate f 0 k ++ f k ∷ replicate (n - (k + 1)) (pos 0) = set-append_seam _ _ _ _ in
    let seam' = rw len at seam in
    let more : tabulate f 0 (k + 1) ≡ tabulate f 0 k ++ f k ∷ [] = rw zero-add at (tabulate-append f 0 k 1) in
    rw (some, more, append_assoc) seam'
