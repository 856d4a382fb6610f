-- Samples that lie one after another, in frames.
use Rattle.std.proofs.Common.{◌≡◌, ℕ, zero, suc, Bool, List, ◌∷◌, map, take, drop, refl, ap, ◌∙◌, ◌+◌, ◌*◌, cond, ◌++◌, arith, ◌≤◌, length, length-drop, ℤ}
use Rattle.std.proofs.lemmas.List.{take-map, drop-map, map-append, length-take-le}
use Rattle.fx_frame_base.specs.Lists.{pieces}
use Rattle.fx_frame.specs.Made.{made_of, clips_in, rounded_given}
use Rattle.fx_frame_base.specs.Rounded.{samples_of, clips_rounded}
use Rattle.std.proofs.lemmas.List.Sums.{sum_by-append}
use Rattle.std.proofs.Math.Seq.{take-add}
use Rattle.std.proofs.Math.Nat.{suc-mul}
use Rattle.std.specs.List.{All}
use Rattle.std.proofs.lemmas.List.Elements.{All-cons, All-nil}

-- each sample mapped, in pieces
pub pieces-samples : (f : ℤ → ℤ × Bool) (size n : ℕ) (xs : List ℤ) → pieces size n (samples_of (map f xs)) ≡ made_of (rounded_given f) (pieces size n xs)
pieces-samples f size zero xs = refl
pieces-samples f size (suc n) xs =
    let front : take size (samples_of (map f xs)) ≡ samples_of (map f (take size xs)) = take-map (λ r. r.0) size (map f xs) ∙ ap samples_of (take-map f size xs) in
    let back : drop size (samples_of (map f xs)) ≡ samples_of (map f (drop size xs)) = drop-map (λ r. r.0) size (map f xs) ∙ ap samples_of (drop-map f size xs) in
    rw (front, back) (ap (λ ps. samples_of (map f (take size xs)) ∷ ps) (pieces-samples f size n (drop size xs)))

-- the clips of all samples, piece by piece
pub clips-samples : (f : ℤ → ℤ × Bool) (size n : ℕ) (xs : List ℤ) → clips_rounded (map f (take (n * size) xs)) ≡ clips_in (rounded_given f) (pieces size n xs)
clips-samples f size zero xs = let e : 0 * size ≡ 0 = omega arith in rw e refl
clips-samples f size (suc n) xs =
    let e : suc n * size ≡ size + n * size = omega (arith, suc-mul n size) in
    let cut : map f (take (size + n * size) xs) ≡ map f (take size xs) ++ map f (take (n * size) (drop size xs)) = ap (map f) (take-add size (n * size) xs) ∙ map-append f (take size xs) (take (n * size) (drop size xs)) in
    rw (e, cut) (sum_by-append (λ r. cond (r.1) 1 0) (map f (take size xs)) (map f (take (n * size) (drop size xs))) ∙ ap (λ m. clips_rounded (map f (take size xs)) + m) (clips-samples f size n (drop size xs)))

-- the pieces of a list that is long enough have their size
pub pieces-sides : {X : Type 0} (size n : ℕ) (xs : List X) → n * size ≤ length xs → All (λ (f : List X). length f ≡ size) (pieces size n xs)
pieces-sides {X} size zero xs h = All-nil (λ (f : List X). length f ≡ size)
pieces-sides {X} size (suc n) xs h =
    let more : suc n * size ≡ size + n * size = omega (arith, suc-mul n size) in
    All-cons (λ (f : List X). length f ≡ size) (take size xs) (pieces size n (drop size xs)) (length-take-le size xs (omega arith)) (pieces-sides size n (drop size xs) (omega (arith, length-drop size xs)))
