-- Pieces that lie one after another, and one more of them.
use Rattle.std.proofs.Common.{◌≡◌, ◌+◌, ◌-◌, ◌*◌, ◌<◌, ◌≤◌, ℕ, zero, suc, List, [], ◌∷◌, ◌++◌, get_or, length, take, drop, refl, sym, ap, ◌∙◌, arith, add-one, append-nil, length-append, length-drop, ℤ}
use Rattle.std.proofs.Math.ListN.{set}
use Rattle.std.proofs.lemmas.List.{append_assoc, drop-drop, drop_all, drop-set, take-append-drop, take-set, length-take-le, drop_at, take_all, take_at}
use Rattle.std.proofs.Math.Nat.{suc-mul}
use borrow.Rule.Slice.PartMut.{put_mid}
use Rattle.fx_frame_base.specs.Lists.{pieces}
use Rattle.fx_frame_base.proofs.Pieces.{pieces-append, pieces-front}

module _ {X : Type 0} where
  -- the part of a slice from a place on
  pub part-from : (a : ℕ) (xs : List X) → take (length xs - a) (drop a xs) ≡ drop a xs
  part-from a xs = take_all (length xs - a) (drop a xs) (omega (arith, length-drop a xs))

  -- and the slice after that part was written
  pub put-from : (a : ℕ) (xs ys : List X) → put_mid a (length xs - a) xs ys ≡ take a xs ++ ys
  put-from a xs ys =
      let none : drop (length xs - a) (drop a xs) ≡ [] = drop_all (length xs - a) (drop a xs) (omega (arith, length-drop a xs)) in
      rw none (ap (λ l. take a xs ++ l) (append-nil ys))

  -- the whole of a vector, written back
  pub written_back : (items new : List X) (len : ℕ) → len ≡ length items → length new ≡ length items → take len (new ++ drop (length new) items) ≡ new
  written_back items new len e f = take_at new _ len (f ∙ sym e)

  -- one piece more
  pub pieces-suc : (size n : ℕ) (xs : List X) → pieces size (suc n) xs ≡ pieces size n xs ++ take size (drop (n * size) xs) ∷ []
  pieces-suc size zero xs = let e : 0 * size ≡ 0 = omega arith in rw e refl
  pieces-suc size (suc n) xs =
      let e : size + n * size ≡ suc n * size = omega arith in
      ap (λ l. take size xs ∷ l) (pieces-suc size n (drop size xs) ∙ ap (λ l. pieces size n (drop size xs) ++ take size l ∷ []) (drop-drop (n * size) size xs ∙ ap (λ m. drop m xs) e))

  -- one frame more is read
  pub pieces-more : (size n at : ℕ) (xs : List X) → at ≡ n * size → pieces size (n + 1) xs ≡ pieces size n xs ++ take size (drop at xs) ∷ []
  pieces-more size n at xs e = rw (add-one, e) (pieces-suc size n xs)

  -- what lies after them does not matter
  pub pieces-take : (size n : ℕ) (xs : List X) → n * size ≤ length xs → pieces size n (take (n * size) xs) ≡ pieces size n xs
  pieces-take size n xs h =
      sym (pieces-front size n (take (n * size) xs) (drop (n * size) xs) (length-take-le (n * size) xs h)) ∙ ap (pieces size n) (take-append-drop (n * size) xs)

  pub pieces-same : (size n : ℕ) (xs ys : List X) → n * size ≤ length xs → n * size ≤ length ys → take (n * size) xs ≡ take (n * size) ys → pieces size n xs ≡ pieces size n ys
  pieces-same size n xs ys h k e = sym (pieces-take size n xs h) ∙ ap (pieces size n) e ∙ pieces-take size n ys k

  -- one element put at a place
  pub put-one : (xs out : List X) (at : ℕ) (x d : X) → length xs ≡ 1 → x ≡ get_or xs 0 d → at < length out → set out at x ≡ take at out ++ xs ++ drop (at + length xs) out
  put-one [] out at x d one is h = absurd (omega arith)
  put-one (y ∷ []) out at x d one is h =
      sym (take-append-drop at (set out at x)) ∙ ap (λ l. l ++ drop at (set out at x)) (take-set out at x) ∙ ap (λ l. take at out ++ l) (drop-set out at x h)
      ∙ ap (λ w. take at out ++ w ∷ drop (at + 1) out) is ∙ sym (append_assoc (take at out) (y ∷ []) (drop (at + 1) out))
  put-one (y ∷ z ∷ xs) out at x d one is h = absurd (omega arith)

  -- one frame more is written
  pub pieces-put : (size n at : ℕ) (out f new : List X) → at ≡ n * size → length f ≡ size → at + size ≤ length out → new ≡ take at out ++ f ++ drop (at + length f) out → pieces size (n + 1) new ≡ pieces size n out ++ f ∷ []
  pieces-put size n at out f new e l h w =
      let cut : length (take at out) ≡ n * size = length-take-le at out (omega arith) ∙ e in
      let two : length (take at out ++ f) ≡ suc n * size = omega (arith, length-append (take at out) f, suc-mul n size) in
      let kept : pieces size n (take at out) ≡ pieces size n out = ap (λ m. pieces size n (take m out)) e ∙ pieces-take size n out (omega arith) in
      rw (add-one, w) (pieces-front size (suc n) (take at out ++ f) (drop (at + length f) out) two ∙ pieces-append size n (take at out) f cut l ∙ ap (λ ps. ps ++ f ∷ []) kept)

  -- what lies after it stays
  pub drop-put : (at size : ℕ) (first out f new : List X) → length f ≡ size → at + size ≤ length out → new ≡ take at out ++ f ++ drop (at + length f) out → drop at out ≡ drop at first → drop (at + size) new ≡ drop (at + size) first
  drop-put at size first out f new l h w e =
      let two : length (take at out ++ f) ≡ at + size = omega (arith, length-append (take at out) f, length-take-le at out (omega arith)) in
      let turn : (ys : List X) → drop (at + size) ys ≡ drop size (drop at ys) = λ ys. sym (drop-drop size at ys) in
      rw w (drop_at (take at out ++ f) (drop (at + length f) out) (at + size) two ∙ ap (λ m. drop (at + m) out) l ∙ turn out ∙ ap (drop size) e ∙ sym (turn first))

  -- the first pieces, and those after them
  pub pieces-split : (size n m : ℕ) (xs : List X) → pieces size (n + m) xs ≡ pieces size n xs ++ pieces size m (drop (n * size) xs)
  pieces-split size zero m xs = let e : 0 + m ≡ m = omega arith in let z : 0 * size ≡ 0 = omega arith in rw (e, z) refl
  pieces-split size (suc n) m xs =
      let e : suc n + m ≡ suc (n + m) = omega arith in
      let k : size + n * size ≡ suc n * size = omega (arith, suc-mul n size) in
      rw e (ap (λ ps. take size xs ∷ ps) (pieces-split size n m (drop size xs) ∙ ap (λ ys. pieces size n (drop size xs) ++ pieces size m ys) (drop-drop (n * size) size xs ∙ ap (λ i. drop i xs) k)))

-- one sample, or two, stored each as such
pub set-one : (xs ys : List ℤ) (d : ℤ) → length xs ≡ 1 → length ys ≡ 1 → set ys 0 (get_or xs 0 d) ≡ xs
set-one (x ∷ []) (y ∷ []) d e h = refl
set-one [] ys d e h = absurd (omega arith)
set-one (x ∷ []) [] d e h = absurd (omega arith)
set-one (x ∷ []) (y ∷ z ∷ ys) d e h = absurd (omega arith)
set-one (x ∷ w ∷ xs) ys d e h = absurd (omega arith)

pub set-two : (xs ys : List ℤ) (d : ℤ) → length xs ≡ 2 → length ys ≡ 2 → set (set ys 0 (get_or xs 0 d)) 1 (get_or xs 1 d) ≡ xs
set-two (x ∷ w ∷ []) (y ∷ z ∷ []) d e h = refl
set-two [] ys d e h = absurd (omega arith)
set-two (x ∷ []) ys d e h = absurd (omega arith)
set-two (x ∷ w ∷ v ∷ xs) ys d e h = absurd (omega arith)
set-two (x ∷ w ∷ []) [] d e h = absurd (omega arith)
set-two (x ∷ w ∷ []) (y ∷ []) d e h = absurd (omega arith)
set-two (x ∷ w ∷ []) (y ∷ z ∷ t ∷ ys) d e h = absurd (omega arith)
