-- A list cut in pieces of one size.
use Rattle.std.proofs.Common.{◌≡◌, ◌+◌, ◌*◌, ◌-◌, ◌<◌, ◌≤◌, ℕ, zero, suc, List, [], ◌∷◌, ◌++◌, length, take, drop, get_or, refl, sym, ap, ◌∙◌, arith, length-drop}
use Rattle.std.proofs.lemmas.List.{take_all, take-append-le, drop-append-le, drop-drop, length-take-le, get_or-take, get_or-drop}
use Rattle.std.proofs.Math.Nat.{suc-mul}
use Rattle.std.specs.List.{All}
use Rattle.std.proofs.lemmas.List.Elements.{All-nil, All-cons}
use Rattle.fx_frame_base.specs.Lists.{pieces}

module _ {X : Type 0} where
  pub length-pieces : (size count : ℕ) (xs : List X) → length (pieces size count xs) ≡ count
  length-pieces size zero xs = refl
  length-pieces size (suc count) xs = ap suc (length-pieces size count (drop size xs))

  -- the first of the pieces
  pub pieces-first : (size n m : ℕ) (xs : List X) → n ≤ m → take n (pieces size m xs) ≡ pieces size n xs
  pieces-first size zero m xs h = refl
  pieces-first size (suc n) zero xs h = absurd (omega arith)
  pieces-first size (suc n) (suc m) xs h = ap (λ ps. take size xs ∷ ps) (pieces-first size n m (drop size xs) (omega arith))

  -- one more piece at the end
  pub pieces-append : (size count : ℕ) (xs f : List X) → length xs ≡ count * size → length f ≡ size → pieces size (suc count) (xs ++ f) ≡ pieces size count xs ++ f ∷ []
  pieces-append size zero [] f e l =
      let whole : take size f ≡ f = take_all size f (omega arith) in
      rw whole refl
  pieces-append size zero (x ∷ xs) f e l = absurd (omega arith)
  pieces-append size (suc count) xs f e l =
      let long : length xs ≡ count * size + size = e ∙ suc-mul count size in
      let le : size ≤ length xs = omega arith in
      let short : length (drop size xs) ≡ count * size = omega (arith, length-drop size xs) in
      let first : take size (xs ++ f) ≡ take size xs = take-append-le size xs f le in
      let rest : drop size (xs ++ f) ≡ drop size xs ++ f = drop-append-le size xs f le in
      let tail : pieces size (suc count) (drop size xs ++ f) ≡ pieces size count (drop size xs) ++ f ∷ [] = pieces-append size count (drop size xs) f short l in
      rw (first, rest) (ap (λ ys. take size xs ∷ ys) tail)

  -- what is past the pieces does not matter
  pub pieces-front : (size count : ℕ) (xs f : List X) → length xs ≡ count * size → pieces size count (xs ++ f) ≡ pieces size count xs
  pieces-front size zero xs f e = refl
  pieces-front size (suc count) xs f e =
      let long : length xs ≡ count * size + size = e ∙ suc-mul count size in
      let le : size ≤ length xs = omega arith in
      let short : length (drop size xs) ≡ count * size = omega (arith, length-drop size xs) in
      rw (take-append-le size xs f le, drop-append-le size xs f le) (ap (λ ys. take size xs ∷ ys) (pieces-front size count (drop size xs) f short))

  -- the pieces but the first
  pub pieces-rest : (size count : ℕ) (xs : List X) → pieces size (count - 1) (drop size xs) ≡ drop 1 (pieces size count xs)
  pieces-rest size zero xs = refl
  pieces-rest size (suc count) xs = let e : suc count - 1 ≡ count = omega arith in rw e refl

  -- one piece
  pub get_or-pieces : (size count : ℕ) (xs : List X) (i : ℕ) (d : List X) → i < count → get_or (pieces size count xs) i d ≡ take size (drop (i * size) xs)
  get_or-pieces size zero xs i d h = absurd (omega arith)
  get_or-pieces size (suc count) xs zero d h = let none : 0 * size ≡ 0 = omega arith in rw none refl
  get_or-pieces size (suc count) xs (suc i) d h =
      let e : suc i * size ≡ size + i * size = omega (arith, suc-mul i size) in
      get_or-pieces size count (drop size xs) i d (omega arith) ∙ ap (take size) (drop-drop (i * size) size xs) ∙ ap (λ n. take size (drop n xs)) (sym e)

  -- one element of a piece
  pub get_or-piece : (size count : ℕ) (xs : List X) (i j : ℕ) (d : X) → i < count → j < size → get_or (get_or (pieces size count xs) i []) j d ≡ get_or xs (i * size + j) d
  get_or-piece size count xs i j d hi hj =
      ap (λ p. get_or p j d) (get_or-pieces size count xs i [] hi) ∙ get_or-take size (drop (i * size) xs) j d hj ∙ get_or-drop (i * size) xs j d

  pub each-piece : (size count : ℕ) (xs : List X) → length xs ≡ count * size → All (λ f. length f ≡ size) (pieces size count xs)
  each-piece size zero xs e = All-nil (λ f. length f ≡ size)
  each-piece size (suc count) xs e =
      let long : length xs ≡ count * size + size = e ∙ suc-mul count size in
      let short : length (drop size xs) ≡ count * size = omega (arith, length-drop size xs) in
      All-cons (λ f. length f ≡ size) (take size xs) (pieces size count (drop size xs)) (length-take-le size xs (omega arith)) (each-piece size count (drop size xs) short)
