-- Bytes as words of 64 bits, and words as frames.
use Rattle.std.proofs.Common.{◌≡◌, ℕ, ◌+◌, ◌*◌, ◌<◌, ◌≤◌, ◌^◌, List, [], ◌∷◌, ◌++◌, length, get_or, take, drop, map, flat_map, refl, suc, sym, ap, ◌∙◌, append_assoc, inl, inr, Option, Some, None, Result, Ok, Err, IfOk, IfSome, zero, ℤ, FitsSigned, arith}
use Rattle.std.proofs.lemmas.Bool.{cases_lt}
use Rattle.std.proofs.lemmas.Int.{of_z-to_z, to_z-of_z}
use Rattle.std.proofs.lemmas.List.{flat_map_more, get_or-drop, get_or-take, get_or_past, drop_at, take_at, length-append, length-map, length-take}
use Rattle.std.proofs.lemmas.Nat.{from_le_bytes-to_le_bytes_8}
use Rattle.std.specs.List.{All}
use Rattle.std.proofs.lemmas.List.Elements.{All-cons, All-head, All-tail}
use Rattle.fx_frame_base.specs.Frame.{IsWideFrame, Samples}
use Rattle.std.specs.Int.{cast_signed, cast_unsigned, from_le_bytes, w64}
use Rattle.soxchain_stream.specs.Frozen.{frame_words, word}

-- numbers below a bound
abbrev pub AreBelow : ℕ → List ℕ → Type 0
AreBelow bound xs = (i : ℕ) → get_or xs i 0 < bound

pub below-drop : (bound n : ℕ) (xs : List ℕ) → AreBelow bound xs → AreBelow bound (drop n xs)
below-drop bound n xs h i = rw (get_or-drop n xs i 0) (h (n + i))

pub below-take : (bound n : ℕ) (xs : List ℕ) → 0 < bound → AreBelow bound xs → AreBelow bound (take n xs)
below-take bound n xs some h i =
    elim (cases_lt i n) [
      | inl within ↦ rw (get_or-take n xs i 0 within) (h i)
      | inr beyond ↦ rw (get_or_past (take n xs) i 0 (omega (arith, length-take n xs))) some
    ]

-- one more piece in front of what is left
pub pieces-more : {X : Type 0} (f : X → List ℕ) (xs : List X) (x : X) (more rest all : List ℕ) → f x ++ more ≡ rest → flat_map f xs ++ rest ≡ all → flat_map f (xs ++ x ∷ []) ++ more ≡ all
pieces-more f xs x more rest all e h =
    ap (λ (l : List ℕ). l ++ more) (sym (flat_map_more f [] xs x)) ∙ append_assoc (flat_map f xs) (f x) more ∙ ap (λ (l : List ℕ). flat_map f xs ++ l) e ∙ h

-- words as samples, and back
pub signed-back : (xs : List ℕ) → AreBelow (2 ^ 64) xs → map (cast_unsigned w64) (map (cast_signed w64) xs) ≡ xs
signed-back [] h = refl
signed-back (x ∷ xs) h =
    ap (λ (y : ℕ). y ∷ map (cast_unsigned w64) (map (cast_signed w64) xs)) (of_z-to_z w64 x (h 0)) ∙ ap (λ (ys : List ℕ). x ∷ ys) (signed-back xs (λ i. h (suc i)))

pub frame-words-back : (samples : List ℕ) (count : ℕ) → length samples ≡ count → AreBelow (2 ^ 64) samples → frame_words (map (cast_signed w64) samples) ≡ count ∷ samples
frame-words-back samples count e h =
    ap (λ (n : ℕ). n ∷ map (cast_unsigned w64) (map (cast_signed w64) samples)) (length-map samples (cast_signed w64) ∙ e) ∙ ap (λ (ys : List ℕ). count ∷ ys) (signed-back samples h)

-- bytes are those of one list of words
pub words-same : (xs ys : List ℕ) → AreBelow (2 ^ 64) xs → AreBelow (2 ^ 64) ys → flat_map word xs ≡ flat_map word ys → xs ≡ ys
words-same [] [] a b e = refl
words-same [] (y ∷ ys) a b e = cc
words-same (x ∷ xs) [] a b e = cc
words-same (x ∷ xs) (y ∷ ys) a b e =
    let first : word x ≡ word y = ap (take 8) e in
    let rest : flat_map word xs ≡ flat_map word ys = ap (drop 8) e in
    let same : x ≡ y = sym (from_le_bytes-to_le_bytes_8 x (a 0)) ∙ ap (from_le_bytes w64) first ∙ from_le_bytes-to_le_bytes_8 y (b 0) in
    let others : xs ≡ ys = words-same xs ys (λ i. a (suc i)) (λ i. b (suc i)) rest in
    ap (λ (z : ℕ). z ∷ xs) same ∙ ap (λ (zs : List ℕ). y ∷ zs) others

-- samples as words, and back
pub unsigned-back : (zs : List ℤ) → All (FitsSigned w64) zs → map (cast_signed w64) (map (cast_unsigned w64) zs) ≡ zs
unsigned-back [] h = refl
unsigned-back (z ∷ zs) h =
    ap (λ (y : ℤ). y ∷ map (cast_signed w64) (map (cast_unsigned w64) zs)) (to_z-of_z w64 z (h 0 z (omega arith))) ∙ ap (λ (ys : List ℤ). z ∷ ys) (unsigned-back zs (λ k d i. h (suc k) d (omega arith)))

-- the first of the frames that words are: its count stands in front of it
pub record FirstFrame (frames : List Samples) (count : ℕ) (more : List ℕ) : Type 0 where
  pub some : 1 ≤ count
  pub bound : count ≤ 16
  pub whole : count ≤ length more
  pub left : List Samples
  pub all : frames ≡ map (cast_signed w64) (take count more) ∷ left
  pub wide : All IsWideFrame left
  pub after : flat_map frame_words left ≡ drop count more

pub first-frame : (frames : List Samples) (count : ℕ) (more : List ℕ) → All IsWideFrame frames → flat_map frame_words frames ≡ count ∷ more → FirstFrame frames count more
first-frame [] count more wide e = cc
first-frame (f ∷ frames) count more wide e =
    let size : length f ≡ count = cc in
    let words : List ℕ = map (cast_unsigned w64) f in
    let rest : words ++ flat_map frame_words frames ≡ more = cc in
    let long : length words ≡ count = length-map f (cast_unsigned w64) ∙ size in
    let is : IsWideFrame f = wide 0 f (omega arith) in
    let front : take count more ≡ words = ap (take count) (sym rest) ∙ take_at words (flat_map frame_words frames) count long in
    record {
      some = omega (arith, is.some);
      bound = omega (arith, is.bound);
      whole = omega (arith, ap length rest, length-append words (flat_map frame_words frames));
      left = frames;
      all = ap (λ (g : Samples). g ∷ frames) (sym (ap (map (cast_signed w64)) front ∙ unsigned-back f is.fits));
      wide = λ k d h. wide (suc k) d (omega arith);
      after = sym (ap (drop count) (sym rest) ∙ drop_at words (flat_map frame_words frames) count long);
    }

-- a frame is never no word
pub no-frames : (frames : List Samples) → flat_map frame_words frames ≡ [] → frames ≡ []
no-frames [] e = refl
no-frames (f ∷ frames) e = cc

pub below-of : (bound : ℕ) (xs : List ℕ) → 0 < bound → All (λ n. n < bound) xs → AreBelow bound xs
below-of bound xs some h i =
    elim (cases_lt i (length xs)) [
      | inl within ↦ h i 0 within
      | inr beyond ↦ rw (get_or_past xs i 0 beyond) some
    ]

pub below-push : (bound : ℕ) (xs : List ℕ) (n : ℕ) → AreBelow bound xs → n < bound → AreBelow bound (xs ++ n ∷ [])
below-push bound [] n h small zero = small
below-push bound [] n h small (suc i) = h i
below-push bound (x ∷ xs) n h small zero = h 0
below-push bound (x ∷ xs) n h small (suc i) = below-push bound xs n (λ k. h (suc k)) small i

-- words have eight bytes each
pub length-words : (xs : List ℕ) → length (flat_map word xs) ≡ 8 * length xs
length-words [] = refl
length-words (x ∷ xs) = omega (arith, length-words xs)

-- what holds of an answer holds of it more weakly
pub if_ok-more : {X E : Type 0} {P Q : X → Type 0} (r : Result X E) → ((x : X) → P x → Q x) → IfOk r P → IfOk r Q
if_ok-more (Ok x) f h = f x h
if_ok-more (Err e) f h = h

pub all-push : {X : Type 0} (P : X → Type 0) (xs : List X) (x : X) → All P xs → P x → All P (xs ++ x ∷ [])
all-push P [] x h p = All-cons P x [] p h
all-push P (y ∷ ys) x h p = All-cons P y (ys ++ x ∷ []) (All-head P y ys h) (all-push P ys x (All-tail P y ys h) p)

pub all-of : (bound : ℕ) (xs : List ℕ) → AreBelow bound xs → All (λ n. n < bound) xs
all-of bound [] h = λ k d i. absurd (omega arith)
all-of bound (x ∷ xs) h = All-cons (λ (n : ℕ). n < bound) x xs (h 0) (all-of bound xs (λ i. h (suc i)))

pub if_found-both : {X E : Type 0} {P Q R : X → Type 0} (r : Result (Option X) E) → ((x : X) → P x → Q x → R x) → IfOk r (λ found. IfSome found P) → IfOk r (λ found. IfSome found Q) → IfOk r (λ found. IfSome found R)
if_found-both (Ok (Some x)) both p q = both x p q
if_found-both (Ok None) both p q = p
if_found-both (Err e) both p q = p
