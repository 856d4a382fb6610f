-- Many frames that come to a line, and those that fall out of it.
use Rattle.std.proofs.Common.{◌≡◌, ◌+◌, ◌-◌, ◌*◌, ◌/◌, Bool, true, false, cond, ◌<◌, ◌≤◌, ℕ, ℤ, List, [], ◌∷◌, ◌++◌, length, take, drop, refl, sym, ap, ◌∙◌, arith, append_assoc, length-append, length-drop, length-take-le, take-add, append-nil, None, Some, slice_get}
use Rattle.std.specs.Int.{w32}
use Rattle.std.specs.List.{All}
use Rattle.std.proofs.lemmas.List.{drop-append-le, drop_all, nil_from_length, take-append-le, take_all}
use Rattle.std.proofs.lemmas.List.Elements.{All-append, All-drop}
use Rattle.std.proofs.Math.Nat.{add-mul, div-mul-le_self, mul-le-mul_right}
use Rattle.fx_frame_base.specs.Frame.{Samples}
use Rattle.fx_frame_line.specs.Line.{Frames, IsLine, IsSamples, pushed_all}
use Rattle.fx_frame_line.proofs.RingLaws.{keep-twice}
use Rattle.fx_cut.proofs.Fallen.{fallen, full_out, oldest-first, free_out}
use Rattle.fx_cut.proofs.Pieces.{frames-free}

-- how many of so many frames, or of those before them, fall out
abbrev pub gone : Frames ℤ → ℕ → ℕ
gone l n = length l.items + n - l.capacity

-- the frames that fall out, and the line after that
abbrev pub out_of : Frames ℤ → List Samples → List Samples
out_of l xs = take (gone l (length xs)) (l.items ++ xs)

abbrev pub onto : Frames ℤ → List Samples → Frames ℤ
onto l xs = record l { items = pushed_all l xs }

-- a line is told by its parts
pub same-line : (l m : Frames ℤ) → l.items ≡ m.items → l.capacity ≡ m.capacity → l.channels ≡ m.channels → l ≡ m
same-line l m i c w =
    let e : ◌≡◌ {A = List Samples × (ℕ × ℕ)} (l.items, (l.capacity, l.channels)) (m.items, (m.capacity, m.channels)) = rw (i, c, w) refl in
    ap (λ (p : List Samples × (ℕ × ℕ)). record { items = p.0; capacity = p.1.0; channels = p.1.1 }) e

pub out-long : (l : Frames ℤ) (xs : List Samples) → length (out_of l xs) ≡ gone l (length xs)
out-long l xs = length-take-le (gone l (length xs)) (l.items ++ xs) (omega (arith, length-append l.items xs))

pub onto-long : (l : Frames ℤ) (xs : List Samples) → length (onto l xs).items + gone l (length xs) ≡ length l.items + length xs
onto-long l xs = omega (arith, length-append l.items xs, length-drop (length (l.items ++ xs) - l.capacity) (l.items ++ xs))

pub onto-line : (l : Frames ℤ) (xs : List Samples) → IsLine w32 l → All (IsSamples w32 l.channels) xs → IsLine w32 (onto l xs)
onto-line l xs is all = record {
  some = is.some;
  bound = is.bound;
  small = is.small;
  within = let h = is.within in omega (arith, onto-long l xs);
  frames = All-drop (IsSamples w32 l.channels) (length (l.items ++ xs) - l.capacity) (l.items ++ xs) (All-append (IsSamples w32 l.channels) l.items xs is.frames all);
}

-- no frame
pub onto-none : (l : Frames ℤ) → length l.items ≤ l.capacity → (onto l [] ≡ l) × (out_of l [] ≡ [])
onto-none l h =
    let none : length (l.items ++ []) - l.capacity ≡ 0 = omega (arith, length-append l.items []) in
    let zero : length l.items + 0 - l.capacity ≡ 0 = omega arith in
    (same-line (onto l []) l (ap (λ n. drop n (l.items ++ [])) none ∙ append-nil l.items) refl refl, ap (λ n. take n (l.items ++ [])) zero)

module _ (l : Frames ℤ) (x : Samples) (xs : List Samples) (within : length l.items ≤ l.capacity) where
  abbrev ys : List Samples
  ys = l.items ++ x ∷ []

  joined : ys ++ xs ≡ l.items ++ x ∷ xs
  joined = append_assoc l.items (x ∷ []) xs

  -- one frame, and then the others
  pub onto-more : onto (onto l (x ∷ [])) xs ≡ onto l (x ∷ xs)
  onto-more = same-line (onto (onto l (x ∷ [])) xs) (onto l (x ∷ xs)) (keep-twice l.capacity ys xs ∙ ap (λ zs. drop (length zs - l.capacity) zs) joined) refl refl

  pub out-more : out_of l (x ∷ []) ++ out_of (onto l (x ∷ [])) xs ≡ out_of l (x ∷ xs)
  out-more =
      let k : ℕ = length ys - l.capacity in
      let one : length ys ≡ length l.items + 1 = length-append l.items (x ∷ []) in
      let first : length l.items + 1 - l.capacity ≡ k = omega arith in
      let cut : k ≤ length ys = omega arith in
      let j : ℕ = length (drop k ys) + length xs - l.capacity in
      let all : length l.items + length (x ∷ xs) - l.capacity ≡ k + j = omega (arith, length-drop k ys) in
      ap (λ n. take n ys ++ take j (drop k ys ++ xs)) first
      ∙ ap (λ zs. zs ++ take j (drop k ys ++ xs)) (sym (take-append-le k ys xs cut))
      ∙ ap (λ zs. take k (ys ++ xs) ++ take j zs) (sym (drop-append-le k ys xs cut))
      ∙ sym (take-add k j (ys ++ xs))
      ∙ ap (take (k + j)) joined
      ∙ ap (λ n. take n (l.items ++ x ∷ xs)) (sym all)

module _ (l : Frames ℤ) (x : Samples) (within : length l.items ≤ l.capacity) where
  -- there is room for one more
  pub out-free : length l.items < l.capacity → (None ≡ fallen l.capacity l.items x) × (out_of l (x ∷ []) ≡ [])
  out-free h =
      let none : length l.items + 1 - l.capacity ≡ 0 = omega arith in
      (sym (free_out l.capacity l.items x h), ap (λ n. take n (l.items ++ x ∷ [])) none)

  -- there is none
  pub out-full : l.capacity ≤ length l.items → (o : Samples) × (Some o ≡ fallen l.capacity l.items x) × (out_of l (x ∷ []) ≡ o ∷ [])
  out-full h =
      let some = first l.items in
      let out : Some some.0 ≡ fallen l.capacity l.items x = some.1 ∙ sym (full_out l.capacity l.items x h) in
      let one : length l.items + 1 - l.capacity ≡ 1 = omega arith in
      (some.0, out, ap (λ n. take n (l.items ++ x ∷ [])) one ∙ ap (take 1) (oldest-first l.capacity l.items x some.0 out within))
    where
      first : (items : List Samples) → (o : Samples) × (Some o ≡ slice_get (items ++ x ∷ []) 0)
      first [] = (x, refl)
      first (y ∷ ys) = (y, refl)

-- what falls out of a full line when some frames come, and then when others do
pub full-more : (l : Frames ℤ) (xs ys : List Samples) (n m : ℕ) → length l.items ≡ l.capacity → length xs ≡ n → length ys ≡ m → take n (l.items ++ xs) ++ take m ((onto l xs).items ++ ys) ≡ take (n + m) (l.items ++ (xs ++ ys))
full-more l xs ys n m full e-n e-m =
    let zs : List Samples = l.items ++ xs in
    let out : length zs - l.capacity ≡ n = omega (arith, length-append l.items xs) in
    let cut : n ≤ length zs = omega (arith, length-append l.items xs) in
    ap (λ k. take n zs ++ take m (drop k zs ++ ys)) out
    ∙ ap (λ ws. ws ++ take m (drop n zs ++ ys)) (sym (take-append-le n zs ys cut))
    ∙ ap (λ ws. take n (zs ++ ys) ++ take m ws) (sym (drop-append-le n zs ys cut))
    ∙ sym (take-add n m (zs ++ ys))
    ∙ ap (take (n + m)) (append_assoc l.items xs ys)

-- a line with no places lets all fall out
pub none-stay : (l : Frames ℤ) (xs : List Samples) (n : ℕ) → IsLine w32 l → l.capacity ≡ 0 → length xs ≡ n → (l.items ≡ pushed_all l xs) × (xs ≡ take n (l.items ++ xs))
none-stay l xs n is short many =
    let within = is.within in
    let none : l.items ≡ [] = nil_from_length l.items (omega arith) in
    rw (short, none) (sym (drop_all (length xs - 0) xs (omega arith)), sym (take_all n xs (omega arith)))

-- so many frames of an input are there, and those of them that are given have room
pub record IsPiece (b : Bool) (l : Frames ℤ) (n k w ins outs : ℕ) : Type 0 where
  pub number : k ≡ cond b (gone l n) 0
  pub read : n * w ≤ ins
  pub written : k * w ≤ outs
  pub bound : k ≤ length l.items + n
  pub enough : k * w ≤ length l.items * w + n * w

pub piece-fits : (b : Bool) (l : Frames ℤ) (n k free w read written : ℕ) → length l.items ≤ l.capacity → free ≡ l.capacity - length l.items → n ≤ read / w → n ≤ written / w + free → k ≡ cond b (n - free) 0
    → IsPiece b l n k w read written
piece-fits b l n k free w read written within is-free fits out is =
    let bound : k ≤ n - free = at-maximum b is in
    let first : k * w ≤ written / w * w = mul-le-mul_right w (omega arith) in
    let second : k * w ≤ (length l.items + n) * w = mul-le-mul_right w (omega arith) in
    let out-free : n - free ≡ gone l n = omega arith in
    record {
      number = is ∙ ap (λ m. cond b m 0) out-free;
      read = frames-free n w read fits;
      written = omega (arith, first, div-mul-le_self written w);
      bound = omega arith;
      enough = omega (arith, second, add-mul (length l.items) n w);
    }
  where
    at-maximum : (c : Bool) → k ≡ cond c (n - free) 0 → k ≤ n - free
    at-maximum true e = omega arith
    at-maximum false e = omega arith
