-- The frames of a ring, in the places of its samples.
use Rattle.std.proofs.Common.{◌≡◌, ◌+◌, ◌*◌, ◌-◌, ◌<◌, ◌≤◌, ◌^◌, inl, inr, ℕ, zero, suc, List, [], ◌∷◌, ◌++◌, length, take, drop, slice_get, get_or, Option, Some, None, refl, sym, ap, ◌∙◌, arith, length-append, length-drop, append_assoc, append-nil, Bool, true, false, cond, nat_lt, min}
use Rattle.std.proofs.lemmas.List.{drop-append-le, drop-drop, drop_all, get_or-take, get_or-map, get_or_default, nil_from_length, same_lists, length-map, take-append-le, take_all}
use Rattle.std.proofs.Math.Nat.{suc-mul, zero-mul, mul_comm, mul-le-mul_right}
use Rattle.std.proofs.lemmas.Bool.{cases_lt}
use Rattle.std.specs.Option.{option_map, option_zip}
use Rattle.std.proofs.lemmas.Nat.{mul-le, mul-add-lt}
use Rattle.std.proofs.lemmas.Option.{get_or_from_slice_get, slice_get-get_or}
use Rattle.fx_frame_line.specs.Line.{Frames, pushed, pushed_out, channel_of}
use Rattle.fx_frame_base.specs.Lists.{pieces}
use Rattle.circular_buffer.specs.Buffer.{Buffer, buffer, keep_last}
use Rattle.fx_frame_line.specs.Ring.{IsShaped, IsRing}
use Rattle.fx_frame_base.proofs.Pieces.{each-piece, get_or-piece, get_or-pieces, length-pieces, pieces-append, pieces-rest}

-- all the samples have room exactly where one more frame has
pub lt-scaled : (size count free : ℕ) → 1 ≤ size → nat_lt (count * size) (free * size) ≡ nat_lt count free
lt-scaled size count free some = elim (cases_lt count free) [
  | inl h ↦
      let wide : count * size < free * size = omega (arith, mul-le-mul_right size (h), suc-mul count size) in
      grind arith
  | inr h ↦
      let wide : free * size ≤ count * size = mul-le-mul_right size h in
      grind arith
]

module _ {X : Type 0} where
  -- a push among the samples is a push among the frames
  pub pieces-push : (size count free : ℕ) (xs f : List X) → length xs ≡ count * size → length f ≡ size → count ≤ free → (length (keep_last (free * size) (xs ++ f)) ≡ min (count + 1) free * size) × (pieces size (min (count + 1) free) (keep_last (free * size) (xs ++ f)) ≡ keep_last free (pieces size count xs ++ f ∷ []))
  pieces-push size count free xs f e l le =
      let one : length f ≡ size = l in
      let all : length (xs ++ f) ≡ count * size + size = omega (arith, length-append xs f) in
      let cut : length (pieces size count xs ++ f ∷ []) ≡ count + 1 = omega (arith, length-append (pieces size count xs) (f ∷ []), length-pieces size count xs) in
      elim (cases_lt count free) [
        | inl h ↦
            let bigger : suc count * size ≤ free * size = mul-le-mul_right size (omega arith) in
            let m : min (count + 1) free ≡ suc count = omega arith in
            let none : length (xs ++ f) - free * size ≡ 0 = omega (arith, suc-mul count size) in
            let none' : length (pieces size count xs ++ f ∷ []) - free ≡ 0 = omega arith in
            rw (m, none, none') (omega (arith, suc-mul count size), pieces-append size count xs f e l)
        | inr h ↦
            let same : free ≡ count = omega arith in
            let m : min (count + 1) free ≡ count = omega arith in
            let oldest : length (xs ++ f) - free * size ≡ size = rw same (omega arith) in
            let oldest' : length (pieces size count xs ++ f ∷ []) - free ≡ 1 = omega arith in
            rw (m, oldest, oldest') (omega (arith, length-drop size (xs ++ f)), ap (drop 1) (pieces-append size count xs f e l))
      ]

  -- the frame that goes at a push stands first among the samples
  pub pushed_out-is : (size count free : ℕ) (xs f : List X) → length xs ≡ count * size → length f ≡ size → pushed_out (record { items = pieces size count xs; capacity = free; channels = size }) f ≡ cond (nat_lt count free) None (Some (take size (xs ++ f)))
  pushed_out-is size count free xs f e l =
      let whole : pieces size (suc count) (xs ++ f) ≡ pieces size count xs ++ f ∷ [] = pieces-append size count xs f e l in
      rw (length-pieces size count xs, ← whole) refl

  pub not-absent : (xs : List X) (i : ℕ) → i < length xs → None ≡ slice_get xs i → ⊥
  not-absent [] i h e = absurd (omega arith)
  not-absent (x ∷ xs) zero h e = cc
  not-absent (x ∷ xs) (suc i) h e = not-absent xs i (omega arith) e

  -- the frames of a ring
  abbrev pub frames_of : ℕ → ℕ → ℕ → Buffer X → Frames X
  frames_of channels capacity len samples = record { items = pieces channels len samples.items; capacity = capacity; channels = channels }

  -- of the last so many and more items, the last so many
  pub keep-twice : (n : ℕ) (ys zs : List X) → keep_last n (keep_last n ys ++ zs) ≡ keep_last n (ys ++ zs)
  keep-twice n ys zs = elim (cases_lt n (length ys)) [
    | inl h ↦
        let cut : keep_last n ys ++ zs ≡ drop (length ys - n) (ys ++ zs) = sym (drop-append-le (length ys - n) ys zs (omega arith)) in
        let all : length (ys ++ zs) ≡ length ys + length zs = length-append ys zs in
        let left : length (drop (length ys - n) (ys ++ zs)) ≡ n + length zs = omega (arith, length-drop (length ys - n) (ys ++ zs)) in
        let more : n + length zs - n ≡ length zs = omega arith in
        let both : (length ys - n) + length zs ≡ length (ys ++ zs) - n = omega arith in
        rw (cut, left, more) (drop-drop (length zs) (length ys - n) (ys ++ zs) ∙ ap (λ m. drop m (ys ++ zs)) both)
    | inr h ↦
        let none : length ys - n ≡ 0 = omega arith in
        rw none refl
  ]

  -- where enough come after them, the first so many may go before
  keep-rest : (n k : ℕ) (xs ys : List X) → k ≤ length xs → k + n ≤ length (xs ++ ys) → keep_last n (drop k xs ++ ys) ≡ keep_last n (xs ++ ys)
  keep-rest n k xs ys le more =
      let cut : drop k xs ++ ys ≡ drop k (xs ++ ys) = sym (drop-append-le k xs ys le) in
      let both : k + (length (drop k (xs ++ ys)) - n) ≡ length (xs ++ ys) - n = omega (arith, length-drop k (xs ++ ys)) in
      rw cut (drop-drop (length (drop k (xs ++ ys)) - n) k (xs ++ ys) ∙ ap (λ m. drop m (xs ++ ys)) both)

  -- the oldest items go, and as many come
  pub keep-exchanged : (samples mid after : Buffer X) (f : List X) (n : ℕ) → length samples.items ≡ samples.capacity → n ≡ min (length f) (length samples.items) → mid ≡ buffer (drop n samples.items) samples.capacity → after ≡ buffer (keep_last mid.capacity (mid.items ++ f)) mid.capacity → after ≡ buffer (keep_last samples.capacity (samples.items ++ f)) samples.capacity
  keep-exchanged samples mid after f n full e-n e-mid e-after =
      rw (e-after, e-mid) (ap (λ ys. buffer ys samples.capacity) (keep-rest samples.capacity n samples.items f (omega arith) (omega (arith, length-append samples.items f))))

  -- two items at the end, one after the other
  pub keep-two : (samples mid after : Buffer X) (a b : X) → mid ≡ buffer (keep_last samples.capacity (samples.items ++ a ∷ [])) samples.capacity → after ≡ buffer (keep_last mid.capacity (mid.items ++ b ∷ [])) mid.capacity → after ≡ buffer (keep_last samples.capacity (samples.items ++ a ∷ b ∷ [])) samples.capacity
  keep-two samples mid after a b e-mid e-after =
      let joined : (samples.items ++ a ∷ []) ++ b ∷ [] ≡ samples.items ++ a ∷ b ∷ [] = append_assoc samples.items (a ∷ []) (b ∷ []) in
      rw (e-after, e-mid) (ap (λ ys. buffer ys samples.capacity) (keep-twice samples.capacity (samples.items ++ a ∷ []) (b ∷ []) ∙ ap (keep_last samples.capacity) joined))

  first-one : (b : Bool) (zs : List X) → 1 ≤ length zs → option_map (λ x. x ∷ []) (cond b None (slice_get zs 0)) ≡ cond b None (Some (take 1 zs))
  first-one true zs h = refl
  first-one false [] h = absurd (omega arith)
  first-one false (z ∷ zs) h = refl

  -- both items, where there are two
  abbrev pub both : Option X → Option X → Option (List X)
  both o o' = option_map (λ (p : X × X). p.0 ∷ p.1 ∷ []) (option_zip o o')

  -- both came out, or none did
  pub both-out : (o o' : Option X) (p : X × X) (y : Option (List X)) → Some p ≡ option_zip o o' → both o o' ≡ y → Some (p.0 ∷ p.1 ∷ []) ≡ y
  both-out o o' p y e h = ap (option_map (λ (p : X × X). p.0 ∷ p.1 ∷ [])) e ∙ h

  pub none-out : (o o' : Option X) (y : Option (List X)) → None ≡ option_zip o o' → both o o' ≡ y → None ≡ y
  none-out o o' y e h = ap (option_map (λ (p : X × X). p.0 ∷ p.1 ∷ [])) e ∙ h

  full-two : (xs : List X) (n k : ℕ) (a b : X) → length xs ≡ n → n ≡ k * 2 → both (slice_get (xs ++ a ∷ []) 0) (cond (nat_lt (length (keep_last n (xs ++ a ∷ []))) n) None (slice_get (keep_last n (xs ++ a ∷ []) ++ b ∷ []) 0)) ≡ Some (take 2 (xs ++ a ∷ b ∷ []))
  full-two [] n k a b e par = let none : n ≡ 0 = omega arith in rw none refl
  full-two (x ∷ []) n k a b e par = absurd (omega arith)
  full-two (x ∷ y ∷ xs) n k a b e par =
      let all : length (x ∷ y ∷ xs ++ a ∷ []) ≡ n + 1 = omega (arith, length-append xs (a ∷ [])) in
      let one : length (x ∷ y ∷ xs ++ a ∷ []) - n ≡ 1 = omega arith in
      let whole : length (y ∷ xs ++ a ∷ []) ≡ n = omega (arith, length-append xs (a ∷ [])) in
      let no : nat_lt n n ≡ false = grind arith in
      rw (one, whole, no) refl

  module _ (channels capacity len : ℕ) (samples : Buffer X) (l : Frames X) (is-l : frames_of channels capacity len samples ≡ l) (r : IsRing channels capacity len samples) where
    -- all the samples are few
    pub ring-small : len * channels ≤ 2 ^ 32
    ring-small = mul-le len channels (2 ^ 28) 16 (omega (arith, r.within, r.small)) r.bound

    pub shaped : IsShaped l
    shaped =
        let n : length (pieces channels len samples.items) ≡ len = length-pieces channels len samples.items in
        rw (← is-l) (record { some = r.some; bound = r.bound; small = r.small; within = omega (arith, r.within); each = each-piece channels len samples.items r.filled })

    pub ring-len : len ≡ length l.items
    ring-len = rw (← is-l) (sym (length-pieces channels len samples.items))

    pub ring-push : (len' : ℕ) (after : Buffer X) (f : List X) → length f ≡ l.channels → len' ≡ min (len + 1) capacity → after ≡ buffer (keep_last samples.capacity (samples.items ++ f)) samples.capacity → IsRing channels capacity len' after × (pieces channels len' after.items ≡ pushed l f)
    ring-push len' after f e-f e-len is =
        let n-f : length f ≡ channels = e-f ∙ sym (ap (λ v. v.channels) is-l) in
        let both = pieces-push channels len capacity samples.items f r.filled n-f r.within in
        rw (← is-l, e-len, is, r.free) (record { some = r.some; bound = r.bound; small = r.small; within = omega arith; filled = both.0; free = refl }, both.1)

    pub ring-pushed_out : (f : List X) → length f ≡ l.channels → pushed_out l f ≡ cond (nat_lt len capacity) None (Some (take channels (samples.items ++ f)))
    ring-pushed_out f e-f =
        let n-f : length f ≡ channels = e-f ∙ sym (ap (λ v. v.channels) is-l) in
        rw (← is-l) (pushed_out-is channels len capacity samples.items f r.filled n-f)

    -- where all samples have come, all frames have
    pub ring-full : length samples.items ≡ samples.capacity → len ≡ min (len + 1) capacity
    ring-full e = elim (cases_lt len capacity) [
      | inl h ↦
          let bigger : suc len * channels ≤ capacity * channels = mul-le-mul_right channels (omega arith) in
          absurd (omega (arith, r.some, r.filled, r.free, e, bigger, suc-mul len channels))
      | inr h ↦ omega (arith, r.within)
    ]

    free-at : nat_lt (length samples.items) samples.capacity ≡ nat_lt len capacity
    free-at = rw (r.filled, r.free) (lt-scaled channels len capacity r.some)

    pub ring-out_full : (f out : List X) → length f ≡ l.channels → length samples.items ≡ samples.capacity → length f ≤ length samples.items → out ≡ take (length f) samples.items → pushed_out l f ≡ Some out
    ring-out_full f out e-f full some is =
        let n-f : length f ≡ channels = e-f ∙ sym (ap (λ v. v.channels) is-l) in
        let level : nat_lt (length samples.items) samples.capacity ≡ false = grind arith in
        let no : nat_lt len capacity ≡ false = sym free-at ∙ level in
        let front : take channels (samples.items ++ f) ≡ out = take-append-le channels samples.items f (omega arith) ∙ ap (λ m. take m samples.items) (sym n-f) ∙ sym is in
        ring-pushed_out f e-f ∙ rw no (ap Some front)

    -- the frame that goes, where it came out in two steps
    pub ring-out_read : (f out : List X) (n : ℕ) → length f ≡ l.channels → length samples.items ≡ samples.capacity → n ≡ min (length f) (length samples.items) → out ≡ take n samples.items ++ drop n f → pushed_out l f ≡ Some out
    ring-out_read f out n e-f full e-n is =
        let n-f : length f ≡ channels = e-f ∙ sym (ap (λ v. v.channels) is-l) in
        elim (cases_lt 0 len) [
          | inl some ↦
              let one : suc zero * channels ≤ len * channels = mul-le-mul_right channels some in
              let all : n ≡ length f = omega (arith, r.filled, suc-mul zero channels, zero-mul channels) in
              ring-out_full f out e-f full (omega arith) (is ∙ ap (λ m. take m samples.items ++ drop m f) all ∙ ap (λ ys. take (length f) samples.items ++ ys) (drop_all (length f) f (omega arith)) ∙ append-nil (take (length f) samples.items))
          | inr h ↦
              let empty : length samples.items ≡ 0 = r.filled ∙ ap (λ m. m * channels) (let none : len ≡ 0 = omega arith in none) ∙ zero-mul channels in
              let none : n ≡ 0 = omega arith in
              let level : nat_lt (length samples.items) samples.capacity ≡ false = grind arith in
              let no : nat_lt len capacity ≡ false = sym free-at ∙ level in
              let whole : take channels (samples.items ++ f) ≡ out = rw (nil_from_length samples.items empty) (take_all channels f (omega arith)) ∙ sym (is ∙ ap (λ m. take m samples.items ++ drop m f) none) in
              ring-pushed_out f e-f ∙ rw no (ap Some whole)
        ]

    -- one frame more, where none goes
    pub ring-grown : (f : List X) → length f ≡ l.channels → None ≡ pushed_out l f → len + 1 ≡ min (len + 1) capacity
    ring-grown f e-f e = elim (cases_lt len capacity) [
      | inl h ↦ omega arith
      | inr h ↦
          let no : nat_lt len capacity ≡ false = grind arith in
          let some : None ≡ Some (take channels (samples.items ++ f)) = rw no at (e ∙ ring-pushed_out f e-f) in
          cc
    ]

    -- and as many as before, where one goes
    pub ring-level : (f out : List X) → length f ≡ l.channels → Some out ≡ pushed_out l f → len ≡ min (len + 1) capacity
    ring-level f out e-f e = elim (cases_lt len capacity) [
      | inl h ↦
          let yes : nat_lt len capacity ≡ true = grind arith in
          let none : Some out ≡ None = rw yes at (e ∙ ring-pushed_out f e-f) in
          cc
      | inr h ↦ omega (arith, r.within)
    ]

    pub ring-out_one : (a : X) → l.channels ≡ 1 → (o : Option X) → o ≡ cond (nat_lt (length samples.items) samples.capacity) None (slice_get (samples.items ++ a ∷ []) 0) → option_map (λ x. x ∷ []) o ≡ pushed_out l (a ∷ [])
    ring-out_one a one o e-o =
        let n : channels ≡ 1 = ap (λ v. v.channels) is-l ∙ one in
        let some : 1 ≤ length (samples.items ++ a ∷ []) = omega (arith, length-append samples.items (a ∷ [])) in
        let h : pushed_out l (a ∷ []) ≡ cond (nat_lt len capacity) None (Some (take 1 (samples.items ++ a ∷ []))) = ring-pushed_out (a ∷ []) (sym one) ∙ ap (λ m. cond (nat_lt len capacity) None (Some (take m (samples.items ++ a ∷ [])))) n in
        rw (e-o, free-at, h) (first-one (nat_lt len capacity) (samples.items ++ a ∷ []) some)

    pub ring-out_two : (a b : X) → l.channels ≡ 2 → (mid : Buffer X) → mid ≡ buffer (keep_last samples.capacity (samples.items ++ a ∷ [])) samples.capacity → (o o' : Option X) → o ≡ cond (nat_lt (length samples.items) samples.capacity) None (slice_get (samples.items ++ a ∷ []) 0) → o' ≡ cond (nat_lt (length mid.items) mid.capacity) None (slice_get (mid.items ++ b ∷ []) 0) → both o o' ≡ pushed_out l (a ∷ b ∷ [])
    ring-out_two a b two mid e-mid o o' e-o e-o' =
        let n : channels ≡ 2 = ap (λ v. v.channels) is-l ∙ two in
        let h : pushed_out l (a ∷ b ∷ []) ≡ cond (nat_lt len capacity) None (Some (take 2 (samples.items ++ a ∷ b ∷ []))) = ring-pushed_out (a ∷ b ∷ []) (sym two) ∙ ap (λ m. cond (nat_lt len capacity) None (Some (take m (samples.items ++ a ∷ b ∷ [])))) n in
        elim (cases_lt len capacity) [
          | inl lt ↦
              let yes : nat_lt len capacity ≡ true = grind arith in
              rw (e-o, free-at, h, yes) refl
          | inr ge ↦
              let no : nat_lt len capacity ≡ false = grind arith in
              let full : length samples.items ≡ samples.capacity = r.filled ∙ ap (λ m. m * channels) (let same : len ≡ capacity = omega (arith, r.within) in same) ∙ sym r.free in
              let par : samples.capacity ≡ capacity * 2 = r.free ∙ ap (λ m. capacity * m) n in
              rw (e-o, free-at, h, no, e-o', e-mid) (full-two samples.items samples.capacity capacity a b full par)
        ]

    pub ring-drop : (len' : ℕ) (after : Buffer X) → len' ≡ len - 1 → after ≡ buffer (keep_last (len' * channels) samples.items) samples.capacity → IsRing channels capacity len' after × (pieces channels len' after.items ≡ drop 1 l.items)
    ring-drop len' after e-len is = elim (cases_lt 0 len) [
      | inl some ↦
          let one-more : len ≡ suc len' = omega arith in
          let long : length samples.items ≡ len' * channels + channels = r.filled ∙ ap (λ m. m * channels) one-more ∙ suc-mul len' channels in
          let first : length samples.items - len' * channels ≡ channels = omega arith in
          let rest : pieces channels len' (drop channels samples.items) ≡ drop 1 (pieces channels len samples.items) = ap (λ m. pieces channels m (drop channels samples.items)) e-len ∙ pieces-rest channels len samples.items in
          rw (← is-l, is, first) (record { some = r.some; bound = r.bound; small = r.small; within = omega (arith, r.within); filled = omega (arith, length-drop channels samples.items); free = r.free }, rest)
      | inr none ↦
          let none-len : len ≡ 0 = omega arith in
          let none-left : len' ≡ 0 = omega arith in
          let empty : length samples.items ≡ 0 = r.filled ∙ ap (λ m. m * channels) none-len ∙ zero-mul channels in
          let cut : length (keep_last (0 * channels) samples.items) ≡ 0 = omega (arith, length-drop (length samples.items - 0 * channels) samples.items) in
          let gone : drop 1 (pieces channels len samples.items) ≡ [] = rw none-len refl in
          rw (← is-l, is, gone, none-left) (record { some = r.some; bound = r.bound; small = r.small; within = omega arith; filled = cut ∙ sym (zero-mul channels); free = r.free }, refl)
    ]

    pub ring-sample : (i j : ℕ) (x d : X) → i < length l.items → j < l.channels → Some x ≡ slice_get samples.items (i * channels + j) → x ≡ get_or (get_or l.items i []) j d
    ring-sample i j x d h-i h-j e =
        let at : i < len = omega (arith, ring-len) in
        let within : j < channels = rw (← ap (λ v. v.channels) is-l) at h-j in
        rw (← is-l) (sym (get_or_from_slice_get samples.items (i * channels + j) x d (sym e)) ∙ sym (get_or-piece channels len samples.items i j d at within))

    pub ring-frame : (i : ℕ) (out : List X) → i < length l.items → out ≡ take l.channels (drop (i * channels) samples.items) → slice_get l.items i ≡ Some out
    ring-frame i out h e =
        let at : i < len = omega (arith, ring-len) in
        let piece : get_or l.items i [] ≡ out = rw (← is-l) (get_or-pieces channels len samples.items i [] at ∙ ap (λ m. take m (drop (i * channels) samples.items)) (ap (λ v. v.channels) is-l) ∙ sym e) in
        slice_get-get_or l.items i [] h ∙ ap (λ f. Some f) piece

    -- where a sample stands
    pub ring-place : (i j : ℕ) → i < length l.items → j < l.channels → (i * channels + j < length samples.items) × (i * channels + j < 2 ^ 33)
    ring-place i j h-i h-j =
        let at : i < len = omega (arith, ring-len) in
        let within : j < channels = rw (← ap (λ v. v.channels) is-l) at h-j in
        let below : i * channels + j < channels * len = mul-add-lt i channels j len at within in
        let turned : channels * len ≡ len * channels = mul_comm channels len in
        let bound : len * channels ≤ 2 ^ 32 = ring-small in
        (omega (arith, r.filled), omega arith)

    -- where a frame stands
    pub ring-part : (i : ℕ) → i < length l.items → (i * channels + l.channels ≤ length samples.items) × (i * channels + l.channels ≤ 2 ^ 32)
    ring-part i h-i =
        let at : suc i ≤ len = omega (arith, ring-len) in
        let below : suc i * channels ≤ len * channels = mul-le-mul_right channels at in
        let same : channels ≡ l.channels = ap (λ v. v.channels) is-l in
        (omega (arith, r.filled, suc-mul i channels), omega (arith, ring-small, suc-mul i channels))

    pub ring-fits : length samples.items ≤ 2 ^ 32
    ring-fits = omega (arith, r.filled, ring-small)

    -- what stands at each frame's place of a channel is that channel
    pub ring-channel : (channel : ℕ) (out : List X) → channel < l.channels → length out ≡ length l.items → ((k : ℕ) (d : X) → k < length out → get_or out k d ≡ get_or samples.items (channel + k * channels) d) → (d : X) → out ≡ channel_of l.items channel d
    ring-channel channel out within n is d =
        let at-n : channel < channels = rw (← ap (λ v. v.channels) is-l) at within in
        same_lists out (channel_of l.items channel d) (n ∙ sym (length-map l.items (λ f. get_or f channel d))) (λ k e h.
        let at : k < len = omega (arith, ring-len) in
        let there : k < length l.items = omega arith in
        let piece : get_or (get_or l.items k []) channel d ≡ get_or samples.items (k * channels + channel) d = rw (← is-l) (get_or-piece channels len samples.items k channel d at at-n) in
        let turned : channel + k * channels ≡ k * channels + channel = omega arith in
        let same : get_or out k e ≡ get_or samples.items (k * channels + channel) d = get_or_default out k e d h ∙ is k d h ∙ ap (λ m. get_or samples.items m d) turned in
        same ∙ sym (get_or-map (λ f. get_or f channel d) l.items k [] e there ∙ piece))

    pub ring-channel_place : (channel k : ℕ) → channel < l.channels → k < length l.items → channel + k * channels < length samples.items
    ring-channel_place channel k h-c h-k = let at = (ring-place k channel h-k h-c).0 in omega arith

    pub ring-channel_fits : (channel step : ℕ) (joined out : List X) → channel < l.channels → length out ≡ length l.items → channels ≡ step → joined ≡ samples.items → (k : ℕ) → k < length out → channel + k * step < length joined
    ring-channel_fits channel step joined out h-c n e-step e-joined k h =
        rw (← e-step, e-joined) (ring-channel_place channel k h-c (omega arith))

    pub ring-channel_is : (channel step : ℕ) (joined out : List X) → channel < l.channels → length out ≡ length l.items → channels ≡ step → joined ≡ samples.items → ((k : ℕ) → k < length out → (d : X) → get_or out (k * 1 + 0) d ≡ get_or joined (channel + k * step) d) → (d : X) → out ≡ channel_of l.items channel d
    ring-channel_is channel step joined out h-c n e-step e-joined is =
        ring-channel channel out h-c n (λ k d h. ap (λ i. get_or out i d) (let one : k ≡ k * 1 + 0 = omega arith in one) ∙ is k h d ∙ ap (λ (p : ℕ × List X). get_or p.1 (channel + k * p.0) d) (let e : ◌≡◌ {A = ℕ × List X} (step, joined) (channels, samples.items) = rw (e-step, e-joined) refl in e))

    pub ring-channel_only : (channel : ℕ) (joined out : List X) (m : ℕ) → channel < l.channels → length out ≡ length l.items → channels ≡ 1 → joined ≡ samples.items → m ≡ length out → out ≡ take m joined → (d : X) → out ≡ channel_of l.items channel d
    ring-channel_only channel joined out m h-c n one e-joined e-m e =
        ring-channel_is channel 1 joined out h-c n one e-joined (λ k h d.
        let only : 1 ≡ l.channels = sym one ∙ ap (λ v. v.channels) is-l in
        let none : k ≡ channel + k * 1 = omega arith in
        let one : k * 1 + 0 ≡ k = omega arith in
        ap (λ i. get_or out i d) one ∙ ap (λ ys. get_or ys k d) e ∙ get_or-take m joined k d (omega arith) ∙ ap (λ i. get_or joined i d) none)

    pub ring-one_fits : (joined out : List X) → length out ≡ length l.items → channels ≡ 1 → joined ≡ samples.items → length out ≤ length joined
    ring-one_fits joined out n one e-joined =
        let all : length samples.items ≡ len * 1 = r.filled ∙ ap (λ m. len * m) one in
        rw e-joined (omega (arith, ring-len))
