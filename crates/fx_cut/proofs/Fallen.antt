-- What falls out of a line when a frame comes.
use Rattle.std.proofs.Common.{◌≡◌, ℕ, ◌-◌, ◌<◌, ◌≤◌, cond, List, [], ◌∷◌, ◌++◌, length, drop, sym, ap, ◌∙◌, arith, length-append, inl, inr, ◌⊎◌, ℤ, Option, Some, None, slice_get, nat_lt}
use Rattle.std.specs.Int.{w32}
use Rattle.std.specs.List.{All}
use Rattle.std.proofs.lemmas.Bool.{lt-ltb, le-ltb, cases_lt}
use Rattle.fx_frame_base.specs.Frame.{IsFrame, Samples}
use Rattle.fx_frame_base.specs.PendingFrame.{IsPending}
use Rattle.fx_frame_line.specs.Line.{Frames, IsLine, IsSamples}

-- the frame that falls out, where there is one
abbrev pub fallen : ℕ → List Samples → Samples → Option Samples
fallen capacity items frame = cond (nat_lt (length items) capacity) None (slice_get (items ++ frame ∷ []) 0)

-- the line after the frame came
abbrev pub stays : ℕ → List Samples → Samples → List Samples
stays capacity items frame = drop (length (items ++ frame ∷ []) - capacity) (items ++ frame ∷ [])

pub full_out : (capacity : ℕ) (items : List Samples) (frame : Samples) → capacity ≤ length items → fallen capacity items frame ≡ slice_get (items ++ frame ∷ []) 0
full_out capacity items frame h = ap (λ b. cond b None (slice_get (items ++ frame ∷ []) 0)) (le-ltb (length items) capacity h)

pub free_out : (capacity : ℕ) (items : List Samples) (frame : Samples) → length items < capacity → fallen capacity items frame ≡ None
free_out capacity items frame h = ap (λ b. cond b None (slice_get (items ++ frame ∷ []) 0)) (lt-ltb (length items) capacity h)

first_some : (items : List Samples) (frame : Samples) → slice_get (items ++ frame ∷ []) 0 ≡ None → ⊥
first_some [] frame e = cc
first_some (x ∷ xs) frame e = cc

first_is : (xs : List Samples) (o : Samples) → slice_get xs 0 ≡ Some o → xs ≡ o ∷ drop 1 xs
first_is [] o e = absurd (cc)
first_is (x ∷ xs) o e = cc (e)

-- none falls out: there was room
pub no_fall : (capacity : ℕ) (items : List Samples) (frame : Samples) → None ≡ fallen capacity items frame → length items < capacity
no_fall capacity items frame e = go (cases_lt (length items) capacity)
  where
    go : (length items < capacity) ⊎ (capacity ≤ length items) → length items < capacity
    go (inl l) = l
    go (inr g) = absurd (first_some items frame (sym (full_out capacity items frame g) ∙ sym e))

pub stays-free : (capacity : ℕ) (items : List Samples) (frame : Samples) → length items < capacity → stays capacity items frame ≡ items ++ frame ∷ []
stays-free capacity items frame l = ap (λ n. drop n (items ++ frame ∷ [])) (let e : length (items ++ frame ∷ []) - capacity ≡ 0 = omega (arith, length-append items (frame ∷ [])) in e)

-- the oldest falls out: there was no room
pub is_full : (capacity : ℕ) (items : List Samples) (frame o : Samples) → Some o ≡ fallen capacity items frame → capacity ≤ length items
is_full capacity items frame o e = go (cases_lt (length items) capacity)
  where
    go : (length items < capacity) ⊎ (capacity ≤ length items) → capacity ≤ length items
    go (inl l) = absurd (let n = free_out capacity items frame l in cc (e, n))
    go (inr g) = g

pub oldest-first : (capacity : ℕ) (items : List Samples) (frame o : Samples) → Some o ≡ fallen capacity items frame → length items ≤ capacity → items ++ frame ∷ [] ≡ o ∷ stays capacity items frame
oldest-first capacity items frame o e h =
    let full = is_full capacity items frame o e in
    let n : length (items ++ frame ∷ []) - capacity ≡ 1 = omega (arith, length-append items (frame ∷ [])) in
    first_is (items ++ frame ∷ []) o (sym (full_out capacity items frame full) ∙ sym e)
    ∙ ap (λ k. o ∷ drop k (items ++ frame ∷ [])) (sym n)

-- it has the channels of the line
oldest-channels : (channels : ℕ) (items more : List Samples) (frame o : Samples) → All (IsSamples w32 channels) items → length frame ≡ channels → items ++ frame ∷ [] ≡ o ∷ more → length o ≡ channels
oldest-channels channels [] more frame o all f e = let s : frame ≡ o = cc (e) in rw (← s) f
oldest-channels channels (x ∷ xs) more frame o all f e =
    let s : x ≡ o = cc (e) in
    let g : length x ≡ channels = (all 0 [] (omega arith)).count in
    rw (← s) g

module _ (line : Frames ℤ) (channels : ℕ) (frame o : Samples) (is : IsLine w32 line) (same : line.channels ≡ channels) (out : Some o ≡ fallen line.capacity line.items frame) (f : length frame ≡ channels) where
  pub oldest-length : length o ≡ channels
  oldest-length = oldest-channels line.channels _ _ frame o is.frames (f ∙ sym same) (oldest-first _ _ _ _ out is.within) ∙ same

  -- it can be pending
  pub oldest-fits : IsFrame o → IsPending channels (Some o)
  oldest-fits framed = λ x q. let w : o ≡ x = cc in (rw (← w) framed, rw (← w) oldest-length)

pub first-popped : (items items' : List Samples) (o : Samples) → Some o ≡ slice_get items 0 → items' ≡ drop 1 items → items ≡ o ∷ items'
first-popped items items' o e h = first_is items o (sym e) ∙ ap (λ l. o ∷ l) (sym h)
