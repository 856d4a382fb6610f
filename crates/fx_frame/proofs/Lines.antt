-- What holds of the frames of a line, whatever their width.
use Rattle.std.proofs.Common.{◌≡◌, Bool, ◌<◌, ◌-◌, ℕ, List, [], ◌∷◌, ◌++◌, length, slice_get, get_or, Option, Some, None, true, false, cond, nat_lt, refl, sym, ap, ◌∙◌, arith, MatchOption, IsSomeAnd, ◌≤◌, unwrap_or}
use Rattle.std.specs.Option.{option_map}
use Rattle.std.specs.List.{All}
use Rattle.std.proofs.lemmas.List.Elements.{All-head, All-push, All-drop}
use Rattle.std.proofs.lemmas.Option.{same_Some, slice_get-get_or}
use Rattle.fx_frame_line.specs.Line.{Frames, pushed, pushed_out, from_newest}
use Rattle.std.proofs.lemmas.List.{get_or_past}
use Rattle.fx_frame_line.specs.Ring.{IsShaped}

-- what `map` gives, where the function always gives f
pub mapped : {A B : Type 0} (f : A → B) (o : Option A) (m : Option B) → MatchOption o (m ≡ None) (λ x. IsSomeAnd m (λ y. y ≡ f x)) → m ≡ option_map f o
mapped f None m h = h
mapped f (Some x) None h = absurd h
mapped f (Some x) (Some y) h = ap Some h

module _ {X : Type 0} where
  -- a frame of one channel is its sample
  pub one-sample : (f : List X) (d : X) → length f ≡ 1 → f ≡ get_or f 0 d ∷ []
  one-sample [] d e = absurd (omega arith)
  one-sample (x ∷ []) d e = refl
  one-sample (x ∷ y ∷ f) d e = absurd (omega arith)

  -- a frame of two channels is its two samples
  pub two-samples : (f : List X) (d : X) → length f ≡ 2 → f ≡ get_or f 0 d ∷ get_or f 1 d ∷ []
  two-samples [] d e = absurd (omega arith)
  two-samples (x ∷ []) d e = absurd (omega arith)
  two-samples (x ∷ y ∷ []) d e = refl
  two-samples (x ∷ y ∷ z ∷ f) d e = absurd (omega arith)

  -- what holds of each frame holds after a push
  pub All-pushed : (P : List X → Type 0) (l : Frames X) (f : List X) (after : List (List X)) → All P l.items → P f → after ≡ pushed l f → All P after
  All-pushed P l f after all h e = rw e (All-drop P (length (l.items ++ f ∷ []) - l.capacity) (l.items ++ f ∷ []) (All-push P l.items f all h))

  -- no frame has a sample past its channels
  pub none-history : (l : Frames X) (k channel : ℕ) (d : X) → IsShaped l → k < length l.items → l.channels ≤ channel → d ≡ get_or (unwrap_or (from_newest l k) []) channel d
  none-history l k channel d s lt h =
      let yes : nat_lt k (length l.items) ≡ true = grind arith in
      let at : length l.items - k - 1 < length l.items = omega arith in
      let side : length (get_or l.items (length l.items - k - 1) []) ≡ l.channels = s.each (length l.items - k - 1) [] at in
      rw (yes, slice_get-get_or l.items (length l.items - k - 1) [] at) (sym (get_or_past (get_or l.items (length l.items - k - 1) []) channel d (omega arith)))

  pub frame-one : (l : Frames X) (k : ℕ) (f : List X) (x : X) → IsShaped l → 1 ≡ l.channels → k < length l.items → ((d : X) → x ≡ get_or (get_or l.items k []) 0 d) → f ≡ x ∷ [] → Some f ≡ slice_get l.items k
  frame-one l k f x s one h is e-f =
      let n : length (get_or l.items k []) ≡ 1 = s.each k [] h ∙ sym one in
      sym (slice_get-get_or l.items k [] h ∙ ap Some (one-sample (get_or l.items k []) x n ∙ ap (λ y. y ∷ []) (sym (is x)) ∙ sym e-f))

  pub frame-two : (l : Frames X) (k : ℕ) (f : List X) (x y : X) → IsShaped l → 2 ≡ l.channels → k < length l.items → ((d : X) → x ≡ get_or (get_or l.items k []) 0 d) → ((d : X) → y ≡ get_or (get_or l.items k []) 1 d) → f ≡ x ∷ y ∷ [] → Some f ≡ slice_get l.items k
  frame-two l k f x y s two h is-x is-y e-f =
      let n : length (get_or l.items k []) ≡ 2 = s.each k [] h ∙ sym two in
      let e-x : x ≡ get_or (get_or l.items k []) 0 x = is-x x in
      let e-y : y ≡ get_or (get_or l.items k []) 1 x = is-y x in
      let whole : get_or l.items k [] ≡ x ∷ y ∷ [] = two-samples (get_or l.items k []) x n ∙ (let e : get_or (get_or l.items k []) 0 x ∷ get_or (get_or l.items k []) 1 x ∷ [] ≡ x ∷ y ∷ [] = cc in e) in
      sym (slice_get-get_or l.items k [] h ∙ ap Some (whole ∙ sym e-f))

  -- a frame that goes has the samples of the others
  pub out-long : (l : Frames X) (f x : List X) → IsShaped l → length f ≡ l.channels → pushed_out l f ≡ Some x → length x ≡ l.channels
  out-long l f x shaped long e = go (nat_lt (length l.items) l.capacity) l.items shaped.each e
    where
      go : (b : Bool) (items : List (List X)) → All (λ (g : List X). length g ≡ l.channels) items → cond b None (slice_get (items ++ f ∷ []) 0) ≡ Some x → length x ≡ l.channels
      go true items all is = absurd (cc (is))
      go false [] all is = let same : f ≡ x = same_Some f x is in rw (← same) long
      go false (y ∷ ys) all is = let same : y ≡ x = same_Some y x is in rw (← same) (All-head (λ (g : List X). length g ≡ l.channels) y ys all)
