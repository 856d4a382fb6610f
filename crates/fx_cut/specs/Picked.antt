-- Frames picked by their places, and the same along the list.
use Rattle.std.proofs.Common.{◌≡◌, ℕ, zero, suc, ◌+◌, ◌-◌, ◌<◌, ◌≤◌, Bool, true, false, cond, List, [], ◌∷◌, ◌++◌, map, length, refl, ◌∙◌, ap, arith}
use Rattle.std.specs.Prelude.{filter, flat_map, slice_index_or}
use Rattle.std.specs.List.{range_with_len, enumerate_from}
use Rattle.fx_frame_base.specs.Frame.{Samples}

picked_same : {X : Type 0} (f g : ℕ → X) (p : ℕ → Bool) (a n : ℕ) → ((i : ℕ) → a ≤ i → i < a + n → f i ≡ g i) → map f (filter p (range_with_len a n)) ≡ map g (filter p (range_with_len a n))
picked_same f g p a zero same = refl
picked_same {X} f g p a (suc n) same = go (p a) (picked_same f g p (a + 1) n (λ i low high. same i (omega arith) (omega arith)))
  where
    go : (b : Bool) → map f (filter p (range_with_len (a + 1) n)) ≡ map g (filter p (range_with_len (a + 1) n))
        → map f (cond b (a ∷ filter p (range_with_len (a + 1) n)) (filter p (range_with_len (a + 1) n))) ≡ map g (cond b (a ∷ filter p (range_with_len (a + 1) n)) (filter p (range_with_len (a + 1) n)))
    go true e = cc (same a (omega arith) (omega arith), e)
    go false e = e

next_index : (x : List Samples) (f : Samples) (a n : ℕ) → a + 1 ≤ n → slice_index_or (f ∷ x) (n - a) [] ≡ slice_index_or x (n - (a + 1)) []
next_index x f a n h = ap (λ i. slice_index_or (f ∷ x) i []) (let e : n - a ≡ suc (n - (a + 1)) = omega arith in e)

first_index : (x : List Samples) (f : Samples) (a : ℕ) → slice_index_or (f ∷ x) (a - a) [] ≡ f
first_index x f a = ap (λ i. slice_index_or (f ∷ x) i []) (let e : a - a ≡ 0 = omega arith in e)

module _ {X : Type 0} (make : ℕ → Samples → X) (p : ℕ → Bool) where
  picked_along : (a : ℕ) (x : List Samples) → map (λ n. make n (slice_index_or x (n - a) [])) (filter p (range_with_len a (length x))) ≡ flat_map (λ e. cond (p e.0) (make e.0 e.1 ∷ []) []) (enumerate_from a x)
  picked_along a [] = refl
  picked_along a (f ∷ x) = go (p a)
      (picked_same (λ n. make n (slice_index_or (f ∷ x) (n - a) [])) (λ n. make n (slice_index_or x (n - (a + 1)) [])) p (a + 1) (length x) (λ i low high. ap (make i) (next_index x f a i low))
      ∙ picked_along (a + 1) x)
    where
      go : (b : Bool) → map (λ n. make n (slice_index_or (f ∷ x) (n - a) [])) (filter p (range_with_len (a + 1) (length x))) ≡ flat_map (λ e. cond (p e.0) (make e.0 e.1 ∷ []) []) (enumerate_from (a + 1) x)
          → map (λ n. make n (slice_index_or (f ∷ x) (n - a) [])) (cond b (a ∷ filter p (range_with_len (a + 1) (length x))) (filter p (range_with_len (a + 1) (length x))))
          ≡ cond b (make a f ∷ []) [] ++ flat_map (λ e. cond (p e.0) (make e.0 e.1 ∷ []) []) (enumerate_from (a + 1) x)
      go false ih = ih
      go true ih = cc (ap (make a) (first_index x f a), ih)

  -- those of all frames that pass the test, each made of its frame
  pub picked : (x : List Samples) → map (λ n. make n (slice_index_or x n [])) (filter p (range_with_len 0 (length x))) ≡ flat_map (λ e. cond (p e.0) (make e.0 e.1 ∷ []) []) (enumerate_from 0 x)
  picked x =
      picked_same (λ n. make n (slice_index_or x n [])) (λ n. make n (slice_index_or x (n - 0) [])) p 0 (length x) (λ i low high. ap (λ n. make i (slice_index_or x n [])) (let e : i ≡ i - 0 = omega arith in e))
      ∙ picked_along 0 x
