-- Sixteen samples read one by one are the samples and then silent places.
use Rattle.std.proofs.Common.{◌≡◌, ◌+◌, ℕ, suc, ℤ, pos, List, [], ◌∷◌, ◌++◌, ◌≤◌, ◌-◌, drop, length, take, replicate, refl, arith, FitsSigned, to_z, of_z, to_z-of_z}
use Rattle.std.specs.Int.{Width}
use Rattle.std.specs.List.{All}
use Rattle.std.proofs.Math.Seq.{drop-append_seam, take-append_seam}
use Rattle.std.proofs.lemmas.List.{drop-replicate, length-replicate, drop_at, length-append}
use Rattle.std.proofs.lemmas.List.Elements.{All-nil, All-cons, All-append, All-replicate}
use Rattle.fx_frame_base.specs.Places.{IsRead, IsPlaces}

module _ {X : Type 0} (Fits : X → Type 0) (silent_sample : X) where
  -- these were read from xs at i, at i + 1, and so on
  abbrev pub Reads : List X → ℕ → List X → Type 0
  Reads xs i [] = Unit {0}
  Reads xs i (a ∷ as') = IsRead Fits silent_sample xs i a × Reads xs (suc i) as'

  all-fit : (xs : List X) (i : ℕ) (read : List X) → Reads xs i read → All Fits read
  all-fit xs i [] h = All-nil Fits
  all-fit xs i (a ∷ rest) h = All-cons Fits a rest h.0.fits (all-fit xs (suc i) rest h.1)

  shifted : (x : X) (xs : List X) (i : ℕ) (read : List X) → Reads (x ∷ xs) (suc i) read → Reads xs i read
  shifted x xs i [] h = tt
  shifted x xs i (a ∷ rest) h = (record { is = h.0.is; fits = h.0.fits }, shifted x xs (suc i) rest h.1)

  none-read : (i : ℕ) (read : List X) → Reads [] i read → read ≡ replicate (length read) silent_sample
  none-read i [] h = refl
  none-read i (a ∷ rest) h =
      let at-end : a ≡ silent_sample = h.0.is in
      let then' : rest ≡ replicate (length rest) silent_sample = none-read (suc i) rest h.1 in
      cc

  all-read : (xs read : List X) (n : ℕ) → length read ≡ length xs + n → Reads xs 0 read → read ≡ xs ++ replicate n silent_sample
  all-read [] read n e h =
      let k : length read ≡ n = omega arith in
      rw (← k) (none-read 0 read h)
  all-read (x ∷ xs) [] n e h = absurd (omega arith)
  all-read (x ∷ xs) (a ∷ rest) n e h =
      let is : a ≡ x = h.0.is in
      let then' : rest ≡ xs ++ replicate n silent_sample = all-read xs rest n (omega arith) (shifted x xs 0 rest h.1) in
      cc

  pub places-read : (xs read : List X) → 1 ≤ length xs → length xs ≤ 16 → length read ≡ 16 → Reads xs 0 read → IsPlaces Fits silent_sample (length xs) read × (take (length xs) read ≡ xs)
  places-read xs read some bound full h =
      let e : read ≡ xs ++ replicate (16 - length xs) silent_sample = all-read xs read (16 - length xs) (omega arith) h in
      (record { some = some; bound = bound; count = full; rest = rw e (drop-append_seam xs _); fits = all-fit xs 0 read h }, rw e (take-append_seam xs _))

  -- so many samples in front of places that were all silent
  pub places-set : Fits silent_sample → (xs : List X) (n : ℕ) → length xs ≡ n → 1 ≤ n → n ≤ 16 → All Fits xs → IsPlaces Fits silent_sample n (xs ++ drop n (replicate 16 silent_sample))
  places-set silent_sample-fits xs n e some bound fits =
      let left : drop n (replicate 16 silent_sample) ≡ replicate (16 - n) silent_sample = drop-replicate n 16 silent_sample in
      rw left (record {
        some = some;
        bound = bound;
        count = omega (arith, length-append xs (replicate (16 - n) silent_sample), length-replicate (16 - n) silent_sample);
        rest = drop_at xs (replicate (16 - n) silent_sample) n e;
        fits = All-append Fits xs (replicate (16 - n) silent_sample) fits (All-replicate Fits (16 - n) silent_sample silent_sample-fits);
      })

-- what is stored at that width
pub stored : (w : Width) (xs : List ℤ) (i : ℕ) (a : ℤ) → IsRead (FitsSigned w) (pos 0) xs i a → IsRead (FitsSigned w) (pos 0) xs i (to_z w (of_z w a))
stored w xs i a h =
    let fits : FitsSigned w a = h.fits in
    rw to_z-of_z h
