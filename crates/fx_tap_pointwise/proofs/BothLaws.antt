-- Samples that went through two effects, as frames.
use Rattle.std.proofs.Common.{◌≡◌, ◌*◌, ◌≤◌, ◌∙◌, ℕ, List, [], ◌∷◌, Bool, ◌++◌, length, map, take, ap, refl, sym, arith, ℤ}
use Rattle.std.specs.List.{All}
use Rattle.std.proofs.lemmas.List.{length-append, length-map, length-take-le, take_all}
use Rattle.fx_frame_base.specs.Frame.{Samples}
use Rattle.fx_frame_base.specs.Lists.{pieces}
use Rattle.fx_frame_base.specs.Rounded.{clips_rounded, samples_of}
use Rattle.fx_frame_base.proofs.Puts.{pieces-take}
use Rattle.fx_frame_base.proofs.Pieces.{length-pieces, pieces-front}
use Rattle.fx_frame.specs.Made.{clips_in, made_of, rounded_given}
use Rattle.fx_frame.proofs.SamplePieces.{clips-samples, pieces-samples, pieces-sides}

module _ (f h : ℤ → ℤ × Bool) where
  -- the second after the first
  one-by-one : (xs : List ℤ) → map (λ x. h (f x).0) xs ≡ map h (samples_of (map f xs))
  one-by-one [] = refl
  one-by-one (x ∷ xs) = ap (λ l. h (f x).0 ∷ l) (one-by-one xs)

  module _ (size n : ℕ) (input : List ℤ) (free : n * size ≤ length input) where
    abbrev samples-between : List ℤ
    samples-between = samples_of (map f (take (n * size) input))

    -- the frames that the first gives to the second
    abbrev pub between : List Samples
    between = made_of (rounded_given f) (pieces size n input)

    between-long : length samples-between ≡ n * size
    between-long = length-map (map f (take (n * size) input)) (λ r. r.0) ∙ length-map (take (n * size) input) f ∙ length-take-le (n * size) input free

    between-is : pieces size n samples-between ≡ between
    between-is = pieces-samples f size n (take (n * size) input) ∙ ap (made_of (rounded_given f)) (pieces-take size n input free)

    pub between-sides : All (λ (y : Samples). length y ≡ size) between
    between-sides = rw (← between-is) (pieces-sides size n samples-between (omega (arith, between-long)))

    pub between-many : length between ≡ n
    between-many = length-map (pieces size n input) (λ x. (rounded_given f x).samples) ∙ length-pieces size n input

    out-long : length (samples_of (map h samples-between)) ≡ n * size
    out-long = length-map (map h samples-between) (λ r. r.0) ∙ length-map samples-between h ∙ between-long

    pub out-is : (out rest_unchanged : List ℤ) → out ≡ samples_of (map (λ x. h (f x).0) (take (n * size) input)) → pieces size n (out ++ rest_unchanged) ≡ made_of (rounded_given h) between
    out-is out rest_unchanged e =
        let same : out ≡ samples_of (map h samples-between) = e ∙ ap samples_of (one-by-one (take (n * size) input)) in
        pieces-front size n out rest_unchanged (ap length same ∙ out-long) ∙ ap (pieces size n) same ∙ pieces-samples h size n samples-between ∙ ap (made_of (rounded_given h)) between-is

    pub out-sides : (out rest_unchanged : List ℤ) → out ≡ samples_of (map (λ x. h (f x).0) (take (n * size) input)) → All (λ (y : Samples). length y ≡ size) (pieces size n (out ++ rest_unchanged))
    out-sides out rest_unchanged e =
        let same : out ≡ samples_of (map h samples-between) = e ∙ ap samples_of (one-by-one (take (n * size) input)) in
        pieces-sides size n (out ++ rest_unchanged) (omega (arith, length-append out rest_unchanged, ap length same, out-long))

    pub first-clips : clips_rounded (map f (take (n * size) input)) ≡ clips_in (rounded_given f) (pieces size n input)
    first-clips = clips-samples f size n input

    pub second-clips : clips_rounded (map (λ x. h (f x).0) (take (n * size) input)) ≡ clips_in (rounded_given h) between
    second-clips =
        let whole : take (n * size) samples-between ≡ samples-between = take_all (n * size) samples-between (omega (arith, between-long)) in
        ap clips_rounded (one-by-one (take (n * size) input)) ∙ ap (λ l. clips_rounded (map h l)) (sym whole) ∙ clips-samples h size n samples-between ∙ ap (clips_in (rounded_given h)) between-is
