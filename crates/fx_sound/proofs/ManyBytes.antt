-- Many frames as bytes.
use Rattle.std.proofs.Common.{◌≡◌, ◌+◌, ◌*◌, ◌≤◌, ℕ, zero, suc, List, [], ◌∷◌, ◌++◌, length, take, drop, map, refl, sym, ap, ◌∙◌, arith, length-drop, sum_by}
use Rattle.std.specs.List.{flat_map}
use Rattle.std.proofs.lemmas.List.{append-nil, drop_all, map-append, length-map, take_at, drop_at}
use Rattle.std.proofs.lemmas.List.Sums.{sum_by-cons}
use Rattle.std.proofs.lemmas.Slice.{take-put_mid}
use Rattle.std.proofs.Math.Nat.{suc-mul}
use Rattle.fx_frame_base.specs.declared.coding.Coding.{Coding}
use Rattle.fx_frame_base.specs.Coding.{read_sample, width_of}
use Rattle.fx_frame_base.specs.Frame.{Samples}
use Rattle.fx_sound.specs.FrameCoding.{bytes_of, clips_of, frame_size, coded_samples}
use Rattle.fx_frame_base.specs.Lists.{pieces}
use Rattle.fx_frame_base.proofs.Puts.{pieces-split, pieces-take}
use Rattle.fx_sound.proofs.FrameBytes.{bytes_of-part, clips_of-part}
use Rattle.fx_frame_base.proofs.Pieces.{length-pieces}
use borrow.Rule.Slice.PartMut.{put_mid}

-- the first samples, and those after them
pub samples_of-part : (coding : Coding) (n m : ℕ) (bytes : List ℕ) → coded_samples coding (n + m) bytes ≡ coded_samples coding n bytes ++ coded_samples coding m (drop (n * width_of coding) bytes)
samples_of-part coding n m bytes =
    let w : ℕ = width_of coding in
    let left : List ℕ = drop (n * w) bytes in
    ap (map (read_sample coding)) (pieces-split w n m bytes) ∙ map-append (read_sample coding) (pieces w n bytes) (pieces w m left)

-- they are of their own bytes alone
pub samples_of-front : (coding : Coding) (n : ℕ) (bytes : List ℕ) → n * width_of coding ≤ length bytes → coded_samples coding n (take (n * width_of coding) bytes) ≡ coded_samples coding n bytes
samples_of-front coding n bytes h =
    let w : ℕ = width_of coding in
    ap (map (read_sample coding)) (pieces-take w n bytes h)

pub length-samples_of : (coding : Coding) (n : ℕ) (bytes : List ℕ) → length (coded_samples coding n bytes) ≡ n
length-samples_of coding n bytes = simp (length-map, length-pieces) refl

-- the samples of the bytes after the first ones are written after the first samples
module _ (coding : Coding) (bytes : List ℕ) (xs new : Samples) (k n : ℕ) (within : (k + n) * width_of coding ≤ length bytes) (before : k ≤ length xs)
    (front : take k xs ≡ coded_samples coding k bytes)
    (made : new ≡ coded_samples coding n (take (n * width_of coding) (drop (k * width_of coding) bytes))) where
  samples_of-both : take k xs ++ new ≡ coded_samples coding (k + n) bytes
  samples_of-both =
      let w : ℕ = width_of coding in
      let split : (k + n) * w ≡ k * w + n * w = omega arith in
      let enough : n * w ≤ length (drop (k * w) bytes) = omega (arith, length-drop (k * w) bytes) in
      let rest_unchanged : new ≡ coded_samples coding n (drop (k * w) bytes) = made ∙ samples_of-front coding n (drop (k * w) bytes) enough in
      rw (front, rest_unchanged) (sym (samples_of-part coding k n bytes))

  pub samples_of-piece : (size : ℕ) → take (k + n) (put_mid k size xs new) ≡ coded_samples coding (k + n) bytes
  samples_of-piece size =
      let long : length new ≡ n = ap length made ∙ length-samples_of coding n (take (n * width_of coding) (drop (k * width_of coding) bytes)) in
      take-put_mid k size xs new (k + n) (omega arith) before ∙ samples_of-both

  pub samples_of-rest : (size : ℕ) → length xs ≤ k + size → put_mid k size xs new ≡ coded_samples coding (k + n) bytes
  samples_of-rest size h =
      let none : drop size (drop k xs) ≡ [] = drop_all size (drop k xs) (omega (arith, length-drop k xs)) in
      rw (none, append-nil) samples_of-both

-- the samples of frames, cut in frames
pub decoded-frames : (coding : Coding) (channels n : ℕ) (bytes : List ℕ) → n * channels * width_of coding ≤ length bytes
    → pieces channels n (coded_samples coding (n * channels) bytes) ≡ map (coded_samples coding channels) (pieces (frame_size coding channels) n bytes)
decoded-frames coding channels zero bytes h = refl
decoded-frames coding channels (suc n) bytes h =
    let w : ℕ = width_of coding in
    let size : ℕ = channels * w in
    let e : suc n * channels ≡ channels + n * channels = omega (arith, suc-mul n channels) in
    let parts : (channels + n * channels) * w ≡ size + n * channels * w = omega arith in
    let long : size + n * channels * w ≤ length bytes = rw (e, parts) at h in
    let front : Samples = map (read_sample coding) (pieces w channels bytes) in
    let back : Samples = map (read_sample coding) (pieces w (n * channels) (drop size bytes)) in
    let cut : coded_samples coding (suc n * channels) bytes ≡ front ++ back =
    ap (map (read_sample coding)) (ap (λ m. pieces w m bytes) e ∙ pieces-split w channels (n * channels) bytes) ∙ map-append (read_sample coding) (pieces w channels bytes) (pieces w (n * channels) (drop size bytes)) in
    let many : length front ≡ channels = simp (length-map, length-pieces) refl in
    let first : take channels (front ++ back) ≡ front = take_at front back channels many in
    let rest : drop channels (front ++ back) ≡ back = drop_at front back channels many in
    let one : front ≡ coded_samples coding channels (take size bytes) = ap (map (read_sample coding)) (sym (pieces-take w channels bytes (omega arith))) in
    let more = decoded-frames coding channels n (drop size bytes) (omega (arith, length-drop size bytes)) in
    rw (cut, first, rest) (ap (λ x. x ∷ pieces channels n back) one ∙ ap (λ ps. coded_samples coding channels (take size bytes) ∷ ps) more)

-- the bytes of frames, one after another, and their clips together
pub encoded-frames : (coding : Coding) (channels n : ℕ) (xs : Samples) → flat_map (bytes_of coding) (pieces channels n xs) ≡ bytes_of coding (take (n * channels) xs)
encoded-frames coding channels zero xs = let z : 0 * channels ≡ 0 = omega arith in rw z refl
encoded-frames coding channels (suc n) xs =
    let e : suc n * channels ≡ channels + n * channels = omega (arith, suc-mul n channels) in
    rw e (ap (λ ys. bytes_of coding (take channels xs) ++ ys) (encoded-frames coding channels n (drop channels xs)) ∙ sym (bytes_of-part coding xs channels (n * channels)))

pub encoded-clips : (coding : Coding) (channels n : ℕ) (xs : Samples) → sum_by (clips_of coding) (pieces channels n xs) ≡ clips_of coding (take (n * channels) xs)
encoded-clips coding channels zero xs = let z : 0 * channels ≡ 0 = omega arith in rw z refl
encoded-clips coding channels (suc n) xs =
    let e : suc n * channels ≡ channels + n * channels = omega (arith, suc-mul n channels) in
    rw e (sum_by-cons (clips_of coding) (take channels xs) (pieces channels n (drop channels xs)) ∙ ap (λ m. clips_of coding (take channels xs) + m) (encoded-clips coding channels n (drop channels xs)) ∙ sym (clips_of-part coding xs channels (n * channels)))
