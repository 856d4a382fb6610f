-- Frames as bytes, sample by sample.
use Rattle.std.proofs.Common.{◌≡◌, ℕ, ◌+◌, ◌-◌, ◌*◌, ◌<◌, ◌≤◌, Bool, true, false, cond, List, [], ◌∷◌, ◌++◌, length, take, drop, map, get_or, ℤ, pos, refl, sym, ap, ◌∙◌, arith, add-one, FitsSigned, to_z, of_z, to_z-of_z, w32}
use Rattle.std.proofs.lemmas.List.{drop-drop, map-append, take_at, drop_at, length-take, length-append, append_assoc, append-nil}
use Rattle.std.proofs.lemmas.Grind.{flat_map-append}
use Rattle.std.proofs.lemmas.List.Sums.{count_by_more_yes, count_by_more_no, sum_by-append}
use Rattle.std.proofs.Math.Seq.{drop-cons, take-add}
use Rattle.std.specs.List.{All}
use Rattle.fx_frame_base.specs.declared.coding.Coding.{Coding}
use Rattle.fx_frame_base.specs.declared.coding.Coding.TheVariants.{U8, S8, S16Le, S16Be, S24Le, S24Be, S32Le, S32Be}
use Rattle.fx_frame_base.specs.Coding.{width_of, read_sample, written_sample, clips_written}
use Rattle.fx_frame_base.specs.Frame.{Samples}
use Rattle.fx_sound.specs.FrameCoding.{coded_samples, bytes_of, clips_of}
use Rattle.fx_frame_base.specs.Lists.{pieces}
use Rattle.fx_frame_base.proofs.Puts.{pieces-suc}
use borrow.Rule.Slice.PartMut.{put_mid}
use mir.Val.{bool_byte}

-- one sample more is read
pub samples_of-more : (coding : Coding) (n : ℕ) (bytes : List ℕ)
    → coded_samples coding (n + 1) bytes ≡ coded_samples coding n bytes ++ read_sample coding (take (width_of coding) (drop (n * width_of coding) bytes)) ∷ []
samples_of-more coding n bytes =
    rw add-one (ap (map (read_sample coding)) (pieces-suc (width_of coding) n bytes)
    ∙ map-append (read_sample coding) (pieces (width_of coding) n bytes) (take (width_of coding) (drop (n * width_of coding) bytes) ∷ []))

-- how many bytes a sample takes
pub length-written : (coding : Coding) (z : ℤ) → length (written_sample coding z) ≡ width_of coding
length-written U8 z = refl
length-written S8 z = refl
length-written S16Le z = refl
length-written S16Be z = refl
length-written S24Le z = refl
length-written S24Be z = refl
length-written S32Le z = refl
length-written S32Be z = refl

-- how many bytes a frame takes
pub length-bytes_of : (coding : Coding) (xs : Samples) → length (bytes_of coding xs) ≡ length xs * width_of coding
length-bytes_of coding [] = omega arith
length-bytes_of coding (x ∷ xs) = omega (arith, length-append (written_sample coding x) (bytes_of coding xs), length-written coding x, length-bytes_of coding xs)

-- the first samples and those after them are written, and their clips are counted
pub bytes_of-part : (coding : Coding) (xs : Samples) (k n : ℕ) → bytes_of coding (take (k + n) xs) ≡ bytes_of coding (take k xs) ++ bytes_of coding (take n (drop k xs))
bytes_of-part coding xs k n = ap (bytes_of coding) (take-add k n xs) ∙ flat_map-append (written_sample coding) (take k xs) (take n (drop k xs))

pub clips_of-part : (coding : Coding) (xs : Samples) (k n : ℕ) → clips_of coding (take (k + n) xs) ≡ clips_of coding (take k xs) + clips_of coding (take n (drop k xs))
clips_of-part coding xs k n = ap (clips_of coding) (take-add k n xs) ∙ sum_by-append (λ z. cond (clips_written coding z) 1 0) (take k xs) (take n (drop k xs))

-- a turn of the loop that writes a part of the samples
pub bytes_of-piece : (coding : Coding) (xs : Samples) (first out new : List ℕ) (k n at size : ℕ) → k ≤ length xs → at ≡ k * width_of coding → size ≡ n * width_of coding
    → out ≡ bytes_of coding (take k xs) ++ drop (k * width_of coding) first
    → new ≡ bytes_of coding (take n (drop k xs))
    → put_mid at size out new ≡ bytes_of coding (take (k + n) xs) ++ drop ((k + n) * width_of coding) first
bytes_of-piece coding xs first out new k n at size h a s e is =
    let width : ℕ = width_of coding in
    let front : length (bytes_of coding (take k xs)) ≡ k * width = length-bytes_of coding (take k xs) ∙ ap (λ m. m * width) (length-take k xs ∙ (omega arith)) in
    let kept : take (k * width) out ≡ bytes_of coding (take k xs) = ap (take (k * width)) e ∙ take_at (bytes_of coding (take k xs)) (drop (k * width) first) (k * width) front in
    let rest_unchanged : drop (k * width) out ≡ drop (k * width) first = ap (drop (k * width)) e ∙ drop_at (bytes_of coding (take k xs)) (drop (k * width) first) (k * width) front in
    let place : k * width + n * width ≡ (k + n) * width = omega arith in
    let left : drop (n * width) (drop (k * width) out) ≡ drop ((k + n) * width) first =
    ap (drop (n * width)) rest_unchanged ∙ drop-drop (n * width) (k * width) first ∙ ap (λ m. drop m first) place in
    rw (a, s, kept, left, is, bytes_of-part coding xs k n) (sym (append_assoc (bytes_of coding (take k xs)) (bytes_of coding (take n (drop k xs))) (drop ((k + n) * width) first)))

-- a turn of the loop that writes one sample
pub bytes_of-turn : (coding : Coding) (xs : Samples) (first out new : List ℕ) (k width : ℕ) → k < length xs → width ≡ width_of coding
    → out ≡ bytes_of coding (take k xs) ++ drop (k * width_of coding) first
    → new ≡ written_sample coding (get_or xs k (pos 0))
    → put_mid (k * width) (k * width + width - k * width) out new ≡ bytes_of coding (take (k + 1) xs) ++ drop ((k + 1) * width_of coding) first
bytes_of-turn coding xs first out new k width h w e n =
    let one : bytes_of coding (take 1 (drop k xs)) ≡ written_sample coding (get_or xs k (pos 0)) = rw (drop-cons xs k (pos 0) h) (append-nil (written_sample coding (get_or xs k (pos 0)))) in
    let size : k * width + width - k * width ≡ 1 * width_of coding = omega arith in
    bytes_of-piece coding xs first out new k 1 (k * width) (k * width + width - k * width) (omega arith) (ap (λ m. k * m) w) size e (n ∙ sym one)

-- a clip more, or none
pub clips_of-yes : (coding : Coding) (xs : Samples) (k clips : ℕ) → k < length xs → clips ≡ clips_of coding (take k xs) → clips_written coding (get_or xs k (pos 0)) ≡ true → clips + 1 ≡ clips_of coding (take (k + 1) xs)
clips_of-yes coding xs k clips h e p = ap (λ n. n + 1) e ∙ sym (count_by_more_yes (clips_written coding) xs k (pos 0) h p)

pub clips_of-no : (coding : Coding) (xs : Samples) (k clips : ℕ) → k < length xs → clips ≡ clips_of coding (take k xs) → clips_written coding (get_or xs k (pos 0)) ≡ false → clips ≡ clips_of coding (take (k + 1) xs)
clips_of-no coding xs k clips h e p = e ∙ sym (count_by_more_no (clips_written coding) xs k (pos 0) h p)

-- a sample of 32 bits is stored as it is
pub stored : (xs : Samples) (k : ℕ) → All (FitsSigned w32) xs → k < length xs → to_z w32 (of_z w32 (get_or xs k (pos 0))) ≡ get_or xs k (pos 0)
stored xs k fits h =
    let f : FitsSigned w32 (get_or xs k (pos 0)) = fits k (pos 0) h in
    rw to_z-of_z refl

-- a list of two
pub pair_of : (xs : Samples) → length xs ≡ 2 → xs ≡ get_or xs 0 (pos 0) ∷ get_or xs 1 (pos 0) ∷ []
pair_of [] e = absurd (omega arith)
pair_of (x ∷ []) e = absurd (omega arith)
pair_of (x ∷ y ∷ []) e = refl
pair_of (x ∷ y ∷ z ∷ zs) e = absurd (omega arith)

-- two clips are counted one by one
both_counted : (p q : Bool) (m n : ℕ) → m ≡ bool_byte p → n ≡ bool_byte q → m + n ≡ 0 + cond p 1 0 + cond q 1 0
both_counted true true m n i j = omega (arith, i, j)
both_counted true false m n i j = omega (arith, i, j)
both_counted false true m n i j = omega (arith, i, j)
both_counted false false m n i j = omega (arith, i, j)

-- a pair, written and counted
pub bytes_of-pair : (coding : Coding) (xs : Samples) (first second : List ℕ) → length xs ≡ 2 → All (FitsSigned w32) xs
    → first ≡ written_sample coding (to_z w32 (of_z w32 (get_or xs 0 (pos 0)))) → second ≡ written_sample coding (to_z w32 (of_z w32 (get_or xs 1 (pos 0))))
    → first ++ second ≡ bytes_of coding xs
bytes_of-pair coding xs first second two fits f s =
    let a = stored xs 0 fits (omega arith) in
    let b = stored xs 1 fits (omega arith) in
    rw (f, s, a, b) (ap (λ l. written_sample coding (get_or xs 0 (pos 0)) ++ l) (sym (append-nil (written_sample coding (get_or xs 1 (pos 0))))) ∙ ap (bytes_of coding) (sym (pair_of xs two)))

pub clips_of-pair : (coding : Coding) (xs : Samples) (p q : Bool) (m n : ℕ) → length xs ≡ 2 → All (FitsSigned w32) xs
    → p ≡ clips_written coding (to_z w32 (of_z w32 (get_or xs 0 (pos 0)))) → q ≡ clips_written coding (to_z w32 (of_z w32 (get_or xs 1 (pos 0))))
    → m ≡ bool_byte p → n ≡ bool_byte q
    → m + n ≡ clips_of coding xs
clips_of-pair coding xs p q m n two fits f s i j =
    let a = stored xs 0 fits (omega arith) in
    let b = stored xs 1 fits (omega arith) in
    let x = f ∙ ap (clips_written coding) a in
    let y = s ∙ ap (clips_written coding) b in
    both_counted p q m n i j ∙ ap (λ r. 0 + cond r 1 0 + cond q 1 0) x ∙ ap (λ r. 0 + cond (clips_written coding (get_or xs 0 (pos 0))) 1 0 + cond r 1 0) y
    ∙ ap (clips_of coding) (sym (pair_of xs two))
