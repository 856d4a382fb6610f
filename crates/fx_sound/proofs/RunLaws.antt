-- Frames of a sound that are read one by one: laws for who calls `next_frame` in a loop.
use Rattle.std.proofs.Common.{sym, ap, ◌∙◌, arith, add-one, ◌≡◌, ℕ, zero, suc, true, ◌+◌, ◌-◌, ◌*◌, ◌/◌, ◌%◌, ◌<◌, ◌≤◌, min, List, [], ◌∷◌, ◌++◌, length, take, drop, map, Option, None, Some, refl}
use Rattle.std.proofs.lemmas.List.{drop-drop, length-drop, length-take, map-append, take-take, drop-take}
use Rattle.std.proofs.Math.Arith.{digits_div, digits_mod}
use Rattle.fx_frame_base.specs.declared.coding.Coding.{Coding}
use Rattle.fx_frame_base.specs.Frame.{Samples}
use Rattle.fx_sound.specs.FrameCoding.{frame_size, coded_samples}
use Rattle.fx_frame_base.specs.Lists.{pieces}
use Rattle.fx_frame_base.proofs.Puts.{pieces-suc}
use Rattle.fx_sound.specs.Source.{Held, Takes, FallsShort}
use Rattle.fx_sound.specs.Sound.{Reading, size_of, within_sound, at_most_announced, beyond, lacking, after_frame, sound_after_end, TakesFrame, EndsSound}
use Rattle.fx_sound.specs.Runs.{RanFrames}
use Rattle.fx_sound.specs.Container.{first_frames, after_frames, at_end, ReadAllDelivered}
use Rattle.fx_sound.proofs.Held.{Tells-both}

-- a length in whole parts
quotient_of : (n size rest total : ℕ) → rest < size → total ≡ n * size + rest → (n ≡ total / size) × (rest ≡ total % size)
quotient_of n size rest total h e = (sym (ap (λ m. m / size) e ∙ digits_div n h), sym (ap (λ m. m % size) e ∙ digits_mod n h))

-- the sound after its first k bytes
length-within_beyond : (left : Option ℕ) (k : ℕ) (bytes : List ℕ) → length (within_sound (beyond left k) (drop k bytes)) ≡ length (within_sound left bytes) - k
length-within_beyond None k bytes = length-drop k bytes
length-within_beyond (Some a) k bytes = simp (length-take, length-drop) (omega arith)

beyond-beyond : (left : Option ℕ) (k m : ℕ) → beyond (beyond left k) m ≡ beyond left (k + m)
beyond-beyond None k m = refl
beyond-beyond (Some a) k m = ap Some (omega arith)

beyond-zero : (left : Option ℕ) (k : ℕ) → k ≡ 0 → beyond left k ≡ left
beyond-zero None k e = refl
beyond-zero (Some a) k e = ap Some (omega arith)

lacking-beyond : (left : Option ℕ) (k n : ℕ) → k ≤ n → lacking (beyond left k) (n - k) ≡ lacking left n
lacking-beyond None k n h = refl
lacking-beyond (Some a) k n h = omega arith

-- before the first frame
pub Ran-start : (p : Reading) (bytes : List ℕ) (to_come : Option (List ℕ)) → to_come ≡ Some bytes → RanFrames p p bytes 0 to_come
Ran-start p bytes to_come e =
    let none : 0 * size_of p ≡ 0 = omega arith in
    let frames : p.frames ≡ p.frames + 0 = omega arith in
    record {
      whole = omega (arith, none);
      now_is = ap (λ o. record p { left = o }) (sym (beyond-zero p.left (0 * size_of p) none)) ∙ ap (λ f. record p { left = beyond p.left (0 * size_of p); frames = f }) frames;
      to_come_is = e ∙ ap (λ m. Some (drop m bytes)) (sym none);
    }

-- after the last frame the rest of the sound is dropped too
pub Ran-rest_unchanged : (first now : Reading) (bytes : List ℕ) (n : ℕ) (to_come new_to_come : Option (List ℕ)) → RanFrames first now bytes n to_come
    → new_to_come ≡ Some (drop (length (within_sound now.left (drop (n * size_of first) bytes))) (drop (n * size_of first) bytes)) → new_to_come ≡ Some (drop (length (within_sound first.left bytes)) bytes)
Ran-rest_unchanged first now bytes n to_come new_to_come r o =
    let k : ℕ = n * size_of first in
    let left : now.left ≡ beyond first.left k = ap (λ p. p.left) r.now_is in
    let rest : length (within_sound now.left (drop k bytes)) ≡ length (within_sound first.left bytes) - k = ap (λ o. length (within_sound o (drop k bytes))) left ∙ length-within_beyond first.left k bytes in
    o ∙ ap (λ m. Some (drop m (drop k bytes))) rest ∙ ap Some (drop-drop (length (within_sound first.left bytes) - k) k bytes ∙ ap (λ m. drop m bytes) (omega (arith, r.whole)))

-- one frame more is counted
pub after_frames-more : (p : Reading) (n : ℕ) → after_frame (after_frames p n) ≡ after_frames p (n + 1)
after_frames-more p n =
    let size : ℕ = size_of p in
    let more : n * size + size ≡ (n + 1) * size = omega arith in
    ap (λ o. record p { left = o; frames = p.frames + n + 1 }) (beyond-beyond p.left (n * size) size ∙ ap (beyond p.left) more)
    ∙ ap (λ f. record p { left = beyond p.left ((n + 1) * size); frames = f }) (omega arith)

-- so many frames more are counted
pub after_frames-add : (p : Reading) (n k : ℕ) → after_frames (after_frames p n) k ≡ after_frames p (n + k)
after_frames-add p n k =
    let size : ℕ = size_of p in
    let more : n * size + k * size ≡ (n + k) * size = omega arith in
    ap (λ o. record p { left = o; frames = p.frames + n + k }) (beyond-beyond p.left (n * size) (k * size) ∙ ap (beyond p.left) more)
    ∙ ap (λ f. record p { left = beyond p.left ((n + k) * size); frames = f }) (omega arith)

-- so many frames more
pub Ran-block : (first now new : Reading) (bytes : List ℕ) (n k : ℕ) (to_come new_to_come : Option (List ℕ))
    → RanFrames first now bytes n to_come → k * size_of now ≤ length (within_sound now.left (drop (n * size_of first) bytes)) → new ≡ after_frames now k
    → new_to_come ≡ Some (drop (k * size_of now) (drop (n * size_of first) bytes)) → RanFrames first new bytes (n + k) new_to_come
Ran-block first now new bytes n k to_come new_to_come r h e o =
    let size : ℕ = size_of first in
    let same : size_of now ≡ size = ap size_of r.now_is in
    let left : now.left ≡ beyond first.left (n * size) = ap (λ p. p.left) r.now_is in
    let more : (n + k) * size ≡ n * size + k * size = omega arith in
    let free : k * size ≤ length (within_sound now.left (drop (n * size) bytes)) = rw same at h in
    let rest : length (within_sound now.left (drop (n * size) bytes)) ≡ length (within_sound first.left bytes) - n * size =
    ap (λ o. length (within_sound o (drop (n * size) bytes))) left ∙ length-within_beyond first.left (n * size) bytes in
    record {
      whole = omega (arith, free, rest, more, r.whole);
      now_is = e ∙ ap (λ p. after_frames p k) r.now_is ∙ after_frames-add first n k;
      to_come_is = o ∙ ap (λ m. Some (drop (k * m) (drop (n * size) bytes))) same ∙ ap Some (drop-drop (k * size) (n * size) bytes ∙ ap (λ m. drop m bytes) (omega (arith, more)));
    }

-- one frame more
pub Ran-turn : (first now new : Reading) (bytes : List ℕ) (frame : Samples) (n : ℕ) (to_come new_to_come : Option (List ℕ))
    → RanFrames first now bytes n to_come → TakesFrame now (drop (n * size_of first) bytes) frame new_to_come → new ≡ after_frame now → RanFrames first new bytes (n + 1) new_to_come
Ran-turn first now new bytes frame n to_come new_to_come r t e =
    let size : ℕ = size_of first in
    let same : size_of now ≡ size = ap size_of r.now_is in
    let left : now.left ≡ beyond first.left (n * size) = ap (λ p. p.left) r.now_is in
    let more : (n + 1) * size ≡ n * size + size = omega arith in
    let rest : length (within_sound now.left (drop (n * size) bytes)) ≡ length (within_sound first.left bytes) - n * size =
    ap (λ o. length (within_sound o (drop (n * size) bytes))) left ∙ length-within_beyond first.left (n * size) bytes in
    record {
      whole = omega (arith, t.whole, rest, same, r.whole);
      now_is = e ∙ ap after_frame r.now_is ∙ after_frames-more first n;
      to_come_is = t.others ∙ ap (λ m. Some (drop m (drop (n * size) bytes))) same ∙ ap Some (drop-drop size (n * size) bytes ∙ ap (λ m. drop m bytes) (omega (arith, more)));
    }

-- the end of the sound
pub Ran-end : (first now new : Reading) (bytes : List ℕ) (n : ℕ) (to_come : Option (List ℕ))
    → RanFrames first now bytes n to_come → EndsSound now (drop (n * size_of first) bytes) new
    → (n ≡ length (within_sound first.left bytes) / size_of first) × (new ≡ at_end first (within_sound first.left bytes))
Ran-end first now new bytes n to_come r e =
    let size : ℕ = size_of first in
    let total : ℕ = length (within_sound first.left bytes) in
    let same : size_of now ≡ size = ap size_of r.now_is in
    let rest : length (within_sound now.left (drop (n * size) bytes)) ≡ total - n * size =
    ap (λ p. length (within_sound p.left (drop (n * size) bytes))) r.now_is ∙ length-within_beyond first.left (n * size) bytes in
    let q = quotient_of n size (total - n * size) total (omega (arith, e.part, rest, same)) (omega (arith, r.whole)) in (
      q.0,
      e.counts ∙ ap (λ p. sound_after_end p (length (within_sound now.left (drop (n * size) bytes)))) r.now_is
          ∙ ap (sound_after_end (after_frames first n)) rest
          ∙ ap (λ m. record first { left = beyond first.left (n * size); frames = first.frames + n; missing = m; stray = total - n * size; over = true }) (lacking-beyond first.left (n * size) total r.whole)
          ∙ ap (λ k. record first { left = beyond first.left (n * size); frames = first.frames + n; missing = lacking first.left total; stray = k; over = true }) q.1
          ∙ ap (λ k. record first { left = beyond first.left (k * size); frames = first.frames + k; missing = lacking first.left total; stray = total % size; over = true }) q.0,
    )

-- the sound goes on for a frame after the first n
pub Ran-whole : (first now : Reading) (bytes : List ℕ) (n : ℕ) (to_come : Option (List ℕ))
    → RanFrames first now bytes n to_come → size_of now ≤ length (within_sound now.left (drop (n * size_of first) bytes)) → (n + 1) * size_of first ≤ length (within_sound first.left bytes)
Ran-whole first now bytes n to_come r h =
    let same : size_of now ≡ size_of first = ap size_of r.now_is in
    let rest : length (within_sound now.left (drop (n * size_of first) bytes)) ≡ length (within_sound first.left bytes) - n * size_of first =
    ap (λ p. length (within_sound p.left (drop (n * size_of first) bytes))) r.now_is ∙ length-within_beyond first.left (n * size_of first) bytes in
    let more : (n + 1) * size_of first ≡ n * size_of first + size_of first = omega arith in
    omega (arith, h, rest, same, r.whole)

pub Takes-none : {R : Type 0} (delivered : R → ℕ) (s : Held R) → Takes delivered s s 0
Takes-none delivered s = record { enough = omega arith; counted = λ _. omega arith }

-- all whole frames of what was told were read
pub Ran-failed : {R : Type 0} (delivered : R → ℕ) (first now : Reading) (n : ℕ) (start old : Held R) (new : R)
    → now ≡ after_frames first n → Takes delivered start old (n * size_of first) → FallsShort delivered old new (at_most_announced now.left (size_of now))
    → ReadAllDelivered delivered start new first n
Ran-failed delivered first now n start old new e t f = record {
  count = λ h.
      let size : ℕ = size_of first in
      let all = Tells-both delivered start old new (n * size) f.came t f.tells in
      let c = all.counted h in
      let total : length start.bytes + (delivered new - delivered start.reader) ≡ n * size + f.came = omega (arith, all.enough) in
      let bound : f.came < at_most_announced (beyond first.left (n * size)) size = rw (ap (λ p. at_most_announced p.left (size_of p)) e) at f.bound in
      ap (λ m. m) (at_most_quotient first.left size n f.came bound) ∙ ap (λ m. at_most_announced first.left m / size) (sym total);
  later = λ h.
      let all = Tells-both delivered start old new (n * size_of first) f.came t f.tells in
      let c = all.counted h in
      omega (arith, all.enough);
  short = λ h left is.
      let all = Tells-both delivered start old new (n * size_of first) f.came t f.tells in
      let c = all.counted h in
      let rest : now.left ≡ Some (left - n * size_of first) = ap (λ (p : Reading). p.left) e ∙ ap (λ l. beyond l (n * size_of first)) is in
      let bound : f.came < at_most_announced (Some (left - n * size_of first)) (size_of now) = rw rest at f.bound in
      omega (arith, all.enough, bound);
}
  where
    at_most_quotient : (left : Option ℕ) (size n came : ℕ) → came < at_most_announced (beyond left (n * size)) size → n ≡ at_most_announced left (n * size + came) / size
    at_most_quotient None size n came h = (quotient_of n size came (n * size + came) h refl).0
    at_most_quotient (Some a) size n came h =
        let m : min a (n * size + came) ≡ n * size + came = omega arith in
        rw m (quotient_of n size came (n * size + came) (omega arith) refl).0

-- one frame more
pub first_frames-more : (coding : Coding) (channels n : ℕ) (bytes : List ℕ)
    → first_frames coding channels (n + 1) bytes ≡ first_frames coding channels n bytes ++ coded_samples coding channels (take (frame_size coding channels) (drop (n * frame_size coding channels) bytes)) ∷ []
first_frames-more coding channels n bytes =
    rw add-one (ap (map (coded_samples coding channels)) (pieces-suc (frame_size coding channels) n bytes)
    ∙ map-append (coded_samples coding channels) (pieces (frame_size coding channels) n bytes) (take (frame_size coding channels) (drop (n * frame_size coding channels) bytes) ∷ []))

-- pieces of a front that has them whole
pieces-front : (size n m : ℕ) (xs : List ℕ) → n * size ≤ m → pieces size n (take m xs) ≡ pieces size n xs
pieces-front size zero m xs h = refl
pieces-front size (suc n) m xs h =
    let free : size + n * size ≤ m = omega arith in
    let parts : m ≡ size + (m - size) = omega arith in
    let first : take size (take m xs) ≡ take size xs = take-take size m xs (omega arith) in
    let rest_unchanged : drop size (take m xs) ≡ take (m - size) (drop size xs) = ap (λ k. drop size (take k xs)) parts ∙ drop-take size (m - size) xs in
    rw (first, rest_unchanged) (ap (λ l. take size xs ∷ l) (pieces-front size n (m - size) (drop size xs) (omega arith)))

-- the frames of a sound lie within what is announced
pub first_frames-within : (coding : Coding) (channels n : ℕ) (left : Option ℕ) (bytes : List ℕ) → n * frame_size coding channels ≤ length (within_sound left bytes)
    → first_frames coding channels n (within_sound left bytes) ≡ first_frames coding channels n bytes
first_frames-within coding channels n None bytes h = refl
first_frames-within coding channels n (Some a) bytes h =
    ap (map (coded_samples coding channels)) (pieces-front (frame_size coding channels) n a bytes (omega (arith, length-take a bytes)))
