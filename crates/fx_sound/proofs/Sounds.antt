-- The sound after a head, frame by frame.
use Rattle.std.proofs.Common.{◌≡◌, ℕ, ◌+◌, ◌-◌, ◌*◌, ◌≤◌, List, ◌++◌, length, map, take, drop, sym, ap, ◌∙◌, arith, Option, None, Some}
use Rattle.std.proofs.Math.Nat.{mul-le-mul_right}
use Rattle.std.proofs.lemmas.List.{length-map, length-take, map-append, take_at}
use Rattle.std.specs.Io.KnownBytes.{prepend_known}
use Rattle.fx_frame_base.specs.Frame.{Samples}
use Rattle.fx_frame_base.specs.declared.coding.Coding.{Coding}
use Rattle.fx_sound.specs.FrameCoding.{frame_size, coded_samples}
use Rattle.fx_frame_base.specs.Lists.{pieces}
use Rattle.fx_frame_base.proofs.Puts.{pieces-take, pieces-split}
use Rattle.fx_frame_base.proofs.Pieces.{length-pieces}
use Rattle.fx_sound.specs.Container.{first_frames}
use Rattle.fx_sound.specs.Known.{IfKnown}
use Rattle.fx_sound.specs.Source.{Held, to_come, Stays}
use Rattle.fx_sound.specs.Sound.{AreHeld, Reading, size_of, within_sound, at_most_announced, TakesFrame}
use Rattle.fx_sound.proofs.Held.{to_come-front, to_come-dropped}

-- a whole frame is announced and there
pub whole_within : (left : Option ℕ) (bytes : List ℕ) (size : ℕ) → size ≤ at_most_announced left size → size ≤ length bytes → size ≤ length (within_sound left bytes)
whole_within None bytes size h k = k
whole_within (Some n) bytes size h k = omega (arith, length-take n bytes)

-- a frame is taken off the bytes that are held
pub TakesFrame-held : {R : Type 0} (rest : R → Option (List ℕ)) (p : Reading) (old mid new : Held R) (wanted size : ℕ) (frame : Samples) (held : List ℕ)
    → Stays rest old mid → size ≡ size_of p → wanted ≡ at_most_announced p.left (size_of p) → size ≤ wanted → size ≤ length mid.bytes
    → held ≡ take size mid.bytes → frame ≡ coded_samples p.coding p.channels held
    → new.bytes ≡ drop size mid.bytes → new.reader ≡ mid.reader
    → IfKnown (to_come rest old) (λ bytes. TakesFrame p bytes frame (to_come rest new))
TakesFrame-held rest p old mid new wanted size frame held stays s w h k t f b r bytes known =
    let now : to_come rest mid ≡ Some bytes = stays bytes known in
    let front = to_come-front rest mid size k bytes now in
    let back = to_come-dropped mid.bytes (rest mid.reader) bytes size k now in
    record {
      whole = whole_within p.left bytes (size_of p) (omega arith) (omega (arith, front.1));
      samples = f ∙ ap (coded_samples p.coding p.channels) (t ∙ front.0 ∙ ap (λ n. take n bytes) s);
      others = ap (λ l. prepend_known l (rest new.reader)) b ∙ ap (λ x. prepend_known (drop size mid.bytes) (rest x)) r ∙ back.1 ∙ ap (λ n. Some (drop n bytes)) s;
    }

-- the first frames of a sound need no more of its bytes than they take
pub first_frames-taken : (coding : Coding) (channels n : ℕ) (bytes : List ℕ) → n * frame_size coding channels ≤ length bytes
    → map (coded_samples coding channels) (pieces (frame_size coding channels) n (take (n * frame_size coding channels) bytes)) ≡ first_frames coding channels n bytes
first_frames-taken coding channels n bytes h =
    ap (map (coded_samples coding channels)) (pieces-take (frame_size coding channels) n bytes h)

-- the first frames, and those after them
pub first_frames-add : (coding : Coding) (channels n k : ℕ) (bytes : List ℕ)
    → first_frames coding channels (n + k) bytes ≡ first_frames coding channels n bytes ++ first_frames coding channels k (drop (n * frame_size coding channels) bytes)
first_frames-add coding channels n k bytes =
    let size : ℕ = frame_size coding channels in
    ap (map (coded_samples coding channels)) (pieces-split size n k bytes) ∙ map-append (coded_samples coding channels) (pieces size n bytes) (pieces size k (drop (n * size) bytes))

pub length-first_frames : (coding : Coding) (channels n : ℕ) (bytes : List ℕ) → length (first_frames coding channels n bytes) ≡ n
length-first_frames coding channels n bytes =
    let size : ℕ = frame_size coding channels in
    length-map (pieces size n bytes) (coded_samples coding channels) ∙ length-pieces size n bytes

-- the frames that a source holds are the next ones of the sound
pub held-next : {R : Type 0} (rest : R → Option (List ℕ)) (p : Reading) (s : Held R) (n : ℕ) → AreHeld p s.bytes n
    → IfKnown (to_come rest s) (λ bytes. (n * size_of p ≤ length (within_sound p.left bytes)) × (first_frames p.coding p.channels n s.bytes ≡ first_frames p.coding p.channels n bytes))
held-next rest p s n held bytes known =
    let front = to_come-front rest s (n * size_of p) held.there bytes known in (
      whole_within p.left bytes (n * size_of p) held.announced front.1,
      sym (first_frames-taken p.coding p.channels n s.bytes held.there) ∙ ap (λ bs. map (coded_samples p.coding p.channels) (pieces (size_of p) n bs)) front.0 ∙ first_frames-taken p.coding p.channels n bytes front.1,
    )

-- they are taken off what is to come
pub held-passed : {R : Type 0} (rest : R → Option (List ℕ)) (s new : Held R) (n : ℕ) → n ≤ length s.bytes → new.bytes ≡ drop n s.bytes → new.reader ≡ s.reader
    → IfKnown (to_come rest s) (λ bytes. to_come rest new ≡ Some (drop n bytes))
held-passed rest s new n h b r bytes known =
    let back = to_come-dropped s.bytes (rest s.reader) bytes n h known in
    ap (λ l. prepend_known l (rest new.reader)) b ∙ ap (λ x. prepend_known (drop n s.bytes) (rest x)) r ∙ back.1

at_most-fewer : (left : Option ℕ) (bound many : ℕ) → bound ≤ many → many ≤ at_most_announced left many → bound ≤ at_most_announced left bound
at_most-fewer None bound many h k = omega arith
at_most-fewer (Some n) bound many h k = omega arith

-- fewer frames are held, too
pub AreHeld-fewer : (p : Reading) (bytes : List ℕ) (bound many : ℕ) → bound ≤ many → AreHeld p bytes many → AreHeld p bytes bound
AreHeld-fewer p bytes bound many h held =
    let size : bound * size_of p ≤ many * size_of p = mul-le-mul_right (size_of p) h in
    record {
      there = omega (arith, size, held.there);
      announced = at_most-fewer p.left _ _ size held.announced;
      bound = omega (arith, held.bound);
      begun = λ over. let none = held.begun over in omega arith;
    }

-- where samples are so many frames of a sound, they are fewer of them
pub first_frames-fewer : (coding : Coding) (channels bound many : ℕ) (samples : Samples) (bytes : List ℕ) → bound ≤ many
    → pieces channels many samples ≡ first_frames coding channels many bytes → pieces channels bound samples ≡ first_frames coding channels bound bytes
first_frames-fewer coding channels bound many samples bytes h e =
    let more : ℕ = many - bound in
    let parts : many ≡ bound + more = omega arith in
    let left : pieces channels many samples ≡ pieces channels bound samples ++ pieces channels more (drop (bound * channels) samples) = ap (λ n. pieces channels n samples) parts ∙ pieces-split channels bound more samples in
    let right : first_frames coding channels many bytes ≡ first_frames coding channels bound bytes ++ first_frames coding channels more (drop (bound * frame_size coding channels) bytes) = ap (λ n. first_frames coding channels n bytes) parts ∙ first_frames-add coding channels bound more bytes in
    sym (take_at (pieces channels bound samples) _ bound (length-pieces channels bound samples)) ∙ ap (take bound) (sym left ∙ e ∙ right) ∙ take_at (first_frames coding channels bound bytes) _ bound (length-first_frames coding channels bound bytes)
