-- What stays true while bytes go to a writer.
use Rattle.std.proofs.Common.{◌≡◌, ℕ, ◌+◌, ◌-◌, ◌≤◌, List, [], ◌++◌, length, take, drop, sym, ap, ◌∙◌, arith, Option}
use Rattle.std.proofs.lemmas.List.{drop-drop, length-drop, length-append, length-take, length-take-le, drop-take, append_assoc, take_at, take-append-le, drop-append-le}
use Rattle.std.proofs.Math.Seq.{take-add}
use Rattle.std.proofs.KnownBytes.{Appends-trans, Appends-nil}
use Rattle.std.specs.Io.KnownBytes.{Appends}
use borrow.Rule.Slice.PartMut.{put_mid}
use Rattle.fx_sound.specs.Output.{Pending, Sent}

-- the writer took the first n of those that wait
pub Sent-taken : (first now new : Option (List ℕ)) (out new_out : Pending) (all : List ℕ) (n : ℕ) → Sent first now out all
    → Appends now new (take n out.bytes) → n ≤ length out.bytes → new_out.bytes ≡ drop n out.bytes → new_out.written ≡ out.written + n → Sent first new new_out all
Sent-taken first now new out new_out all n s a h b w =
    let free : n ≤ length (drop out.written all) = rw (← s.waiting) h in
    let parts : take out.written all ++ take n out.bytes ≡ take new_out.written all =
    ap (λ l. take out.written all ++ take n l) s.waiting ∙ sym (take-add out.written n all) ∙ ap (λ m. take m all) (sym w) in
    record {
      within = omega (arith, s.within, w, simp length-drop at free);
      taken = rw (← parts) (Appends-trans first now new _ _ s.taken a);
      waiting = b ∙ ap (drop n) s.waiting ∙ drop-drop n out.written all ∙ ap (λ m. drop m all) (sym w);
    }

-- bytes were put after those that wait
pub Sent-put : (first now : Option (List ℕ)) (out new_out : Pending) (all bytes : List ℕ) → Sent first now out all
    → new_out.bytes ≡ out.bytes ++ bytes → new_out.written ≡ out.written → Sent first now new_out (all ++ bytes)
Sent-put first now out new_out all bytes s b w = record {
  within = rw (w, length-append all bytes) (omega (arith, s.within));
  taken = rw (w, take-append-le out.written all bytes s.within) s.taken;
  waiting = b ∙ ap (λ l. l ++ bytes) s.waiting ∙ sym (drop-append-le out.written all bytes s.within) ∙ ap (λ m. drop m (all ++ bytes)) (sym w);
}

-- bytes put after the held part
pub held-put : (buffer bytes : List ℕ) (start end n : ℕ) → start ≤ end → end + n ≤ length buffer → length bytes ≡ n
    → take (end + n - start) (drop start (put_mid end (end + n - end) buffer bytes)) ≡ take (end - start) (drop start buffer) ++ bytes
held-put buffer bytes start end n o w l =
    let post : List ℕ = drop (end + n - end) (drop end buffer) in
    let held : List ℕ = take (end - start) (drop start buffer) in
    let front : length (take end buffer) ≡ end = length-take-le end buffer (omega arith) in
    let before : drop start (take end buffer) ≡ held =
    let e : end ≡ start + (end - start) = omega arith in
    ap (λ m. drop start (take m buffer)) e ∙ drop-take start (end - start) buffer in
    let cut : drop start (take end buffer ++ (bytes ++ post)) ≡ (held ++ bytes) ++ post =
    drop-append-le start (take end buffer) (bytes ++ post) (omega (arith, front)) ∙ ap (λ m. m ++ (bytes ++ post)) before ∙ sym (append_assoc held bytes post) in
    let size : length (held ++ bytes) ≡ end + n - start = simp (length-append, length-take, length-drop) (omega arith) in
    rw cut (take_at (held ++ bytes) post (end + n - start) size)

-- nothing was to be sent yet
pub Sent-start : (now : Option (List ℕ)) (out : Pending) → out.bytes ≡ [] → out.written ≡ 0 → Sent now now out []
Sent-start now out b w = record {
  within = omega (arith, w);
  taken = rw w (Appends-nil now);
  waiting = rw w b;
}
