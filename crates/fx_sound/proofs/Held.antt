-- The part of a buffer that is held.
use Rattle.std.proofs.Common.{◌≡◌, ℕ, ◌+◌, ◌-◌, ◌≤◌, List, ◌++◌, length, take, drop, refl, sym, ap, ◌∙◌, arith, Option, None, Some}
use Rattle.std.proofs.lemmas.List.{drop-drop, drop-take, length-take, length-drop, length-append, take-append-drop, take_all, take_at, append_assoc, drop-append-le, take-append-le}
use Rattle.std.specs.Io.KnownBytes.{Consumes, prepend_known}
use Rattle.std.specs.List.{copy_within}
use borrow.Rule.Slice.PartMut.{put_mid}
use Rattle.fx_sound.specs.Known.{IfKnown}
use Rattle.fx_sound.specs.Source.{Held, to_come, Tells, Takes, Stays, HoldsFront, HoldsWhatCame}

-- how long the held part is
pub length-held : (buffer : List ℕ) (start end : ℕ) → start ≤ end → end ≤ length buffer → length (take (end - start) (drop start buffer)) ≡ end - start
length-held buffer start end o w = simp (length-take, length-drop) (omega arith)

-- the held part without its first n bytes
pub drop-held : (buffer : List ℕ) (start end n : ℕ) → n ≤ end - start
    → take (end - (start + n)) (drop (start + n) buffer) ≡ drop n (take (end - start) (drop start buffer))
drop-held buffer start end n h =
    let parts : end - start ≡ n + (end - (start + n)) = omega arith in
    rw (parts, drop-take n (end - (start + n)) (drop start buffer), drop-drop n start buffer) refl

-- the held part, moved to the front
pub take-moved : (buffer : List ℕ) (start end : ℕ) → start ≤ end → end ≤ length buffer → take (end - start) (copy_within buffer start end 0) ≡ take (end - start) (drop start buffer)
take-moved buffer start end o w = take_at (take (end - start) (drop start buffer)) (drop (0 + (end - start)) buffer) (end - start) (length-held buffer start end o w)

-- n bytes were read after the first `held`
pub take-refilled : (buffer more : List ℕ) (held free n : ℕ) → held ≤ length buffer → n ≤ length more
    → take (held + n) (put_mid held free buffer more) ≡ take held buffer ++ take n more
take-refilled buffer more held free n h k =
    let post : List ℕ = drop free (drop held buffer) in
    let len : length (take held buffer ++ take n more) ≡ held + n = simp (length-append, length-take) (omega arith) in
    let parts : take held buffer ++ (more ++ post) ≡ (take held buffer ++ take n more) ++ (drop n more ++ post) =
    ap (λ l. take held buffer ++ (l ++ post)) (sym (take-append-drop n more)) ∙ ap (λ l. take held buffer ++ l) (append_assoc (take n more) (drop n more) post)
    ∙ sym (append_assoc (take held buffer) (take n more) (drop n more ++ post)) in
    ap (take (held + n)) parts ∙ take_at (take held buffer ++ take n more) (drop n more ++ post) (held + n) len

-- bytes that were read come after those that are held
pub to_come-read : (held bs : List ℕ) (rest new : Option (List ℕ)) (bytes : List ℕ) → Consumes rest new bs → prepend_known held rest ≡ Some bytes → prepend_known (held ++ bs) new ≡ Some bytes
to_come-read held bs None new bytes c e = cc
to_come-read held bs (Some xs) None bytes c e = absurd c
to_come-read held bs (Some xs) (Some ys) bytes c e =
    let parts : xs ≡ bs ++ ys = c in
    ap Some (append_assoc held bs ys) ∙ ap (λ l. Some (held ++ l)) (sym parts) ∙ e

-- the held bytes are the first of those to come
pub to_come-front : {R : Type 0} (rest : R → Option (List ℕ)) (s : Held R) (n : ℕ) → n ≤ length s.bytes → IfKnown (to_come rest s) (λ bytes. (take n s.bytes ≡ take n bytes) × (n ≤ length bytes))
to_come-front rest s n h bytes known = front (rest s.reader) s.bytes n bytes h known where
  front : (rest : Option (List ℕ)) (held : List ℕ) (n : ℕ) (bytes : List ℕ) → n ≤ length held → prepend_known held rest ≡ Some bytes → (take n held ≡ take n bytes) × (n ≤ length bytes)
  front None held n bytes h e = cc
  front (Some xs) held n bytes h e =
      let same : held ++ xs ≡ bytes = cc in
      (sym (take-append-le n held xs h) ∙ ap (take n) same, omega (arith, length-append held xs, ap length same))

-- all that is held is the first of what is to come
pub to_come-held : {R : Type 0} (rest : R → Option (List ℕ)) (s : Held R) (bytes : List ℕ) → to_come rest s ≡ Some bytes → HoldsFront s bytes
to_come-held rest s bytes known = sym (take_all (length s.bytes) s.bytes (omega arith)) ∙ (to_come-front rest s (length s.bytes) (omega arith) bytes known).0

-- held bytes are consumed
pub to_come-dropped : (held : List ℕ) (rest : Option (List ℕ)) (bytes : List ℕ) (n : ℕ) → n ≤ length held → prepend_known held rest ≡ Some bytes
    → (n ≤ length bytes) × (prepend_known (drop n held) rest ≡ Some (drop n bytes))
to_come-dropped held None bytes n h e = cc
to_come-dropped held (Some r) bytes n h e =
    let same : held ++ r ≡ bytes = cc in
    (omega (arith, length-append held r, ap length same), ap Some (sym (drop-append-le n held r h) ∙ ap (drop n) same))

-- what a loop has taken when n more bytes are consumed
pub skip-turn : {R : Type 0} (rest : R → Option (List ℕ)) (old mid new : Held R) (bytes : List ℕ) (got n : ℕ)
    → (got ≤ length bytes) × (to_come rest old ≡ Some (drop got bytes)) → Stays rest old mid → n ≤ length mid.bytes → new.bytes ≡ drop n mid.bytes → new.reader ≡ mid.reader
    → (got + n ≤ length bytes) × (to_come rest new ≡ Some (drop (got + n) bytes))
skip-turn rest old mid new bytes got n p stays h b r =
    let q = to_come-dropped mid.bytes (rest mid.reader) (drop got bytes) n h (stays (drop got bytes) p.1) in
    (omega (arith, p.0, q.0, length-drop got bytes), ap (λ l. prepend_known l (rest new.reader)) b ∙ ap (λ x. prepend_known (drop n mid.bytes) (rest x)) r ∙ q.1 ∙ ap Some (drop-drop n got bytes))

-- the count over a turn that takes n bytes more
pub Takes-turn : {R : Type 0} (delivered : R → ℕ) (first old mid new : Held R) (got n : ℕ)
    → Takes delivered first old got → Takes delivered old mid 0 → new.bytes ≡ drop n mid.bytes → new.reader ≡ mid.reader → n ≤ length mid.bytes → Takes delivered first new (got + n)
Takes-turn delivered first old mid new got n p q b r h =
    let left : length new.bytes ≡ length mid.bytes - n = ap length b ∙ length-drop n mid.bytes in
    let same : delivered new.reader ≡ delivered mid.reader = ap delivered r in
    record {
      enough = omega (arith, p.enough, q.enough);
      counted = λ k.
          let e = q.counted (omega arith) in
          let f = p.counted (omega (arith, q.enough)) in
          omega arith;
    }

-- what was taken, and then what was there or came
pub Tells-both : {R : Type 0} (delivered : R → ℕ) (old mid : Held R) (new : R) (n m : ℕ) → Takes delivered old mid n → Tells delivered mid new m → Tells delivered old new (n + m)
Tells-both delivered old mid new n m p q = record {
  enough = omega (arith, p.enough, q.enough);
  counted = λ h.
      let e = q.counted h in
      let f = p.counted (omega (arith, q.enough)) in
      omega arith;
}

-- two parts taken one after the other
pub Takes-both : {R : Type 0} (delivered : R → ℕ) (old mid new : Held R) (n m k : ℕ) → n + m ≡ k → Takes delivered old mid n → Takes delivered mid new m → Takes delivered old new k
Takes-both delivered old mid new n m k place p q = record {
  enough = omega (arith, p.enough, q.enough, place);
  counted = λ h.
      let e = q.counted h in
      let f = p.counted (omega (arith, q.enough)) in
      omega (arith, place);
}

-- where a read failed after n bytes that were taken
pub HoldsWhatCame-rest : {R : Type 0} (delivered : R → ℕ) (first old new : Held R) (bytes : List ℕ) (n : ℕ)
    → Takes delivered first old n → HoldsWhatCame delivered old new (drop n bytes) 0 → HoldsWhatCame delivered first new bytes n
HoldsWhatCame-rest delivered first old new bytes n p came = record { takes = Takes-both delivered first old new n 0 n (omega arith) p came.takes; front = came.front }
