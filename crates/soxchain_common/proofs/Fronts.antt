-- What is read up to a limit.
use Rattle.std.proofs.Common.{◌≡◌, ◌<◌, ◌≤◌, ◌+◌, ℕ, List, [], ◌∷◌, ◌++◌, ◌∙◌, ap, append-nil, arith, false, length, map, nat_lt, slice_get, slice_index_or, inl, inr, sym, zero, suc, Bor, refl, ◌^◌, Option, Some, None, IfOk, IfSome, take, Result, Ok, Err, IfErr}
use Rattle.std.specs.Io.KnownBytes.{Consumes, IsAtEnd}
use Rattle.std.proofs.lemmas.Bool.{cases_lt, lt-ltb}
use Rattle.std.proofs.lemmas.List.{length-append, length-take, take_all, take_more}
use Rattle.fx_frame_base.specs.Io.{ByteReader, saturated}
use Rattle.soxchain_common.specs.Consoles.{IsNewReader, Opened}
use Rattle.soxchain_common.specs.Files.{AreRead, AreReadTo, Failed, IsAsked, IsFront, IsOpenedAndClosed, kept_with}
use Rattle.soxchain_common.specs.declared.files.UnreadFile.{UnreadFile}
use Rattle.soxchain_common.specs.declared.files.UnreadFile.TheVariants as Unreads

front-of : {X : Type 0} (n : ℕ) (xs ys : List X) → n ≤ length xs → take n (xs ++ ys) ≡ take n xs
front-of zero xs ys h = refl
front-of (suc n) [] ys h = absurd (omega (arith, h))
front-of (suc n) (x ∷ xs) ys h = ap (λ l. x ∷ l) (front-of n xs ys (omega (arith, h)))

-- all that was told is the front of what there was: where no more came, and where as much was told as is asked for
pub front-ended : (there later ended : Option (List ℕ)) (bytes piece : List ℕ) (more maximum : ℕ) → Consumes there later bytes → Consumes later ended (take more piece) → more ≡ 0 → IsAtEnd ended
    → length bytes ≤ maximum → IfSome there (λ all. bytes ≡ take maximum all)
front-ended None later ended bytes piece more maximum delivered last none at_end bound = tt
front-ended (Some all) None ended bytes piece more maximum delivered last none at_end bound = absurd delivered
front-ended (Some all) (Some later) None bytes piece more maximum delivered last none at_end bound = absurd last
front-ended (Some all) (Some later) (Some rest) bytes piece more maximum delivered last none at_end bound =
    let none_later : later ≡ [] = (rw none at last) ∙ at_end in
    sym (ap (λ l. take maximum l) (delivered ∙ ap (λ l. bytes ++ l) none_later ∙ append-nil bytes) ∙ take_all maximum bytes bound)

pub front-full : (there later : Option (List ℕ)) (bytes : List ℕ) (maximum : ℕ) → Consumes there later bytes → length bytes ≡ maximum → IfSome there (λ all. bytes ≡ take maximum all)
front-full None later bytes maximum delivered full = tt
front-full (Some all) None bytes maximum delivered full = absurd delivered
front-full (Some all) (Some later) bytes maximum delivered full =
    sym (ap (λ l. take maximum l) delivered ∙ front-of maximum bytes later (omega (arith, full)) ∙ take_all maximum bytes (omega (arith, full)))

-- what a reader that was opened told, or a failed read of it, is so of the file once it is closed
module _ {H R : Type 0} (o : Opened H R) (reads : ByteReader R) (old between new : H) (name : List ℕ) (reader ended : R)
    (is_opened : o.opened old between name reader) (fresh : IsNewReader reads reader) (is_closed : o.closed between new ended) where
  opened-closed : (failures : ℕ) → reads.failures ended ≡ failures → IsOpenedAndClosed o reads failures old new name
  opened-closed failures is = record {
    reader = reader;
    between = between;
    ended = ended;
    is_opened = is_opened;
    fresh = fresh;
    is_closed = is_closed;
    failed = is;
  }

  pub front-closed : {X : Type 0} (result : Result X UnreadFile) (items : X → List ℕ)
      → IfOk result (λ x. IfSome (reads.rest reader) (λ all. items x ≡ take (2 ^ 20 + 1) all))
      → IfOk result (λ x. length (items x) ≤ 2 ^ 20 + 1)
      → IfOk result (λ x. reads.delivered reader ≡ 0 → reads.delivered ended ≡ length (items x))
      → IfOk result (λ _. reads.failures ended ≡ reads.failures reader)
      → IfOk result (λ x. IsFront o reads old new name (items x))
  unfolding opened-closed
  front-closed (Ok x) items front bound delivered unfailed = record {
    file = opened-closed 0 (unfailed ∙ fresh.unfailed);
    delivered = delivered fresh.undelivered;
    bound = bound;
    front = front;
  }
  front-closed (Err fault) items front bound delivered unfailed = tt

  pub failed-closed : {X : Type 0} (result : Result X UnreadFile)
      → IfErr result (λ fault. fault ≡ Unreads.Failed → reads.failures ended ≡ saturated (reads.failures reader + 1))
      → IfErr result (λ fault. fault ≡ Unreads.Failed → IsAsked o reads old new name)
  failed-closed (Ok x) delivered = tt
  failed-closed (Err fault) delivered = λ failed. Failed (opened-closed 1 (delivered failed ∙ ap (λ n. saturated (n + 1)) fresh.unfailed))

  pub memory_refused-closed : {X : Type 0} (result : Result X UnreadFile)
      → IfErr result (λ fault. fault ≡ Unreads.Memory → reads.failures ended ≡ reads.failures reader)
      → IfErr result (λ fault. fault ≡ Unreads.Memory → IsOpenedAndClosed o reads 0 old new name)
  memory_refused-closed (Ok x) delivered = tt
  memory_refused-closed (Err fault) delivered = λ memory_refused. opened-closed 0 (delivered memory_refused ∙ fresh.unfailed)

-- one more file was read after those that were
read-more : {H R : Type 0} (o : Opened H R) (reads : ByteReader R) (old mid new : H) (names files : List (List ℕ)) (name bytes : List ℕ)
    → AreRead o reads old mid names files → IsFront o reads mid new name bytes → AreRead o reads old new (names ++ name ∷ []) (files ++ bytes ∷ [])
read-more o reads old mid new [] [] name bytes are front = (new, rw are at front, refl)
read-more o reads old mid new (n ∷ names) (f ∷ files) name bytes are front = (are.0, are.1, read-more o reads are.0 mid new names files name bytes are.2 front)
read-more o reads old mid new [] (f ∷ files) name bytes are front = absurd are
read-more o reads old mid new (n ∷ names) [] name bytes are front = absurd are

-- the first of all and one more are those that are kept
kept-more : (all : List (List ℕ)) (bytes : List ℕ) → kept_with (take 32 all) bytes ≡ take 32 (all ++ bytes ∷ [])
kept-more all bytes = elim (cases_lt (length all) 32) [
  | inl bound ↦
      let whole : take 32 all ≡ all = take_all 32 all (omega (arith, bound)) in
      let more : take 32 (all ++ bytes ∷ []) ≡ all ++ bytes ∷ [] = take_all 32 (all ++ bytes ∷ []) (omega (arith, bound, length-append all (bytes ∷ []))) in
      rw (whole, lt-ltb (length all) 32 bound) (sym more)
  | inr many ↦
      let long : length (take 32 all) ≡ 32 = omega (arith, many, length-take 32 all) in
      let full : nat_lt (length (take 32 all)) 32 ≡ false = rw long refl in
      rw full (sym (front-of 32 all (bytes ∷ []) many))
]

-- the files of the names up to a place were read, and the first 32 are there
pub record AreSoFar {H R : Type 0} (o : Opened H R) (reads : ByteReader R) (old now : H) (names files : List (List ℕ)) (place : ℕ) : Type 0 where
  pub all : List (List ℕ)
  pub read : AreRead o reads old now (take place names) all
  pub kept : files ≡ take 32 all

-- and so it is one place on
pub one-on : {H R : Type 0} (o : Opened H R) (reads : ByteReader R) (old mid new : H) (names files : List (List ℕ)) (place : ℕ) (name bytes : List ℕ)
    → AreSoFar o reads old mid names files place → place < length names → slice_index_or names place [] ≡ name → IsFront o reads mid new name bytes
    → AreSoFar o reads old new names (kept_with files bytes) (place + 1)
one-on o reads old mid new names files place name bytes far within e front =
    let more = read-more o reads old mid new (take place names) far.all name bytes far.read front in
    record {
      all = far.all ++ bytes ∷ [];
      read = rw (take_more names place [] within, e) more;
      kept = ap (λ l. kept_with l bytes) far.kept ∙ kept-more far.all bytes;
    }

-- the name at a place of a list of names
pub name-there : (names : List (Bor (List ℕ))) (place : ℕ) (d : Bor (List ℕ)) → place < length names → slice_get (map (λ n. n.now) names) place ≡ Some (slice_index_or names place d).now
name-there [] place d h = absurd (omega (arith, h))
name-there (n ∷ ns) zero d h = refl
name-there (n ∷ ns) (suc k) d h = name-there ns k d (omega (arith, h))

-- so the files in front of it were read, where those up to its place were
pub read-to : {H R : Type 0} (o : Opened H R) (reads : ByteReader R) (old before : H) (names : List (Bor (List ℕ))) (all files : List (List ℕ)) (place : ℕ) (name d : Bor (List ℕ))
    → map (λ n. n.now) names ≡ all → place < length names → name ≡ slice_index_or names place d → AreSoFar o reads old before all files place → AreReadTo o reads old before all place name.now
read-to o reads old before names all files place name d same within is far = record {
  is_there = rw (← same) (name-there names place d within ∙ ap (λ n. Some n.now) (sym is));
  files = far.all;
  read = far.read;
}

pub name-at : (names : List (Bor (List ℕ))) (place : ℕ) (d : Bor (List ℕ)) → place < length names → slice_index_or (map (λ n. n.now) names) place [] ≡ (slice_index_or names place d).now
name-at [] place d h = absurd (omega (arith, h))
name-at (n ∷ ns) zero d h = refl
name-at (n ∷ ns) (suc k) d h = name-at ns k d (omega (arith, h))
