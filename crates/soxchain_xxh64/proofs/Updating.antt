-- How the state follows the bytes as they grow.
use Rattle.std.proofs.Common.{◌≡◌, ℕ, ◌+◌, ◌*◌, ◌/◌, ◌%◌, ◌^◌, ◌<◌, true, false, leb, ◌||◌, List, [], ◌∷◌, ◌++◌, length, take, drop, refl, ap, sym, ◌∙◌, arith, append-nil, length-append, length-drop, ⊎_elim}
use Rattle.std.proofs.lemmas.Bool.{le-leb, lt-leb, cases_lt}
use Rattle.std.proofs.lemmas.List.{drop-append-le, drop_all, drop_at, take_at, drop-drop}
use Rattle.std.proofs.lemmas.Slice.{take-put_mid}
use Rattle.std.specs.List.{fold}
use Rattle.std.specs.Simd.{first_chunks}
use Rattle.soxchain_xxh64.specs.Xxh64.{take_stripe, accumulators_of, remaining_bytes, converge, converged, prime_5}
use Rattle.soxchain_xxh64.specs.IsHashOf.{IsHashOf}
use Rattle.soxchain_xxh64.specs.declared.state.Xxh64.{Xxh64}
use Rattle.soxchain_xxh64.proofs.Stripes.{accumulators_of-append, accumulators_of-front, accumulators_of-stripe}
use borrow.Rule.Slice.PartMut.{put_mid, post_of}

-- nothing was taken
pub IsHashOf_new : (pending : List ℕ) (state : Xxh64) → state.accumulators ≡ accumulators_of [] → state.length ≡ 0 → state.has_stripe ≡ false → IsHashOf [] state
IsHashOf_new pending state accumulators count stripe = record {
  accumulators_are = accumulators;
  pending_are = refl;
  length_is = count;
  has_stripe_is = stripe;
}

-- the length of more bytes
length_more : (n m : ℕ) (before bytes : List ℕ) → n ≡ length before % 2 ^ 64 → m ≡ (n + length bytes) % 2 ^ 64 → m ≡ length (before ++ bytes) % 2 ^ 64
length_more n m before bytes old new = omega (arith, length-append before bytes)

-- the bytes leave the stripe that began incomplete
pub IsHashOf_short : (old new : Xxh64) (before bytes : List ℕ) (start size : ℕ) → IsHashOf before old → length old.pending ≡ 32
    → start ≡ old.length % 32 → start + length bytes < 32 → new.accumulators ≡ old.accumulators
    → new.pending ≡ put_mid start size old.pending bytes → new.length ≡ (old.length + length bytes) % 2 ^ 64 → new.has_stripe ≡ old.has_stripe
    → IsHashOf (before ++ bytes) new
IsHashOf_short old new before bytes start size held whole at short accumulators pending count stripe =
    let began : start ≡ length before % 32 = omega (arith, held.length_is) in
    let joined : length (before ++ bytes) ≡ length before + length bytes = length-append before bytes in
    let same : length (before ++ bytes) / 32 ≡ length before / 32 = omega arith in
    let left : length (before ++ bytes) % 32 ≡ start + length bytes = omega arith in
    let front : take (start + length bytes) new.pending ≡ take start old.pending ++ bytes =
    ap (take (start + length bytes)) pending ∙ take-put_mid start size old.pending bytes (start + length bytes) refl (omega arith) in
    let kept : take start old.pending ≡ remaining_bytes before = ap (λ k. take k old.pending) began ∙ held.pending_are in
    let rest : remaining_bytes (before ++ bytes) ≡ remaining_bytes before ++ bytes =
    ap (λ k. drop (k * 32) (before ++ bytes)) same ∙ drop-append-le (length before / 32 * 32) before bytes (omega arith) in
    let long : leb 32 (length before) ≡ leb 32 (length (before ++ bytes)) =
    ⊎_elim (λ h. lt-leb 32 (length before) h ∙ sym (lt-leb 32 (length (before ++ bytes)) (omega arith)))
    (λ h. le-leb 32 (length before) h ∙ sym (le-leb 32 (length (before ++ bytes)) (omega arith))) (cases_lt (length before) 32) in
    record {
      accumulators_are = accumulators ∙ held.accumulators_are ∙ sym (accumulators_of-front before bytes same);
      pending_are = ap (λ k. take k new.pending) left ∙ front ∙ ap (λ xs. xs ++ bytes) kept ∙ sym rest;
      length_is = length_more old.length new.length before bytes held.length_is count;
      has_stripe_is = stripe ∙ held.has_stripe_is ∙ long;
    }

-- the bytes end the stripe that began
pub IsHashOf_full : (old new : Xxh64) (before bytes stripe : List ℕ) (start size : ℕ) → IsHashOf before old → length old.pending ≡ 32
    → start ≡ old.length % 32 → start + length bytes ≡ 32 → size ≡ length bytes → stripe ≡ put_mid start size old.pending bytes
    → new.accumulators ≡ fold take_stripe old.accumulators (stripe ∷ []) → new.length ≡ (old.length + length bytes) % 2 ^ 64
    → new.has_stripe ≡ true → IsHashOf (before ++ bytes) new
IsHashOf_full old new before bytes stripe start size held whole at full width is accumulators count some =
    let began : start ≡ length before % 32 = omega (arith, held.length_is) in
    let joined : length (before ++ bytes) ≡ length before + length bytes = length-append before bytes in
    let left : length (before ++ bytes) % 32 ≡ 0 = omega arith in
    let none : post_of start size old.pending ≡ [] = drop_all size (drop start old.pending) (omega (arith, length-drop start old.pending)) in
    let content : stripe ≡ remaining_bytes before ++ bytes =
    is ∙ ap (λ rest. take start old.pending ++ (bytes ++ rest)) none ∙ ap (λ rest. take start old.pending ++ rest) (append-nil bytes)
    ∙ ap (λ xs. xs ++ bytes) (ap (λ k. take k old.pending) began ∙ held.pending_are) in
    record {
      accumulators_are = accumulators ∙ ap (λ a. fold take_stripe a (stripe ∷ [])) held.accumulators_are
          ∙ sym (accumulators_of-stripe before bytes stripe (omega arith) content);
      pending_are = ap (λ k. take k new.pending) left ∙ sym (drop_all (length (before ++ bytes) / 32 * 32) (before ++ bytes) (omega arith));
      length_is = length_more old.length new.length before bytes held.length_is count;
      has_stripe_is = some ∙ sym (le-leb 32 (length (before ++ bytes)) (omega arith));
    }

-- after whole stripes, there are 32 bytes where one of two parts has as many
long_either : (n m all : ℕ) → n % 32 ≡ 0 → all ≡ n + m → (leb 32 n || leb 32 m) ≡ leb 32 all
long_either n m all edge sum =
    ⊎_elim (λ h. ap (λ b. b || leb 32 m) (lt-leb 32 n h) ∙ ap (leb 32) (let same : m ≡ all = omega arith in same))
    (λ h. ap (λ b. b || leb 32 m) (le-leb 32 n h) ∙ sym (le-leb 32 all (omega arith))) (cases_lt n 32)

-- the bytes begin a stripe
pub IsHashOf_edge : (old new : Xxh64) (before bytes rest tail : List ℕ) → IsHashOf before old → old.length % 32 ≡ 0
    → rest ≡ drop (length bytes / 32 * 32) bytes → new.pending ≡ rest ++ tail
    → new.accumulators ≡ fold take_stripe old.accumulators (first_chunks 32 (length bytes / 32) bytes)
    → new.length ≡ (old.length + length bytes) % 2 ^ 64 → new.has_stripe ≡ (old.has_stripe || leb 32 (length bytes)) → IsHashOf (before ++ bytes) new
IsHashOf_edge old new before bytes rest tail held edge is pending accumulators count stripe =
    let began : length before % 32 ≡ 0 = omega (arith, held.length_is) in
    let joined : length (before ++ bytes) ≡ length before + length bytes = length-append before bytes in
    let size : length rest ≡ length bytes % 32 = ap length is ∙ omega (arith, length-drop (length bytes / 32 * 32) bytes) in
    let left : length (before ++ bytes) % 32 ≡ length rest = omega arith in
    let end : ℕ = length (before ++ bytes) / 32 * 32 in
    let at : end ≡ length before + length bytes / 32 * 32 = omega arith in
    let remain : remaining_bytes (before ++ bytes) ≡ rest =
    ap (λ k. drop k (before ++ bytes)) at ∙ sym (drop-drop (length bytes / 32 * 32) (length before) (before ++ bytes))
    ∙ ap (drop (length bytes / 32 * 32)) (drop_at before bytes (length before) refl) ∙ sym is in
    let some : (leb 32 (length before) || leb 32 (length bytes)) ≡ leb 32 (length (before ++ bytes)) =
    long_either (length before) (length bytes) (length (before ++ bytes)) began joined in
    record {
      accumulators_are = accumulators ∙ ap (λ a. fold take_stripe a (first_chunks 32 (length bytes / 32) bytes)) held.accumulators_are
          ∙ sym (accumulators_of-append before bytes began);
      pending_are = ap (λ k. take k new.pending) left ∙ ap (take (length rest)) pending ∙ take_at rest tail (length rest) refl ∙ sym remain;
      length_is = length_more old.length new.length before bytes held.length_is count;
      has_stripe_is = stripe ∙ ap (λ b. b || leb 32 (length bytes)) held.has_stripe_is ∙ some;
    }

-- the hash before the remaining bytes, with a whole stripe and without one
pub converged_long : (state : Xxh64) (bytes : List ℕ) → IsHashOf bytes state → state.has_stripe ≡ true → converge state.accumulators ≡ converged bytes
unfolding converged
converged_long state bytes held some =
    let long : leb 32 (length bytes) ≡ true = sym held.has_stripe_is ∙ some in
    rw long (ap converge held.accumulators_are)

pub converged_short : (state : Xxh64) (bytes : List ℕ) → IsHashOf bytes state → state.has_stripe ≡ false → prime_5 ≡ converged bytes
unfolding converged
converged_short state bytes held none =
    let short : leb 32 (length bytes) ≡ false = sym held.has_stripe_is ∙ none in
    rw short refl
