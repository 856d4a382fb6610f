use Rattle.std.proofs.Common.{◌≡◌, ◌∙◌, ◌+◌, ◌++◌, ◌∷◌, ◌≤◌, ◌<◌, ℕ, List, ap, sym, inl, inr, arith, lit<, length, take, drop, get_or}
use Rattle.std.proofs.lemmas.Bool.{cases_lt}
use Rattle.std.proofs.lemmas.List.{append_assoc, get_or-drop, get_or-take, get_or_past, length-take, length-take-le, take-append-drop}
use Rattle.std.proofs.lemmas.Nat.{from_le_bytes-to_le_bytes_8, le_bytes_8}
use Rattle.std.specs.Int.{from_le_bytes, to_le_bytes, w64}
use Rattle.soxchain_job.specs.Checkpoint.{in_progress_bytes}
use Rattle.soxchain_job.proofs.checkpoint.decode_progress.Goals as goal

-- the first eight bytes of a list are those of the number that they are
word_of : (bytes front : List ℕ) (n : ℕ) → ((i : ℕ) → get_or bytes i 0 < 256) → front ≡ take 8 bytes → 8 ≤ length bytes → n ≡ from_le_bytes w64 front → to_le_bytes w64 n ≡ front
word_of bytes front n below is long value =
    let below_front : (i : ℕ) → get_or front i 0 < 256 = λ i. rw is (elim (cases_lt i 8) [
      | inl within ↦ rw (get_or-take 8 bytes i 0 within) (below i)
      | inr beyond ↦ rw (get_or_past (take 8 bytes) i 0 (omega (arith, length-take 8 bytes))) (lit< tt)
    ]) in
    le_bytes_8 front n (ap length is ∙ length-take-le 8 bytes long) below_front value

pub returns-clause-found : goal.returns-clause-found
returns-clause-found c = λ taken written frozen taken_fits written_fits says.
    let first : c.in-Some.taken.now ≡ to_le_bytes w64 taken = c.in-Some.ensures.cases.0 ∙ ap (take 8) says in
    let rest : c.in-Some.rest.now ≡ to_le_bytes w64 written ++ frozen = c.in-Some.ensures.cases.1 ∙ ap (drop 8) says in
    let second : c.in-Some-split_first_chunk.written.now ≡ to_le_bytes w64 written = c.in-Some-split_first_chunk.ensures.cases.0 ∙ ap (take 8) rest in
    let last : c.in-Some-split_first_chunk.frozen.now ≡ frozen = c.in-Some-split_first_chunk.ensures.cases.1 ∙ ap (drop 8) rest in
    let taken_read : c.read_u64.result ≡ from_le_bytes w64 c.in-Some.taken.now = omega (arith, c.read_u64.ensures) in
    let written_read : c.read_u64-2.result ≡ from_le_bytes w64 c.in-Some-split_first_chunk.written.now = omega (arith, c.read_u64-2.ensures) in (
      taken_read ∙ ap (from_le_bytes w64) first ∙ from_le_bytes-to_le_bytes_8 taken taken_fits,
      written_read ∙ ap (from_le_bytes w64) second ∙ from_le_bytes-to_le_bytes_8 written written_fits,
      last,
    )

pub returns-clause-exact : goal.returns-clause-exact
returns-clause-exact c =
    let bytes : List ℕ = c.args.bytes.now in
    let rest : List ℕ = c.in-Some.rest.now in
    let front : c.in-Some.taken.now ≡ take 8 bytes = c.in-Some.ensures.cases.0 in
    let back : rest ≡ drop 8 bytes = c.in-Some.ensures.cases.1 in
    let second : c.in-Some-split_first_chunk.written.now ≡ take 8 rest = c.in-Some-split_first_chunk.ensures.cases.0 in
    let last : c.in-Some-split_first_chunk.frozen.now ≡ drop 8 rest = c.in-Some-split_first_chunk.ensures.cases.1 in
    let below : (i : ℕ) → get_or bytes i 0 < 256 = λ i. omega (arith, c.type_inv.bytes i) in
    let below_rest : (i : ℕ) → get_or rest i 0 < 256 = λ i. rw (back, get_or-drop 8 bytes i 0) (below (8 + i)) in
    let long : 8 ≤ length bytes = omega (arith, c.in-Some.ensures.cases.2) in
    let long_rest : 8 ≤ length rest = omega (arith, c.in-Some-split_first_chunk.ensures.cases.2) in
    let taken_word = word_of bytes c.in-Some.taken.now c.read_u64.result below front long (omega (arith, c.read_u64.ensures)) in
    let written_word = word_of rest c.in-Some-split_first_chunk.written.now c.read_u64-2.result below_rest second long_rest (omega (arith, c.read_u64-2.ensures)) in
    let rest_is : rest ≡ to_le_bytes w64 c.read_u64-2.result ++ c.in-Some-split_first_chunk.frozen.now = sym (take-append-drop 8 rest) ∙ ap (λ (l : List ℕ). l ++ drop 8 rest) (sym (written_word ∙ second)) ∙ ap (λ (l : List ℕ). to_le_bytes w64 c.read_u64-2.result ++ l) (sym last) in
    let bytes_are : bytes ≡ to_le_bytes w64 c.read_u64.result ++ rest = sym (take-append-drop 8 bytes) ∙ ap (λ (l : List ℕ). l ++ drop 8 bytes) (sym (taken_word ∙ front)) ∙ ap (λ (l : List ℕ). to_le_bytes w64 c.read_u64.result ++ l) (sym back) in
    ap (λ (l : List ℕ). 0 ∷ l) (bytes_are ∙ ap (λ (l : List ℕ). to_le_bytes w64 c.read_u64.result ++ l) rest_is)
