-- The stripes of bytes that are joined.
use Rattle.std.proofs.Common.{◌≡◌, ℕ, zero, suc, ◌+◌, ◌*◌, ◌/◌, ◌%◌, ◌≤◌, List, [], ◌∷◌, ◌++◌, length, take, drop, refl, ap, sym, ◌∙◌, arith, append_assoc, length-append, length-drop}
use Rattle.std.proofs.lemmas.List.{take-append-le, drop-append-le, take-append-drop, take_all, length-take-le, nil_from_length}
use Rattle.std.proofs.lemmas.List.Sums.{fold-append}
use Rattle.std.specs.List.{fold}
use Rattle.std.specs.Simd.{first_chunks}
use Rattle.soxchain_xxh64.specs.Xxh64.{take_stripe, initial_accumulators, accumulators_of, remaining_bytes}

-- chunks that end where a list ends are followed by those of the next list
pub first_chunks-append : (n a b : ℕ) (xs ys : List ℕ) → length xs ≡ a * n → first_chunks n (a + b) (xs ++ ys) ≡ first_chunks n a xs ++ first_chunks n b ys
first_chunks-append n zero b xs ys e =
    let none : xs ≡ [] = nil_from_length xs (omega arith) in
    let count : zero + b ≡ b = omega arith in
    rw (none, count) refl
first_chunks-append n (suc a) b xs ys e =
    let count : suc a + b ≡ suc (a + b) = omega arith in
    let long : n ≤ length xs = omega arith in
    let front : take n (xs ++ ys) ≡ take n xs = take-append-le n xs ys long in
    let rest : drop n (xs ++ ys) ≡ drop n xs ++ ys = drop-append-le n xs ys long in
    let more = first_chunks-append n a b (drop n xs) ys (omega (arith, length-drop n xs)) in
    rw (count, front, rest, more) refl

-- chunks that end within a list are those of it alone
pub first_chunks-front : (n a : ℕ) (xs ys : List ℕ) → a * n ≤ length xs → first_chunks n a (xs ++ ys) ≡ first_chunks n a xs
first_chunks-front n zero xs ys h = refl
first_chunks-front n (suc a) xs ys h =
    let long : n ≤ length xs = omega arith in
    let front : take n (xs ++ ys) ≡ take n xs = take-append-le n xs ys long in
    let rest : drop n (xs ++ ys) ≡ drop n xs ++ ys = drop-append-le n xs ys long in
    let more = first_chunks-front n a (drop n xs) ys (omega (arith, length-drop n xs)) in
    rw (front, rest, more) refl

-- bytes after whole stripes
pub accumulators_of-append : (xs ys : List ℕ) → length xs % 32 ≡ 0
    → accumulators_of (xs ++ ys) ≡ fold take_stripe (accumulators_of xs) (first_chunks 32 (length ys / 32) ys)
unfolding accumulators_of
accumulators_of-append xs ys edge =
    let a : ℕ = length xs / 32 in
    let b : ℕ = length ys / 32 in
    let count : length (xs ++ ys) / 32 ≡ a + b = omega (arith, length-append xs ys) in
    ap (λ k. fold take_stripe initial_accumulators (first_chunks 32 k (xs ++ ys))) count
    ∙ ap (fold take_stripe initial_accumulators) (first_chunks-append 32 a b xs ys (omega arith))
    ∙ fold-append take_stripe initial_accumulators (first_chunks 32 a xs) (first_chunks 32 b ys)

-- bytes that end no stripe
pub accumulators_of-front : (xs ys : List ℕ) → length (xs ++ ys) / 32 ≡ length xs / 32 → accumulators_of (xs ++ ys) ≡ accumulators_of xs
unfolding accumulators_of
accumulators_of-front xs ys same =
    ap (λ k. fold take_stripe initial_accumulators (first_chunks 32 k (xs ++ ys))) same
    ∙ ap (fold take_stripe initial_accumulators) (first_chunks-front 32 (length xs / 32) xs ys (omega arith))

-- bytes that end one stripe
pub accumulators_of-stripe : (xs ys stripe : List ℕ) → length xs % 32 + length ys ≡ 32 → stripe ≡ remaining_bytes xs ++ ys
    → accumulators_of (xs ++ ys) ≡ fold take_stripe (accumulators_of xs) (stripe ∷ [])
accumulators_of-stripe xs ys stripe full is =
    let at : ℕ = length xs / 32 * 32 in
    let whole : List ℕ = take at xs in
    let within : at ≤ length xs = omega arith in
    let size : length whole ≡ at = length-take-le at xs within in
    let split : whole ++ drop at xs ≡ xs = take-append-drop at xs in
    let long : length stripe ≡ 32 = ap length is ∙ omega (arith, length-append (drop at xs) ys, length-drop at xs) in
    let joined : xs ++ ys ≡ whole ++ stripe = ap (λ zs. zs ++ ys) (sym split) ∙ append_assoc whole (drop at xs) ys ∙ ap (λ zs. whole ++ zs) (sym is) in
    let one : first_chunks 32 (length stripe / 32) stripe ≡ stripe ∷ [] = ap (λ k. first_chunks 32 (k / 32) stripe) long ∙ ap (λ s. s ∷ []) (take_all 32 stripe (omega arith)) in
    let before : accumulators_of xs ≡ accumulators_of whole =
    ap accumulators_of (sym split) ∙ accumulators_of-front whole (drop at xs) (omega (arith, ap length split)) in
    ap accumulators_of joined ∙ accumulators_of-append whole stripe (omega arith) ∙ ap (fold take_stripe (accumulators_of whole)) one
    ∙ ap (λ a. fold take_stripe a (stripe ∷ [])) (sym before)

-- both parts of bytes that are split are those bytes
pub parts_joined : (n : ℕ) (bytes front rest : List ℕ) → front ≡ take n bytes → rest ≡ drop n bytes → front ++ rest ≡ bytes
parts_joined n bytes front rest first second = ap (λ xs. xs ++ rest) first ∙ ap (λ xs. take n bytes ++ xs) second ∙ take-append-drop n bytes
