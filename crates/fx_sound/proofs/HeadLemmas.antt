-- The head of a sound, from what was read of it.
use Rattle.std.proofs.Common.{◌≡◌, ℕ, ◌+◌, ◌<◌, ◌≤◌, List, length, take, drop, true, false, refl, sym, ap, ◌∙◌, arith, nat_lt, Err, Option}
use Rattle.std.proofs.lemmas.List.{take_all, length-take, take-take, drop-take}
use Rattle.std.proofs.lemmas.Grind.{common_steps}
use Rattle.fx_sound.specs.declared.head.Kind.{Kind}
use Rattle.fx_sound.specs.declared.head.HeadFault.TheVariants.{Truncated}
use Rattle.fx_sound.specs.Head.{head_of, with_kind, allowed, kind_of}

-- too few bytes for the name
pub head_of-short : (expected : Option Kind) (bytes : List ℕ) → length bytes < 4 → head_of expected bytes ≡ Err Truncated
unfolding head_of
head_of-short expected bytes h =
    let p : nat_lt (length bytes) 4 ≡ true = grind (arith, common_steps) in
    rw p refl

pub head_of-cut : (expected : Option Kind) (bytes : List ℕ) (came : ℕ) → came < 4 → head_of expected (take came bytes) ≡ Err Truncated
head_of-cut expected bytes came h = head_of-short expected (take came bytes) (omega (arith, length-take came bytes))

-- the name decides which head follows
pub head_of-read : (expected : Option Kind) (bytes name : List ℕ) (n : ℕ) (found : Option Kind) → take n name ≡ take n bytes → n ≤ length bytes → length name ≤ n → 4 ≤ n → n ≤ 4
    → found ≡ allowed expected (kind_of name) → head_of expected bytes ≡ with_kind found (drop n bytes)
unfolding head_of
head_of-read expected bytes name n found e h a b c f =
    let four : n ≡ 4 = omega arith in
    let front : name ≡ take 4 bytes = sym (take_all n name a) ∙ e ∙ ap (λ i. take i bytes) four in
    let p : nat_lt (length bytes) 4 ≡ false = grind (arith, common_steps) in
    rw (p, f, front, four) refl

-- the same where what came ends after the name
pub head_of-read-cut : (expected : Option Kind) (bytes name : List ℕ) (n came : ℕ) (found : Option Kind) → take n name ≡ take n bytes → n ≤ length bytes → length name ≤ n → 4 ≤ n → n ≤ 4
    → found ≡ allowed expected (kind_of name) → head_of expected (take (n + came) bytes) ≡ with_kind found (take came (drop n bytes))
head_of-read-cut expected bytes name n came found e h a b c f =
    head_of-read expected (take (n + came) bytes) name n found (e ∙ sym (take-take n (n + came) bytes (omega arith))) (omega (arith, length-take (n + came) bytes)) a b c f
    ∙ ap (with_kind found) (drop-take n came bytes)
