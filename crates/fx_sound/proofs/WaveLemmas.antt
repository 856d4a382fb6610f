-- The head of a WAVE sound, from what was read of it.
use Rattle.std.proofs.Common.{◌≡◌, ℕ, ◌+◌, ◌-◌, min, ◌<◌, ◌≤◌, List, length, take, drop, true, false, refl, sym, ap, ◌∙◌, arith, nat_lt, Ok, Err, Result, Option, suc}
use Rattle.std.proofs.lemmas.List.{take_all, length-take, take-take, drop-take}
use Rattle.std.proofs.lemmas.Grind.{common_steps}
use Rattle.fx_sound.specs.declared.fields.Format.{Format}
use Rattle.fx_sound.specs.declared.fields.HeadFields.{HeadFields}
use Rattle.fx_sound.specs.declared.wave.Demand.{Demand}
use Rattle.fx_sound.specs.declared.wave.Demand.TheVariants as demand
use Rattle.fx_sound.specs.declared.wave.ChunkStep.{ChunkStep}
use Rattle.fx_sound.specs.declared.wave.ChunkStep.TheVariants as step
use Rattle.fx_sound.specs.declared.head.HeadFault.{HeadFault}
use Rattle.fx_sound.specs.declared.head.HeadFault.TheVariants.{Truncated}
use Rattle.fx_sound.specs.Wave.{format_read, format_of, padded_chunk, step_of, with_body, demand_of, long_at, chunks_of, after_step, GoesOn, end_of}

-- too few bytes for the body
pub format_read-short : (size : ℕ) (bytes : List ℕ) → length bytes < padded_chunk size → format_read size bytes ≡ Err Truncated
unfolding format_read
format_read-short size bytes h =
    let p : nat_lt (length bytes) (padded_chunk size) ≡ true = grind (arith, common_steps) in
    rw p refl

pub format_read-cut : (size came : ℕ) (bytes : List ℕ) → came < padded_chunk size → format_read size (take came bytes) ≡ Err Truncated
format_read-cut size came bytes h = format_read-short size (take came bytes) (omega (arith, length-take came bytes))

-- the front of the body decides where all of it is there
pub format_read-whole : (size n : ℕ) (bytes out : List ℕ) → take n out ≡ take n bytes → length out ≤ n → n ≤ min size 40 → min size 40 ≤ n → padded_chunk size ≤ length bytes
    → format_read size bytes ≡ format_of out
unfolding format_read
format_read-whole size n bytes out e a b c h =
    let same : n ≡ min size 40 = omega arith in
    let front : out ≡ take (min size 40) bytes = sym (take_all n out a) ∙ e ∙ ap (λ i. take i bytes) same in
    let p : nat_lt (length bytes) (padded_chunk size) ≡ false = grind (arith, common_steps) in
    rw (p, front) refl

-- too few bytes for data that is skipped
pub other-cut : (o size came : ℕ) (seen : Option Format) (body : List ℕ) → came < padded_chunk size → with_body o seen (take came body) (Ok (demand.Other size)) ≡ Err Truncated
other-cut o size came seen body h =
    let p : nat_lt (length (take came body)) (padded_chunk size) ≡ true = let l = length-take came body in grind (arith, common_steps) in
    rw p refl

-- too few bytes for name and size
pub step_of-short : (o : ℕ) (seen : Option Format) (rest : List ℕ) → length rest < 8 → step_of o seen rest ≡ Err Truncated
unfolding step_of
step_of-short o seen rest h =
    let p : nat_lt (length rest) 8 ≡ true = grind (arith, common_steps) in
    rw p refl

pub step_of-cut : (o : ℕ) (seen : Option Format) (rest : List ℕ) (came : ℕ) → came < 8 → step_of o seen (take came rest) ≡ Err Truncated
step_of-cut o seen rest came h = step_of-short o seen (take came rest) (omega (arith, length-take came rest))

-- name and size decide what is asked for
pub step_of-read : (o : ℕ) (seen : Option Format) (rest out : List ℕ) (n : ℕ) → take n out ≡ take n rest → n ≤ length rest → length out ≤ n → 8 ≤ n → n ≤ 8
    → step_of o seen rest ≡ with_body o seen (drop n rest) (demand_of o seen (take 4 out) (long_at 4 out))
unfolding step_of
step_of-read o seen rest out n e h a b c =
    let eight : n ≡ 8 = omega arith in
    let front : out ≡ take 8 rest = sym (take_all n out a) ∙ e ∙ ap (λ i. take i rest) eight in
    let p : nat_lt (length rest) 8 ≡ false = grind (arith, common_steps) in
    let four : take 4 (take 8 rest) ≡ take 4 rest = take-take 4 8 rest (omega arith) in
    let next : take 4 (drop 4 (take 8 rest)) ≡ take 4 (drop 4 rest) = ap (take 4) (drop-take 4 4 rest) ∙ take-take 4 4 (drop 4 rest) (omega arith) in
    rw (p, front, eight, four, next) refl

-- the same where what came ends in the body
pub step_of-read-cut : (o : ℕ) (seen : Option Format) (rest out : List ℕ) (n came : ℕ) → take n out ≡ take n rest → n ≤ length rest → length out ≤ n → 8 ≤ n → n ≤ 8
    → step_of o seen (take (n + came) rest) ≡ with_body o seen (take came (drop n rest)) (demand_of o seen (take 4 out) (long_at 4 out))
step_of-read-cut o seen rest out n came e h a b c =
    step_of-read o seen (take (n + came) rest) out n (e ∙ sym (take-take n (n + came) rest (omega arith))) (omega (arith, length-take (n + came) rest)) a b c
    ∙ ap (λ body. with_body o seen body (demand_of o seen (take 4 out) (long_at 4 out))) (drop-take n came rest)

-- both, by what was asked
pub step_of-asked : (o : ℕ) (seen : Option Format) (rest out name : List ℕ) (n size : ℕ) (d : Result Demand HeadFault)
    → take n out ≡ take n rest → n ≤ length rest → length out ≤ n → 8 ≤ n → n ≤ 8 → name ≡ take 4 out → size ≡ long_at 4 out → d ≡ demand_of o seen name size
    → step_of o seen rest ≡ with_body o seen (drop n rest) d
step_of-asked o seen rest out name n size d e h a b c p q r =
    step_of-read o seen rest out n e h a b c
    ∙ ap (λ m. with_body o seen (drop n rest) (demand_of o seen m (long_at 4 out))) (sym p)
    ∙ ap (λ k. with_body o seen (drop n rest) (demand_of o seen name k)) (sym q)
    ∙ ap (with_body o seen (drop n rest)) (sym r)

pub step_of-asked-cut : (o : ℕ) (seen : Option Format) (rest out name : List ℕ) (n size came : ℕ) (d : Result Demand HeadFault)
    → take n out ≡ take n rest → n ≤ length rest → length out ≤ n → 8 ≤ n → n ≤ 8 → name ≡ take 4 out → size ≡ long_at 4 out → d ≡ demand_of o seen name size
    → step_of o seen (take (n + came) rest) ≡ with_body o seen (take came (drop n rest)) d
step_of-asked-cut o seen rest out name n size came d e h a b c p q r =
    step_of-read-cut o seen rest out n came e h a b c
    ∙ ap (λ m. with_body o seen (take came (drop n rest)) (demand_of o seen m (long_at 4 out))) (sym p)
    ∙ ap (λ k. with_body o seen (take came (drop n rest)) (demand_of o seen name k)) (sym q)
    ∙ ap (with_body o seen (take came (drop n rest))) (sym r)

-- chunks, from the first of them
pub chunks_of-next : (n o next : ℕ) (seen format : Option Format) (rest : List ℕ) → step_of o seen rest ≡ Ok (step.Next next format)
    → chunks_of (suc n) o seen rest ≡ chunks_of n next format (drop (next - o) rest)
unfolding chunks_of
chunks_of-next n o next seen format rest e = ap (after_step (chunks_of n) o rest) e

pub chunks_of-sound : (n o : ℕ) (seen : Option Format) (rest : List ℕ) (h : HeadFields) → step_of o seen rest ≡ Ok (step.Sound h) → chunks_of (suc n) o seen rest ≡ Ok h
unfolding chunks_of
chunks_of-sound n o seen rest h e = ap (after_step (chunks_of n) o rest) e

pub chunks_of-fault : (n o : ℕ) (seen : Option Format) (rest : List ℕ) (e : HeadFault) → step_of o seen rest ≡ Err e → chunks_of (suc n) o seen rest ≡ Err e
unfolding chunks_of
chunks_of-fault n o seen rest e p = ap (after_step (chunks_of n) o rest) p

-- a step goes past its name and size
pub GoesOn-far : (o : ℕ) (s : ChunkStep) → GoesOn o s → o + 8 ≤ end_of s
GoesOn-far o (step.Sound h) p = omega (arith, p.0)
GoesOn-far o (step.Next next f) p = p.0

-- one turn: a chunk more
pub turn-next : (m t o next : ℕ) (seen format : Option Format) (rest : List ℕ) → t < m → step_of o seen rest ≡ Ok (step.Next next format)
    → chunks_of (m - t) o seen rest ≡ chunks_of (m - (t + 1)) next format (drop (next - o) rest)
turn-next m t o next seen format rest h e =
    let left : m - t ≡ suc (m - (t + 1)) = omega arith in
    ap (λ n. chunks_of n o seen rest) left ∙ chunks_of-next (m - (t + 1)) o next seen format rest e

-- one turn: the sound
pub turn-sound : (m t o : ℕ) (seen : Option Format) (rest : List ℕ) (h : HeadFields) → t < m → step_of o seen rest ≡ Ok (step.Sound h) → chunks_of (m - t) o seen rest ≡ Ok h
turn-sound m t o seen rest h l e =
    let left : m - t ≡ suc (m - (t + 1)) = omega arith in
    ap (λ n. chunks_of n o seen rest) left ∙ chunks_of-sound (m - (t + 1)) o seen rest h e

-- one turn: a fault
pub turn-fault : (m t o : ℕ) (seen : Option Format) (rest : List ℕ) (e : HeadFault) → t < m → step_of o seen rest ≡ Err e → chunks_of (m - t) o seen rest ≡ Err e
turn-fault m t o seen rest e l p =
    let left : m - t ≡ suc (m - (t + 1)) = omega arith in
    ap (λ n. chunks_of n o seen rest) left ∙ chunks_of-fault (m - (t + 1)) o seen rest e p
