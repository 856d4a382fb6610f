-- A WAVE head that is a sequence of chunks is read as such.
use Rattle.std.proofs.Common.{◌≡◌, ℕ, suc, ◌+◌, ◌-◌, ◌*◌, ◌%◌, ◌≤◌, min, List, [], ◌∷◌, ◌++◌, All, flat_map, length, take, drop, false, refl, sym, ap, ◌∙◌, arith, nat_lt, Ok, Option, None, Some, codes}
use Rattle.std.specs.Int.{w32, from_le_bytes}
use Rattle.std.proofs.lemmas.List.{append_assoc, length-append, take-append-le, take_min}
use Rattle.std.proofs.Math.Seq.{drop-append_seam, take-append_seam}
use Rattle.std.proofs.lemmas.Grind.{common_steps}
use mathlib.Core.Path.{ap₂}
use Rattle.fx_sound.specs.declared.fields.Format.{Format}
use Rattle.fx_sound.specs.declared.fields.HeadFields.{HeadFields}
use Rattle.fx_sound.specs.declared.wave.Demand.TheVariants as demand
use Rattle.fx_sound.specs.declared.wave.ChunkStep.TheVariants as step
use Rattle.fx_sound.specs.Chunks.{Chunk, IsChunk, IsOther, IsWave, chunk_bytes}
use Rattle.fx_sound.specs.Wave.{announced_of, after_riff, chunks_of, demand_of, max_chunk_bytes, format_of, format_read, long_at, max_chunks, padded_chunk, step_of, with_body, with_format}

-- the front of a list, and what is after it
take-front : (n : ℕ) (xs ys : List ℕ) → length xs ≡ n → take n (xs ++ ys) ≡ xs
take-front n xs ys h = ap (λ i. take i (xs ++ ys)) (sym h) ∙ take-append_seam xs ys

pub drop-front : (n : ℕ) (xs ys : List ℕ) → length xs ≡ n → drop n (xs ++ ys) ≡ ys
drop-front n xs ys h = ap (λ i. drop i (xs ++ ys)) (sym h) ∙ drop-append_seam xs ys

-- a step over a name, a size and what follows
pub step-over : (o : ℕ) (seen : Option Format) (name size rest : List ℕ) (n : ℕ) → length name ≡ 4 → length size ≡ 4 → from_le_bytes w32 size ≡ n
    → step_of o seen (name ++ (size ++ rest)) ≡ with_body o seen rest (demand_of o seen name n)
unfolding step_of
step-over o seen name size rest n a b c =
    let first : take 4 (name ++ (size ++ rest)) ≡ name = take-front 4 name (size ++ rest) a in
    let second : long_at 4 (name ++ (size ++ rest)) ≡ n =
    ap (λ t. from_le_bytes w32 (take 4 t)) (drop-front 4 name (size ++ rest) a) ∙ ap (from_le_bytes w32) (take-front 4 size rest b) ∙ c in
    let third : drop 8 (name ++ (size ++ rest)) ≡ rest = ap (drop 8) (sym (append_assoc name size rest)) ∙ drop-front 8 (name ++ size) rest (omega (arith, length-append name size)) in
    let p : nat_lt (length (name ++ (size ++ rest))) 8 ≡ false = let l = length-append name (size ++ rest) in let m = length-append size rest in grind (arith, common_steps) in
    rw (p, first, second, third) refl

-- the length of a chunk
pub chunk-length : (c : Chunk) → IsChunk c → length (chunk_bytes c) ≡ 8 + padded_chunk (length c.body)
chunk-length c is = omega (arith, length-append c.name (c.size ++ (c.body ++ c.pad)), length-append c.size (c.body ++ c.pad), length-append c.body c.pad, is.named, is.sized, is.even)

-- a chunk in front, place by place
pub chunk-front : (c : Chunk) (rest : List ℕ) → chunk_bytes c ++ rest ≡ c.name ++ (c.size ++ (c.body ++ (c.pad ++ rest)))
chunk-front c rest = simp append_assoc

-- its body is there
body-there : (c : Chunk) (rest : List ℕ) → IsChunk c → nat_lt (length (c.body ++ (c.pad ++ rest))) (padded_chunk (length c.body)) ≡ false
body-there c rest is =
    let l = length-append c.body (c.pad ++ rest) in
    let m = length-append c.pad rest in
    let e = is.even in
    grind (arith, common_steps)

-- a chunk whose step goes on after it
chunk-passed : (n o : ℕ) (seen next : Option Format) (c : Chunk) (rest : List ℕ) → IsChunk c → step_of o seen (chunk_bytes c ++ rest) ≡ Ok (step.Next (o + 8 + padded_chunk (length c.body)) next)
    → chunks_of (suc n) o seen (chunk_bytes c ++ rest) ≡ chunks_of n (o + length (chunk_bytes c)) next rest
unfolding chunks_of
chunk-passed n o seen next c rest is stepped =
    let len = chunk-length c is in
    let rest_of_head : o + 8 + padded_chunk (length c.body) ≡ o + length (chunk_bytes c) = omega (arith, len) in
    let left : drop (o + 8 + padded_chunk (length c.body) - o) (chunk_bytes c ++ rest) ≡ rest = drop-front (o + 8 + padded_chunk (length c.body) - o) (chunk_bytes c) rest (omega (arith, len)) in
    rw stepped (rw left (rw rest_of_head refl))

-- another chunk is passed over
demand-other : (o : ℕ) (seen : Option Format) (c : Chunk) → IsOther c → o + length (chunk_bytes c) ≤ max_chunk_bytes → demand_of o seen c.name (length c.body) ≡ Ok (demand.Other (length c.body))
unfolding demand_of
demand-other o seen c other near =
    let len = chunk-length c other.is in
    let p : nat_lt max_chunk_bytes (o + 8 + length c.body + length c.body % 2) ≡ false = grind (arith, common_steps) in
    rw (other.no_sound, p, other.no_format) refl

other-passed : (n o : ℕ) (seen : Option Format) (c : Chunk) (rest : List ℕ) → IsOther c → o + length (chunk_bytes c) ≤ max_chunk_bytes
    → chunks_of (suc n) o seen (chunk_bytes c ++ rest) ≡ chunks_of n (o + length (chunk_bytes c)) seen rest
other-passed n o seen c rest other near =
    chunk-passed n o seen seen c rest other.is
    (ap (step_of o seen) (chunk-front c rest)
    ∙ step-over o seen c.name c.size (c.body ++ (c.pad ++ rest)) (length c.body) other.is.named other.is.sized other.is.counts
    ∙ ap (with_body o seen (c.body ++ (c.pad ++ rest))) (demand-other o seen c other near)
    ∙ rw (body-there c rest other.is) refl)

others-rest_of_head : (c : Chunk) (cs : List Chunk) → All IsOther (c ∷ cs) → All IsOther cs
others-rest_of_head c cs others k d h = others (suc k) d (omega arith)

pub others-passed : (n o : ℕ) (seen : Option Format) (cs : List Chunk) (rest : List ℕ) → All IsOther cs → o + length (flat_map chunk_bytes cs) ≤ max_chunk_bytes
    → chunks_of (length cs + n) o seen (flat_map chunk_bytes cs ++ rest) ≡ chunks_of n (o + length (flat_map chunk_bytes cs)) seen rest
others-passed n o seen [] rest others near =
    let none : 0 + n ≡ n = omega arith in
    let here : o ≡ o + 0 = omega arith in
    ap (λ i. chunks_of i o seen rest) none ∙ ap (λ i. chunks_of n i seen rest) here
others-passed n o seen (c ∷ cs) rest others near =
    let one : length (c ∷ cs) + n ≡ suc (length cs + n) = omega arith in
    let both = length-append (chunk_bytes c) (flat_map chunk_bytes cs) in
    let far : o + length (chunk_bytes c) + length (flat_map chunk_bytes cs) ≡ o + length (chunk_bytes c ++ flat_map chunk_bytes cs) = omega (arith, both) in
    ap (λ i. chunks_of i o seen ((chunk_bytes c ++ flat_map chunk_bytes cs) ++ rest)) one
    ∙ ap (chunks_of (suc (length cs + n)) o seen) (append_assoc (chunk_bytes c) (flat_map chunk_bytes cs) rest)
    ∙ other-passed (length cs + n) o seen c (flat_map chunk_bytes cs ++ rest) (others 0 c (omega arith)) (omega (arith, both, near))
    ∙ others-passed n (o + length (chunk_bytes c)) seen cs rest (others-rest_of_head c cs others) (omega (arith, both, near))
    ∙ ap (λ i. chunks_of n i seen rest) far

-- forty bytes of a body, or all of it
body-front : (body rest : List ℕ) → take (min (length body) 40) (body ++ rest) ≡ take 40 body
body-front body rest =
    let other : min (length body) 40 ≡ min 40 (length body) = omega arith in
    take-append-le (min (length body) 40) body rest (omega arith) ∙ ap (λ i. take i body) other ∙ take_min 40 body

-- the chunk of the format is read
demand-format : (o n : ℕ) → 16 ≤ n → o + 8 + padded_chunk n ≤ max_chunk_bytes → demand_of o None (codes "fmt ") n ≡ Ok (demand.Format n)
unfolding demand_of
demand-format o n long near =
    let p : nat_lt max_chunk_bytes (o + 8 + n + n % 2) ≡ false = grind (arith, common_steps) in
    let q : nat_lt n 16 ≡ false = grind (arith, common_steps) in
    rw (p, q) refl

format-there : (c : Chunk) (rest : List ℕ) (f : Format) → IsChunk c → format_of (take 40 c.body) ≡ Ok f → format_read (length c.body) (c.body ++ (c.pad ++ rest)) ≡ Ok f
unfolding format_read
format-there c rest f is says = rw (body-there c rest is, body-front c.body (c.pad ++ rest)) says

pub format-passed : (n o : ℕ) (c : Chunk) (rest : List ℕ) (f : Format) → IsChunk c → c.name ≡ codes "fmt " → 16 ≤ length c.body → format_of (take 40 c.body) ≡ Ok f → o + length (chunk_bytes c) ≤ max_chunk_bytes
    → chunks_of (suc n) o None (chunk_bytes c ++ rest) ≡ chunks_of n (o + length (chunk_bytes c)) (Some f) rest
format-passed n o c rest f is named long says near =
    let len = chunk-length c is in
    chunk-passed n o None (Some f) c rest is
    (ap (step_of o None) (chunk-front c rest)
    ∙ step-over o None c.name c.size (c.body ++ (c.pad ++ rest)) (length c.body) is.named is.sized is.counts
    ∙ ap (λ name. with_body o None (c.body ++ (c.pad ++ rest)) (demand_of o None name (length c.body))) named
    ∙ ap (with_body o None (c.body ++ (c.pad ++ rest))) (demand-format o (length c.body) long (omega (arith, len, near)))
    ∙ ap (with_format (o + 8 + padded_chunk (length c.body))) (format-there c rest f is says))

sound-asked : (o : ℕ) (f : Format) (size : ℕ) → demand_of o (Some f) (codes "data") size ≡ Ok (demand.Sound (record { offset = o + 8; announced = announced_of size; format = f }))
unfolding demand_of
sound-asked o f size = refl

-- the sound begins after its name and size
pub sound-found : (n o : ℕ) (f : Format) (size sound : List ℕ) → length size ≡ 4
    → chunks_of (suc n) o (Some f) (codes "data" ++ (size ++ sound)) ≡ Ok (record { offset = o + 8; announced = announced_of (from_le_bytes w32 size); format = f })
unfolding chunks_of
sound-found n o f size sound b = rw (step-over o (Some f) (codes "data") size sound (from_le_bytes w32 size) refl b refl, sound-asked o f (from_le_bytes w32 size)) refl

-- chunks are eight bytes or more
pub chunks-bound : (cs : List Chunk) → All IsOther cs → 8 * length cs ≤ length (flat_map chunk_bytes cs)
chunks-bound [] others = omega arith
chunks-bound (c ∷ cs) others = omega (arith, chunks-bound cs (others-rest_of_head c cs others), chunk-length c (others 0 c (omega arith)).is, length-append (chunk_bytes c) (flat_map chunk_bytes cs))

pub wave-is-read : (bytes : List ℕ) (l : HeadFields) → IsWave bytes l → after_riff bytes ≡ Ok l
unfolding after_riff
wave-is-read bytes l w =
    let rest_of_head = flat_map chunk_bytes w.earlier ++ (chunk_bytes w.format ++ (flat_map chunk_bytes w.later ++ (codes "data" ++ (w.size ++ w.sound)))) in
    let lengths = length-append w.whole (codes "WAVE" ++ rest_of_head) in
    let p : nat_lt (length bytes) 8 ≡ false = let l = ap length w.layout_of_bytes in let m = length-append (codes "WAVE") rest_of_head in let k = w.whole_size in grind (arith, common_steps) in
    let q : take 4 (drop 4 bytes) ≡ codes "WAVE" = ap (λ b. take 4 (drop 4 b)) w.layout_of_bytes ∙ ap (take 4) (drop-front 4 w.whole (codes "WAVE" ++ rest_of_head) w.whole_size) ∙ take-front 4 (codes "WAVE") rest_of_head refl in
    let r : drop 8 bytes ≡ rest_of_head =
    ap (drop 8) w.layout_of_bytes ∙ ap (drop 8) (sym (append_assoc w.whole (codes "WAVE") rest_of_head)) ∙ drop-front 8 (w.whole ++ codes "WAVE") rest_of_head (omega (arith, length-append w.whole (codes "WAVE"), w.whole_size)) in
    let first = length (flat_map chunk_bytes w.earlier) in
    let second = length (chunk_bytes w.format) in
    let third = length (flat_map chunk_bytes w.later) in
    let bound-earlier = chunks-bound w.earlier w.others.0 in
    let bound-later = chunks-bound w.later w.others.1 in
    let left = max_chunks - (length w.earlier + (length w.later + 2)) in
    let count : max_chunks ≡ length w.earlier + suc (length w.later + suc left) = omega (arith, bound-earlier, bound-later, w.offset, w.near, chunk-length w.format w.is_format) in
    rw (p, q, r) (ap (λ i. chunks_of i 12 None rest_of_head) count
    ∙ others-passed (suc (length w.later + suc left)) 12 None w.earlier (chunk_bytes w.format ++ (flat_map chunk_bytes w.later ++ (codes "data" ++ (w.size ++ w.sound)))) w.others.0 (omega (arith, w.offset, w.near))
    ∙ format-passed (length w.later + suc left) (12 + first) w.format (flat_map chunk_bytes w.later ++ (codes "data" ++ (w.size ++ w.sound))) l.format w.is_format w.named w.long w.says (omega (arith, w.offset, w.near))
    ∙ others-passed (suc left) (12 + first + second) (Some l.format) w.later (codes "data" ++ (w.size ++ w.sound)) w.others.1 (omega (arith, w.offset, w.near))
    ∙ sound-found left (12 + first + second + third) l.format w.size w.sound w.sound_size
    ∙ ap Ok (ap₂ (λ o a. record { offset = o; announced = a; format = l.format }) (sym w.offset) (sym w.announced)))
