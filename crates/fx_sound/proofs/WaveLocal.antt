-- A step depends on no byte after its end.
use Rattle.std.proofs.Common.{◌≡◌, ℕ, ◌+◌, ◌-◌, min, ◌<◌, ◌≤◌, inl, inr, List, length, take, drop, Bool, true, false, refl, ap, ◌∙◌, arith, nat_lt, Ok, Err, Result, Option, Some, if◌then◌else◌}
use Rattle.fx_sound.specs.declared.fields.Format.{Format}
use Rattle.fx_sound.specs.declared.wave.Demand.{Demand}
use Rattle.fx_sound.specs.declared.wave.Demand.TheVariants as demand
use Rattle.fx_sound.specs.declared.wave.ChunkStep.{ChunkStep}
use Rattle.fx_sound.specs.declared.wave.ChunkStep.TheVariants as step
use Rattle.fx_sound.specs.declared.head.HeadFault.{HeadFault}
use Rattle.fx_sound.specs.declared.head.HeadFault.TheVariants.{Truncated}
use Rattle.std.proofs.lemmas.Bool.{cases_lt}
use Rattle.std.proofs.lemmas.List.{drop-take, length-drop, length-take, take-take}
use Rattle.std.proofs.lemmas.Grind.{common_steps}
use Rattle.fx_sound.specs.Wave.{format_read, padded_chunk, step_of, with_body, with_format, demand_of, long_at, end_of}
use Rattle.fx_sound.proofs.WaveLemmas.{format_read-cut, other-cut, step_of-cut}

-- a test that an `Ok` came through
pub through : {X : Type 0} (b : Bool) (x : Result X HeadFault) (y : X) → (if b then Err Truncated else x) ≡ Ok y → (b ≡ false) × (x ≡ Ok y)
through true x y e = cc
through false x y e = (refl, e)

pub format_read-local : (size j : ℕ) (body : List ℕ) → padded_chunk size ≤ j → padded_chunk size ≤ length body → format_read size (take j body) ≡ format_read size body
unfolding format_read
format_read-local size j body h k =
    let p : nat_lt (length body) (padded_chunk size) ≡ false = grind (arith, common_steps) in
    let q : nat_lt (length (take j body)) (padded_chunk size) ≡ false = let l = length-take j body in grind (arith, common_steps) in
    rw (p, q, take-take (min size 40) j body (omega arith)) refl

pub with_format-ok : (o : ℕ) (r : Result Format HeadFault) (s : ChunkStep) → with_format o r ≡ Ok s → o ≡ end_of s
with_format-ok o (Err e) s p = cc
with_format-ok o (Ok f) s p = let q : step.Next o (Some f) ≡ s = cc in ap end_of q

pub with_body-local : (o : ℕ) (seen : Option Format) (body : List ℕ) (j : ℕ) (d : Result Demand HeadFault) (s : ChunkStep)
    → with_body o seen body d ≡ Ok s → end_of s - (o + 8) ≤ j → end_of s - (o + 8) ≤ length body → with_body o seen (take j body) d ≡ Ok s
with_body-local o seen body j (Err e) s p h k = cc
with_body-local o seen body j (Ok (demand.Sound head)) s p h k = p
with_body-local o seen body j (Ok (demand.Other size)) s p h k =
    let both = through (nat_lt (length body) (padded_chunk size)) (Ok (step.Next (o + 8 + padded_chunk size) seen)) s p in
    let same : step.Next (o + 8 + padded_chunk size) seen ≡ s = let e = both.1 in cc in
    let end : o + 8 + padded_chunk size ≡ end_of s = ap end_of same in
    let q : nat_lt (length (take j body)) (padded_chunk size) ≡ false = let l = length-take j body in grind (arith, common_steps) in
    rw q both.1
with_body-local o seen body j (Ok (demand.Format size)) s p h k =
    let end : o + 8 + padded_chunk size ≡ end_of s = with_format-ok (o + 8 + padded_chunk size) (format_read size body) s p in
    ap (with_format (o + 8 + padded_chunk size)) (format_read-local size j body (omega arith) (omega arith)) ∙ p

pub step_of-local : (o : ℕ) (seen : Option Format) (rest : List ℕ) (k : ℕ) (s : ChunkStep)
    → step_of o seen rest ≡ Ok s → o + 8 ≤ end_of s → end_of s - o ≤ k → end_of s - o ≤ length rest → step_of o seen (take k rest) ≡ Ok s
unfolding step_of
step_of-local o seen rest k s e g h l =
    let parts : k ≡ 8 + (k - 8) = omega arith in
    let p : nat_lt (length rest) 8 ≡ false = grind (arith, common_steps) in
    let q : nat_lt (length (take k rest)) 8 ≡ false = let m = length-take k rest in grind (arith, common_steps) in
    let both = through (nat_lt (length rest) 8) (with_body o seen (drop 8 rest) (demand_of o seen (take 4 rest) (long_at 4 rest))) s e in
    let four : take 4 (take k rest) ≡ take 4 rest = take-take 4 k rest (omega arith) in
    let fours : k ≡ 4 + (k - 4) = omega arith in
    let next : take 4 (drop 4 (take k rest)) ≡ take 4 (drop 4 rest) =
    ap (λ i. take 4 (drop 4 (take i rest))) fours ∙ ap (take 4) (drop-take 4 (k - 4) rest) ∙ take-take 4 (k - 4) (drop 4 rest) (omega arith) in
    let back : drop 8 (take k rest) ≡ take (k - 8) (drop 8 rest) = ap (λ i. drop 8 (take i rest)) parts ∙ drop-take 8 (k - 8) rest in
    rw (q, four, next, back) (with_body-local o seen (drop 8 rest) (k - 8) (demand_of o seen (take 4 rest) (long_at 4 rest)) s both.1 (omega arith) (omega (arith, length-drop 8 rest)))

-- bytes that end before the next chunk decide nothing of this one
pub with_body-early : (o : ℕ) (seen : Option Format) (body : List ℕ) (j : ℕ) (d : Result Demand HeadFault) (next : ℕ) (format : Option Format)
    → with_body o seen body d ≡ Ok (step.Next next format) → o + 8 + j < next → with_body o seen (take j body) d ≡ Err Truncated
with_body-early o seen body j (Err e) next format p h = cc
with_body-early o seen body j (Ok (demand.Sound head)) next format p h = cc
with_body-early o seen body j (Ok (demand.Other size)) next format p h =
    let both = through (nat_lt (length body) (padded_chunk size)) (Ok (step.Next (o + 8 + padded_chunk size) seen)) (step.Next next format) p in
    let same : step.Next (o + 8 + padded_chunk size) seen ≡ step.Next next format = let e = both.1 in cc in
    let end : o + 8 + padded_chunk size ≡ next = ap end_of same in
    other-cut o size j seen body (omega arith)
with_body-early o seen body j (Ok (demand.Format size)) next format p h =
    let end : o + 8 + padded_chunk size ≡ next = with_format-ok (o + 8 + padded_chunk size) (format_read size body) (step.Next next format) p in
    ap (with_format (o + 8 + padded_chunk size)) (format_read-cut size j body (omega arith))

pub step_of-early : (o : ℕ) (seen : Option Format) (rest : List ℕ) (j next : ℕ) (format : Option Format)
    → step_of o seen rest ≡ Ok (step.Next next format) → o + j < next → step_of o seen (take j rest) ≡ Err Truncated
unfolding step_of
step_of-early o seen rest j next format e h = elim (cases_lt j 8) [
  | inl short ↦ step_of-cut o seen rest j short
  | inr long ↦
      let both = through (nat_lt (length rest) 8) (with_body o seen (drop 8 rest) (demand_of o seen (take 4 rest) (long_at 4 rest))) (step.Next next format) e in
      let whole : nat_lt (length rest) 8 ≡ false = both.0 in
      let parts : j ≡ 8 + (j - 8) = omega arith in
      let q : nat_lt (length (take j rest)) 8 ≡ false = let m = length-take j rest in grind (arith, common_steps) in
      let four : take 4 (take j rest) ≡ take 4 rest = take-take 4 j rest (omega arith) in
      let fours : j ≡ 4 + (j - 4) = omega arith in
      let size : take 4 (drop 4 (take j rest)) ≡ take 4 (drop 4 rest) =
      ap (λ i. take 4 (drop 4 (take i rest))) fours ∙ ap (take 4) (drop-take 4 (j - 4) rest) ∙ take-take 4 (j - 4) (drop 4 rest) (omega arith) in
      let back : drop 8 (take j rest) ≡ take (j - 8) (drop 8 rest) = ap (λ i. drop 8 (take i rest)) parts ∙ drop-take 8 (j - 8) rest in
      rw (q, four, size, back) (with_body-early o seen (drop 8 rest) (j - 8) (demand_of o seen (take 4 rest) (long_at 4 rest)) next format both.1 (omega arith))
]
