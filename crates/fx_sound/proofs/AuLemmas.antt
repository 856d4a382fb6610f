-- The head of an AU sound, from what was read of it.
use Rattle.std.proofs.Common.{◌≡◌, ℕ, ◌+◌, ◌-◌, ◌<◌, ◌≤◌, inl, inr, List, length, take, true, false, refl, sym, ap, ◌∙◌, arith, nat_lt, Ok, Err, Result}
use Rattle.std.proofs.lemmas.Bool.{cases_lt}
use Rattle.std.proofs.lemmas.List.{take_all, length-take, take-take}
use Rattle.std.proofs.lemmas.Grind.{common_steps}
use Rattle.fx_sound.specs.declared.fields.HeadFields.{HeadFields}
use Rattle.fx_sound.specs.declared.head.HeadFault.{HeadFault}
use Rattle.fx_sound.specs.declared.head.HeadFault.TheVariants.{Truncated}
use Rattle.fx_sound.specs.Au.{after_snd, au_fields, with_sound}

-- too few bytes for the words
pub after_snd-short : (bytes : List ℕ) → length bytes < 20 → after_snd bytes ≡ Err Truncated
unfolding after_snd
after_snd-short bytes h =
    let p : nat_lt (length bytes) 20 ≡ true = grind (arith, common_steps) in
    rw p refl

pub after_snd-cut : (bytes : List ℕ) (came : ℕ) → came < 20 → after_snd (take came bytes) ≡ Err Truncated
after_snd-cut bytes came h = after_snd-short (take came bytes) (omega (arith, length-take came bytes))

-- the words decide, and whether the sound is reached
pub after_snd-read : (bytes words : List ℕ) (n : ℕ) (r : Result HeadFields HeadFault) → take n words ≡ take n bytes → n ≤ length bytes → length words ≤ n → 20 ≤ n → n ≤ 20
    → r ≡ au_fields words → after_snd bytes ≡ with_sound (length bytes) r
unfolding after_snd
after_snd-read bytes words n r e h a b c f =
    let twenty : n ≡ 20 = omega arith in
    let front : words ≡ take 20 bytes = sym (take_all n words a) ∙ e ∙ ap (λ i. take i bytes) twenty in
    let p : nat_lt (length bytes) 20 ≡ false = grind (arith, common_steps) in
    rw (p, ← front, ← f) refl

-- the same where what came ends after the words
pub after_snd-read-cut : (bytes words : List ℕ) (n came : ℕ) (r : Result HeadFields HeadFault) → take n words ≡ take n bytes → n ≤ length bytes → length words ≤ n → 20 ≤ n → n ≤ 20
    → r ≡ au_fields words → after_snd (take (n + came) bytes) ≡ with_sound (length (take (n + came) bytes)) r
after_snd-read-cut bytes words n came r e h a b c f =
    after_snd-read (take (n + came) bytes) words n r (e ∙ sym (take-take n (n + came) bytes (omega arith))) (omega (arith, length-take (n + came) bytes)) a b c f

-- the sound is not reached
pub with_sound-short : (n : ℕ) (l : HeadFields) → n + 4 < l.offset → with_sound n (Ok l) ≡ Err Truncated
with_sound-short n l h =
    let p : nat_lt (n + 4) l.offset ≡ true = grind (arith, common_steps) in
    rw p refl

-- the sound is reached
pub with_sound-whole : (n : ℕ) (l : HeadFields) → l.offset ≤ n + 4 → with_sound n (Ok l) ≡ Ok l
with_sound-whole n l h =
    let p : nat_lt (n + 4) l.offset ≡ false = grind (arith, common_steps) in
    rw p refl

-- bytes that end before the sound decide nothing
pub after_snd-early : (bytes words : List ℕ) (n k : ℕ) (l : HeadFields) → take n words ≡ take n bytes → n ≤ length bytes → length words ≤ n → 20 ≤ n → n ≤ 20
    → Ok l ≡ au_fields words → k + 4 < l.offset → after_snd (take k bytes) ≡ Err Truncated
after_snd-early bytes words n k l e h a b c f lt = elim (cases_lt k n) [
  | inl short ↦ after_snd-cut bytes k (omega arith)
  | inr long ↦
      let place : n + (k - n) ≡ k = omega arith in
      ap (λ i. after_snd (take i bytes)) (sym place) ∙ after_snd-read-cut bytes words n (k - n) (Ok l) e h a b c f
      ∙ with_sound-short (length (take (n + (k - n)) bytes)) l (omega (arith, length-take (n + (k - n)) bytes))
]
