-- The sound in an input that comes in pieces.
use Rattle.std.proofs.Common.{◌≡◌, ℕ, ◌+◌, ◌-◌, ◌*◌, ◌/◌, ◌<◌, ◌≤◌, inl, inr, List, [], ◌++◌, take, drop, length, sym, ap, ◌∙◌, arith, min}
use Rattle.std.proofs.Math.Nat.{div-mul-le_self, mul-add-div_right}
use Rattle.std.proofs.Math.Seq.{take-append-add}
use Rattle.std.proofs.lemmas.Bool.{cases_lt}
use Rattle.std.proofs.lemmas.List.{append-nil, drop-append-le, drop_all, drop-drop, length-append, length-drop, take-append-le, take_all}
use Rattle.fx_frame_base.specs.declared.coding.Coding.{Coding}
use Rattle.fx_sound.specs.Container.{first_frames, frames_of_sound}
use Rattle.fx_sound.specs.FrameCoding.{frame_size}
use Rattle.fx_sound.proofs.Sounds.{first_frames-add, first_frames-taken}

-- a front of two lists, and what is after it
pub drop-both : {X : Type 0} (n : ℕ) (xs ys : List X) → drop n (xs ++ ys) ≡ drop n xs ++ drop (n - length xs) ys
drop-both n xs ys = elim (cases_lt n (length xs)) [
  | inl part ↦ (let none : n - length xs ≡ 0 = omega arith in rw none (drop-append-le n xs ys (omega arith)))
  | inr all ↦ (let parts : n ≡ length xs + (n - length xs) = omega arith in
      let gone : drop n xs ≡ [] = drop_all n xs all in
      let front : drop (length xs) (xs ++ ys) ≡ ys = drop-append-le (length xs) xs ys (omega arith) ∙ ap (λ l. l ++ ys) (drop_all (length xs) xs (omega arith)) in
      rw gone (ap (λ m. drop m (xs ++ ys)) parts ∙ sym (drop-drop (n - length xs) (length xs) (xs ++ ys)) ∙ ap (drop (n - length xs)) front))
]

pub take-both : {X : Type 0} (n : ℕ) (xs ys : List X) → take n (xs ++ ys) ≡ take n xs ++ take (n - length xs) ys
take-both n xs ys = elim (cases_lt n (length xs)) [
  | inl part ↦ (let none : n - length xs ≡ 0 = omega arith in rw (none, append-nil) (take-append-le n xs ys (omega arith)))
  | inr all ↦ (let parts : n ≡ length xs + (n - length xs) = omega arith in
      rw (take_all n xs all) (ap (λ m. take m (xs ++ ys)) parts ∙ take-append-add xs ys (n - length xs)))
]

-- the whole frames of a front, and those after it
pub frames-both : (coding : Coding) (channels : ℕ) (front more : List ℕ) → 0 < frame_size coding channels
    → frames_of_sound coding channels (front ++ more)
    ≡ frames_of_sound coding channels front ++ frames_of_sound coding channels (drop (length front / frame_size coding channels * frame_size coding channels) front ++ more)
frames-both coding channels front more some =
    let size : ℕ = frame_size coding channels in
    let whole : ℕ = length front / size in
    let fits : whole * size ≤ length front = div-mul-le_self (length front) size in
    let left : List ℕ = drop (whole * size) front ++ more in
    let long : length (front ++ more) ≡ whole * size + length left = omega (arith, fits, length-append front more, length-append (drop (whole * size) front) more, length-drop (whole * size) front) in
    let count : length (front ++ more) / size ≡ whole + length left / size = ap (λ n. n / size) long ∙ mul-add-div_right some whole (length left) in
    let rest : drop (whole * size) (front ++ more) ≡ left = drop-append-le (whole * size) front more fits in
    let bytes : take (whole * size) (front ++ more) ≡ take (whole * size) front = take-append-le (whole * size) front more fits in
    let first : first_frames coding channels whole (front ++ more) ≡ first_frames coding channels whole front =
    sym (first_frames-taken coding channels whole (front ++ more) (omega (arith, long))) ∙ ap (first_frames coding channels whole) bytes ∙ first_frames-taken coding channels whole front fits in
    ap (λ n. first_frames coding channels n (front ++ more)) count ∙ first_frames-add coding channels whole (length left / size) (front ++ more)
    ∙ ap (λ l. l ++ first_frames coding channels (length left / size) (drop (whole * size) (front ++ more))) first ∙ ap (λ l. first_frames coding channels whole front ++ first_frames coding channels (length left / size) l) rest

-- the bytes of the sound in the next piece, and what then is the rest of it: where no size is announced
pub sound-open : (skip skipped : ℕ) (piece input : List ℕ) → skipped ≡ min skip (length piece) → drop skip (piece ++ input) ≡ take (length piece - skipped) (drop skipped piece) ++ drop (skip - skipped) input
sound-open skip skipped piece input is =
    let whole : take (length piece - skipped) (drop skipped piece) ≡ drop skipped piece = take_all (length piece - skipped) (drop skipped piece) (omega (arith, length-drop skipped piece)) in
    let left : skip - length piece ≡ skip - skipped = omega (arith, is) in
    let front : drop skip piece ≡ drop skipped piece = elim (cases_lt (length piece) skip) [
      | inl more ↦ (let all : skipped ≡ length piece = omega (arith, is) in drop_all skip piece (omega arith) ∙ sym (drop_all skipped piece (omega arith)))
      | inr part ↦ (let all : skip ≡ skipped = omega (arith, is) in ap (λ n. drop n piece) all)
    ] in
    rw whole (drop-both skip piece input ∙ ap (λ l. l ++ drop (skip - length piece) input) front ∙ ap (λ n. drop skipped piece ++ drop n input) left)

-- where a size is announced
pub sound-sized : (size count skip skipped : ℕ) (piece input : List ℕ) → skipped ≡ min skip (length piece) → count ≡ min size (length (take (length piece - skipped) (drop skipped piece)))
    → take size (drop skip (piece ++ input)) ≡ take count (take (length piece - skipped) (drop skipped piece)) ++ take (size - count) (drop (skip - skipped) input)
sound-sized size count skip skipped piece input is count_is =
    let rest : List ℕ = take (length piece - skipped) (drop skipped piece) in
    let left : size - length rest ≡ size - count = omega (arith, count_is) in
    let front : take size rest ≡ take count rest = elim (cases_lt (length rest) size) [
      | inl more ↦ (let all : count ≡ length rest = omega (arith, count_is) in take_all size rest (omega arith) ∙ sym (take_all count rest (omega arith)))
      | inr part ↦ (let all : size ≡ count = omega (arith, count_is) in ap (λ n. take n rest) all)
    ] in
    ap (take size) (sound-open skip skipped piece input is) ∙ take-both size rest (drop (skip - skipped) input) ∙ ap (λ l. l ++ take (size - length rest) (drop (skip - skipped) input)) front
    ∙ ap (λ n. take count rest ++ take n (drop (skip - skipped) input)) left
