-- What is appended in several steps.
use Rattle.std.proofs.Common.{◌≡◌, ℕ, ◌+◌, ◌*◌, List, [], ◌∷◌, ◌++◌, length, flat_map, refl, sym, ap, ◌∙◌, append_assoc, arith, Bool, true, false, Option, Some, None, cond, is_some, option_to_list}
use Rattle.std.proofs.lemmas.Grind.{flat_map-append}
use Rattle.std.proofs.lemmas.List.{append-nil, length-append}
use Rattle.std.proofs.lemmas.List.Elements.{All-append}
use Rattle.std.specs.List.{All}
use Rattle.std.specs.Int.{from_bool}
use Rattle.fx_chain_flow.specs.Frozen.{inlet_numbers, numbers_all, stored_all}
use Rattle.fx_chain_flow.proofs.Thawing.{length-numbers}
use Rattle.fx_chain_flow.specs.Parts.{Parts}
use Rattle.fx_frame_base.specs.Frame.{IsWideFrame, Samples}
use Rattle.fx_frame_base.specs.Stage.{Acts}
use Rattle.soxchain_stream.specs.Appended.{AppendsFlow, AppendsFrames, AppendsWords}
use Rattle.soxchain_stream.specs.Frozen.{IsWord, frame_words, snapshot_bytes, snapshot_words, word}

pub no-words : (old : List ℕ) → AppendsWords old old []
no-words old = record { bytes = sym (append-nil old); fit = λ k d i. absurd (omega arith) }

pub words-then : (a b c xs ys : List ℕ) → AppendsWords a b xs → AppendsWords b c ys → AppendsWords a c (xs ++ ys)
words-then a b c xs ys first second = record {
  bytes = second.bytes ∙ ap (λ (l : List ℕ). l ++ flat_map word ys) first.bytes ∙ append_assoc a (flat_map word xs) (flat_map word ys) ∙ ap (λ (l : List ℕ). a ++ l) (sym (flat_map-append word xs ys));
  fit = All-append IsWord xs ys first.fit second.fit;
}

pub no-frames-appended : (old : List ℕ) → AppendsFrames old old []
no-frames-appended old = record { words = no-words old; wide = λ k d i. absurd (omega arith) }

pub frames-then : (a b c : List ℕ) (xs ys : List Samples) → AppendsFrames a b xs → AppendsFrames b c ys → AppendsFrames a c (xs ++ ys)
frames-then a b c xs ys first second = record {
  words = rw (flat_map-append frame_words xs ys) (words-then a b c (flat_map frame_words xs) (flat_map frame_words ys) first.words second.words);
  wide = All-append IsWideFrame xs ys first.wide second.wide;
}

-- "soxchain" and version 1, and how many numbers there are
abbrev pub head_words : ℕ → List ℕ
head_words count = 0x6e696168_63786f73 ∷ 1 ∷ count ∷ []

-- A flow is frozen by its parts, one after the other: the head, the numbers of the inlet and of the stages, and their frames.
pub frozen-by-parts : {S R : Type 0} (acts : Acts S R) (flow : Parts S) (a b d e f g : List ℕ)
    → AppendsWords a b (head_words (8 * (length flow.stages + 1)))
    → AppendsWords b d (inlet_numbers flow.left flow.inlet flow.ended)
    → AppendsWords d e (numbers_all acts flow.stages)
    → AppendsFrames e f (option_to_list flow.inlet)
    → AppendsFrames f g (stored_all acts flow.stages)
    → AppendsFlow acts flow a g
frozen-by-parts acts flow a b d e f g head inlet stages first others =
    let of_inlet : List ℕ = inlet_numbers flow.left flow.inlet flow.ended in
    let of_stages : List ℕ = numbers_all acts flow.stages in
    let numbers : List ℕ = of_inlet ++ of_stages in
    let frames : List Samples = option_to_list flow.inlet ++ stored_all acts flow.stages in
    let count : length numbers ≡ 8 * (length flow.stages + 1) = omega (arith, length-append of_inlet of_stages, length-numbers acts flow.stages) in
    let counted : AppendsWords b e numbers = words-then b d e of_inlet of_stages inlet stages in
    let headed : AppendsWords a e (head_words (length numbers) ++ numbers) = rw count (words-then a b e (head_words (8 * (length flow.stages + 1))) numbers head counted) in
    let framed : AppendsFrames e g frames = frames-then e f g (option_to_list flow.inlet) (stored_all acts flow.stages) first others in
    let all : AppendsWords a g (snapshot_words numbers frames) = words-then a e g (head_words (length numbers) ++ numbers) (flat_map frame_words frames) headed framed.words in
    record {
      numbers = numbers;
      frames = frames;
      freezes = record { stored = refl; counted = refl };
      stored = record { words = all.fit; frames_wide = framed.wide };
      appended = all.bytes;
    }

-- how many frames are in an inlet
pub held-of : (o : Option Samples) → from_bool (is_some o) ≡ length (option_to_list o)
held-of None = refl
held-of (Some f) = refl

-- 1 after the end, and else 0
pub ended-of : (b : Bool) → from_bool b ≡ cond b 1 0
ended-of true = refl
ended-of false = refl
