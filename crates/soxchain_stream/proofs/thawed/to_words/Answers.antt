use Rattle.std.proofs.Common.{◌≡◌, ℕ, ◌++◌, ◌∙◌, ◌≤◌, ◌^◌, List, ap, arith, lit<, length, flat_map, take, drop, ◌<◌, [], sym, inl, inr, true, false}
use Rattle.std.proofs.lemmas.Bool.{cases_lt}
use Rattle.std.proofs.lemmas.Grind.{common_steps}
use Rattle.std.proofs.lemmas.List.{append-nil, length-append, length-take-le, take-append-drop, nil_from_length}
use Rattle.std.proofs.lemmas.Nat.{le_bytes_8}
use Rattle.soxchain_stream.specs.Frozen.{word}
use Rattle.soxchain_stream.proofs.Words.{AreBelow, all-of, below-drop, below-push, below-take, below-of, length-words, pieces-more, words-same}
use Rattle.soxchain_stream.proofs.thawed.to_words.Goals as goal

pub loop-next-preserved : goal.loop-next-preserved
loop-next-preserved c =
    let rest : List ℕ = c.loop-next.rest.now in
    let next : List ℕ = c.in-Some.next.now in
    let more : List ℕ = c.in-Some.more.now in
    let front : next ≡ take 8 rest = c.in-Some.ensures.cases.0 in
    let back : more ≡ drop 8 rest = c.in-Some.ensures.cases.1 in
    let whole : 8 ≤ length rest = omega (arith, c.in-Some.ensures.cases.2) in
    let size : length next ≡ 8 = ap length front ∙ length-take-le 8 rest whole in
    let joined : next ++ more ≡ rest = rw (front, back) (take-append-drop 8 rest) in
    let bytes : AreBelow 256 next = rw front (below-take 256 8 rest (lit< tt) c.loop-next.invariant.below) in
    let back_again : word c.read_u64.result ≡ next = le_bytes_8 next c.read_u64.result size bytes (omega (arith, c.read_u64.ensures)) in
    record {
      words = rw c.in_ok-push.ensures.items (pieces-more word c.loop-next.words.items c.read_u64.result more rest c.args.bytes.now (ap (λ (l : List ℕ). l ++ more) back_again ∙ joined) c.loop-next.invariant.words);
      below = rw back (below-drop 256 8 rest c.loop-next.invariant.below);
      words_below = rw c.in_ok-push.ensures.items (below-push (2 ^ 64) c.loop-next.words.items c.read_u64.result c.loop-next.invariant.words_below (omega arith));
    }

pub returns-else-is_empty-clause-back : goal.returns-else-is_empty-clause-back
returns-else-is_empty-clause-back c = λ words each e.
    let rest : List ℕ = c.loop-next.rest.now in
    let left : 0 < length rest = grind (arith, common_steps, c.if-is_empty.ensures) in
    elim (cases_lt (length rest) 8) [
      | inl bound ↦ absurd (omega (arith, length-words words, ap length e, length-words c.loop-next.words.items, ap length c.loop-next.invariant.words, length-append (flat_map word c.loop-next.words.items) rest))
      | inr whole ↦ (let none : false ≡ true = c.in_default.ensures.variant.1 whole in cc)
    ]

pub returns-then-is_empty-clause-back : goal.returns-then-is_empty-clause-back
returns-then-is_empty-clause-back c = λ words each e.
    let rest : List ℕ = c.loop-next.rest.now in
    let items : List ℕ = c.loop-next.words.items in
    let none : rest ≡ [] = nil_from_length rest (grind (arith, common_steps, c.if-is_empty.ensures)) in
    let all : flat_map word items ≡ c.args.bytes.now = sym (append-nil (flat_map word items)) ∙ ap (λ (l : List ℕ). flat_map word items ++ l) (sym none) ∙ c.loop-next.invariant.words in
    words-same items words c.loop-next.invariant.words_below (below-of (2 ^ 64) words (lit< tt) each) (all ∙ sym e)

pub returns-then-is_empty-clause-words : goal.returns-then-is_empty-clause-words
returns-then-is_empty-clause-words c = all-of (2 ^ 64) c.loop-next.words.items c.loop-next.invariant.words_below
