-- The first of the pieces that lie in bytes, found one after the other.
use Rattle.std.proofs.Common.{ℕ, suc, ◌≤◌, List, ◌∷◌, length, arith, slice_range}
use Rattle.std.specs.Str.{IsUtf8}
use Rattle.soxchain_c.specs.Texts.{FindsEnds, FindsTexts}

pub ends-first : (bytes : List ℕ) (start end : ℕ) (ends : List ℕ) → start ≤ end → end ≤ length bytes → FindsEnds bytes start (end ∷ ends)
ends-first bytes start end ends after within = record { count = 1; some = omega arith; there = omega arith; are_ends = (after, within, tt) }

pub ends-next : (bytes : List ℕ) (start end : ℕ) (ends : List ℕ) → start ≤ end → end ≤ length bytes → FindsEnds bytes end ends → FindsEnds bytes start (end ∷ ends)
ends-next bytes start end ends after within found =
    record { count = suc found.count; some = omega arith; there = omega arith; are_ends = (after, within, found.are_ends) }

pub texts-first : (bytes : List ℕ) (start end : ℕ) (ends : List ℕ) → start ≤ end → end ≤ length bytes → IsUtf8 (slice_range bytes start end) → FindsTexts bytes start (end ∷ ends)
texts-first bytes start end ends after within text =
    record { count = 1; some = omega arith; there = omega arith; are_ends = (after, within, tt); are_texts = (text, tt) }

pub texts-next : (bytes : List ℕ) (start end : ℕ) (ends : List ℕ) → start ≤ end → end ≤ length bytes → IsUtf8 (slice_range bytes start end) → FindsTexts bytes end ends → FindsTexts bytes start (end ∷ ends)
texts-next bytes start end ends after within text found =
    record { count = suc found.count; some = omega arith; there = omega arith; are_ends = (after, within, found.are_ends); are_texts = (text, found.are_texts) }

pub ruleset first_pieces = (ends-first, ends-next, texts-first, texts-next)
