-- The bytes of a frozen conversion in two parts.
use Rattle.std.proofs.Common.{◌≡◌, ◌∙◌, ◌*◌, List, ℕ, Some, None, length, flat_map, ap, refl, subst, sym, take, drop, Option}
use Rattle.std.proofs.lemmas.List.{drop_at, take_at}
use Rattle.soxchain_job_chain.specs.FrozenConversion.{FollowsCounts, IsFrozenConversion, count_words, counts_of}
use Rattle.soxchain_job_chain.specs.JobOutput.{ConversionParts}
use Rattle.soxchain_job_chain.specs.declared.counts.Counts.{Counts}
use Rattle.soxchain_stream.specs.Frozen.{word}
use Rattle.soxchain_stream.proofs.Words.{length-words}

nine-words : (c : Counts) (left : Option ℕ) → c.left ≡ left → length (count_words c) ≡ 9
nine-words c None is = rw is refl
nine-words c (Some n) is = rw is refl

size-of : (m : ConversionParts) → length (flat_map word (count_words (counts_of m))) ≡ 72
size-of m = length-words (count_words (counts_of m)) ∙ ap (λ n. 8 * n) (nine-words (counts_of m) m.left refl)

pub front-of : (m : ConversionParts) (bytes : List ℕ) → (f : IsFrozenConversion m bytes) → take 72 bytes ≡ flat_map word (count_words (counts_of m))
front-of m bytes f = ap (take 72) f.bytes_are ∙ take_at (flat_map word (count_words (counts_of m))) f.after_counts 72 (size-of m)

pub back-of : (m : ConversionParts) (bytes : List ℕ) → (f : IsFrozenConversion m bytes) → FollowsCounts m (drop 72 bytes)
back-of m bytes f = subst (FollowsCounts m) (sym (ap (drop 72) f.bytes_are ∙ drop_at (flat_map word (count_words (counts_of m))) f.after_counts 72 (size-of m))) f.follows
