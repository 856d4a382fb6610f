use Rattle.std.proofs.Common.{◌≡◌, ◌∙◌, ℕ, ℤ, FitsSigned, List, [], ◌∷◌, ap, get_or, length, map, pos, subst, sym, take}
use Rattle.std.proofs.lemmas.Int.{to_z-of_z}
use Rattle.std.proofs.lemmas.List.{map_more}
use Rattle.std.specs.Int.{cast_unsigned, w64}
use Rattle.std.specs.List.{All}
use Rattle.soxchain_stream.specs.Appended.{AppendsWords}
use Rattle.soxchain_stream.proofs.Appending.{words-then}
use Rattle.soxchain_stream.proofs.frozen.append_frame.Goals as goal

pub samples-preserved : goal.samples-preserved
samples-preserved c =
    let samples : List ℤ = c.samples-samples.result.now in
    let place : ℕ = c.samples.sample-index in
    let old : List ℕ = c.samples.bytes.items in
    let new : List ℕ = c.append_word-in-samples.new.bytes.items in
    let sample : ℕ = cast_unsigned w64 (get_or samples place (pos 0)) in
    let all : All (FitsSigned w64) samples = subst (λ (l : List ℤ). All (FitsSigned w64) l) (sym c.samples-samples.ensures.samples) c.samples-samples.ensures.frame.fits in
    let fits : FitsSigned w64 (get_or samples place (pos 0)) = all place (pos 0) c.samples-test.true in
    let is : c.cast_unsigned.result ≡ sample = c.cast_unsigned.ensures ∙ ap (cast_unsigned w64) (to_z-of_z w64 (get_or samples place (pos 0)) fits) in
    let last : AppendsWords old new (sample ∷ []) = subst (λ (n : ℕ). AppendsWords old new (n ∷ [])) is c.in_ok-append_word-2.ensures in
    rw (map_more (cast_unsigned w64) samples place (pos 0) c.samples-test.true)
    (words-then c.args.bytes.now.items old new (length c.args.frame.now ∷ map (cast_unsigned w64) (take place samples)) (sample ∷ []) c.samples.invariant last)
