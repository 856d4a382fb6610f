use Rattle.std.proofs.Common.{◌≡◌, ℕ, ℤ, ◌<◌, ◌++◌, ◌∙◌, ◌∷◌, [], List, ap, arith, length, map, sym, take, get_or}
use Rattle.std.proofs.lemmas.Int.{of_z-to_z}
use Rattle.std.proofs.lemmas.List.{length-set, map_more, take_more_set}
use Rattle.std.specs.Int.{cast_signed, cast_unsigned, w64}
use Rattle.soxchain_stream.proofs.thawed.frame_of.Goals as goal

pub loop-place-preserved : goal.loop-place-preserved
loop-place-preserved c =
    let place : ℕ = c.loop-place.place in
    let words : List ℕ = c.args.words.now in
    let samples : List ℤ = c.loop-place.samples in
    let x : ℕ = get_or words place 0 in
    let v : ℤ = cast_signed w64 (cast_unsigned w64 c.cast_signed.result) in
    let is : v ≡ cast_signed w64 x = ap (λ (r : ℤ). cast_signed w64 (cast_unsigned w64 r)) c.cast_signed.ensures ∙ ap (cast_signed w64) (of_z-to_z w64 x (c.type_inv.words place).fits) in
    let inside : place < length samples = omega (arith, c.loop-place.invariant.free) in
    record {
      free = length-set samples place v ∙ c.loop-place.invariant.free;
      samples = take_more_set samples place v inside ∙ ap (λ (l : List ℤ). l ++ v ∷ []) c.loop-place.invariant.samples
          ∙ ap (λ (y : ℤ). map (cast_signed w64) (take place words) ++ y ∷ []) is ∙ sym (map_more (cast_signed w64) words place 0 c.loop-place-test.true);
    }
