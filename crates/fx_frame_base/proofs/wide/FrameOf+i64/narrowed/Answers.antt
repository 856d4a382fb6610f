use Rattle.std.proofs.Common.{◌≡◌, ◌<◌, ◌∙◌, sym, refl, arith, rules, ℤ, List, ◌∷◌, [], ◌++◌, take, length, get_or, pos, FitsSigned, to_z-of_z, length-set}
use Rattle.std.specs.Int.{w32, w64}
use Rattle.std.proofs.lemmas.List.{take_more_set, take_more}
use Rattle.fx_frame_base.specs.Frame.{IsWideFrame}
use Rattle.fx_frame_base.proofs.wide.FrameOf+i64.narrowed.Goals as goal

pub samples-preserved : goal.samples-preserved
samples-preserved c =
    let samples : List ℤ = c.samples-samples.result.now in
    let fits : FitsSigned w32 c.in-Ok.sample = search rules in
    let frame : IsWideFrame samples = rw c.samples-samples.ensures.samples c.samples-samples.ensures.frame in
    let there : c.samples.place < length samples = c.samples-test.true in
    let here : c.samples.place < length c.samples.narrow = omega (arith, frame.bound, c.samples.invariant.places) in
    let wide : FitsSigned w64 (get_or samples c.samples.place (pos 0)) = frame.fits c.samples.place (pos 0) there in
    let is : c.in-Ok.sample ≡ get_or samples c.samples.place (pos 0) = simp to_z-of_z at c.in-Ok.ensures.1 in
    let old : take c.samples.place c.samples.narrow ≡ take c.samples.place samples = c.samples.invariant.same in
    let both : take c.samples.place c.samples.narrow ++ c.in-Ok.sample ∷ [] ≡ take c.samples.place samples ++ get_or samples c.samples.place (pos 0) ∷ [] = rw (old, is) refl in
    simp to_z-of_z (record {
      places = length-set c.samples.narrow c.samples.place c.in-Ok.sample ∙ c.samples.invariant.places;
      same = take_more_set c.samples.narrow c.samples.place c.in-Ok.sample here ∙ both ∙ sym (take_more samples c.samples.place (pos 0) there);
    })
