use Rattle.std.proofs.Common.{◌≡◌, [], length, slice_get, unwrap_or}
use Rattle.fx_plan_words.specs.Faults.{word_texts}
use Rattle.fx_plan.specs.Groups.{effects_of}
use Rattle.fx_plan.proofs.listing.effect_at.Given as goal

abbrev pub decreases-loop-effect : goal.decreases-loop-effect
decreases-loop-effect l = length l.rest

abbrev pub invariant-loop-effect : goal.invariant-loop-effect
invariant-loop-effect l =
    unwrap_or (slice_get (effects_of (word_texts l.rest)) l.left) [] ≡ unwrap_or (slice_get (effects_of (word_texts l.words)) l.place) []
