use Rattle.std.proofs.Common.{refl}
use Rattle.soxchain_xxh64.specs.Xxh64.{accumulators_of}
use Rattle.soxchain_xxh64.proofs.state.Xxh64.new.Goals as goal

pub returns : goal.returns
unfolding accumulators_of
returns c = record {
  accumulators_are = c.initial_accumulators.ensures;
  pending_are = refl;
  length_is = refl;
  has_stripe_is = refl;
}
