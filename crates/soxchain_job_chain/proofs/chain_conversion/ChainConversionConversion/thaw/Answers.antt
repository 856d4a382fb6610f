use Rattle.std.proofs.Common.{◌≡◌, ◌∙◌, subst, sym}
use Rattle.soxchain_job_chain.specs.FrozenConversion.{FollowsCounts, count_words, counts_of}
use Rattle.soxchain_job_chain.proofs.Frozen.{back-of, front-of}
use Rattle.soxchain_job_chain.proofs.chain_conversion.ChainConversionConversion.thaw.Goals as goal

pub returns-in-Ok-None : goal.returns-in-Ok-None
returns-in-Ok-None c = record {
  thawed = λ m plan frozen.
      let found = c.in-Ok-None.ensures.back (count_words (counts_of m)) frozen.fits (sym (c.split_at.ensures.front ∙ front-of m c.args.bytes.now frozen)) in
      absurd (rw c.in-Ok-None.field-0-is at found);
}

pub returns-in-Some : goal.returns-in-Some
returns-in-Some c = record {
  thawed = λ m plan frozen.
      let found = c.in-Ok-Some.ensures.back (count_words (counts_of m)) frozen.fits (sym (c.split_at.ensures.front ∙ front-of m c.args.bytes.now frozen)) in
      let words = rw c.in-Ok-Some.field-0-is at found in
      let read = c.of_words.ensures (counts_of m) (c.deref.ensures.value ∙ words) in
      let counts : counts_of m ≡ c.in-Some.counts = cc (read, c.in-Some.is) in
      c.thaw_rest.ensures.thawed m plan counts (subst (FollowsCounts m) (sym c.split_at.ensures.back) (back-of m c.args.bytes.now frozen));
}

pub returns : goal.returns
returns c = record {
  thawed = λ m plan frozen.
      let found = c.in-Ok-Some.ensures.back (count_words (counts_of m)) frozen.fits (sym (c.split_at.ensures.front ∙ front-of m c.args.bytes.now frozen)) in
      let words = rw c.in-Ok-Some.field-0-is at found in
      let read = c.of_words.ensures (counts_of m) (c.deref.ensures.value ∙ words) in
      absurd (cc (read, c.in-None.is));
}
