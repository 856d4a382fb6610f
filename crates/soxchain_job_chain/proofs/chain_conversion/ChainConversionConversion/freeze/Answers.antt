use Rattle.std.proofs.Common.{◌≡◌, ◌∙◌, ◌<◌, ◌++◌, List, ℕ, length, flat_map, ap, refl, subst, append_assoc}
use Rattle.fx_chain.specs.Chain.{ChainParts}
use Rattle.fx_chain.specs.Snapshot.{IsSoundChain}
use Rattle.soxchain_job_chain.specs.declared.chain_conversion.ChainConversion.TheInside.{Inside}
use Rattle.soxchain_job_chain.specs.FrozenConversion.{count_words, counts_of}
use Rattle.soxchain_job_chain.specs.JobOutput.{ConversionParts, input_frame}
use Rattle.soxchain_stream.specs.Appended.{AppendsWords}
use Rattle.soxchain_stream.specs.Frozen.{word}
use Rattle.soxchain_stream.specs.Snapshots.{IsFrozenAs}
use Rattle.soxchain_job_chain.proofs.chain_conversion.ChainConversionConversion.freeze.Goals as goal

pub returns : goal.returns
returns c =
    let old = c.args.self.now in
    let before : List ℕ = c.args.bytes.now.items in
    let counted : List ℕ = c.append_words.new.bytes.items in
    let joined : List ℕ = c.extend_from_slice.new.self.items in
    let chain = ap (λ (i : Inside). i.chain.chain) c.self-inside.view_is ∙ ap (λ (v : ConversionParts). v.coded.chain) c.self.view_is in
    let words = c.words.ensures ∙ ap count_words c.counts.ensures.counts in
    let front : AppendsWords before counted (count_words (counts_of old)) = subst (λ (l : List ℕ). AppendsWords before counted l) words c.in_ok-append_words.ensures in
    let pending : c.deref.result.now ≡ old.pending = c.deref.ensures.value ∙ ap (λ (i : Inside). i.pending.items) c.self-inside.view_is ∙ ap (λ (v : ConversionParts). v.pending) c.self.view_is in
    let stream = c.in_ok-append_to.ensures.frozen in
    let own : List ℕ = flat_map word (count_words (counts_of old)) in
    let joined_is : joined ≡ (before ++ own) ++ old.pending = c.in_ok-extend_from_slice.ensures.items ∙ ap (λ (l : List ℕ). counted ++ l) pending ∙ ap (λ (l : List ℕ). l ++ old.pending) front.bytes in
    record {
      frozen = record {
        frozen = own ++ (old.pending ++ stream.frozen);
        freezes = record {
          after_counts = old.pending ++ stream.frozen;
          follows = record {
            chain_bytes = stream.frozen;
            chain = subst (λ (v : ChainParts). IsFrozenAs v stream.frozen) chain stream.freezes;
            sound = subst (λ (v : ChainParts). IsSoundChain v) chain c.in_ok-append_to.ensures.sound;
            counted = c.counts.ensures.counted;
            part = subst (λ (v : ConversionParts). length v.pending < input_frame v) c.self.view_is c.self.invariant;
            bytes_are = refl;
          };
          fits = front.fit;
          bytes_are = refl;
        };
        appended = stream.appended ∙ ap (λ (l : List ℕ). l ++ stream.frozen) joined_is ∙ append_assoc (before ++ own) old.pending stream.frozen ∙ append_assoc before own (old.pending ++ stream.frozen);
      };
    }
