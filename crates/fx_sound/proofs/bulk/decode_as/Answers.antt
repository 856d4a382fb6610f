use Rattle.std.proofs.Common.{◌≡◌, ◌+◌, ◌-◌, ◌*◌, [], ◌∷◌, ◌++◌, take, drop, ap, ◌∙◌, sym, arith, rules, w32, to_z, of_z}
use Rattle.std.proofs.lemmas.List.{take_more_set}
use Rattle.fx_frame_base.specs.Coding.{width_of, read_sample}
use Rattle.fx_sound.specs.FrameCoding.{coded_samples}
use Rattle.fx_sound.proofs.FrameBytes.{samples_of-more}
use Rattle.fx_sound.proofs.bulk.decode_as.Goals as goal

pub samples-preserved : goal.samples-preserved
samples-preserved c =
    let width : c.samples.k * c.width-width.result + c.width-width.result - c.samples.k * c.width-width.result ≡ c.width-width.result = omega arith in
    let same : c.width-width.result ≡ width_of c.args.coding = c.width-width.ensures.value in
    let sample : c.read.result ≡ read_sample c.args.coding (take (width_of c.args.coding) (drop (c.samples.k * width_of c.args.coding) c.args.bytes.now)) =
    c.read.ensures ∙ ap (λ n. read_sample c.args.coding (take n (drop (c.samples.k * c.width-width.result) c.args.bytes.now))) width
    ∙ ap (λ n. read_sample c.args.coding (take n (drop (c.samples.k * n) c.args.bytes.now))) same in
    let store : to_z w32 (of_z w32 c.read.result) ≡ c.read.result = search rules in
    rw store record {
      front = take_more_set _ _ _ (omega arith) ∙ ap (λ l. l ++ c.read.result ∷ []) c.samples.invariant.front
          ∙ ap (λ s. coded_samples c.args.coding c.samples.k c.args.bytes.now ++ s ∷ []) sample ∙ sym (samples_of-more c.args.coding c.samples.k c.args.bytes.now);
    }
