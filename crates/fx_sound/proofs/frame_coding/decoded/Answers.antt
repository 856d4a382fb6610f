use Rattle.std.proofs.Common.{◌≡◌, ◌*◌, length, take, drop, ap, ◌∙◌, sym, arith, refl, rules, to_z, of_z, w32}
use Rattle.std.proofs.lemmas.List.{take_all, length-drop}
use Rattle.fx_frame_base.specs.Coding.{width_of, read_sample}
use Rattle.fx_sound.specs.FrameCoding.{coded_samples}
use Rattle.fx_sound.proofs.frame_coding.decoded.Goals as goal

pub returns-in-2-clause-samples : goal.returns-in-2-clause-samples
returns-in-2-clause-samples c =
    let size : length c.args.bytes.now ≡ 2 * width_of c.args.coding = c.requires.bytes ∙ ap (λ n. n * width_of c.args.coding) c.in-2.is in
    let first : to_z w32 (of_z w32 c.read-in-2.result) ≡ c.read-in-2.result = search rules in
    let second : to_z w32 (of_z w32 c.read-in-2-2.result) ≡ c.read-in-2-2.result = search rules in
    let back : take (width_of c.args.coding) (drop (width_of c.args.coding) c.args.bytes.now) ≡ drop (width_of c.args.coding) c.args.bytes.now =
    take_all (width_of c.args.coding) _ (omega (arith, size, length-drop (width_of c.args.coding) c.args.bytes.now)) in
    let f = c.read-in-2.ensures ∙ ap (read_sample c.args.coding) (c.split_at.ensures.front ∙ ap (λ n. take n c.args.bytes.now) c.width.ensures.value) in
    let s = c.read-in-2-2.ensures ∙ ap (read_sample c.args.coding) (c.split_at.ensures.back ∙ ap (λ n. drop n c.args.bytes.now) c.width.ensures.value ∙ sym back) in
    c.two.ensures ∙ rw (first, second, f, s) refl ∙ ap (λ n. coded_samples c.args.coding n c.args.bytes.now) (sym c.in-2.is)
