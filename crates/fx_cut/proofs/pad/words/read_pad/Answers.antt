use Rattle.std.proofs.Common.{◌≡◌, ◌≤◌, length, arith, string_bytes}
use Rattle.std.proofs.lemmas.List.{length-map}
use Rattle.fx_plan_words.specs.Faults.{word_texts}
use Rattle.fx_cut.proofs.PadWords.{pads_fit}
use Rattle.fx_cut.proofs.pad.words.read_pad.Goals as goal

pub returns-clause-fit : goal.returns-clause-fit
returns-clause-fit c =
    let words = word_texts c.args.words.now in
    let count : length words ≡ length c.args.words.now = length-map c.args.words.now string_bytes in
    let bound : length words ≤ 64 = omega (arith, count) in
    let order = rw c.deref.ensures at c.in_ok-check_order.ensures.0 in
    pads_fit c.args.rate words c.in_ok-pads.pads.items c.in_ok-pads.ensures.read.1 order bound
