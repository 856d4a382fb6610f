use Rattle.std.proofs.Common.{arith, ◌≡◌, ◌+◌, length, slice_index_or}
use Rattle.std.proofs.lemmas.List.{length-append, get_or-append-add}
use Rattle.fx_tap_sums.proofs.transforms.transform.are_parts.Goals as goal

pub returns-clause-back : goal.returns-clause-back
returns-clause-back g c = λ i lt.
    let xs = c.args.front.now in
    let ys = c.args.back.now in
    let all : slice_index_or c.args.whole.now (length xs + i) 0 ≡ slice_index_or ys i 0 = rw c.requires.both (get_or-append-add xs ys i 0) in
    let size = length-append xs ys in
    let whole : length c.args.whole.now ≡ length xs + length ys = rw c.requires.both size in
    rw (← all) (c.requires.whole (length xs + i) (omega (arith, lt, whole)))
