use Rattle.std.proofs.Common.{◌<◌, length, arith}
use Rattle.std.proofs.lemmas.Str.{IsCharBoundary-after_ascii}
use Rattle.fx_tap_pointwise.proofs.remix.words.in_spec.read_vol_spec.Goals as goal

pub range_from-requires : goal.range_from-requires
range_from-requires c =
    let within : c.args.place < length c.args.text.now = omega arith in
    λ _. IsCharBoundary-after_ascii c.args.text.now c.args.place c.utf8.text within (c.requires.ascii within)
