use Rattle.std.proofs.Common.{◌≡◌, rules, sym, to_z, of_z}
use Rattle.std.specs.Int.{w32}
use Rattle.fx_tap_fir.proofs.FirLaws.{window-filled}
use Rattle.fx_tap_fir.proofs.fir.fill_window.Goals as goal

pub returns : goal.returns
returns c =
    let back : to_z w32 (of_z w32 c.get.result) ≡ c.get.result = search rules in
    rw (back, c.channel_into.ensures, c.len-held.ensures.count)
    (window-filled c.args.line.now.items c.args.latest.now c.args.window.now c.args.channel c.in-Some.frame.now c.get.result c.requires.latest (sym c.in-Some.ensures.value) c.requires.len c.get.ensures)
