use Rattle.std.proofs.KnownBytes.{Appends-trans}
use Rattle.soxchain_plan.proofs.ShownLemmas.{stop_json-parts}
use Rattle.soxchain_plan.proofs.Writing.{appends_then}
use Rattle.soxchain_plan.proofs.quoting.show_stop.Goals as goal

pub returns : goal.returns
returns g c =
    appends_then _ _ _ _ _ _ _ (stop_json-parts c.args.status c.args.message.now c.args.advice.now)
    (Appends-trans _ _ _ _ _ (Appends-trans _ _ _ _ _ (Appends-trans _ _ _ _ _ c.in_ok-write.ensures.bytes c.in_ok-show_string.ensures) c.in_ok-write-2.ensures.bytes) c.in_ok-show_string-2.ensures)
    c.writeln.ensures.bytes
