use Rattle.std.proofs.KnownBytes.{Appends-trans}
use Rattle.soxchain_plan.proofs.ShownLemmas.{outline_json-parts}
use Rattle.soxchain_plan.proofs.Writing.{appends_then}
use Rattle.soxchain_plan.proofs.outline.Outline.show_json.Goals as goal

pub returns : goal.returns
returns g c =
    let input = Appends-trans _ _ _ _ _ c.in_ok-write.ensures.bytes c.in_ok-show_json.ensures in
    let effects = Appends-trans _ _ _ _ _ (Appends-trans _ _ _ _ _ input c.in_ok-write-2.ensures.bytes) (rw c.deref.ensures.value at c.in_ok-show_json_effects.ensures) in
    let output = Appends-trans _ _ _ _ _ (Appends-trans _ _ _ _ _ effects c.in_ok-write-3.ensures.bytes) c.in_ok-show_json-2.ensures in
    let emptiness = Appends-trans _ _ _ _ _ (Appends-trans _ _ _ _ _ output c.in_ok-write-4.ensures.bytes) c.in_ok-show_json_emptiness.ensures in
    let size = Appends-trans _ _ _ _ _ (Appends-trans _ _ _ _ _ emptiness c.in_ok-write-5.ensures.bytes) c.in_ok-show_json_size.ensures in
    let beyond = Appends-trans _ _ _ _ _ (Appends-trans _ _ _ _ _ size c.in_ok-write-6.ensures.bytes) c.in_ok-show_json_beyond.ensures in
    appends_then _ _ _ _ _ _ _ (outline_json-parts c.args.self.now) beyond c.writeln.ensures.bytes
