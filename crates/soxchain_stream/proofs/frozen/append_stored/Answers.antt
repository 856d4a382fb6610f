use Rattle.std.proofs.Common.{◌≡◌, ◌<◌, ℕ, List, [], ◌∷◌, get_or, length, rules, subst, take}
use Rattle.std.proofs.lemmas.List.{take_more}
use Rattle.fx_frame_base.specs.Frame.{Samples}
use Rattle.soxchain_stream.specs.Appended.{AppendsFrames}
use Rattle.soxchain_stream.proofs.Appending.{frames-then}
use Rattle.soxchain_stream.proofs.frozen.append_stored.Goals as goal

pub places-preserved : goal.places-preserved
places-preserved g c =
    let stored : List Samples = g.S.Stage.acts.stored c.args.stage.now in
    let place : ℕ = c.places.place in
    let old : List ℕ = c.places.bytes.items in
    let new : List ℕ = c.append_frame.new.bytes.items in
    let inside : place < length stored = search rules in
    let is : c.stored.result ≡ get_or stored place [] = c.stored.ensures in
    let last : AppendsFrames old new (get_or stored place [] ∷ []) = subst (λ (f : Samples). AppendsFrames old new (f ∷ [])) is c.in_ok-append_frame.ensures in
    rw (take_more stored place [] inside) (frames-then c.args.bytes.now.items old new (take place stored) (get_or stored place [] ∷ []) c.places.invariant last)
