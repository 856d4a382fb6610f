use Rattle.std.proofs.Common.{◌≡◌, ◌<◌, ◌++◌, ◌∷◌, [], ℕ, ℤ, length, rules, to_z, of_z, w32, ap, sym, ◌∙◌, zero-add, ◌+◌, slice_index}
use Rattle.std.proofs.lemmas.List.{take_more_set}
use Rattle.fx_frame_base.specs.Lists.{tabulate}
use Rattle.fx_frame_base.proofs.Tabulate.{tabulate-append}
use Rattle.fx_tap_delays.specs.Tapping.{history_after}
use Rattle.fx_tap_delays.proofs.delay.delayed_into.Goals as goal

pub channels-preserved : goal.channels-preserved
channels-preserved c =
    let i : ℕ = c.channels.channel in
    let F : ℕ → ℤ = λ k. history_after c.args.line.now.items c.args.frame.now (slice_index c.args.delays.now k) k in
    let w : to_z w32 (of_z w32 c.sample.result) ≡ c.sample.result = search rules in
    let e : to_z w32 (of_z w32 c.sample.result) ≡ F i = w ∙ c.sample.ensures in
    let inside : i < length c.channels.out = search rules in
    let more : tabulate F 0 (i + 1) ≡ tabulate F 0 i ++ F i ∷ [] = rw zero-add at (tabulate-append F 0 i 1) in
    take_more_set c.channels.out i (to_z w32 (of_z w32 c.sample.result)) inside ∙ ap (λ l. l ++ to_z w32 (of_z w32 c.sample.result) ∷ []) c.channels.invariant ∙ ap (λ z. tabulate F 0 i ++ z ∷ []) e ∙ sym more
