use Rattle.std.proofs.Common.{rules, ◌≡◌, ◌∙◌, ◌∷◌, [], length, ap, arith, get_or, pos, to_z, of_z, w32}
use Rattle.std.proofs.lemmas.List.{take_all}
use Rattle.fx_frame_line.specs.Line.{pushed}
use Rattle.fx_frame.proofs.TapBlocks.{one-sample, two-samples}
use Rattle.fx_tap_delays.proofs.Groups.{same-line}
use Rattle.fx_tap_delays.proofs.tapped.push_samples.Goals as goal
use Rattle.fx_tap_delays.proofs.tapped.push_samples.Goals.{in-1, in-2, in_default}

pub returns : goal.returns
returns c =
    let xs = c.args.samples.now in
    let same : c.match-samples.frame ≡ xs = elim c.match-samples.branch [
      | in-1 w ↦
          let bound : length xs ≡ 1 = search rules in
          let first : to_z w32 (of_z w32 (get_or xs 0 (pos 0))) ≡ get_or xs 0 (pos 0) = search (rules, bound) in
          w.frame-is ∙ w.one-frame.ensures ∙ ap (λ y. y ∷ []) first ∙ one-sample xs bound
      | in-2 w ↦
          let bound : length xs ≡ 2 = search rules in
          let first : to_z w32 (of_z w32 (get_or xs 0 (pos 0))) ≡ get_or xs 0 (pos 0) = search (rules, bound) in
          let second : to_z w32 (of_z w32 (get_or xs 1 (pos 0))) ≡ get_or xs 1 (pos 0) = search (rules, bound) in
          w.frame-is ∙ w.two-frame.ensures ∙ ap (λ y. y ∷ to_z w32 (of_z w32 (get_or xs 1 (pos 0))) ∷ []) first ∙ ap (λ y. get_or xs 0 (pos 0) ∷ y ∷ []) second ∙ two-samples xs bound
      | in_default w ↦ w.frame-is ∙ w.frame_at-frame.ensures.frame ∙ take_all _ xs (omega arith)
    ] in
    same-line c.push.new.self c.args.line.now _ (c.push.ensures.items ∙ ap (pushed c.args.line.now) same) c.push.ensures.capacity c.push.ensures.channels
