use Rattle.std.proofs.Common.{refl, ◌≡◌, ◌++◌, ◌∷◌, [], map, string_bytes, sym, ap, ◌∙◌, arith, append_assoc}
use Rattle.std.proofs.lemmas.List.{map-append}
use Rattle.std.proofs.lemmas.List.Elements.{All-push}
use Rattle.std.proofs.lemmas.Grind.{common_steps}
use Rattle.std.proofs.lemmas.Result.{err_from_is_err_and}
use Rattle.fx_plan_words.specs.Faults.{word_texts}
use Rattle.fx_plan.specs.Groups.{effects_of}
use Rattle.fx_plan_effects.specs.Effects.{Usable, act}
use Rattle.fx_plan.specs.Plans.{acts_of, plan_bytes, effects_faults, last_layout}
use Rattle.fx_plan.proofs.Refusing.{acts_next, rest_unchanged-push, faults_next, fit-push, layout_next, refuses_all}
use Rattle.fx_plan.proofs.planned.read_effects.Goals as goal

pub returns-in_err-effect-clause-read : goal.returns-in_err-effect-clause-read
returns-in_err-effect-clause-read c =
    let l = c.loop-name in
    let words = string_bytes c.in-Some.name.now ∷ word_texts c.in-Some.arguments.now in
    let rest_unchanged = effects_of (word_texts c.in-Some.more.now) in
    let files = plan_bytes l.files.now in
    let whole = ap (effects_faults l.number l.layout files) (sym c.in-Some.ensures.effects) ∙ l.invariant.faults in
    let fault = err_from_is_err_and c.from_residual.result c.from_residual.ensures.1 in
    rw (fault.1, fault.2)
    (refuses_all c.in_err-effect.field-0.0 l.number l.layout files words rest_unchanged _ whole (rw c.first_file.ensures at c.in_err-effect.ensures.read))

pub loop-name-preserved : goal.loop-name-preserved
loop-name-preserved c =
    let l = c.loop-name in
    let words = string_bytes c.in-Some.name.now ∷ word_texts c.in-Some.arguments.now in
    let rest_unchanged = effects_of (word_texts c.in-Some.more.now) in
    let files = plan_bytes l.files.now in
    let left = plan_bytes c.files_after_effects-files.result.now in
    let next = c.layout_after-layout.result in
    let did = act c.in_ok-effect.effect in
    let read = rw c.first_file.ensures at c.in_ok-effect.ensures.read in
    let cut = sym c.in-Some.ensures.effects in
    let layout_is = c.layout_after-layout.ensures in
    let left_is = c.files_after_effects-files.ensures in
    let grown : c.push.new.self.items ≡ l.effects.items ++ c.in_ok-effect.effect ∷ [] = grind (arith, common_steps) in
    record {
      faults = sym (faults_next l.number l.layout next files left words rest_unchanged did read.0 read.1 layout_is left_is) ∙ ap (effects_faults l.number l.layout files) cut ∙ l.invariant.faults;
      values =
          ap (λ es. map act es ++ acts_of next left rest_unchanged) grown
          ∙ ap (λ es. es ++ acts_of next left rest_unchanged) (map-append act l.effects.items (c.in_ok-effect.effect ∷ []))
          ∙ append_assoc (map act l.effects.items) (did ∷ []) (acts_of next left rest_unchanged)
          ∙ ap (λ es. map act l.effects.items ++ es) (sym (acts_next l.layout next files left words rest_unchanged did read.1 layout_is left_is) ∙ ap (acts_of l.layout files) cut)
          ∙ l.invariant.values;
      last = sym (layout_next l.layout next files left words rest_unchanged did read.1 layout_is left_is) ∙ ap (last_layout l.layout files) cut ∙ l.invariant.last;
      usable =
          let all = All-push Usable (map act l.effects.items) did l.invariant.usable c.in_ok-effect.ensures.usable in
          rw (grown, map-append) all;
      fit =
          let here = rw (sym l.invariant.rest_unchanged) at c.in_ok-effect.ensures.place in
          rw (grown, map-append) (fit-push c.args.layout (map act l.effects.items) did l.invariant.fit here);
      rest_unchanged =
          let pushed = rest_unchanged-push c.args.layout (map act l.effects.items) did in
          rw (grown, map-append, pushed, l.invariant.rest_unchanged, layout_is) refl;
      layout = rw layout_is c.in_ok-effect.ensures.after;
      counted = omega (arith, c.in_ok-effect.ensures.bound);
      kept = grind (arith, common_steps);
    }
