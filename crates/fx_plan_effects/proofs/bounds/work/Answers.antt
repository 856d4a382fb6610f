use Rattle.std.proofs.Common.{◌≡◌, ◌+◌, ◌^◌, ◌≤◌, ◌∷◌, map, sym, ap, ◌∙◌, arith, add_assoc, false}
use Rattle.std.specs.List.{list_any}
use Rattle.std.proofs.lemmas.List.Elements.{All-tail}
use Rattle.fx_plan_effects.specs.Effects.{Usable, act}
use Rattle.fx_plan_effects.specs.Meanings.{max_of_act}
use Rattle.fx_plan_effects.specs.Bounds.{is_beyond_limit, maxima, work_of}
use Rattle.fx_plan_effects.proofs.Lasting.{within-here, within-next, work-cons}
use Rattle.fx_plan_effects.proofs.bounds.work.Goals as goal

pub loop-effect-preserved : goal.loop-effect-preserved
loop-effect-preserved c =
    let a = act c.in-Some.effect.now in
    let acts = map act c.in-Some.more.now in
    let l = c.loop-effect in
    let cut = c.in-Some.ensures.cases.0 in
    let short : list_any is_beyond_limit (maxima (a ∷ acts) l.frames) ≡ false = sym (ap (λ es. list_any is_beyond_limit (maxima (map act es) l.frames)) cut) ∙ l.invariant.short in
    let rest_unchanged = within-next a acts l.frames short in
    let here : l.frames ≤ 2 ^ 56 = within-here (a ∷ acts) l.frames short in
    let next : max_of_act a l.frames ≤ 2 ^ 56 = within-here acts (max_of_act a l.frames) rest_unchanged in
    let same : c.max_frames-frames.result ≡ max_of_act a l.frames = omega (arith, c.max_frames-frames.ensures) in
    let fewer = c.in-Some.ensures.cases.1 in
    record {
      value =
          ap (λ n. l.total + l.frames + work_of acts n) same
          ∙ add_assoc l.total l.frames (work_of acts (max_of_act a l.frames))
          ∙ sym (ap (λ n. l.total + n) (work-cons a acts l.frames))
          ∙ sym (ap (λ es. l.total + work_of (map act es) l.frames) cut)
          ∙ l.invariant.value;
      usable = All-tail Usable a acts (rw cut at l.invariant.usable);
      short = ap (λ n. list_any is_beyond_limit (maxima acts n)) same ∙ rest_unchanged;
      bound = omega (arith, fewer, here, l.invariant.bound);
    }
