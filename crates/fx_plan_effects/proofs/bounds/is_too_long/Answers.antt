use Rattle.std.proofs.Common.{◌≡◌, ◌^◌, ◌<◌, map, sym, ap, ◌∙◌, arith}
use Rattle.std.specs.List.{list_any}
use Rattle.std.proofs.lemmas.List.Elements.{All-tail}
use Rattle.fx_plan_effects.specs.Effects.{Usable, act}
use Rattle.fx_plan_effects.specs.Meanings.{max_of_act}
use Rattle.fx_plan_effects.specs.Bounds.{is_beyond_limit, maxima}
use Rattle.fx_plan_effects.proofs.Lasting.{maxima-beyond, maxima-step}
use Rattle.fx_plan_effects.proofs.bounds.is_too_long.Goals as goal

pub returns-then-frames-gt-MAX_LENGTH : goal.returns-then-frames-gt-MAX_LENGTH
returns-then-frames-gt-MAX_LENGTH c =
    let a = act c.in-Some.effect.now in
    let acts = map act c.in-Some.more.now in
    let frames = c.loop-effect.frames in
    let beyond : 2 ^ 56 < max_of_act a frames = omega (arith, c.max_frames-frames.ensures, c.if-frames-gt-MAX_LENGTH.true) in
    sym (maxima-beyond acts (max_of_act a frames) beyond)
    ∙ sym (maxima-step a acts frames c.loop-effect.invariant.bound)
    ∙ sym (ap (λ es. list_any is_beyond_limit (maxima (map act es) frames)) c.in-Some.ensures.cases.0)
    ∙ c.loop-effect.invariant.value

pub loop-effect-preserved : goal.loop-effect-preserved
loop-effect-preserved c =
    let a = act c.in-Some.effect.now in
    let acts = map act c.in-Some.more.now in
    let frames = c.loop-effect.frames in
    let same : c.max_frames-frames.result ≡ max_of_act a frames = omega (arith, c.max_frames-frames.ensures, c.if-frames-gt-MAX_LENGTH.false) in
    record {
      value =
          ap (λ n. list_any is_beyond_limit (maxima acts n)) same
          ∙ sym (maxima-step a acts frames c.loop-effect.invariant.bound)
          ∙ sym (ap (λ es. list_any is_beyond_limit (maxima (map act es) frames)) c.in-Some.ensures.cases.0)
          ∙ c.loop-effect.invariant.value;
      bound = omega (arith, c.if-frames-gt-MAX_LENGTH.false);
      usable = All-tail Usable a acts (rw c.in-Some.ensures.cases.0 at c.loop-effect.invariant.usable);
    }
