use Rattle.std.proofs.Common.{sym, ◌∙◌, ap}
use Rattle.fx_plan.specs.Line.{texts}
use Rattle.fx_plan.proofs.Fronts.{after_dither, after_kind, after_bits}
use Rattle.fx_plan.proofs.line.read_front.Goals as goal

pub loop-word-preserved-in-NoDither : goal.loop-word-preserved-in-NoDither
loop-word-preserved-in-NoDither c =
    after_dither _ _ _ _ _ _ c.in-NoDither.ensures c.deref.ensures (ap texts c.in-Some.ensures.cases.0) ∙ c.loop-word.invariant

pub loop-word-preserved-in-Typed : goal.loop-word-preserved-in-Typed
loop-word-preserved-in-Typed c =
    after_kind _ _ _ _ _ _ _ _ _ _ c.in-Typed.ensures c.deref.ensures (ap texts c.in-Some.ensures.cases.0) c.in-Some-read_kind.ensures c.deref-in-Typed.ensures c.in_ok-value-in-Typed.ensures ∙ c.loop-word.invariant

pub loop-word-preserved : goal.loop-word-preserved
loop-word-preserved c =
    after_bits _ _ _ _ _ _ _ _ _ _ (sym c.if-not-takes_bits.false) c.in-Depth.ensures c.deref.ensures (ap texts c.in-Some.ensures.cases.0) c.in-Some-read_bits.ensures c.deref-in-Depth.ensures c.in_ok-value-in-Depth.ensures ∙ c.loop-word.invariant
