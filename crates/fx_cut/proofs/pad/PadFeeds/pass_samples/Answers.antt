use Rattle.std.proofs.Common.{◌≡◌, ◌+◌, ◌∙◌, arith, sym}
use Rattle.std.proofs.lemmas.Bool.{eqb-true}
use Rattle.fx_frame_base.specs.declared.feed.Passing.TheVariants.{Through}
use Rattle.fx_frame_base.specs.Feed.{PassedOn}
use Rattle.fx_cut.specs.Pad.{pads_from_start, silent_at}
use Rattle.fx_cut.specs.PadState.{IsPad, pad_acts}
use Rattle.fx_cut.specs.declared.pad.Pad.TheView.{view}
use Rattle.fx_cut.proofs.PadMany.{AreClear, one-passed, determined-pad, passed}
use Rattle.fx_cut.proofs.PadSteps.{dry-pending}
use Rattle.fx_cut.proofs.pad.PadFeeds.pass_samples.Goals as goal
use Rattle.fx_cut.proofs.pad.PadFeeds.pass_samples.Goals.{Then-is_known, then-capacity-eq0, else-capacity-eq0}

-- a frame with no pad before it is given
passes : (c : Then-is_known) → let s = view c.self.inside in let t = passed s 1 in PassedOn pad_acts Through s t c.args.samples.now c.args.samples.now × IsPad t
passes c =
    let may = rw (← c.self.view_is) at c.requires in
    let nothing = dry-pending c.self.inside.core.pending c.self.inside.silent may.dry in
    let below = may.below_limit in
    let known : (c.self.inside.line.capacity ≡ 0) × (silent_at (pads_from_start c.self.inside.pads) c.self.inside.core.taken ≡ 0) =
    elim c.if-capacity-eq0.branch [
      | then-capacity-eq0 w ↦ (sym c.capacity.ensures.capacity ∙ w.if-capacity-eq0.true, (rw c.taken-place.ensures at w.is_clear-is_known.ensures) (sym w.is_known-is ∙ c.if-is_known.true))
      | else-capacity-eq0 w ↦ absurd (let none : c.capacity.result ≡ 0 = eqb-true c.capacity.result 0 (sym w.is_known-is ∙ c.if-is_known.true) in omega (arith, none, w.if-capacity-eq0.false))
    ] in
    let a : AreClear (view c.self.inside) 1 = record {
      is = c.self.invariant;
      short = known.0;
      empty = nothing.0;
      none = nothing.1;
      running = may.not_ended;
      clear_frames = λ i h. let at : c.self.inside.core.taken + i ≡ c.self.inside.core.taken = omega (arith, h) in rw at known.1;
      bound = omega (arith, below);
    } in
    one-passed (view c.self.inside) 0 c.args.samples.now a may.channels

pub invariant_of-self : goal.invariant_of-self
invariant_of-self c = rw c.pass.ensures (passes (goal.at.invariant_of-self c).Then-is_known).1

pub returns-then-is_known-clause-passed : goal.returns-then-is_known-clause-passed
returns-then-is_known-clause-passed c = rw (← c.self.view_is, c.pass.ensures) (passes (goal.at.returns-then-is_known-clause-passed c).Then-is_known).0

pub returns-then-is_known-clause-determined : goal.returns-then-is_known-clause-determined
returns-then-is_known-clause-determined c = λ none. determined-pad _ (invariant_of-self c) (rw c.pass.ensures (rw (← c.self.view_is) at c.requires.not_ended)) none
