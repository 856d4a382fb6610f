use Rattle.std.proofs.Common.{refl, arith}
use Rattle.fx_chain_flow.proofs.Laws.{Joined-AllNew, AllNew-dry, given_by-new}
use Rattle.fx_chain_flow.proofs.Moving.{through-AllNew, wholes-AllNew}
use Rattle.fx_chain_flow.proofs.Orders.{AllHeld-new}
use Rattle.fx_chain_flow.proofs.flow.Flow.new.Goals as goal

pub invariant_of-result : goal.invariant_of-result
invariant_of-result g c = (
  record {
    planned = c.requires.planned;
    joined = Joined-AllNew g.S.Stage.acts _ c.requires.new;
    bound = omega arith;
    inlet = λ x e. absurd (cc);
    closed = λ e. refl;
  },
  rw c.deref.ensures.value at c.wet_end-wet.ensures.wet,
  AllHeld-new g.S.Stage.acts _ c.requires.new,
  rw c.deref.ensures.value at c.wet_end-wet.ensures.lined,
)

pub returns-clause-hungry : goal.returns-clause-hungry
returns-clause-hungry g c = record { empty = refl; not_ended = refl; dry = AllNew-dry g.S.Stage.acts _ c.requires.new }

pub returns-clause-rest : goal.returns-clause-rest
returns-clause-rest g c = λ z. through-AllNew g.S.Stage.acts _ c.requires.new z

pub returns-clause-whole : goal.returns-clause-whole
returns-clause-whole g c = λ z. wholes-AllNew g.S.Stage.acts _ c.requires.new z

pub returns-clause-none_given : goal.returns-clause-none_given
returns-clause-none_given g c = given_by-new g.S.Stage.acts _ c.requires.new
