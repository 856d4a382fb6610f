use Rattle.std.proofs.Common.{◌≡◌, ◌∙◌, ◌+◌, ◌%◌, ◌^◌, ap, take, length, arith}
use Rattle.soxchain_xxh64.specs.Xxh64.{xxh64, converged, take_remaining, avalanche, word_sum, remaining_bytes}
use Rattle.soxchain_xxh64.proofs.Updating.{converged_long, converged_short}
use Rattle.soxchain_xxh64.proofs.state.Xxh64.digest.Goals as goal
use Rattle.soxchain_xxh64.proofs.state.Xxh64.digest.Goals.{then-self, else-self}

pub returns : goal.returns
unfolding xxh64
returns c = λ bytes held.
    let state = c.args.self.now in
    let begins : c.if-self.converged ≡ converged bytes =
    elim c.if-self.branch [
      | then-self w ↦ w.converged-is ∙ w.converge-converged.ensures ∙ converged_long state bytes held w.if-self.true
      | else-self w ↦ w.converged-is ∙ converged_short state bytes held w.if-self.false
    ] in
    let start : (c.if-self.converged + state.length) % 2 ^ 64 ≡ word_sum (converged bytes) (length bytes) = omega (arith, begins, held.length_is) in
    let left : c.pending_size.result ≡ length bytes % 32 = omega (arith, c.pending_size.ensures, held.length_is) in
    let rest : take c.pending_size.result state.pending ≡ remaining_bytes bytes = ap (λ k. take k state.pending) left ∙ held.pending_are in
    c.avalanche.ensures ∙ ap avalanche (c.take_remaining.ensures ∙ ap (λ hash. take_remaining hash (take c.pending_size.result state.pending)) start
    ∙ ap (take_remaining (word_sum (converged bytes) (length bytes))) rest)
