use Rattle.std.proofs.Common.{◌≡◌, ◌∙◌, ◌<◌, ◌≤◌, ◌-◌, ◌∷◌, ℕ, List, ap, sym, subst, arith, drop, drop-cons, get_or, length, take}
use Rattle.std.proofs.lemmas.List.{length-drop, take_all}
use Rattle.soxchain_job.specs.Checkpoint.{IsReadFrom}
use Rattle.soxchain_job.proofs.checkpoint.decode.Goals as goal

pub returns-in-0-clause-in_progress : goal.returns-in-0-clause-in_progress
returns-in-0-clause-in_progress c = λ taken written frozen taken_fits written_fits says.
    let bytes : List ℕ = c.args.bytes.now in
    let left : ℕ = length bytes - 1 in
    let short : length (drop 1 bytes) ≤ left = omega (arith, length-drop 1 bytes) in
    c.decode_progress.ensures.found taken written frozen taken_fits written_fits (take_all left (drop 1 bytes) short ∙ ap (drop 1) says)

pub returns-in-0-clause-exact : goal.returns-in-0-clause-exact
returns-in-0-clause-exact c =
    let bytes : List ℕ = c.args.bytes.now in
    let left : ℕ = length bytes - 1 in
    let short : length (drop 1 bytes) ≤ left = omega (arith, length-drop 1 bytes) in
    let some : 0 < length bytes = omega arith in
    let first : get_or bytes 0 0 ≡ 0 = omega arith in
    let whole : 0 ∷ take left (drop 1 bytes) ≡ bytes = ap (λ (l : List ℕ). 0 ∷ l) (take_all left (drop 1 bytes) short) ∙ ap (λ (n : ℕ). n ∷ drop 1 bytes) (sym first) ∙ sym (drop-cons bytes 0 0 some) in
    subst (λ (l : List ℕ). IsReadFrom l c.decode_progress.result) whole c.decode_progress.ensures.exact
