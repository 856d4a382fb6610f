use Rattle.std.proofs.Common.{rules, ℤ, pos, List, ap, ◌≡◌, [], ◌∷◌, get_or, sym, ◌∙◌, FitsSigned, slice_set, to_z, of_z, to_z-of_z}
use Rattle.std.specs.Int.{w32}
use Rattle.std.specs.List.{All}
use Rattle.std.proofs.lemmas.List.Elements.{All-nil, All-cons}
use Rattle.fx_frame.proofs.Lines.{two-samples, All-pushed}
use Rattle.fx_frame.proofs.line.LineOf+i32.push_over.Goals as goal

pub invariant_of-self-in-2 : goal.invariant_of-self-in-2
invariant_of-self-in-2 c =
    let xs : List ℤ = c.args.samples.now in
    let first : FitsSigned w32 (get_or xs 0 (pos 0)) = search rules in
    let second : FitsSigned w32 (get_or xs 1 (pos 0)) = search rules in
    let none : List ℤ = [] in
    let both : All (FitsSigned w32) (get_or xs 0 (pos 0) ∷ get_or xs 1 (pos 0) ∷ []) = All-cons (FitsSigned w32) (get_or xs 0 (pos 0)) (get_or xs 1 (pos 0) ∷ []) first (All-cons (FitsSigned w32) (get_or xs 1 (pos 0)) none second (All-nil (FitsSigned w32))) in
    All-pushed (All (FitsSigned w32)) c.self.inside.ring (get_or xs 0 (pos 0) ∷ get_or xs 1 (pos 0) ∷ []) _ c.self.invariant both (rw (to_z-of_z first, to_z-of_z second) at c.push_two.ensures.items)

pub returns-in-Some-push_two-clause-items : goal.returns-in-Some-push_two-clause-items
returns-in-Some-push_two-clause-items c =
    let xs : List ℤ = c.args.samples.now in
    let first : to_z w32 (of_z w32 (get_or xs 0 (pos 0))) ≡ get_or xs 0 (pos 0) = search rules in
    let second : to_z w32 (of_z w32 (get_or xs 1 (pos 0))) ≡ get_or xs 1 (pos 0) = search rules in
    let whole = two-samples xs (pos 0) (c.requires ∙ ap (λ v. v.channels) (sym c.self.view_is) ∙ sym c.channels.ensures.channels ∙ c.in-2.is) in
    let items = rw (first, second, ← whole) at c.push_two.ensures.items in
    rw (← c.self.view_is) items

pub returns-in-Some-push_two-clause-oldest : goal.returns-in-Some-push_two-clause-oldest
returns-in-Some-push_two-clause-oldest c =
    let xs : List ℤ = c.args.samples.now in
    let a : ℤ = c.in-Some-push_two.first in
    let b : ℤ = c.in-Some-push_two.second in
    let first : to_z w32 (of_z w32 (get_or xs 0 (pos 0))) ≡ get_or xs 0 (pos 0) = search rules in
    let second : to_z w32 (of_z w32 (get_or xs 1 (pos 0))) ≡ get_or xs 1 (pos 0) = search rules in
    let out-one : to_z w32 (of_z w32 a) ≡ a = search rules in
    let out-two : to_z w32 (of_z w32 b) ≡ b = search rules in
    let whole = two-samples xs (pos 0) (c.requires ∙ ap (λ v. v.channels) (sym c.self.view_is) ∙ sym c.channels.ensures.channels ∙ c.in-2.is) in
    let gone = rw (c.in-Some-push_two.is, first, second, ← whole) at c.push_two.ensures.oldest in
    let written : slice_set (slice_set xs 0 a) 1 b ≡ a ∷ b ∷ [] = ap (λ l. slice_set (slice_set l 0 a) 1 b) whole in
    rw (← c.self.view_is, out-one, out-two, written) (sym gone)
