-- The stage at a place.
use Rattle.std.proofs.Common.{ℕ, zero, suc, ◌<◌, ◌≡◌, List, [], ◌∷◌, get_or, length, set, refl, ap, ◌∙◌, arith}
use Rattle.fx_chain_flow.specs.StageCall.{At, ChangedAt}

module _ {S : Type 0} (IsSo : S → Type 0) where
  pub At-inside : (i : ℕ) (stages : List S) → At IsSo i stages → i < length stages
  At-inside zero (s ∷ stages) at = omega arith
  At-inside (suc i) (s ∷ stages) at = let h = At-inside i stages at in omega arith
  At-inside zero [] at = absurd at
  At-inside (suc i) [] at = absurd at

  pub At-get : (i : ℕ) (stages : List S) (d : S) → At IsSo i stages → IsSo (get_or stages i d)
  At-get zero (s ∷ stages) d at = at
  At-get (suc i) (s ∷ stages) d at = At-get i stages d at
  At-get zero [] d at = absurd at
  At-get (suc i) [] d at = absurd at

  pub At-from : (i : ℕ) (stages : List S) → i < length stages → ((d : S) → IsSo (get_or stages i d)) → At IsSo i stages
  At-from i [] h is = absurd (omega arith)
  At-from zero (s ∷ stages) h is = is s
  At-from (suc i) (s ∷ stages) h is = At-from i stages (omega arith) is

  -- the same, of one stage in place of any where there is none
  pub At-got : (i : ℕ) (stages : List S) (d : S) → i < length stages → IsSo (get_or stages i d) → At IsSo i stages
  At-got i [] d h is = absurd (omega arith)
  At-got zero (s ∷ stages) d h is = is
  At-got (suc i) (s ∷ stages) d h is = At-got i stages d (omega arith) is

module _ {S : Type 0} (Changed : S → S → Type 0) where
  pub ChangedAt-set : (i : ℕ) (stages : List S) (s' d : S) → i < length stages → Changed (get_or stages i d) s' → ChangedAt Changed i stages (set stages i s')
  ChangedAt-set i [] s' d h changed = absurd (omega arith)
  ChangedAt-set zero (s ∷ stages) s' d h changed = (changed, refl)
  ChangedAt-set (suc i) (s ∷ stages) s' d h changed = (refl, ChangedAt-set i stages s' d (omega arith) changed)

  -- the stage at the place was put back
  pub record Placed (i : ℕ) (old new : List S) : Type 0 where
    pub before : S
    pub after : S
    pub inside : i < length old
    pub put : new ≡ set old i after
    pub changed : Changed (get_or old i before) after

  pub ChangedAt-placed : (i : ℕ) (old new : List S) → ChangedAt Changed i old new → Placed i old new
  ChangedAt-placed zero (s ∷ stages) (s' ∷ stages') c = record { before = s; after = s'; inside = omega arith; put = ap (λ l. s' ∷ l) c.1; changed = c.0 }
  ChangedAt-placed (suc i) (s ∷ stages) (s' ∷ stages') c =
      let p = ChangedAt-placed i stages stages' c.1 in
      record { before = p.before; after = p.after; inside = let h = p.inside in omega arith; put = ap (λ l. s' ∷ l) p.put ∙ ap (λ x. x ∷ set stages i p.after) c.0; changed = p.changed }
  ChangedAt-placed zero [] new c = absurd c
  ChangedAt-placed (suc i) [] new c = absurd c
  ChangedAt-placed zero (s ∷ stages) [] c = absurd c
  ChangedAt-placed (suc i) (s ∷ stages) [] c = absurd c
