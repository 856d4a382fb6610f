use Rattle.std.proofs.Common.{ℕ, zero, suc, ◌+◌, ◌*◌, ◌<◌, ◌≡◌, List, [], ◌∷◌, ◌++◌, length, take, drop, refl, sym, ap, ◌∙◌, arith, append_assoc, slice_index_or, option_to_list}
use Rattle.std.proofs.lemmas.List.{append-nil, take_more, length-append}
use Rattle.std.proofs.Math.Seq.{take-append_seam, drop-append_seam}
use Rattle.fx_frame_base.specs.Frame.{Samples}
use Rattle.fx_frame_base.specs.Stage.{Acts, Freezes, numbers_of}
use Rattle.fx_frame_base.specs.Holds.{held_sum}
use Rattle.fx_chain_flow.specs.Parts.{Parts}
use Rattle.fx_chain_flow.specs.Sound.{IsSound}
use Rattle.fx_chain_flow.specs.Inlets.{IsInlet}
use Rattle.fx_chain_flow.specs.Frozen.{inlet_numbers, FreezesFlow, stored_all, numbers_all, AllMade, AllSound}
use Rattle.fx_chain_flow.specs.Thawing.{Thawing}

-- whichever stages these frames and numbers came from, the first of them were made, and the others come
abbrev pub ThawsOn : {A S R : Type 0} → Acts S R → (S → Type 0) → (A → S → Type 0) → List A → List Samples → List ℕ → List S → List A → List Samples → List ℕ → Type 0
ThawsOn {A} {S} acts sound made arguments frames numbers out coming later rest =
    (stages : List S) → AllSound sound stages → AllMade made arguments stages → frames ≡ stored_all acts stages → numbers ≡ numbers_all acts stages → Thawing acts sound made out coming later rest stages

-- the next of those left
pub drop-next : {X : Type 0} (xs : List X) (k : ℕ) (d : X) → k < length xs → drop k xs ≡ slice_index_or xs k d ∷ drop (k + 1) xs
drop-next [] k d h = absurd (omega arith)
drop-next (x ∷ xs) zero d h = refl
drop-next (x ∷ xs) (suc k) d h =
    let e : suc k + 1 ≡ suc (k + 1) = omega arith in
    rw e (drop-next xs k d (omega arith))

-- one more stage was made
pub AllMade-push : {A S : Type 0} (made : A → S → Type 0) (arguments : List A) (stages : List S) (a : A) (s : S) → AllMade made arguments stages → made a s → AllMade made (arguments ++ a ∷ []) (stages ++ s ∷ [])
AllMade-push made [] [] a s h m = (m, tt)
AllMade-push made (b ∷ arguments) (t ∷ stages) a s h m = (h.0, AllMade-push made arguments stages a s h.1 m)
AllMade-push made [] (t ∷ stages) a s h m = absurd h
AllMade-push made (b ∷ arguments) [] a s h m = absurd h

module _ {S R : Type 0} (acts : Acts S R) where
  pub stored-push : (stages : List S) (s : S) → stored_all acts (stages ++ s ∷ []) ≡ stored_all acts stages ++ acts.stored s
  stored-push [] s = append-nil (acts.stored s)
  stored-push (t ∷ stages) s = ap (λ l. acts.stored t ++ l) (stored-push stages s) ∙ sym (append_assoc (acts.stored t) (stored_all acts stages) (acts.stored s))

  pub numbers-push : (stages : List S) (s : S) → numbers_all acts (stages ++ s ∷ []) ≡ numbers_all acts stages ++ numbers_of acts s
  numbers-push [] s = append-nil (numbers_of acts s)
  numbers-push (t ∷ stages) s = ap (λ l. numbers_of acts t ++ l) (numbers-push stages s) ∙ sym (append_assoc (numbers_of acts t) (numbers_all acts stages) (numbers_of acts s))

  pub stored-more : (out : List S) (stage : S) (frames later mine others : List Samples) → frames ≡ stored_all acts out ++ later → later ≡ mine ++ others → mine ≡ acts.stored stage → frames ≡ stored_all acts (out ++ stage ∷ []) ++ others
  stored-more out stage frames later mine others e f h =
      e ∙ ap (λ l. stored_all acts out ++ l) (f ∙ ap (λ m. m ++ others) h) ∙ sym (append_assoc (stored_all acts out) (acts.stored stage) others) ∙ ap (λ l. l ++ others) (sym (stored-push out stage))

  pub numbers-more : (out : List S) (stage : S) (numbers rest state_counters after : List ℕ) → numbers ≡ numbers_all acts out ++ rest → rest ≡ state_counters ++ after → state_counters ≡ numbers_of acts stage → numbers ≡ numbers_all acts (out ++ stage ∷ []) ++ after
  numbers-more out stage numbers rest state_counters after e f h =
      e ∙ ap (λ l. numbers_all acts out ++ l) (f ∙ ap (λ m. m ++ after) h) ∙ sym (append_assoc (numbers_all acts out) (numbers_of acts stage) after) ∙ ap (λ l. l ++ after) (sym (numbers-push out stage))

-- one more stage was made of the arguments so far
pub AllMade-more : {A S : Type 0} (made : A → S → Type 0) (arguments : List A) (k : ℕ) (out : List S) (a d : A) (s : S) → k < length arguments → slice_index_or arguments k d ≡ a → AllMade made (take k arguments) out → made a s → AllMade made (take (k + 1) arguments) (out ++ s ∷ [])
AllMade-more made arguments k out a d s some is h m = rw (take_more arguments k d some, is) (AllMade-push made (take k arguments) out a s h m)

module _ {A S R : Type 0} (acts : Acts S R) (sound : S → Type 0) (made : A → S → Type 0) (out : List S) (a : A) (coming : List A) (later mine others : List Samples) (rest state_counters after : List ℕ) (stage : S)
    (state_counters-is : state_counters ≡ take 8 rest) (after-is : after ≡ drop 8 rest)
    (mine-is : mine ≡ take (slice_index_or state_counters 4 0) later) (others-is : others ≡ drop (slice_index_or state_counters 4 0) later)
    (thawed : (s : S) → sound s → made a s → Freezes acts s mine state_counters → stage ≡ s)
  where
    one-more : (stages left : List S) → out ++ left ≡ stages → AllSound sound left → AllMade made (a ∷ coming) left → later ≡ stored_all acts left → rest ≡ numbers_all acts left → Thawing acts sound made (out ++ stage ∷ []) coming others after stages
    one-more stages [] e k m f n = absurd m
    one-more stages (s ∷ left) e k m f n =
        let state_counters-s : state_counters ≡ numbers_of acts s = rw n at state_counters-is in
        let mine-s : mine ≡ acts.stored s = rw (mine-is, state_counters-s, f) (take-append_seam (acts.stored s) (stored_all acts left)) in
        let others-s : others ≡ stored_all acts left = rw (others-is, state_counters-s, f) (drop-append_seam (acts.stored s) (stored_all acts left)) in
        let after-s : after ≡ numbers_all acts left = rw n at after-is in
        let same : stage ≡ s = thawed s k.0 m.0 (record { stored = mine-s; counted = state_counters-s }) in
        let whole : (out ++ stage ∷ []) ++ left ≡ stages = append_assoc out (stage ∷ []) left ∙ ap (λ x. out ++ x ∷ left) same ∙ e in
        (left, whole, k.1, m.1, others-s, after-s)

    -- one more stage is made
    pub ThawsOn-step : (arguments : List A) (frames : List Samples) (numbers : List ℕ) → ThawsOn acts sound made arguments frames numbers out (a ∷ coming) later rest → ThawsOn acts sound made arguments frames numbers (out ++ stage ∷ []) coming others after
    ThawsOn-step arguments frames numbers h = λ stages k m f n. let t = h stages k m f n in one-more stages t.0 t.1 t.2 t.3 t.4 t.5

module _ {S R : Type 0} (acts : Acts S R) where
  -- the inlet of the flow that these frames and numbers came from
  pub IsInlet-of : (f : Parts S) (channels : ℕ) (frames first : List Samples) (numbers state_counters : List ℕ) → IsSound acts f → f.channels ≡ channels → FreezesFlow acts f frames numbers → state_counters ≡ take 8 numbers → first ≡ take (slice_index_or state_counters 4 0) frames
      → IsInlet channels first state_counters (record { frame = f.inlet; left = f.left; ended = f.ended })
  IsInlet-of f channels frames first numbers state_counters sound e frozen state_counters-is first-is =
      let o : state_counters ≡ inlet_numbers f.left f.inlet f.ended = rw frozen.counted at state_counters-is in
      record {
        pending = rw (← e) sound.inlet;
        bound = sound.bound;
        closed = sound.closed;
        stored = rw (first-is, o, frozen.stored) (take-append_seam (option_to_list f.inlet) (stored_all acts f.stages));
        counted = o;
      }

  pub length-stored : (stages : List S) → length (stored_all acts stages) ≡ held_sum acts stages
  length-stored [] = refl
  length-stored (s ∷ stages) = length-append (acts.stored s) (stored_all acts stages) ∙ ap (λ n. length (acts.stored s) + n) (length-stored stages)

  pub length-numbers : (stages : List S) → length (numbers_all acts stages) ≡ 8 * length stages
  length-numbers [] = refl
  length-numbers (s ∷ stages) = let h = length-numbers stages in omega arith
