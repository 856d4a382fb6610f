-- Calls in order, one sequence after another, and the frames that fit.
use Rattle.std.proofs.Common.{ℕ, zero, suc, ◌+◌, ◌<◌, ◌≤◌, ◌≡◌, List, [], ◌∷◌, ◌++◌, add-zero, cond, drop, get_or, length, min, nat_eq, set, sub-one, subst, refl, ◌∙◌, arith, ◌-◌, append-nil, append_assoc, Option, Some, None, option_to_list}
use Prim.Native.Nat.compare
use Rattle.std.proofs.lemmas.List.{length-drop}
use Rattle.fx_frame_base.specs.Early.{PassedWhile}
use Rattle.fx_frame_base.specs.Feed.{IsHeld}
use Rattle.fx_frame_base.specs.Frame.{Samples}
use Rattle.fx_frame_base.specs.Holds.{held_sum, hold_sum, kinds}
use Rattle.fx_frame_base.specs.Pipeline.{EachThrough, PipelineThrough}
use Rattle.fx_frame_base.specs.Stage.{Acts, IsLined, hold_of, kind}
use Rattle.fx_frame_base.proofs.PipelineLaws.{EachThrough-long, PassedWhile-through, one-through}
use Rattle.fx_chain_flow.specs.StageCall.{StageCall, at_stage, end_to, through_all}
use Rattle.fx_chain_flow.specs.Order.{AllFit, FitsHold, InOrder, WentEarly, any_place, begun, came, came_on, end_came, end_went_on, left_inlet, went_early, went_on, went_out, went_through}
use Rattle.fx_chain_flow.specs.Parts.{AllNew, Parts}
use Rattle.fx_chain_flow.specs.Pipeline.{AllHeld, AllLined}
use Rattle.fx_chain_flow.proofs.Pipelines.{AllHeld-sum}

module _ {S R : Type 0} (acts : Acts S R) (handed : List S → StageCall → List S → Type 0) (passed_while : List Samples → List Samples → List Samples → S → S → Type 0) where
  -- one sequence after another
  pub InOrder-then : (first mid f : Parts S) (xs gs ys hs transit : List Samples) (place : ℕ) → InOrder acts handed passed_while first xs gs [] 0 mid → InOrder acts handed passed_while mid ys hs transit place f → InOrder acts handed passed_while first (xs ++ ys) (gs ++ hs) transit place f
  InOrder-then first mid f xs gs ys hs transit place one begun = rw (append-nil, append-nil) one
  InOrder-then first mid f xs gs ys hs transit place one (came ks js x h two empty fits) = rw (← append_assoc xs ks (x ∷ [])) (came (xs ++ ks) (gs ++ js) x h (InOrder-then first mid h xs gs ks js [] 0 one two) empty fits)
  InOrder-then first mid f xs gs ys hs transit place one (end_came ks js h two) = end_came (xs ++ ks) (gs ++ js) h (InOrder-then first mid h xs gs ks js [] 0 one two)
  InOrder-then first mid f xs gs ys hs transit place one (came_on ks js zs h two empty fits) = rw (← append_assoc xs ks zs) (came_on (xs ++ ks) (gs ++ js) zs h (InOrder-then first mid h xs gs ks js [] 0 one two) empty fits)
  InOrder-then first mid f xs gs ys hs transit place one (left_inlet ks js x h two full fits) = left_inlet (xs ++ ks) (gs ++ js) x h (InOrder-then first mid h xs gs ks js [] 0 one two) full fits
  InOrder-then first mid f xs gs ys hs transit place one (went_on ks js moving given i h stages two call fits) = went_on (xs ++ ks) (gs ++ js) moving given i h stages (InOrder-then first mid h xs gs ks js moving i one two) call fits
  InOrder-then first mid f xs gs ys hs transit place one (end_went_on ks js i h stages two call fits) = end_went_on (xs ++ ks) (gs ++ js) i h stages (InOrder-then first mid h xs gs ks js [] 0 one two) call fits
  InOrder-then first mid f xs gs ys hs transit place one (went_through ks js zs ws h stages two empty call fits) =
      rw (← append_assoc xs ks zs, ← append_assoc gs js ws) (went_through (xs ++ ks) (gs ++ js) zs ws h stages (InOrder-then first mid h xs gs ks js [] 0 one two) empty call fits)
  InOrder-then first mid f xs gs ys hs transit place one (went_early ks js zs ws h stages two empty early fits) =
      rw (← append_assoc xs ks zs, ← append_assoc gs js ws) (went_early (xs ++ ks) (gs ++ js) zs ws h stages (InOrder-then first mid h xs gs ks js [] 0 one two) empty early fits)
  InOrder-then first mid f xs gs ys hs transit place one (went_out ks js moving i h two last) = rw (← append_assoc gs js moving) (went_out (xs ++ ks) (gs ++ js) moving i h (InOrder-then first mid h xs gs ks js moving i one two) last)
  InOrder-then first mid f xs gs ys hs transit place one (any_place ks js i j h two) = any_place (xs ++ ks) (gs ++ js) i j h (InOrder-then first mid h xs gs ks js [] i one two)

module _ {S R : Type 0} (acts : Acts S R) where
  inlet-one : (inlet : Option Samples) → length (option_to_list inlet) ≤ 1
  inlet-one None = omega arith
  inlet-one (Some x) = omega arith

  -- no frame is in transit
  pub FitsHold-none : (place : ℕ) (f : Parts S) → AllHeld acts f.stages → FitsHold acts [] place f
  FitsHold-none place f held =
      let sum = AllHeld-sum acts f.stages held in
      let one = inlet-one f.inlet in
      record { held = omega (arith, sum, one); to_stage = λ before. omega (arith, sum, one) }

  -- a stage that holds its line alone has space for one frame more
  lined-one : (place : ℕ) (stages : List S) → AllHeld acts stages → AllLined acts (drop place stages) → place < length stages → held_sum acts stages + 1 ≤ hold_sum (kinds acts stages)
  lined-one place [] held lined before = absurd (omega arith)
  lined-one zero (s ∷ stages) held lined before = let here : IsLined acts s = lined.0 in let sum = AllHeld-sum acts stages held.1 in omega (arith, here, sum)
  lined-one (suc place) (s ∷ stages) held lined before = let here : IsHeld acts s = held.0 in let more = lined-one place stages held.1 lined (omega arith) in omega (arith, here, more)

  -- one frame is in transit to a dry stage
  pub FitsHold-one : (x : Samples) (place : ℕ) (f : Parts S) → AllHeld acts f.stages → AllLined acts (drop place f.stages) → FitsHold acts (x ∷ []) place f
  FitsHold-one x place f held lined =
      let sum = AllHeld-sum acts f.stages held in
      let one = inlet-one f.inlet in
      record { held = omega (arith, sum, one); to_stage = λ before. let free = lined-one place f.stages held lined before in omega (arith, free, one) }

  -- frames are in transit while the inlet is empty
  pub FitsHold-many : (xs : List Samples) (place : ℕ) (f : Parts S) → f.inlet ≡ None → held_sum acts f.stages + length xs ≤ 1 + hold_sum (kinds acts f.stages) → FitsHold acts xs place f
  FitsHold-many xs place f empty within = rw empty (record { held = omega (arith, within); to_stage = λ before. omega (arith, within) })

  -- at most one
  pub FitsHold-single : (xs : List Samples) (place : ℕ) (f : Parts S) → f.inlet ≡ None → AllHeld acts f.stages → length xs ≤ 1 → FitsHold acts xs place f
  FitsHold-single xs place f empty held short = let sum = AllHeld-sum acts f.stages held in FitsHold-many xs place f empty (omega (arith, sum, short))

  pub AllHeld-set : (i : ℕ) (stages : List S) (s : S) → IsHeld acts s → AllHeld acts stages → AllHeld acts (set stages i s)
  AllHeld-set i [] s here all = tt
  AllHeld-set zero (t ∷ stages) s here all = (here, all.1)
  AllHeld-set (suc i) (t ∷ stages) s here all = (all.0, AllHeld-set i stages s here all.1)

  -- the stages after a place are as they were
  pub AllLined-after : (i : ℕ) (stages : List S) (s : S) → AllLined acts (drop (suc i) stages) → AllLined acts (drop (suc i) (set stages i s))
  AllLined-after i [] s all = all
  AllLined-after zero (t ∷ stages) s all = all
  AllLined-after (suc i) (t ∷ stages) s all = AllLined-after i stages s all

  pub AllLined-one : (i : ℕ) (stages : List S) → AllLined acts (drop i stages) → AllLined acts (drop (suc i) stages)
  AllLined-one zero [] all = tt
  AllLined-one (suc i) [] all = tt
  AllLined-one zero (s ∷ stages) all = all.1
  AllLined-one (suc i) (s ∷ stages) all = AllLined-one i stages all

  pub AllHeld-new : (stages : List S) → AllNew acts stages → AllHeld acts stages
  AllHeld-new [] new = tt
  AllHeld-new (s ∷ stages) new = (rw new.0.stored (omega arith), AllHeld-new stages new.1)

  -- the stage at a place, and those after it
  pub AllHeld-drop : (i : ℕ) (stages : List S) (d : S) → i < length stages → IsHeld acts (get_or stages i d) → AllHeld acts (drop (suc i) stages) → AllHeld acts (drop i stages)
  AllHeld-drop i [] d h here more = absurd (omega arith)
  AllHeld-drop zero (s ∷ stages) d h here more = (here, more)
  AllHeld-drop (suc i) (s ∷ stages) d h here more = AllHeld-drop i stages d (omega arith) here more

  -- the stages from a place on are as they were, where the one before it changed
  pub AllLined-given : (place : ℕ) (stages : List S) (s : S) → (place ≡ 0 → ⊥) → AllLined acts (drop place stages) → AllLined acts (drop place (set stages (place - 1) s))
  AllLined-given zero stages s some all = absurd (some refl)
  AllLined-given (suc i) stages s some all = rw sub-one (AllLined-after i stages s all)

  -- the lesser of two places, where one is past all stages
  pub lined-minimum : (n m : ℕ) (stages : List S) → m ≡ min (length stages) n → AllLined acts (drop n stages) → AllLined acts (drop m stages)
  lined-minimum n zero [] e h = tt
  lined-minimum n (suc m) [] e h = tt
  lined-minimum zero zero (s ∷ stages) e h = h
  lined-minimum zero (suc m) (s ∷ stages) e h = absurd (omega arith)
  lined-minimum (suc n) zero (s ∷ stages) e h = absurd (omega arith)
  lined-minimum (suc n) (suc m) (s ∷ stages) e h = lined-minimum n m stages (omega arith) h

  pub nothing-lined : (n : ℕ) → AllLined acts (drop n [])
  nothing-lined zero = tt
  nothing-lined (suc n) = tt

  held-each : (xs ys : List Samples) (s s' : S) → EachThrough acts xs ys s s' → IsHeld acts s → IsHeld acts s'
  held-each [] [] s s' each held = rw each held
  held-each (x ∷ xs) (y ∷ ys) s s' each held = held-each xs ys each.0 s' each.3 each.1.2.held
  held-each [] (y ∷ ys) s s' each held = absurd each
  held-each (x ∷ xs) [] s s' each held = absurd each

  pub AllHeld-pipeline : (xs ys : List Samples) (old new : List S) → PipelineThrough acts xs ys old new → AllHeld acts old → AllHeld acts new
  AllHeld-pipeline xs ys [] [] pipeline all = tt
  AllHeld-pipeline xs ys (s ∷ stages) (s' ∷ stages') pipeline all = (held-each xs pipeline.0 s s' pipeline.1 all.0, AllHeld-pipeline pipeline.0 ys stages stages' pipeline.2 all.1)
  AllHeld-pipeline xs ys [] (s' ∷ stages') pipeline all = absurd pipeline
  AllHeld-pipeline xs ys (s ∷ stages) [] pipeline all = absurd pipeline

  each-recipe : (xs ys : List Samples) (s s' : S) → EachThrough acts xs ys s s' → acts.recipe s' ≡ acts.recipe s
  each-recipe [] [] s s' each = rw each refl
  each-recipe (x ∷ xs) (y ∷ ys) s s' each = each-recipe xs ys each.0 s' each.3 ∙ (one-through acts x y s each.0 each.1).2
  each-recipe [] (y ∷ ys) s s' each = absurd each
  each-recipe (x ∷ xs) [] s s' each = absurd each

  -- stages that hold no more than they may, whatever they pass on
  AllFit-held : (others maximum : ℕ) (xs ys : List Samples) (old new : List S) → PipelineThrough acts xs ys old new → AllHeld acts old → AllHeld acts new → others + hold_sum (kinds acts old) ≤ maximum → AllFit acts others maximum old new
  AllFit-held others maximum xs ys [] [] pipeline before after h = omega (arith, h)
  AllFit-held others maximum xs ys (s ∷ stages) (s' ∷ stages') pipeline before after h =
      let here : IsHeld acts s = before.0 in
      let sum = AllHeld-sum acts stages before.1 in
      let same = each-recipe xs pipeline.0 s s' pipeline.1 in
      let held : length (acts.stored s') ≤ hold_of (acts.kind_of (acts.recipe s')) = after.0 in
      let there : length (acts.stored s') ≤ hold_of (acts.kind_of (acts.recipe s)) = subst (λ (r : R). length (acts.stored s') ≤ hold_of (acts.kind_of r)) same held in
      (omega (arith, here, sum, h), AllFit-held (others + length (acts.stored s')) maximum pipeline.0 ys stages stages' pipeline.2 before.1 after.1 (omega (arith, there, h)))
  AllFit-held others maximum xs ys [] (s' ∷ stages') pipeline before after h = absurd pipeline
  AllFit-held others maximum xs ys (s ∷ stages) [] pipeline before after h = absurd pipeline

  -- frames that leave a stage that holds its line alone, and go through the others, are no more than the flow may hold
  pub WentEarly-fits : (passed_while : List Samples → List Samples → List Samples → S → S → Type 0) (xs between gs : List Samples) (s s' : S) (stages stages' : List S) → EachThrough acts xs between s s' → length xs ≤ length (acts.stored s)
      → PassedWhile acts passed_while (drop (length xs) (acts.stored s)) between gs stages stages' → IsLined acts s → AllHeld acts stages → WentEarly acts passed_while xs gs (s ∷ stages) (s' ∷ stages')
  WentEarly-fits passed_while xs between gs s s' stages stages' each bound others lined held =
      let pipeline = PassedWhile-through acts passed_while (drop (length xs) (acts.stored s)) between gs stages stages' others in
      let after = AllHeld-pipeline between gs stages stages' pipeline held in
      let left = length-drop (length xs) (acts.stored s) in
      let many = EachThrough-long acts xs between s s' each in
      let here : length (acts.stored s) ≤ (kind acts s).line = lined in
      (between, each, others, AllFit-held (length (drop (length xs) (acts.stored s)) + length between) (1 + hold_sum (kinds acts (s ∷ stages))) between gs stages stages' pipeline held after (omega (arith, left, many, here, bound)))

module _ {S R : Type 0} (acts : Acts S R) (handed : List S → StageCall → List S → Type 0) (passed_while : List Samples → List Samples → List Samples → S → S → Type 0) where
  -- the frame of the inlet left it
  pub inlet-order : (f : Parts S) (place : ℕ) (x : Samples) → place ≡ 0 → f.inlet ≡ Some x → AllHeld acts f.stages → InOrder acts handed passed_while f [] [] (x ∷ []) place (record f { inlet = None; left = f.left + cond (nat_eq place 0) 1 0 })
  inlet-order f place x none full held = rw none (left_inlet [] [] x f begun full (FitsHold-single acts (x ∷ []) 0 (record f { inlet = None; left = f.left + 1 }) refl held (omega arith)))

  -- the stage before a place gave a frame
  pub given-order : (f : Parts S) (place : ℕ) (x : Samples) (stages : List S) → (place ≡ 0 → ⊥) → handed f.stages (at_stage (place - 1) [] (x ∷ [])) stages → AllHeld acts stages → AllLined acts (drop place stages)
      → InOrder acts handed passed_while f [] [] (x ∷ []) place (record f { stages = stages; left = f.left + cond (nat_eq place 0) 1 0 })
  given-order f zero x stages some call held lined = absurd (some refl)
  given-order f (suc i) x stages some call held lined =
      rw (compare.suc-zero, add-zero) (went_on [] [] [] (x ∷ []) i f stages (any_place [] [] 0 i f begun) (rw sub-one at call) (FitsHold-one acts x (suc i) (record f { stages = stages }) held lined))

  -- a frame past the last stage went out
  pub out-order : (first f : Parts S) (xs : List Samples) (x : Samples) (place : ℕ) → InOrder acts handed passed_while first xs [] (x ∷ []) place f → place ≡ length f.stages → InOrder acts handed passed_while first xs (x ∷ []) [] 0 f
  out-order first f xs x place order last = went_out xs [] (x ∷ []) place f order last

  -- a stage took the frame that came to it, and gave none
  pub took-order : (first f : Parts S) (xs gs : List Samples) (x : Samples) (place : ℕ) (stages : List S) → InOrder acts handed passed_while first xs gs (x ∷ []) place f → handed f.stages (at_stage place (x ∷ []) []) stages → AllHeld acts stages
      → InOrder acts handed passed_while first xs gs [] 0 (record f { stages = stages })
  took-order first f xs gs x place stages order call held =
      let next : InOrder acts handed passed_while first xs gs [] (suc place) (record f { stages = stages }) = went_on xs gs (x ∷ []) [] place f stages order call (FitsHold-none acts (suc place) (record f { stages = stages }) held) in
      any_place xs gs (suc place) 0 (record f { stages = stages }) next

  -- a stage took the frame that came to it, and gave one
  pub passed-order : (first f : Parts S) (xs gs : List Samples) (x y : Samples) (place : ℕ) (stages : List S) → InOrder acts handed passed_while first xs gs (x ∷ []) place f → f.inlet ≡ None → handed f.stages (at_stage place (x ∷ []) (y ∷ [])) stages → AllHeld acts stages
      → InOrder acts handed passed_while first xs gs (y ∷ []) (suc place) (record f { stages = stages })
  passed-order first f xs gs x y place stages order empty call held = went_on xs gs (x ∷ []) (y ∷ []) place f stages order call (FitsHold-single acts (y ∷ []) (suc place) (record f { stages = stages }) empty held (omega arith))

  -- a stage was given the end
  pub end-order : (f : Parts S) (place : ℕ) (stages : List S) → handed f.stages (end_to place) stages → AllHeld acts stages → InOrder acts handed passed_while f [] [] [] 0 (record f { stages = stages })
  end-order f place stages call held = end_went_on [] [] place f stages begun call (FitsHold-none acts 0 (record f { stages = stages }) held)

  -- frames came past the empty inlet
  pub came-order : (f : Parts S) (xs : List Samples) (count : ℕ) → length xs ≡ count → f.inlet ≡ None → held_sum acts f.stages + count ≤ 1 + hold_sum (kinds acts f.stages) → InOrder acts handed passed_while f xs [] xs 0 (record f { left = f.left + count })
  came-order f xs count many empty within =
      let one : InOrder acts handed passed_while f xs [] xs 0 (record f { left = f.left + length xs }) = came_on [] [] xs f begun empty (FitsHold-many acts xs 0 (record f { left = f.left + length xs }) empty (rw many within)) in
      rw many at one

  -- frames came past the empty inlet, and went through all stages before the call returned
  pub through-order : (f : Parts S) (xs gs : List Samples) (count : ℕ) (stages : List S) → length xs ≡ count → f.inlet ≡ None → handed f.stages (through_all xs gs) stages → AllHeld acts stages → InOrder acts handed passed_while f xs gs [] 0 (record f { stages = stages; left = f.left + count })
  through-order f xs gs count stages many empty call held =
      let one : InOrder acts handed passed_while f xs gs [] 0 (record f { stages = stages; left = f.left + length xs }) = went_through [] [] xs gs f stages begun empty call (FitsHold-none acts 0 (record f { stages = stages; left = f.left + length xs }) held) in
      rw many at one

  -- frames left the first stage early, and others came
  pub early-order : (f : Parts S) (xs gs : List Samples) (count : ℕ) (stages : List S) → length xs ≡ count → f.inlet ≡ None → WentEarly acts passed_while xs gs f.stages stages → AllHeld acts stages → InOrder acts handed passed_while f xs gs [] 0 (record f { stages = stages; left = f.left + count })
  early-order f xs gs count stages many empty early held =
      let one : InOrder acts handed passed_while f xs gs [] 0 (record f { stages = stages; left = f.left + length xs }) = went_early [] [] xs gs f stages begun empty early (FitsHold-none acts 0 (record f { stages = stages; left = f.left + length xs }) held) in
      rw many at one

  -- without a stage, frames came and went out
  pub bare-order : (f : Parts S) (xs : List Samples) (count : ℕ) → length xs ≡ count → f.inlet ≡ None → f.stages ≡ [] → InOrder acts handed passed_while f xs xs [] 0 (record f { left = f.left + count })
  bare-order f xs count many empty none =
      let full : FitsHold acts xs 0 (record f { left = f.left + length xs }) = rw (empty, none) (record { held = omega arith; to_stage = λ before. absurd (omega (arith, before)) }) in
      let one : InOrder acts handed passed_while f xs [] xs 0 (record f { left = f.left + length xs }) = came_on [] [] xs f begun empty full in
      let two : InOrder acts handed passed_while f xs xs [] 0 (record f { left = f.left + length xs }) = went_out xs [] xs 0 (record f { left = f.left + length xs }) one (rw none refl) in
      rw many at two
