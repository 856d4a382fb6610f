-- A flow of one stage, fed as that stage.
use Rattle.std.proofs.Common.{◌≡◌, ◌+◌, ◌-◌, ◌*◌, ◌<◌, ◌≤◌, ℕ, zero, suc, Bool, true, false, List, [], ◌∷◌, ◌++◌, length, refl, sym, ap, ◌∙◌, arith, length-append, append_assoc, append-nil, inl, inr, Some, None, subst, ◌||◌, ℤ}
use Rattle.std.proofs.lemmas.Bool.{false_from_ne_true}
use Rattle.std.proofs.lemmas.List.{length-map, map-append}
use Rattle.fx_frame_base.specs.Feed.{Fed, GaveNext, IsHeld, TookNext, TookWithinSpace, nothing, taken, given}
use Rattle.fx_frame_base.specs.Frame.{Samples}
use Rattle.fx_frame_base.specs.Holds.{kinds}
use Rattle.fx_frame_base.specs.Lists.{pieces}
use Rattle.fx_frame_base.specs.Stage.{Acts, Counts, Given as GivenFrame, after_taking, kind, spent}
use Rattle.fx_frame_base.proofs.Pieces.{length-pieces}
use Rattle.fx_frame_base.proofs.Feeding.{none-fit}
use Rattle.fx_frame_base.proofs.FedLaws.{Fed-gives, Fed-none, total-append}
use Rattle.fx_frame_base.proofs.Capacities.{free-grows, free-some}
use Rattle.fx_chain_flow.specs.Feed.{FlowTookWithinSpace, FedOnly, FlowFed, FlowGave, GaveLast, HoldsBound, Stepped, TookIn, stepped, taken_in, untouched}
use Rattle.fx_frame_base.specs.Pipeline.{outputs_of}
use Rattle.fx_chain_flow.specs.Parts.{Parts, any_spent}
use Rattle.fx_chain_flow.specs.Pipeline.{AllHeld}
use Rattle.fx_chain_flow.specs.Composed.{Whole, enough_for, frames_of, clips_given}
use Rattle.fx_chain_flow.specs.Runs.{flow_of}
use Rattle.fx_chain_flow.specs.Sound.{IsSound, max_frames}
use Rattle.fx_chain_flow.specs.declared.flow.Step.TheVariants.{Moved, Given}
use Rattle.fx_chain_flow.proofs.Feeding.{GaveLast-then}
use Rattle.std.proofs.Math.Nat.{suc-mul}

module _ {S R : Type 0} (acts : Acts S R) where
  -- a stage that takes frames of so many channels, of which so many came
  abbrev pub alone : ℕ → S → ℕ → Parts S
  alone channels s left = record { stages = s ∷ []; inlet = None; ended = false; left = left; channels = channels }

  pub Fed-held : (first s : S) (xs gs : List Samples) → IsHeld acts first → Fed acts first xs gs s → IsHeld acts s
  Fed-held first s xs gs held nothing = held
  Fed-held first s xs gs held (taken ys hs x t t' fed took) = took.held
  Fed-held first s xs gs held (given ys hs g t t' fed gave) = gave.held

  -- a stage that is dry and not spent has not had enough
  wants-alone : (s : S) (m : ℕ) → acts.dry s ≡ true → spent acts s ≡ false → (acts.counts s).taken ≡ m → enough_for (kinds acts (s ∷ [])) (m + 0) ≡ false
  wants-alone s m dry none count =
      let e : m + 0 ≡ (acts.counts s).taken = omega (arith, count) in
      let here = rw dry at none in
      rw (e, here) refl

  -- it took a frame, and moved it on to the stage
  alone-took : (channels left : ℕ) (first s s' : S) (xs gs : List Samples) (x : Samples) (m : ℕ) → IsHeld acts s → (acts.counts s).taken ≡ m → TookNext acts s s' x
      → FlowFed acts (alone channels first left) xs gs (alone channels s m) → FlowFed acts (alone channels first left) (xs ++ x ∷ []) gs (alone channels s' (m + 1))
  alone-took channels left first s s' xs gs x m held count took fed =
      let f : Parts S = alone channels s m in
      let mid : Parts S = record { stages = s ∷ []; inlet = Some x; ended = false; left = m; channels = channels } in
      let new : Parts S = alone channels s' (m + 1) in
      let not_spent = took.not_spent in
      let full : HoldsBound acts mid = omega arith in
      let bound : HoldsBound acts new = let h : IsHeld acts s' = took.held in omega arith in
      let one : TookIn acts f mid x = record { hungry = record { empty = refl; not_ended = refl; dry = (took.dry, tt) }; not_spent = rw not_spent refl; wants = wants-alone s m took.dry took.not_spent count; took = refl; held = full } in
      let two : Stepped acts mid Moved new = record { moved = inr (inl (record { frame = x; out = None; dry = (took.dry, tt); inlet = refl; fed = (took.took, refl); delivered = refl; others = refl })); held = bound } in
      let all : FlowFed acts (alone channels first left) (xs ++ x ∷ []) (gs ++ []) new = stepped _ _ Moved mid new (taken_in _ _ x f mid fed one) two in
      rw append-nil at all

  alone-gave-step : (channels : ℕ) (s s' : S) (g : Samples) (m : ℕ) → GaveNext acts s s' g → Stepped acts (alone channels s m) (Given g) (alone channels s' m)
  alone-gave-step channels s s' g m gave =
      let bound : HoldsBound acts (alone channels s' m) = let h : IsHeld acts s' = gave.held in omega arith in
      record { moved = inl (record { place = 0; out = Some g; last = (gave.gave.was_wet, tt); over = gave.gave; delivered = refl; others = refl }); held = bound }

  alone-gave : (channels left : ℕ) (first s s' : S) (xs gs : List Samples) (g : Samples) (m : ℕ) → GaveNext acts s s' g
      → FlowFed acts (alone channels first left) xs gs (alone channels s m) → FlowFed acts (alone channels first left) xs (gs ++ g ∷ []) (alone channels s' m)
  alone-gave channels left first s s' xs gs g m gave fed =
      stepped xs gs (Given g) (alone channels s m) (alone channels s' m) fed (alone-gave-step channels s s' g m gave)

  -- what the stage did the flow did
  pub alone-fed : (channels left : ℕ) (first s : S) (xs gs : List Samples) → IsHeld acts first → (acts.counts first).taken ≡ left → Fed acts first xs gs s → FlowFed acts (alone channels first left) xs gs (alone channels s (left + length xs))
  alone-fed channels left first s xs gs held count nothing = let e : left + 0 ≡ left = omega arith in rw e untouched
  alone-fed channels left first s xs gs held count (taken ys hs x t t' fed took) =
      let e : left + length (ys ++ x ∷ []) ≡ left + length ys + 1 = omega (arith, length-append ys (x ∷ [])) in
      let all = Fed-gives acts first t ys hs fed in
      rw e (alone-took channels left first t t' ys hs x (left + length ys) (Fed-held first t ys hs held fed) (all.taken ∙ ap (λ n. n + length ys) count) took (alone-fed channels left first t ys hs held count fed))
  alone-fed channels left first s xs gs held count (given ys hs g t t' fed gave) =
      alone-gave channels left first t t' ys hs g (left + length ys) gave (alone-fed channels left first t ys hs held count fed)

  -- a frame was taken last only where the output had space for another
  took-free : (first t : S) (ys hs : List Samples) (free : ℕ) → Fed acts first ys hs t → (acts.counts t).given ≡ (kind acts t).due (acts.counts t).taken → TookWithinSpace acts first (length ys + 1) free → length hs * (kind acts first).outputs + (kind acts first).outputs ≤ free
  took-free first t ys hs free fed due took =
      let all = Fed-gives acts first t ys hs fed in
      let many : length all.whole ≡ length hs = simp length-map at (ap length all.frames) in
      let same : (kind acts first).due ((acts.counts first).taken + length ys) ≡ (acts.counts first).given + length hs =
      ap ((kind acts first).due) (sym all.taken) ∙ ap (λ (r : R). (acts.kind_of r).due (acts.counts t).taken) (sym all.recipe_stays) ∙ sym due ∙ omega (arith, all.given, many) in
      let fits_out = took (length ys) (omega arith) in
      let count : (kind acts first).due ((acts.counts first).taken + length ys) - (acts.counts first).given + 1 ≡ suc (length hs) = omega (arith, same) in
      omega (arith, rw count at fits_out, suc-mul (length hs) (kind acts first).outputs)

  -- once the output is full, what the flow did last was to give
  alone-last : (channels left free : ℕ) (first s : S) (xs gs : List Samples) → IsHeld acts first → (acts.counts first).taken ≡ left → Fed acts first xs gs s → TookWithinSpace acts first (length xs) free → 1 ≤ length gs → free < length gs * (kind acts first).outputs + (kind acts first).outputs
      → GaveLast acts (alone channels first left) xs gs (alone channels s (left + length xs))
  alone-last channels left free first s xs gs held count nothing took some full = absurd (omega (arith, some))
  alone-last channels left free first s xs gs held count (taken ys hs x t t' fed next) took some full =
      let all : length (ys ++ x ∷ []) ≡ length ys + 1 = omega (arith, length-append ys (x ∷ [])) in
      absurd (omega (arith, full, took-free first t ys hs free fed next.due (rw all at took)))
  alone-last channels left free first s xs gs held count (given ys hs g t t' fed gave) took some full =
      record { earlier = hs; frame = g; before = alone channels t (left + length ys); all = refl; fed = alone-fed channels left first t ys hs held count fed; gave = alone-gave-step channels t t' g (left + length ys) gave }

  pub alone-gives : (channels left : ℕ) (first s : S) (xs gs : List Samples) → Fed acts first xs gs s → FlowGave acts (alone channels first left) xs gs (alone channels s (left + length xs))
  alone-gives channels left first s xs gs fed =
      let all = Fed-gives acts first s xs gs fed in
      let many : length all.whole ≡ length gs = simp length-map at (ap length all.frames) in
      record {
        rest = λ z e. ap frames_of (all.rest z) ∙ map-append (λ (g : GivenFrame). g.samples) all.whole (acts.rest s z) ∙ ap (λ w. w ++ frames_of (acts.rest s z)) all.frames;
        whole = λ z e.
            let number : (acts.counts s).given + length (acts.rest s z) ≡ (acts.counts first).given + length (acts.rest first (xs ++ z)) = rw (all.rest z) (omega (arith, all.given, many, length-append all.whole (acts.rest s z))) in
            let clips : (acts.counts s).clips + clips_given (acts.rest s z) ≡ (acts.counts first).clips + clips_given (acts.rest first (xs ++ z)) = rw (all.rest z) (omega (arith, all.clips, total-append (λ (g : GivenFrame). g.clips) all.whole (acts.rest s z))) in
            let both : ◌≡◌ {A = List Whole} (record { given = (acts.counts s).given + length (acts.rest s z); clips = (acts.counts s).clips + clips_given (acts.rest s z) } ∷ []) (record { given = (acts.counts first).given + length (acts.rest first (xs ++ z)); clips = (acts.counts first).clips + clips_given (acts.rest first (xs ++ z)) } ∷ []) = rw (number, clips) refl in
            both;
        recipes_stay = ap (λ r. r ∷ []) all.recipe_stays;
        taken = omega arith;
        given = all.given;
        ended = refl;
        channels = refl;
      }

  -- no more was given than may be
  pub Fed-maximum : ((r : R) (m n : ℕ) → m ≤ n → (acts.kind_of r).maximum m ≤ (acts.kind_of r).maximum n) → (first s : S) (xs gs : List Samples)
      → (acts.counts first).given ≤ (kind acts first).maximum (acts.counts first).taken → Fed acts first xs gs s → (acts.counts s).given ≤ (kind acts s).maximum (acts.counts s).taken
  Fed-maximum rises first s xs gs maximum nothing = maximum
  Fed-maximum rises first s xs gs maximum (taken ys hs x t t' fed took) =
      let before = Fed-maximum rises first t ys hs maximum fed in
      let more = rises (acts.recipe t) (acts.counts t).taken ((acts.counts t).taken + 1) (omega arith) in
      let after : (acts.counts t).given ≤ (kind acts t).maximum ((acts.counts t).taken + 1) = omega (arith, before, more) in
      let same : ◌≡◌ {A = R × Counts} (acts.recipe t', acts.counts t') (acts.recipe t, after_taking (acts.counts t)) = rw (took.took.recipe_stays, took.took.counted) refl in
      subst (λ (p : R × Counts). p.1.given ≤ (acts.kind_of p.0).maximum p.1.taken) (sym same) after
  Fed-maximum rises first s xs gs maximum (given ys hs g t t' fed gave) = subst (λ (r : R). (acts.counts t').given ≤ (acts.kind_of r).maximum (acts.counts t').taken) (sym gave.gave.recipe_stays) gave.gave.maximum

  pub alone-sound : ((r : R) (m n : ℕ) → m ≤ n → (acts.kind_of r).maximum m ≤ (acts.kind_of r).maximum n) → (channels left : ℕ) (first s : S) (xs gs : List Samples)
      → IsSound acts (alone channels first left) → left + length xs ≤ max_frames → Fed acts first xs gs s → IsSound acts (alone channels s (left + length xs))
  alone-sound rises channels left first s xs gs sound bound fed =
      let all = Fed-gives acts first s xs gs fed in
      let joined = sound.joined in
      let count : (acts.counts s).taken ≡ left + length xs = all.taken ∙ ap (λ n. n + length xs) joined.0 in
      let before : (acts.counts first).given ≤ (kind acts first).maximum (acts.counts first).taken = rw joined.0 joined.2 in
      let maximum = rw count at (Fed-maximum rises first s xs gs before fed) in
      record {
        planned = rw all.recipe_stays sound.planned;
        joined = (count, λ e. joined.1 (sym all.ended ∙ e), maximum, tt);
        bound = omega arith;
        inlet = λ x e. absurd (cc);
        closed = λ e. refl;
      }

  pub only-fed : (channels left count number : ℕ) (input old new : List ℤ) (stages stages' : List S) → IsSound acts (flow_of acts channels stages left) → FedOnly acts input old new count number stages stages'
      → FlowFed acts (flow_of acts channels stages left) (pieces channels count input) (pieces (outputs_of channels (kinds acts stages)) number new) (flow_of acts channels stages' (left + count))
  only-fed channels left count number input old new (s ∷ []) (s' ∷ []) sound h =
      let ins : (kind acts s).inputs ≡ channels = sound.planned.matching.0 in
      let fed = rw ins at h.fed in
      let n : length (pieces channels count input) ≡ count = length-pieces channels count input in
      rw n at (alone-fed channels left s s' _ _ h.held sound.joined.0 fed)
  only-fed channels left count number input old new stages stages' sound h = absurd h

  pub only-held : (count number : ℕ) (input old new : List ℤ) (stages stages' : List S) → FedOnly acts input old new count number stages stages' → AllHeld acts stages → AllHeld acts stages'
  only-held count number input old new (s ∷ []) (s' ∷ []) h all = (Fed-held s s' _ _ h.held h.fed, tt)
  only-held count number input old new stages stages' h all = absurd h

  pub only-last : (channels left count number : ℕ) (input old new : List ℤ) (stages stages' : List S) → IsSound acts (flow_of acts channels stages left) → FedOnly acts input old new count number stages stages' → 1 ≤ number → length old < number * outputs_of channels (kinds acts stages) + outputs_of channels (kinds acts stages)
      → GaveLast acts (flow_of acts channels stages left) (pieces channels count input) (pieces (outputs_of channels (kinds acts stages)) number new) (flow_of acts channels stages' (left + count))
  only-last channels left count number input old new (s ∷ []) (s' ∷ []) sound h some full =
      let ins : (kind acts s).inputs ≡ channels = sound.planned.matching.0 in
      let fed = rw ins at h.fed in
      let n : length (pieces channels count input) ≡ count = length-pieces channels count input in
      let k : length (pieces (kind acts s).outputs number new) ≡ number = length-pieces (kind acts s).outputs number new in
      rw n at (alone-last channels left (length old) s s' _ _ h.held sound.joined.0 fed (rw n h.free) (rw k some) (rw k full))
  only-last channels left count number input old new stages stages' sound h some full = absurd h

  pub only-gave : (channels left count number : ℕ) (input old new : List ℤ) (stages stages' : List S) → IsSound acts (flow_of acts channels stages left) → FedOnly acts input old new count number stages stages'
      → FlowGave acts (flow_of acts channels stages left) (pieces channels count input) (pieces (outputs_of channels (kinds acts stages)) number new) (flow_of acts channels stages' (left + count))
  only-gave channels left count number input old new (s ∷ []) (s' ∷ []) sound h =
      let ins : (kind acts s).inputs ≡ channels = sound.planned.matching.0 in
      let fed = rw ins at h.fed in
      let n : length (pieces channels count input) ≡ count = length-pieces channels count input in
      rw n at (alone-gives channels left s s' _ _ fed)
  only-gave channels left count number input old new stages stages' sound h = absurd h

  pub only-sound : ((r : R) (m n : ℕ) → m ≤ n → (acts.kind_of r).maximum m ≤ (acts.kind_of r).maximum n) → (channels left count number : ℕ) (input old new : List ℤ) (stages stages' : List S)
      → IsSound acts (flow_of acts channels stages left) → left + count ≤ max_frames → FedOnly acts input old new count number stages stages' → IsSound acts (flow_of acts channels stages' (left + count))
  only-sound rises channels left count number input old new (s ∷ []) (s' ∷ []) sound bound h =
      let ins : (kind acts s).inputs ≡ channels = sound.planned.matching.0 in
      let fed = rw ins at h.fed in
      let n : length (pieces channels count input) ≡ count = length-pieces channels count input in
      rw n at (alone-sound rises channels left s s' _ _ sound (rw n bound) fed)
  only-sound rises channels left count number input old new stages stages' sound bound h = absurd h

  pub only-read : (channels left count number : ℕ) (input old new : List ℤ) (stages stages' : List S) → IsSound acts (flow_of acts channels stages left) → FedOnly acts input old new count number stages stages' → count * channels ≤ length input
  only-read channels left count number input old new (s ∷ []) (s' ∷ []) sound h = let ins : (kind acts s).inputs ≡ channels = sound.planned.matching.0 in rw ins at h.read
  only-read channels left count number input old new stages stages' sound h = absurd h

  pub only-used : (channels left count number : ℕ) (input old new : List ℤ) (stages stages' : List S) → IsSound acts (flow_of acts channels stages left) → FedOnly acts input old new count number stages stages'
      → number * outputs_of channels (kinds acts stages) + outputs_of channels (kinds acts stages) ≤ length new → any_spent acts stages' ≡ false → length input < count * channels + channels
  only-used channels left count number input old new (s ∷ []) (s' ∷ []) sound h free none =
      let ins : (kind acts s).inputs ≡ channels = sound.planned.matching.0 in
      let all = Fed-gives acts s s' _ _ h.fed in
      let open_unchanged : (acts.counts s').ended ≡ false = not_over s s' sound.joined.1 all.ended in
      rw ins at (h.used free open_unchanged (not_either (spent acts s') none))
    where
      not_over : (s s' : S) → ((acts.counts s).ended ≡ true → false ≡ true) → (acts.counts s').ended ≡ (acts.counts s).ended → (acts.counts s').ended ≡ false
      not_over s s' h e = e ∙ false_from_ne_true (acts.counts s).ended (λ p. let q = h p in absurd (cc))

      not_either : (b : Bool) → b || false ≡ false → b ≡ false
      not_either true e = e
      not_either false e = refl
  only-used channels left count number input old new stages stages' sound h free none = absurd h

  pub only-free : (channels left count number : ℕ) (input old new : List ℤ) (stages stages' : List S) → IsSound acts (flow_of acts channels stages left) → FedOnly acts input old new count number stages stages'
      → FlowTookWithinSpace acts (flow_of acts channels stages left) count (length old)
  only-free channels left count number input old new (s ∷ []) (s' ∷ []) sound h n bound =
      let joined = sound.joined in
      let same : left + 0 + n ≡ (acts.counts s).taken + n = omega (arith, joined.0) in
      rw same (h.free n bound)
  only-free channels left count number input old new stages stages' sound h n bound = absurd h

  -- with no room for a frame the stage gives none either, and stays as it is
  pub only-unchanged : (channels left count number : ℕ) (input old new : List ℤ) (stages stages' : List S) → FedOnly acts input old new count number stages stages' → length new ≡ length old
      → length old < outputs_of channels (kinds acts stages) → flow_of acts channels stages' (left + count) ≡ flow_of acts channels stages left
  only-unchanged channels left count number input old new (s ∷ []) (s' ∷ []) h same bound =
      let none_taken : count ≡ 0 = none_of count (λ some. omega (arith, free-some acts s count (length old) h.free some, bound)) in
      let none_given : number ≡ 0 = none-fit number (kind acts s).outputs (length old) (omega (arith, h.written, same)) bound in
      let is : s' ≡ s = Fed-none acts s _ _ s' h.fed (length-pieces (kind acts s).inputs count input ∙ none_taken) (length-pieces (kind acts s).outputs number new ∙ none_given) in
      let more : left + count ≡ left = omega (arith, none_taken) in
      ap (λ t. flow_of acts channels (t ∷ []) (left + count)) is ∙ ap (λ n. flow_of acts channels (s ∷ []) n) more
    where
      none_of : (count : ℕ) → (0 < count → ⊥) → count ≡ 0
      none_of zero h = refl
      none_of (suc n) h = absurd (h (omega arith))
  only-unchanged channels left count number input old new stages stages' h same bound = absurd h

  -- without a stage as many frames are taken as have room
  pub none-free : (channels left count free : ℕ) → count * channels ≤ free → FlowTookWithinSpace acts (flow_of acts channels [] left) count free
  none-free channels left count free fits n bound = free-grows (left + 0 + n - left) count channels free (omega (arith, bound)) fits

  -- without a stage each frame goes straight through
  pub none-fed : (channels left : ℕ) (xs : List Samples) → FlowFed acts (flow_of acts channels [] left) xs xs (flow_of acts channels [] (left + length xs))
  none-fed channels left xs = go [] xs (let e : left + 0 ≡ left = omega arith in rw e untouched)
    where
      go : (done more : List Samples) → FlowFed acts (flow_of acts channels [] left) done done (flow_of acts channels [] (left + length done))
          → FlowFed acts (flow_of acts channels [] left) (done ++ more) (done ++ more) (flow_of acts channels [] (left + length (done ++ more)))
      go done [] fed = rw append-nil fed
      go done (x ∷ more) fed =
          let n : ℕ = left + length done in
          let f : Parts S = flow_of acts channels [] n in
          let mid : Parts S = record { stages = []; inlet = Some x; ended = false; left = n; channels = channels } in
          let new : Parts S = flow_of acts channels [] (n + 1) in
          let bound : HoldsBound acts mid = omega arith in
          let none : HoldsBound acts new = omega arith in
          let one : TookIn acts f mid x = record { hungry = record { empty = refl; not_ended = refl; dry = tt }; not_spent = refl; wants = refl; took = refl; held = bound } in
          let two : Stepped acts mid (Given x) new = record { moved = inr (inl (record { frame = x; out = Some x; dry = tt; inlet = refl; fed = refl; delivered = refl; others = refl })); held = none } in
          let count : left + length (done ++ x ∷ []) ≡ n + 1 = omega (arith, length-append done (x ∷ [])) in
          let next : FlowFed acts (flow_of acts channels [] left) (done ++ x ∷ []) (done ++ x ∷ []) new = stepped (done ++ x ∷ []) done (Given x) mid new (taken_in done done x f mid fed one) two in
          rw (← append_assoc done (x ∷ []) more) (go (done ++ x ∷ []) more (rw count next))

  -- and the last of them was given last
  pub none-last : (channels left : ℕ) (xs : List Samples) → 1 ≤ length xs → GaveLast acts (flow_of acts channels [] left) xs xs (flow_of acts channels [] (left + length xs))
  none-last channels left [] some = absurd (omega (arith, some))
  none-last channels left (x ∷ []) some =
      let f : Parts S = flow_of acts channels [] left in
      let mid : Parts S = record { stages = []; inlet = Some x; ended = false; left = left; channels = channels } in
      let bound : HoldsBound acts mid = omega arith in
      let none : HoldsBound acts (flow_of acts channels [] (left + 1)) = omega arith in
      let one : TookIn acts f mid x = record { hungry = record { empty = refl; not_ended = refl; dry = tt }; not_spent = refl; wants = refl; took = refl; held = bound } in
      let two : Stepped acts mid (Given x) (flow_of acts channels [] (left + 1)) = record { moved = inr (inl (record { frame = x; out = Some x; dry = tt; inlet = refl; fed = refl; delivered = refl; others = refl })); held = none } in
      record { earlier = []; frame = x; before = mid; all = refl; fed = taken_in [] [] x f mid untouched one; gave = two }
  none-last channels left (x ∷ y ∷ xs) some =
      let e : left + length (x ∷ y ∷ xs) ≡ left + 1 + length (y ∷ xs) = omega arith in
      rw e (GaveLast-then acts _ _ _ (x ∷ []) (x ∷ []) (y ∷ xs) (y ∷ xs) (none-fed channels left (x ∷ [])) (none-last channels (left + 1) (y ∷ xs) (omega arith)))

  pub none-gave : (channels left : ℕ) (xs : List Samples) → FlowGave acts (flow_of acts channels [] left) xs xs (flow_of acts channels [] (left + length xs))
  none-gave channels left xs =
      record { rest = λ z e. refl; whole = λ z e. refl; recipes_stay = refl; taken = omega arith; given = refl; ended = refl; channels = refl }

  pub none-sound : (channels left count : ℕ) → IsSound acts (flow_of acts channels [] left) → left + count ≤ max_frames → IsSound acts (flow_of acts channels [] (left + count))
  none-sound channels left count sound bound = record { planned = sound.planned; joined = tt; bound = omega arith; inlet = λ x e. absurd (cc); closed = λ e. refl }
