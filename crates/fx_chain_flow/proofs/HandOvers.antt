use Rattle.std.proofs.Common.{ℕ, zero, suc, ◌+◌, ◌-◌, sub-one, ◌<◌, ◌≤◌, true, false, List, [], ◌∷◌, ◌≡◌, length, drop, take, get_or, arith, refl, ap, ◌∙◌, Option, Some, None}
use Rattle.std.proofs.Math.ListN.{set}
use Rattle.fx_frame_base.specs.Frame.{Samples}
use Rattle.fx_frame_base.specs.Stage.{Counts, Acts, Gave, Took, Ended, IsDry, kind}
use Rattle.fx_chain_flow.specs.Parts.{AllDry, AllDetermined, AllEnded, IsLastWet, IsFirstOpen, CanHandOver, CanFeed, GaveAt, HandedOver, PipelineFed, EndPassed, through}
use Rattle.fx_chain_flow.specs.Moving.{CanMove, Lifted, MovedFrom}

module _ {S R : Type 0} (acts : Acts S R) where
  -- a stage that is not dry, before dry ones, is the last
  pub IsLastWet-at : (i : ℕ) (stages : List S) (d : S) → i < length stages → acts.dry (get_or stages i d) ≡ false → AllDetermined acts (drop (suc i) stages) → IsLastWet acts i stages
  IsLastWet-at i [] d h w r = absurd (omega arith)
  IsLastWet-at zero (x ∷ stages) d h w r = (w, r)
  IsLastWet-at (suc i) (x ∷ stages) d h w r = IsLastWet-at i stages d (omega arith) w r

  -- one more stage is dry
  pub AllDetermined-drop : (i : ℕ) (stages : List S) (d : S) → i < length stages → acts.dry (get_or stages i d) ≡ true → IsDry acts (get_or stages i d) → AllDetermined acts (drop (suc i) stages) → AllDetermined acts (drop i stages)
  AllDetermined-drop i [] d h w k r = absurd (omega arith)
  AllDetermined-drop zero (x ∷ stages) d h w k r = (w, k, r)
  AllDetermined-drop (suc i) (x ∷ stages) d h w k r = AllDetermined-drop i stages d (omega arith) w k r

  pub CanHandOver-lt : (i : ℕ) (stages : List S) → CanHandOver acts i stages → i < length stages
  CanHandOver-lt zero (s ∷ []) h = omega arith
  CanHandOver-lt zero (s ∷ t ∷ stages) h = omega arith
  CanHandOver-lt (suc i) (s ∷ stages) h = let k = CanHandOver-lt i stages h in omega arith
  CanHandOver-lt i [] h = absurd h

  -- the stage that is to give is not dry
  pub CanHandOver-wet : (i : ℕ) (stages : List S) (d : S) → CanHandOver acts i stages → acts.dry (get_or stages i d) ≡ false
  CanHandOver-wet zero (x ∷ []) d h = h
  CanHandOver-wet zero (x ∷ y ∷ stages) d h = h.0
  CanHandOver-wet (suc i) (x ∷ stages) d h = CanHandOver-wet i stages d h
  CanHandOver-wet i [] d h = absurd h

  -- a stage may take the frame
  pub record CanTake (t : S) (frame : Samples) : Type 0 where
    pub is_dry : acts.dry t ≡ true
    pub is_open : (acts.counts t).ended ≡ false
    pub channels : length frame ≡ (kind acts t).inputs
    pub below : (acts.counts t).taken < (kind acts t).limit

  -- a stage gave
  pub GaveAt-set : (i : ℕ) (stages : List S) (s' d : S) (frame : Samples) → i < length stages → Gave acts (get_or stages i d) s' frame → GaveAt acts i frame stages (set stages i s')
  GaveAt-set i [] s' d frame n gave = absurd (omega arith)
  GaveAt-set zero (x ∷ stages) s' d frame n gave = (gave, refl)
  GaveAt-set (suc i) (x ∷ stages) s' d frame n gave = (refl, GaveAt-set i stages s' d frame (omega arith) gave)

  -- what it gives is below the limit of the next
  given-below : (s s' t : S) (frame : Samples) → (acts.counts t).taken ≡ (acts.counts s).given → (kind acts s).maximum (acts.counts s).taken ≤ (kind acts t).limit → Gave acts s s' frame → (acts.counts t).taken < (kind acts t).limit
  given-below s s' t frame e l gave =
      let maximum : (acts.counts s).given + 1 ≤ (kind acts s).maximum (acts.counts s).taken = simp (ap (λ (c : Counts). c.given) gave.gives.counted, ap (λ (c : Counts). c.taken) gave.gives.counted) at gave.maximum in
      omega arith

  -- the stage after one that gave may take the frame
  pub CanTake-next : (i : ℕ) (old mid : List S) (frame : Samples) (d : S) → CanHandOver acts i old → GaveAt acts i frame old mid → suc i < length mid → CanTake (get_or mid (suc i) d) frame
  CanTake-next zero (s ∷ t ∷ stages) (s' ∷ mid) frame d can gave n =
      rw gave.1 (record { is_dry = can.1; is_open = can.2; channels = gave.0.channels ∙ can.3; below = given-below s s' t frame can.4 can.5 gave.0 })
  CanTake-next zero (s ∷ []) (s' ∷ []) frame d can gave n = absurd (omega arith)
  CanTake-next zero (s ∷ []) (s' ∷ y ∷ mid) frame d can gave n = absurd (let e = gave.1 in cc)
  CanTake-next (suc i) (s ∷ stages) (s' ∷ mid) frame d can gave n = CanTake-next i stages mid frame d can gave.1 (omega arith)
  CanTake-next i [] mid frame d can gave n = absurd can
  CanTake-next i old mid frame d can gave n = absurd gave

  -- the last stage gave
  pub HandedOver-out : (i : ℕ) (old mid : List S) (frame : Samples) → GaveAt acts i frame old mid → suc i ≡ length mid → HandedOver acts i (Some frame) old mid
  HandedOver-out zero (s ∷ []) (s' ∷ []) frame gave n = gave.0
  HandedOver-out zero (s ∷ t ∷ stages) (s' ∷ []) frame gave n = absurd (let e = gave.1 in cc)
  HandedOver-out zero (s ∷ stages) (s' ∷ t' ∷ mid) frame gave n = absurd (omega arith)
  HandedOver-out (suc i) (s ∷ stages) (s' ∷ mid) frame gave n = (gave.0, HandedOver-out i stages mid frame gave.1 (omega arith))
  HandedOver-out i old mid frame gave n = absurd gave

  -- a stage gave, and the next one took
  pub HandedOver-on : (i : ℕ) (old mid : List S) (t' d : S) (frame : Samples) → GaveAt acts i frame old mid → suc i < length mid → Took acts (get_or mid (suc i) d) t' frame → HandedOver acts i None old (set mid (suc i) t')
  HandedOver-on zero (s ∷ t ∷ stages) (s' ∷ mid) t' d frame gave n took = rw gave.1 (frame, gave.0, rw gave.1 at took, refl)
  HandedOver-on zero (s ∷ []) (s' ∷ []) t' d frame gave n took = absurd (omega arith)
  HandedOver-on zero (s ∷ []) (s' ∷ y ∷ mid) t' d frame gave n took = absurd (let e = gave.1 in cc)
  HandedOver-on (suc i) (s ∷ stages) (s' ∷ mid) t' d frame gave n took = (gave.0, HandedOver-on i stages mid t' d frame gave.1 (omega arith) took)
  HandedOver-on i old mid t' d frame gave n took = absurd gave

  length-GaveAt : (i : ℕ) (old mid : List S) (frame : Samples) → GaveAt acts i frame old mid → length mid ≡ length old
  length-GaveAt zero (s ∷ old) (s' ∷ mid) frame gave = rw gave.1 refl
  length-GaveAt (suc i) (s ∷ old) (s' ∷ mid) frame gave = ap suc (length-GaveAt i old mid frame gave.1)
  length-GaveAt i old mid frame gave = absurd gave

  CanTake-fed : (frame : Samples) (stages : List S) (d : S) → CanFeed acts frame stages → 0 < length stages → CanTake (get_or stages 0 d) frame
  CanTake-fed frame [] d can n = absurd (omega arith)
  CanTake-fed frame (s ∷ stages) d can n = record { is_dry = can.0; is_open = can.1; channels = can.2; below = can.3 }

  Fed-out : (frame : Samples) (stages : List S) → 0 ≡ length stages → PipelineFed acts frame (Some frame) stages stages
  Fed-out frame [] n = refl
  Fed-out frame (s ∷ stages) n = absurd (omega arith)

  Fed-in : (frame : Samples) (stages : List S) (s' d : S) → 0 < length stages → Took acts (get_or stages 0 d) s' frame → PipelineFed acts frame None stages (set stages 0 s')
  Fed-in frame [] s' d n took = absurd (omega arith)
  Fed-in frame (s ∷ stages) s' d n took = (took, refl)

  -- the stage at the place may take what was taken out before it
  pub CanTake-lifted : (place : ℕ) (inlet inlet' : Option Samples) (old mid : List S) (frame : Samples) (d : S) → CanMove acts place inlet old → Lifted acts place inlet inlet' frame old mid → place < length mid → CanTake (get_or mid place d) frame
  CanTake-lifted zero inlet inlet' old mid frame d can lifted n =
      let same : can.0 ≡ frame = let a = can.1 in let b = lifted.0 in cc in
      let fed : CanFeed acts frame old = rw (← same) can.2 in
      rw lifted.2 (CanTake-fed frame old d fed (rw lifted.2 at n))
  CanTake-lifted (suc i) inlet inlet' old mid frame d can lifted n = CanTake-next i old mid frame d can lifted.1 n

  -- it goes out past the last stage
  pub MovedFrom-out : (place : ℕ) (inlet inlet' : Option Samples) (old mid : List S) (frame : Samples) → Lifted acts place inlet inlet' frame old mid → place ≡ length mid → MovedFrom acts place inlet inlet' (Some frame) old mid
  MovedFrom-out zero inlet inlet' old mid frame lifted n = rw lifted.2 (frame, lifted.0, lifted.1, Fed-out frame old (rw lifted.2 at n))
  MovedFrom-out (suc i) inlet inlet' old mid frame lifted n = (lifted.0, HandedOver-out i old mid frame lifted.1 n)

  -- the stage at the place takes it
  pub MovedFrom-on : (place : ℕ) (inlet inlet' : Option Samples) (old mid : List S) (t' d : S) (frame : Samples) → Lifted acts place inlet inlet' frame old mid → place < length mid → Took acts (get_or mid place d) t' frame → MovedFrom acts place inlet inlet' None old (set mid place t')
  MovedFrom-on zero inlet inlet' old mid t' d frame lifted n took = rw lifted.2 (frame, lifted.0, lifted.1, Fed-in frame old t' d (rw lifted.2 at n) (rw lifted.2 at took))
  MovedFrom-on (suc i) inlet inlet' old mid t' d frame lifted n took = (lifted.0, HandedOver-on i old mid t' d frame lifted.1 n took)

  pub length-Lifted : (place : ℕ) (inlet inlet' : Option Samples) (old mid : List S) (frame : Samples) → Lifted acts place inlet inlet' frame old mid → length mid ≡ length old
  length-Lifted zero inlet inlet' old mid frame lifted = rw lifted.2 refl
  length-Lifted (suc i) inlet inlet' old mid frame lifted = length-GaveAt i old mid frame lifted.1

  -- past the inlet it is a stage that may give
  pub CanMove-give : (place : ℕ) (inlet : Option Samples) (stages : List S) → (place ≡ 0 → ⊥) → CanMove acts place inlet stages → CanHandOver acts (place - 1) stages
  CanMove-give zero inlet stages some can = absurd (some refl)
  CanMove-give (suc i) inlet stages some can = rw sub-one can

  pub Lifted-give : (place : ℕ) (inlet : Option Samples) (old mid : List S) (frame : Samples) → (place ≡ 0 → ⊥) → GaveAt acts (place - 1) frame old mid → Lifted acts place inlet inlet frame old mid
  Lifted-give zero inlet old mid frame some gave = absurd (some refl)
  Lifted-give (suc i) inlet old mid frame some gave = (refl, rw sub-one at gave)

  pub CanMove-le : (place : ℕ) (inlet : Option Samples) (stages : List S) → CanMove acts place inlet stages → place ≤ length stages
  CanMove-le zero inlet stages can = omega arith
  CanMove-le (suc i) inlet stages can = let h = CanHandOver-lt i stages can in omega arith

  -- the stages before are ended, and this one is not
  pub IsFirstOpen-at : (i : ℕ) (stages : List S) (d : S) → i < length stages → (acts.counts (get_or stages i d)).ended ≡ false → AllEnded acts (take i stages) → IsFirstOpen acts i stages
  IsFirstOpen-at i [] d h w r = absurd (omega arith)
  IsFirstOpen-at zero (x ∷ stages) d h w r = w
  IsFirstOpen-at (suc i) (x ∷ stages) d h w r = (r.0, IsFirstOpen-at i stages d (omega arith) w r.1)

  -- one more stage is ended
  pub AllEnded-take : (i : ℕ) (stages : List S) (d : S) → i < length stages → (acts.counts (get_or stages i d)).ended ≡ true → AllEnded acts (take i stages) → AllEnded acts (take (suc i) stages)
  AllEnded-take i [] d h w r = absurd (omega arith)
  AllEnded-take zero (x ∷ stages) d h w r = (w, tt)
  AllEnded-take (suc i) (x ∷ stages) d h w r = (r.0, AllEnded-take i stages d (omega arith) w r.1)

  pub IsFirstOpen-lt : (i : ℕ) (stages : List S) → IsFirstOpen acts i stages → i < length stages
  IsFirstOpen-lt zero (s ∷ stages) h = omega arith
  IsFirstOpen-lt (suc i) (s ∷ stages) h = let k = IsFirstOpen-lt i stages h.1 in omega arith
  IsFirstOpen-lt zero [] h = absurd h
  IsFirstOpen-lt (suc i) [] h = absurd h

  pub IsFirstOpen-open : (i : ℕ) (stages : List S) (d : S) → IsFirstOpen acts i stages → (acts.counts (get_or stages i d)).ended ≡ false
  IsFirstOpen-open zero (s ∷ stages) d h = h
  IsFirstOpen-open (suc i) (s ∷ stages) d h = IsFirstOpen-open i stages d h.1
  IsFirstOpen-open zero [] d h = absurd h
  IsFirstOpen-open (suc i) [] d h = absurd h

  pub AllDetermined-at : (i : ℕ) (stages : List S) (d : S) → i < length stages → AllDetermined acts stages → acts.dry (get_or stages i d) ≡ true
  AllDetermined-at i [] d n h = absurd (omega arith)
  AllDetermined-at zero (s ∷ stages) d n h = h.0
  AllDetermined-at (suc i) (s ∷ stages) d n h = AllDetermined-at i stages d (omega arith) h.2

  pub EndPassed-at : (i : ℕ) (stages : List S) (s' d : S) → i < length stages → Ended acts (get_or stages i d) s' → EndPassed acts i stages (set stages i s')
  EndPassed-at i [] s' d n h = absurd (omega arith)
  EndPassed-at zero (s ∷ stages) s' d n h = (h, refl)
  EndPassed-at (suc i) (s ∷ stages) s' d n h = (refl, EndPassed-at i stages s' d (omega arith) h)

  pub IsLastWet-lt : (i : ℕ) (stages : List S) → IsLastWet acts i stages → i < length stages
  IsLastWet-lt zero (s ∷ stages) wet = omega arith
  IsLastWet-lt (suc i) (s ∷ stages) wet = let h = IsLastWet-lt i stages wet in omega arith
  IsLastWet-lt i [] wet = absurd wet

  pub IsLastWet-not_dry : (i : ℕ) (stages : List S) → IsLastWet acts i stages → AllDetermined acts stages → ⊥
  IsLastWet-not_dry zero (s ∷ stages) wet dry = absurd (cc (wet.0, dry.0))
  IsLastWet-not_dry (suc i) (s ∷ stages) wet dry = IsLastWet-not_dry i stages wet dry.2
  IsLastWet-not_dry i [] wet dry = wet

  pub IsFirstOpen-not_ended : (i : ℕ) (stages : List S) → IsFirstOpen acts i stages → AllEnded acts stages → ⊥
  IsFirstOpen-not_ended zero (s ∷ stages) first ended = absurd (cc (first, ended.0))
  IsFirstOpen-not_ended (suc i) (s ∷ stages) first ended = IsFirstOpen-not_ended i stages first.1 ended.1
  IsFirstOpen-not_ended zero [] first ended = first
  IsFirstOpen-not_ended (suc i) [] first ended = first

  pub AllDetermined-dry : (stages : List S) → AllDetermined acts stages → AllDry acts stages
  AllDetermined-dry [] h = tt
  AllDetermined-dry (s ∷ stages) h = (h.0, AllDetermined-dry stages h.2)

  pub IsLastWet-dry : (i : ℕ) (stages : List S) → IsLastWet acts i stages → AllDry acts stages → ⊥
  IsLastWet-dry zero (s ∷ stages) wet dry = absurd (cc (wet.0, dry.0))
  IsLastWet-dry (suc i) (s ∷ stages) wet dry = IsLastWet-dry i stages wet dry.1
  IsLastWet-dry i [] wet dry = wet

  -- a stage that gives nothing hides what comes before it
  pub through-silent : (i : ℕ) (stages : List S) (d : S) → i < length stages → ((z : List Samples) → acts.rest (get_or stages i d) z ≡ []) → (x y : List Samples) → through acts stages x ≡ through acts stages y
  through-silent i [] d n h x y = absurd (omega arith)
  through-silent zero (s ∷ stages) d n h x y = rw (h x, h y) refl
  through-silent (suc i) (s ∷ stages) d n h x y = through-silent i stages d (omega arith) h _ _
