-- A frame that went through stages in sequence, as steps of their flow.
use Rattle.std.proofs.Common.{ℕ, suc, ◌+◌, ◌<◌, ◌≤◌, ◌≡◌, false, List, [], ◌∷◌, ◌++◌, length, refl, sym, ap, ◌∙◌, arith, inl, inr, Option, Some, None, option_to_list, append-nil, append_assoc}
use Rattle.fx_frame_base.specs.Feed.{GaveNext, IsHeld}
use Rattle.fx_frame_base.specs.Frame.{IsFrame, Samples}
use Rattle.fx_frame_base.specs.Holds.{kinds}
use Rattle.fx_frame_base.specs.Stage.{Acts}
use Rattle.fx_chain_flow.specs.Feed.{FlowFed, FlowGave, GaveLast, HoldsBound, Stepped, stepped, taken_in, untouched}
use Rattle.fx_frame_base.specs.Pipeline.{outputs_of}
use Rattle.fx_chain_flow.specs.Parts.{AllDetermined, PipelineFed, HandedOver, IsLastWet, Parts, any_spent, ended_of, moves_of, taken_of}
use Rattle.fx_chain_flow.specs.Composed.{enough_for}
use Rattle.fx_chain_flow.specs.Pipeline.{AllHeld, WentThrough}
use Rattle.fx_chain_flow.specs.Sound.{IsSound, max_frames}
use Rattle.fx_chain_flow.specs.Steps.{IsHungry, step_of}
use Rattle.fx_chain_flow.proofs.Feeding.{FlowGave-none, FlowGave-stepped, FlowGave-took}
use Rattle.fx_chain_flow.specs.Runs.{flow_of}
use Rattle.fx_chain_flow.proofs.HandOvers.{AllDetermined-dry}
use Rattle.fx_chain_flow.proofs.Laws.{any_spent-enough}
use Rattle.fx_chain_flow.proofs.Pipelines.{AllHeld-sum, given-channels}
use Rattle.fx_chain_flow.proofs.Steps.{IsSound-feed, IsSound-over, Steps-feed, Steps-over, after_feed, after_over, given_out-step_of}

module _ {S R : Type 0} (acts : Acts S R) where
  -- one stage after another gave its frame to the next, or out
  pub data Overs (first : List S) : List Samples → List S → Type 0 where
    unchanged : Overs first [] first
    over : (gs : List Samples) (old new : List S) (i : ℕ) (out : Option Samples) → Overs first gs old → IsLastWet acts i old → HandedOver acts i out old new → AllHeld acts new → Overs first (gs ++ option_to_list out) new

  Overs-lift : (s : S) (old new : List S) (gs : List Samples) → IsHeld acts s → Overs old gs new → Overs (s ∷ old) gs (s ∷ new)
  Overs-lift s old new gs h unchanged = unchanged
  Overs-lift s old new gs h (over hs b c i out before last handed held) = over hs (s ∷ b) (s ∷ c) (suc i) out (Overs-lift s old b hs h before) last (refl, handed) (h, held)

  Overs-then : (a b c : List S) (gs hs : List Samples) → Overs a gs b → Overs b hs c → Overs a (gs ++ hs) c
  Overs-then a b c gs hs r unchanged = rw append-nil r
  Overs-then a b c gs hs r (over ks old new i out before last handed held) = rw (← append_assoc gs ks (option_to_list out)) (over (gs ++ ks) old new i out (Overs-then a b old gs ks r before) last handed held)

  -- a stage gave, and its frame went through those after it
  pub Overs-pipeline : (mid s' : S) (frame : Samples) (out : Option Samples) (stages stages' : List S) → GaveNext acts mid s' frame → AllDetermined acts stages → AllHeld acts stages → WentThrough acts frame out stages stages'
      → Overs (mid ∷ stages) (option_to_list out) (s' ∷ stages')
  Overs-pipeline mid s' frame out [] [] gave determined held went = rw went (over [] (mid ∷ []) (s' ∷ []) 0 (Some frame) unchanged (gave.gave.was_wet, tt) gave.gave (gave.held, tt))
  Overs-pipeline mid s' frame out (t ∷ stages) (t' ∷ stages') gave determined held (inl kept) =
      rw (kept.1, kept.2) (over [] (mid ∷ t ∷ stages) (s' ∷ t' ∷ stages) 0 None unchanged (gave.gave.was_wet, determined) (frame, gave.gave, kept.0.took, refl) (gave.held, (kept.0.held, held.1)))
  Overs-pipeline mid s' frame out (t ∷ stages) (t' ∷ stages') gave determined held (inr went) =
      let one : Overs (mid ∷ t ∷ stages) [] (s' ∷ went.0 ∷ stages) =
      over [] (mid ∷ t ∷ stages) (s' ∷ went.0 ∷ stages) 0 None unchanged (gave.gave.was_wet, determined) (frame, gave.gave, went.2.took, refl) (gave.held, (went.2.held, held.1)) in
      let more = Overs-pipeline went.0 t' went.1 out stages stages' went.3 determined.2 held.1 went.4 in
      Overs-then _ _ _ [] (option_to_list out) one (Overs-lift s' _ _ _ gave.held more)
  Overs-pipeline mid s' frame out [] (t' ∷ stages') gave determined held went = absurd went
  Overs-pipeline mid s' frame out (t ∷ stages) [] gave determined held went = absurd went

  -- the last stage gave a frame out, and nothing moved after that
  record OverLast (first : List S) (frame : Samples) (new : List S) : Type 0 where
    pub old : List S
    pub place : ℕ
    pub before : Overs first [] old
    pub last : IsLastWet acts place old
    pub over : HandedOver acts place (Some frame) old new
    pub held : AllHeld acts new

  OverLast-lift : (s : S) (first new : List S) (frame : Samples) → IsHeld acts s → OverLast first frame new → OverLast (s ∷ first) frame (s ∷ new)
  OverLast-lift s first new frame h o = record { old = s ∷ o.old; place = suc o.place; before = Overs-lift s first o.old [] h o.before; last = o.last; over = (refl, o.over); held = (h, o.held) }

  OverLast-pipeline : (mid s' : S) (frame out : Samples) (stages stages' : List S) → GaveNext acts mid s' frame → AllDetermined acts stages → AllHeld acts stages → WentThrough acts frame (Some out) stages stages' → OverLast (mid ∷ stages) out (s' ∷ stages')
  OverLast-pipeline mid s' frame out [] [] gave determined held went =
      let same : out ≡ frame = cc (went) in
      rw same (record { old = mid ∷ []; place = 0; before = unchanged; last = (gave.gave.was_wet, tt); over = gave.gave; held = (gave.held, tt) })
  OverLast-pipeline mid s' frame out (t ∷ stages) (t' ∷ stages') gave determined held (inl kept) = let none = kept.1 in absurd (cc (none))
  OverLast-pipeline mid s' frame out (t ∷ stages) (t' ∷ stages') gave determined held (inr went) =
      let one : Overs (mid ∷ t ∷ stages) [] (s' ∷ went.0 ∷ stages) =
      over [] (mid ∷ t ∷ stages) (s' ∷ went.0 ∷ stages) 0 None unchanged (gave.gave.was_wet, determined) (frame, gave.gave, went.2.took, refl) (gave.held, (went.2.held, held.1)) in
      let more = OverLast-lift s' (went.0 ∷ stages) (t' ∷ stages') out gave.held (OverLast-pipeline went.0 t' went.1 out stages stages' went.3 determined.2 held.1 went.4) in
      record { old = more.old; place = more.place; before = Overs-then _ _ _ [] [] one more.before; last = more.last; over = more.over; held = more.held }
  OverLast-pipeline mid s' frame out [] (t' ∷ stages') gave determined held went = absurd went
  OverLast-pipeline mid s' frame out (t ∷ stages) [] gave determined held went = absurd went

  -- a flow was fed these frames and gave those, and is sound
  pub record Going (first : Parts S) (xs gs : List Samples) (f : Parts S) : Type 0 where
    pub fed : FlowFed acts first xs gs f
    pub gave : FlowGave acts first xs gs f
    pub sound : IsSound acts f
    pub moves : moves_of acts first + ended_of acts first.stages ≤ moves_of acts f + ended_of acts f.stages

  module _ (rises : (r : R) (m n : ℕ) → m ≤ n → (acts.kind_of r).maximum m ≤ (acts.kind_of r).maximum n) where
    Stepped-over : (f : Parts S) (i : ℕ) (out : Option Samples) (stages : List S) → f.inlet ≡ None → IsLastWet acts i f.stages → HandedOver acts i out f.stages stages → AllHeld acts stages → Stepped acts f (step_of out) (after_over acts rises f stages)
    Stepped-over f i out stages empty last handed held =
        let bound : HoldsBound acts (after_over acts rises f stages) = rw empty (omega (arith, AllHeld-sum acts stages held)) in
        record { moved = inl (record { place = i; out = out; last = last; over = handed; delivered = refl; others = refl }); held = bound }

    Stepped-feed : (f : Parts S) (frame : Samples) (out : Option Samples) (stages : List S) → AllDetermined acts f.stages → f.inlet ≡ Some frame → PipelineFed acts frame out f.stages stages → AllHeld acts stages → Stepped acts f (step_of out) (after_feed acts rises f stages)
    Stepped-feed f frame out stages determined inlet fed held =
        let bound : HoldsBound acts (after_feed acts rises f stages) = omega (arith, AllHeld-sum acts stages held) in
        record { moved = inr (inl (record { frame = frame; out = out; dry = AllDetermined-dry acts f.stages determined; inlet = inlet; fed = fed; delivered = refl; others = refl })); held = bound }

    Going-over : (first f : Parts S) (xs gs : List Samples) (i : ℕ) (out : Option Samples) (stages : List S) → Going first xs gs f → f.inlet ≡ None → IsLastWet acts i f.stages → HandedOver acts i out f.stages stages → AllHeld acts stages
        → Going first xs (gs ++ option_to_list out) (after_over acts rises f stages)
    Going-over first f xs gs i out stages going empty last handed held =
        let one = Stepped-over f i out stages empty last handed held in
        let steps = Steps-over acts rises f i out stages going.sound last handed in
        rw (← given_out-step_of out)
        (record { fed = stepped xs gs (step_of out) f (after_over acts rises f stages) going.fed one; gave = FlowGave-stepped acts first f (after_over acts rises f stages) xs gs (step_of out) going.gave steps; sound = IsSound-over acts rises f i out stages going.sound last handed; moves = omega (arith, going.moves, steps.steps) })

    Going-overs : (first f : Parts S) (xs gs hs : List Samples) (stages : List S) → Going first xs gs f → f.inlet ≡ None → Overs f.stages hs stages → Going first xs (gs ++ hs) (after_over acts rises f stages)
    Going-overs first f xs gs hs stages going empty unchanged = rw append-nil going
    Going-overs first f xs gs hs stages going empty (over ks old new i out before last handed held) =
        rw (← append_assoc gs ks (option_to_list out))
        (Going-over first (after_over acts rises f old) xs (gs ++ ks) i out new (Going-overs first f xs gs ks old going empty before) empty last handed held)

    Going-feed : (first f : Parts S) (xs gs : List Samples) (frame : Samples) (out : Option Samples) (stages : List S) → Going first xs gs f → AllDetermined acts f.stages → f.inlet ≡ Some frame → PipelineFed acts frame out f.stages stages → AllHeld acts stages
        → Going first xs (gs ++ option_to_list out) (after_feed acts rises f stages)
    Going-feed first f xs gs frame out stages going determined inlet fed held =
        let one = Stepped-feed f frame out stages determined inlet fed held in
        let steps = Steps-feed acts rises f frame out stages going.sound determined inlet fed in
        rw (← given_out-step_of out)
        (record { fed = stepped xs gs (step_of out) f (after_feed acts rises f stages) going.fed one; gave = FlowGave-stepped acts first f (after_feed acts rises f stages) xs gs (step_of out) going.gave steps; sound = IsSound-feed acts rises f frame out stages going.sound determined inlet fed; moves = omega (arith, going.moves, steps.steps) })

    module _ (channels left : ℕ) (frame : Samples) (shape : IsFrame frame) (width : length frame ≡ channels) (bound : left < max_frames) where
      -- the frame is in the inlet
      taken-pipeline : (stages : List S) → IsSound acts (flow_of acts channels stages left) → AllDetermined acts stages → any_spent acts stages ≡ false → AllHeld acts stages
          → Going (flow_of acts channels stages left) (frame ∷ []) [] (record (flow_of acts channels stages left) { inlet = Some frame })
      taken-pipeline stages sound determined unspent held =
          let f : Parts S = flow_of acts channels stages left in
          let f' : Parts S = record f { inlet = Some frame } in
          let hungry : IsHungry acts f = record { empty = refl; not_ended = refl; dry = AllDetermined-dry acts stages determined } in
          let came : left + 0 ≡ left = omega arith in
          let wants : enough_for (kinds acts stages) (taken_of f) ≡ false = rw came (sym (any_spent-enough acts left false stages refl determined sound.joined) ∙ unspent) in
          let full : HoldsBound acts f' = omega (arith, AllHeld-sum acts stages held) in
          record {
            fed = taken_in [] [] frame f f' untouched (record { hungry = hungry; not_spent = unspent; wants = wants; took = refl; held = full });
            gave = FlowGave-took acts f f f' [] [] frame (FlowGave-none acts f) refl refl refl;
            sound = record { planned = sound.planned; joined = sound.joined; bound = omega arith; inlet = λ x e. let same : x ≡ frame = cc (e) in rw same (shape, width); closed = λ e. absurd (cc (e)) };
            moves = omega arith;
          }

      -- the frame went through the stages
      pub passed-pipeline : (out : Option Samples) (stages stages' : List S) → IsSound acts (flow_of acts channels stages left) → AllDetermined acts stages → any_spent acts stages ≡ false → AllHeld acts stages → WentThrough acts frame out stages stages'
          → Going (flow_of acts channels stages left) (frame ∷ []) (option_to_list out) (flow_of acts channels stages' (left + 1))
      passed-pipeline out [] [] sound determined unspent held went =
          rw went (Going-feed _ _ (frame ∷ []) [] frame (Some frame) [] (taken-pipeline [] sound determined unspent held) determined refl refl tt)
      passed-pipeline out (s ∷ stages) (s' ∷ stages') sound determined unspent held (inl kept) =
          rw (kept.1, kept.2) (Going-feed _ _ (frame ∷ []) [] frame None (s' ∷ stages) (taken-pipeline (s ∷ stages) sound determined unspent held) determined refl (kept.0.took, refl) (kept.0.held, held.1))
      passed-pipeline out (s ∷ stages) (s' ∷ stages') sound determined unspent held (inr went) =
          let one = Going-feed _ _ (frame ∷ []) [] frame None (went.0 ∷ stages) (taken-pipeline (s ∷ stages) sound determined unspent held) determined refl (went.2.took, refl) (went.2.held, held.1) in
          Going-overs _ _ (frame ∷ []) [] (option_to_list out) (s' ∷ stages') one refl (Overs-pipeline went.0 s' went.1 out stages stages' went.3 determined.2 held.1 went.4)
      passed-pipeline out [] (s' ∷ stages') sound determined unspent held went = absurd went
      passed-pipeline out (s ∷ stages) [] sound determined unspent held went = absurd went

      -- where a frame came out, nothing was done after that
      pub passed-pipeline-last : (out : Samples) (stages stages' : List S) → IsSound acts (flow_of acts channels stages left) → AllDetermined acts stages → any_spent acts stages ≡ false → AllHeld acts stages → WentThrough acts frame (Some out) stages stages'
          → GaveLast acts (flow_of acts channels stages left) (frame ∷ []) (out ∷ []) (flow_of acts channels stages' (left + 1))
      passed-pipeline-last out [] [] sound determined unspent held went =
          let same : out ≡ frame = cc (went) in
          let taken = taken-pipeline [] sound determined unspent held in
          rw same (record { earlier = []; frame = frame; before = record (flow_of acts channels [] left) { inlet = Some frame }; all = refl; fed = taken.fed; gave = Stepped-feed (record (flow_of acts channels [] left) { inlet = Some frame }) frame (Some frame) [] determined refl refl tt })
      passed-pipeline-last out (s ∷ stages) (s' ∷ stages') sound determined unspent held (inl kept) = let none = kept.1 in absurd (cc (none))
      passed-pipeline-last out (s ∷ stages) (s' ∷ stages') sound determined unspent held (inr went) =
          let first : Parts S = flow_of acts channels (s ∷ stages) left in
          let mid : Parts S = flow_of acts channels (went.0 ∷ stages) (left + 1) in
          let one : Going first (frame ∷ []) [] mid = Going-feed _ _ (frame ∷ []) [] frame None (went.0 ∷ stages) (taken-pipeline (s ∷ stages) sound determined unspent held) determined refl (went.2.took, refl) (went.2.held, held.1) in
          let o = OverLast-pipeline went.0 s' went.1 out stages stages' went.3 determined.2 held.1 went.4 in
          let going = Going-overs first mid (frame ∷ []) [] [] o.old one refl o.before in
          record { earlier = []; frame = out; before = after_over acts rises mid o.old; all = refl; fed = going.fed; gave = Stepped-over (after_over acts rises mid o.old) o.place (Some out) (s' ∷ stages') refl o.last o.over o.held }
      passed-pipeline-last out [] (s' ∷ stages') sound determined unspent held went = absurd went
      passed-pipeline-last out (s ∷ stages) [] sound determined unspent held went = absurd went

  -- what comes out after the stages has the channels of the last
  pub WentThrough-sides : (channels : ℕ) (frame out : Samples) (stages stages' : List S) → WentThrough acts frame (Some out) stages stages' → length frame ≡ channels → length out ≡ outputs_of channels (kinds acts stages)
  WentThrough-sides channels frame out [] [] went e = let same : out ≡ frame = cc (went) in ap length same ∙ e
  WentThrough-sides channels frame out (s ∷ stages) (s' ∷ stages') (inl kept) e = let none = kept.1 in absurd (cc (none))
  WentThrough-sides channels frame out (s ∷ stages) (s' ∷ stages') (inr went) e =
      WentThrough-sides (acts.kind_of (acts.recipe s)).outputs went.1 out stages stages' went.4 (given-channels acts s went.0 s' frame went.1 went.2 went.3)
  WentThrough-sides channels frame out [] (s' ∷ stages') went e = absurd went
  WentThrough-sides channels frame out (s ∷ stages) [] went e = absurd went
