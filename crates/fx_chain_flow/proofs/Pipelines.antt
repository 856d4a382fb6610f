-- A frame that goes through stages in sequence, one after another.
use Rattle.std.proofs.Common.{ℕ, zero, suc, ◌+◌, ◌<◌, ◌≤◌, true, false, List, [], ◌∷◌, ◌≡◌, length, drop, get_or, refl, sym, ap, ◌∙◌, subst, arith, inl, inr, Bool, ◌||◌, ◌&&◌, Some, None}
use Rattle.std.proofs.Math.ListN.{set}
use Rattle.fx_frame_base.specs.Feed.{GaveNext, IsHeld, TookNext}
use Rattle.fx_frame_base.specs.Frame.{Samples}
use Rattle.fx_frame_base.specs.Holds.{held_sum, hold_sum, kinds}
use Rattle.fx_frame_base.specs.Stage.{Acts, Counts, IsLined, kind, spent}
use Rattle.fx_chain_flow.specs.Parts.{AllDry, Joined, Matching, Within, any_spent}
use Rattle.fx_chain_flow.specs.Pipeline.{AllHeld, AllLined, WentThrough}
use Rattle.fx_frame_base.specs.Pipeline.{AreReady}
use Rattle.fx_chain_flow.proofs.Laws.{none_true}

pub neither : (a b : Bool) → a || b ≡ false → (a ≡ false) × (b ≡ false)
neither false false e = (refl, refl)
neither true b e = absurd (cc e)
neither false true e = absurd (cc e)

module _ {S R : Type 0} (acts : Acts S R) where
  -- it came to the stage at a place: each one before took a frame and gave one
  abbrev pub CameTo : ℕ → Samples → Samples → List S → List S → Type 0
  CameTo zero first frame old new = (frame ≡ first) × (new ≡ old)
  CameTo (suc i) first frame (s ∷ stages) (s' ∷ stages') =
      (mid : S) × (next : Samples) × TookNext acts s mid first × GaveNext acts mid s' next × CameTo i next frame stages stages'
  CameTo i first frame old new = ⊥

module _ {S R : Type 0} (acts : Acts S R) where
  -- a line has fewer places than a stage may hold frames
  pub AllHeld-lined : (stages : List S) → AllLined acts stages → AllHeld acts stages
  AllHeld-lined [] all = tt
  AllHeld-lined (s ∷ stages) all = let here : IsLined acts s = all.0 in (omega (arith, here), AllHeld-lined stages all.1)

  lined-sum : (stages : List S) → AllLined acts stages → held_sum acts stages + length stages ≤ hold_sum (kinds acts stages)
  lined-sum [] all = omega arith
  lined-sum (s ∷ stages) all = let here : IsLined acts s = all.0 in let more = lined-sum stages all.1 in omega arith

  -- beside their lines the stages and the inlet may hold a frame each
  pub lined-bound : (count : ℕ) (stages : List S) → AllLined acts stages → count ≤ 1 + length stages → held_sum acts stages + count ≤ 1 + hold_sum (kinds acts stages)
  lined-bound count stages all bound = let sum = lined-sum stages all in omega (arith, sum, bound)

  pub AllLined-set : (i : ℕ) (stages : List S) (s : S) → IsLined acts s → AllLined acts stages → AllLined acts (set stages i s)
  AllLined-set i [] s here all = tt
  AllLined-set zero (t ∷ stages) s here all = (here, all.1)
  AllLined-set (suc i) (t ∷ stages) s here all = (all.0, AllLined-set i stages s here all.1)

  -- the stage at a place, and those after it
  pub AllLined-drop : (i : ℕ) (stages : List S) (d : S) → i < length stages → IsLined acts (get_or stages i d) → AllLined acts (drop (suc i) stages) → AllLined acts (drop i stages)
  AllLined-drop i [] d h w r = absurd (omega arith)
  AllLined-drop zero (x ∷ stages) d h w r = (w, r)
  AllLined-drop (suc i) (x ∷ stages) d h w r = AllLined-drop i stages d (omega arith) w r

  -- together they hold no more than they may
  pub AllHeld-sum : (stages : List S) → AllHeld acts stages → held_sum acts stages ≤ hold_sum (kinds acts stages)
  AllHeld-sum [] h = omega arith
  AllHeld-sum (s ∷ stages) h = let more = AllHeld-sum stages h.1 in let here : IsHeld acts s = h.0 in omega arith

  -- what the stage at a place asks of a frame
  pub record MayPass (t : S) (frame : Samples) : Type 0 where
    pub dry : acts.dry t ≡ true
    pub not_ended : (acts.counts t).ended ≡ false
    pub not_spent : spent acts t ≡ false
    pub channels : length frame ≡ (kind acts t).inputs
    pub below_limit : (acts.counts t).taken < (kind acts t).limit

  -- what a stage that took a frame gives has its channels
  pub given-channels : (s mid s' : S) (x g : Samples) → TookNext acts s mid x → GaveNext acts mid s' g → length g ≡ (kind acts s).outputs
  given-channels s mid s' x g took gave = gave.gave.channels ∙ ap (λ (r : R). (acts.kind_of r).outputs) took.took.recipe_stays

  module _ (rises : (r : R) (m n : ℕ) → m ≤ n → (acts.kind_of r).maximum m ≤ (acts.kind_of r).maximum n) where
    -- a stage that took a frame and gave one has given fewer than it may in all
    given-fewer : (s mid s' : S) (x g : Samples) (taken maximum : ℕ) → TookNext acts s mid x → GaveNext acts mid s' g → (acts.counts s).taken ≡ taken → taken < maximum → (acts.counts s).given < (kind acts s).maximum maximum
    given-fewer s mid s' x g taken maximum took gave e h =
        let counted = took.took.counted in
        let gives = gave.gave.gives.counted in
        let given : (acts.counts s').given ≡ (acts.counts s).given + 1 = ap (λ (n : Counts). n.given) gives ∙ ap (λ (n : Counts). n.given + 1) counted in
        let count : (acts.counts s').taken ≡ taken + 1 = ap (λ (n : Counts). n.taken) gives ∙ ap (λ (n : Counts). n.taken) counted ∙ ap (λ n. n + 1) e in
        let within : (acts.counts s').given ≤ (kind acts s).maximum (taken + 1) = rw count at (subst (λ (r : R). (acts.counts s').given ≤ (acts.kind_of r).maximum (acts.counts s').taken) took.took.recipe_stays gave.gave.maximum) in
        let up : (kind acts s).maximum (taken + 1) ≤ (kind acts s).maximum maximum = rises (acts.recipe s) (taken + 1) maximum (omega arith) in
        omega arith

    -- the stage that the frame came to takes it
    pub MayPass-at : (i channels taken maximum : ℕ) (first frame : Samples) (old new : List S) (d : S) → length first ≡ channels → taken < maximum → AreReady acts channels taken maximum old → CameTo acts i first frame old new → i < length new → MayPass (get_or new i d) frame
    MayPass-at zero channels taken maximum first frame [] new d e h ready came n = absurd (let none = ap length came.1 in omega arith)
    MayPass-at zero channels taken maximum first frame (s ∷ stages) new d e h ready came n =
        rw (came.0, came.1) (record { dry = ready.0; not_ended = ready.1; not_spent = ready.2; channels = e ∙ ready.3; below_limit = omega (arith, ready.4, ready.5) })
    MayPass-at (suc i) channels taken maximum first frame (s ∷ stages) (s' ∷ stages') d e h ready came n =
        MayPass-at i (kind acts s).outputs (acts.counts s).given ((kind acts s).maximum maximum) came.1 frame stages stages' d (given-channels s came.0 s' first came.1 came.2 came.3)
        (given-fewer s came.0 s' first came.1 taken maximum came.2 came.3 ready.4 h) ready.6 came.4 (omega arith)
    MayPass-at (suc i) channels taken maximum first frame [] new d e h ready came n = absurd came
    MayPass-at (suc i) channels taken maximum first frame (s ∷ stages) [] d e h ready came n = absurd came

  -- it gave a frame for it, which came to the next place
  pub CameTo-next : (i : ℕ) (first frame next : Samples) (old new : List S) (mid s' d : S) → i < length new → CameTo acts i first frame old new → TookNext acts (get_or new i d) mid frame → GaveNext acts mid s' next
      → CameTo acts (suc i) first next old (set new i s')
  CameTo-next zero first frame next [] new mid s' d n came took gave = absurd (let none = ap length came.1 in omega arith)
  CameTo-next zero first frame next (s ∷ stages) [] mid s' d n came took gave = absurd (omega arith)
  CameTo-next zero first frame next (s ∷ stages) (t ∷ stages') mid s' d n came took gave =
      let head : t ≡ s = cc (came.1) in
      let tail : stages' ≡ stages = cc (came.1) in
      (mid, next, rw (head, came.0) at took, gave, (refl, tail))
  CameTo-next (suc i) first frame next (s ∷ stages) (t ∷ stages') mid s' d n came took gave =
      (came.0, came.1, came.2, came.3, CameTo-next i came.1 frame next stages stages' mid s' d (omega arith) came.4 took gave)
  CameTo-next (suc i) first frame next [] new mid s' d n came took gave = absurd came
  CameTo-next (suc i) first frame next (s ∷ stages) [] mid s' d n came took gave = absurd came

  -- it took it and gave none
  pub WentThrough-kept : (i : ℕ) (first frame : Samples) (old new : List S) (s' d : S) → i < length new → CameTo acts i first frame old new → TookNext acts (get_or new i d) s' frame → WentThrough acts first None old (set new i s')
  WentThrough-kept zero first frame [] new s' d n came took = absurd (let none = ap length came.1 in omega arith)
  WentThrough-kept zero first frame (s ∷ stages) [] s' d n came took = absurd (omega arith)
  WentThrough-kept zero first frame (s ∷ stages) (t ∷ stages') s' d n came took =
      let head : t ≡ s = cc (came.1) in
      let tail : stages' ≡ stages = cc (came.1) in
      inl (rw (head, came.0) at took, refl, tail)
  WentThrough-kept (suc i) first frame (s ∷ stages) (t ∷ stages') s' d n came took =
      inr (came.0, came.1, came.2, came.3, WentThrough-kept i came.1 frame stages stages' s' d (omega arith) came.4 took)
  WentThrough-kept (suc i) first frame [] new s' d n came took = absurd came
  WentThrough-kept (suc i) first frame (s ∷ stages) [] s' d n came took = absurd came

  -- it came out after the last
  pub WentThrough-out : (i : ℕ) (first frame : Samples) (old new : List S) → length new ≤ i → CameTo acts i first frame old new → WentThrough acts first (Some frame) old new
  WentThrough-out zero first frame [] [] n came = ap Some came.0
  WentThrough-out zero first frame [] (t ∷ stages') n came = absurd (omega arith)
  WentThrough-out zero first frame (s ∷ stages) new n came = absurd (let many = ap length came.1 in omega arith)
  WentThrough-out (suc i) first frame (s ∷ stages) (t ∷ stages') n came = inr (came.0, came.1, came.2, came.3, WentThrough-out i came.1 frame stages stages' (omega arith) came.4)
  WentThrough-out (suc i) first frame [] new n came = absurd came
  WentThrough-out (suc i) first frame (s ∷ stages) [] n came = absurd came

  -- stages in sequence that are dry, of which none was given the end or is spent, may be passed a frame
  pub AreReady-from : (channels taken maximum : ℕ) (over : Bool) (stages : List S) → over ≡ false → AllDry acts stages → any_spent acts stages ≡ false → Matching channels (kinds acts stages) → Within (kinds acts stages) maximum → Joined acts taken over stages
      → AreReady acts channels taken maximum stages
  AreReady-from channels taken maximum over [] going dry unspent match within joined = tt
  AreReady-from channels taken maximum over (s ∷ stages) going dry unspent match within joined =
      let open_ = none_true _ _ joined.1 going in
      let both = neither (spent acts s) (any_spent acts stages) unspent in
      (dry.0, open_, both.0, sym match.0, joined.0, within.0, AreReady-from (kind acts s).outputs (acts.counts s).given ((kind acts s).maximum maximum) ((acts.counts s).ended && acts.dry s) stages (rw open_ refl) dry.1 both.1 match.1 within.1 joined.3)
