-- Frames that go through stages in sequence one after another.
use Rattle.std.proofs.Common.{ℕ, zero, suc, add-one, ◌+◌, ◌-◌, ◌*◌, ◌/◌, ◌<◌, ◌≤◌, ◌≡◌, Bool, true, false, map, List, [], ◌∷◌, ◌++◌, get_or, length, take, drop, set, refl, sym, ap, ◌∙◌, subst, arith, inl, inr, Option, Some, None, option_to_list, ◌||◌, ◌&&◌, max, ℤ, FitsSigned, if◌then◌else◌, ◌⊎◌}
use Rattle.std.specs.Int.{w32}
use Rattle.std.specs.List.{All}
use Rattle.std.proofs.lemmas.List.{append-nil, append_assoc, drop-drop, drop-take, drop_all, length-append, length-drop, length-take-le, take-take, take_at}
use Rattle.std.proofs.lemmas.List.Elements.{All-drop, All-take}
use Rattle.std.proofs.Math.Nat.{div-mul-le_self, mul-le-mul_right, suc-mul}
use Rattle.fx_frame_base.specs.Feed.{GaveNext, TookNext}
use Rattle.fx_frame_base.specs.Frame.{IsFrame, Samples}
use Rattle.fx_frame_base.specs.Holds.{kinds, recipes}
use Rattle.fx_frame_base.specs.Lists.{pieces}
use Rattle.fx_frame_base.specs.Stage.{Acts, Counts, IsDry, StageKind, is_enough, kind, spent}
use Rattle.fx_frame_base.specs.Pipeline.{AreReady, outputs_of}
use Rattle.fx_chain_flow.specs.Parts.{AllDry, AllDetermined, any_spent, ended_of, moves_of}
use Rattle.fx_chain_flow.specs.Pipeline.{AllHeld, WentThrough}
use Rattle.std.proofs.lemmas.Bool.{cases_lt}
use Rattle.fx_chain_flow.proofs.Laws.{given_by-due}
use Rattle.fx_frame_base.proofs.Capacities.{free-grows}
use Rattle.fx_chain_flow.specs.Composed.{due_of}
use Rattle.fx_chain_flow.specs.Feed.{FlowTookWithinSpace, GaveLast}
use Rattle.fx_chain_flow.specs.Parts.{given_by}
use Rattle.fx_chain_flow.specs.Runs.{GivesOneEach, AllAhead, AllKeep, MayRun, MayRunPipeline, RanOn, flow_of}
use Rattle.fx_chain_flow.specs.StageCall.{StageCall}
use Rattle.fx_chain_flow.specs.Order.{InOrder}
use Rattle.fx_chain_flow.specs.Sound.{IsSound, max_frames}
use Rattle.fx_chain_flow.specs.declared.runs.Widths.{Widths}
use Rattle.fx_chain_flow.proofs.Feeding.{outs, Turned, Turned-kept, Turned-last, Turned-none, Turned-through}
use Rattle.fx_frame_base.proofs.Pieces.{length-pieces}
use Rattle.fx_frame_base.proofs.Puts.{pieces-more, pieces-put}
use Rattle.fx_chain_flow.proofs.Orders.{InOrder-then}
use Rattle.fx_chain_flow.proofs.HandOvers.{AllDetermined-dry}
use Rattle.fx_chain_flow.proofs.Pipelines.{AreReady-from, CameTo, neither}
use Rattle.fx_chain_flow.proofs.PipelineSteps.{passed-pipeline, passed-pipeline-last}

-- what comes out has as many channels as what goes in
pub outputs-keep : (channels : ℕ) (ks : List StageKind) → AllKeep channels ks → outputs_of channels ks ≡ channels
outputs-keep channels [] h = refl
outputs-keep channels (k ∷ ks) h = rw h.0 (outputs-keep channels ks h.1)

-- the widths of stages that each give as many channels as go in
kept-is : (w : Widths) (channels : ℕ) → w.keeps ≡ true → w.inputs ≡ channels → w.outputs ≡ w.inputs → record { inputs = channels; outputs = channels; keeps = true } ≡ w
kept-is w channels keeps inputs outputs =
    let same : ◌≡◌ {A = ℕ × (ℕ × Bool)} (channels, (channels, true)) (w.inputs, (w.outputs, w.keeps)) = rw (keeps, outputs, inputs) refl in
    ap (λ (p : ℕ × (ℕ × Bool)). record { inputs = p.0; outputs = p.1.0; keeps = p.1.1 }) same

-- a frame was written after so many that were, or none
abbrev pub Wrote : ℕ → Bool → Samples → List ℤ → List ℤ → ℕ → ℕ → Type 0
Wrote channels b frame out out' given given' =
    ((b ≡ true) × (out' ≡ take (given * channels) out ++ (frame ++ drop (given * channels + channels - given * channels) (drop (given * channels) out))) × (given' ≡ given + 1))
    ⊎ ((b ≡ false) × (out' ≡ out) × (given' ≡ given))

put-mid : (at size : ℕ) (out frame out' : List ℤ) → out' ≡ take at out ++ (frame ++ drop size (drop at out)) → out' ≡ take at out ++ frame ++ drop (at + size) out
put-mid at size out frame out' e = e ∙ ap (λ l. take at out ++ (frame ++ l)) (drop-drop size at out) ∙ sym (append_assoc (take at out) frame (drop (at + size) out))

-- where it reaches to the end
pub put-rest : (at : ℕ) (out new out' : List ℤ) → out' ≡ take at out ++ (new ++ drop (length out - at) (drop at out)) → out' ≡ take at out ++ new
put-rest at out new out' e =
    let none : drop (length out - at) (drop at out) ≡ [] = drop_all (length out - at) (drop at out) (omega (arith, length-drop at out)) in
    e ∙ ap (λ l. take at out ++ (new ++ l)) none ∙ ap (λ l. take at out ++ l) (append-nil new)

-- so many frames, or one, lie in samples that hold that many, and one
pub frames-fit : (count minimum channels long : ℕ) → count ≡ max minimum 1 → minimum ≤ long / channels → channels ≤ long → count * channels ≤ long
frames-fit count zero channels long e h one = let same : count ≡ 1 = omega arith in rw same (omega arith)
frames-fit count (suc minimum) channels long e h one =
    let same : count ≡ suc minimum = omega arith in
    let some : suc minimum * channels ≤ long / channels * channels = mul-le-mul_right channels h in
    rw same (omega (arith, some, div-mul-le_self long channels))

-- the same where the frames that come out may have no samples
pub outs-fit : (count minimum outputs wide long : ℕ) → count ≡ max minimum 1 → wide ≡ max outputs 1 → minimum ≤ long / wide → outputs ≤ long → count * outputs ≤ long
outs-fit count minimum zero wide long e w h one = omega arith
outs-fit count minimum (suc outputs) wide long e w h one = let same : wide ≡ suc outputs = omega arith in frames-fit count minimum (suc outputs) long e (rw same at h) one

put-long : (at size : ℕ) (out frame out' : List ℤ) → length frame ≡ size → at + size ≤ length out → out' ≡ take at out ++ frame ++ drop (at + size) out → length out' ≡ length out
put-long at size out frame out' e h w =
    rw w (omega (arith, e, length-append (take at out ++ frame) (drop (at + size) out), length-append (take at out) frame, length-take-le at out (omega arith), length-drop (at + size) out))

-- a frame that stands in samples that were read
frame-read : (at size long : ℕ) (input : List ℤ) → 1 ≤ size → size ≤ 16 → at + size ≤ long → long ≤ length input → All (FitsSigned w32) (take long input) → IsFrame (take size (drop at input))
frame-read at size long input some bound within reach fits =
    let reaches : at + (long - at) ≡ long = omega (arith, within) in
    let whole : drop at (take long input) ≡ take (long - at) (drop at input) = ap (λ n. drop at (take n input)) (sym reaches) ∙ drop-take at (long - at) input in
    let cut : take size (drop at (take long input)) ≡ take size (drop at input) = ap (take size) whole ∙ take-take size (long - at) (drop at input) (omega (arith, within)) in
    let free : size ≤ length (drop at input) = omega (arith, length-drop at input, within, reach) in
    record {
      some = rw (length-take-le size (drop at input) free) some;
      bound = rw (length-take-le size (drop at input) free) bound;
      fits = rw cut at (All-take (FitsSigned w32) size (drop at (take long input)) (All-drop (FitsSigned w32) at (take long input) fits));
    }

module _ {S R : Type 0} (acts : Acts S R) where
  -- the widths of stages in sequence of which each stage gives as many channels as go in, and so many go in
  pub widths-kept : {w kept : Widths} {count : ℕ} {samples free : List ℤ} {stages : List S} → MayRunPipeline acts w count samples free stages → (channels : ℕ) → kept ≡ record { inputs = channels; outputs = channels; keeps = true } → w.keeps ≡ true → w.inputs ≡ channels → kept ≡ w
  widths-kept {w} may channels named keeps is = named ∙ kept-is w channels keeps is (may.outputs ∙ outputs-keep _ _ (may.keep keeps))

  pub AllAhead-less : (m n : ℕ) (stages : List S) → m ≤ n → AllAhead acts n stages → AllAhead acts m stages
  AllAhead-less m n [] h all = tt
  AllAhead-less m n (s ∷ stages) h all = ((λ k l. all.0 k (omega arith)), AllAhead-less m n stages h all.1)

  -- the stage at a place, and those after it
  pub AllAhead-drop : (i count : ℕ) (stages : List S) (d : S) → i < length stages → ((n : ℕ) → n < count → is_enough (kind acts (get_or stages i d)).enough ((acts.counts (get_or stages i d)).taken + n) ≡ false) → AllAhead acts count (drop (suc i) stages)
      → AllAhead acts count (drop i stages)
  AllAhead-drop i count [] d h here more = absurd (omega arith)
  AllAhead-drop zero count (s ∷ stages) d h here more = (here, more)
  AllAhead-drop (suc i) count (s ∷ stages) d h here more = AllAhead-drop i count stages d (omega arith) here more

  -- none is spent
  pub AllAhead-unspent : (count : ℕ) (stages : List S) → 1 ≤ count → AllAhead acts count stages → any_spent acts stages ≡ false
  AllAhead-unspent count [] h all = refl
  AllAhead-unspent count (s ∷ stages) h all =
      let zero-more : (acts.counts s).taken + 0 ≡ (acts.counts s).taken = omega arith in
      let here : is_enough (kind acts s).enough (acts.counts s).taken ≡ false = rw zero-more at (all.0 0 (omega arith)) in
      rw (here, AllAhead-unspent count stages h all.1) (dry-or (acts.dry s))
    where
      dry-or : (b : Bool) → (b && false) || false ≡ false
      dry-or true = refl
      dry-or false = refl

  enough-same : (s t : S) (m n : ℕ) → acts.recipe s ≡ acts.recipe t → m ≡ n → is_enough (kind acts t).enough n ≡ false → is_enough (kind acts s).enough m ≡ false
  enough-same s t m n e k h =
      let same : ◌≡◌ {A = R × ℕ} (acts.recipe s, m) (acts.recipe t, n) = rw (e, k) refl in
      subst (λ (p : R × ℕ). is_enough (acts.kind_of p.0).enough p.1 ≡ false) (sym same) h

  -- where none is spent, each wants one frame
  pub AllAhead-one : (stages : List S) → AllDry acts stages → any_spent acts stages ≡ false → AllAhead acts 1 stages
  AllAhead-one [] dry unspent = tt
  AllAhead-one (s ∷ stages) dry unspent =
      let both = neither (spent acts s) (any_spent acts stages) unspent in
      let here : is_enough (kind acts s).enough (acts.counts s).taken ≡ false = rw dry.0 at both.0 in
      ((λ n h. let same : (acts.counts s).taken + n ≡ (acts.counts s).taken = omega (arith, h) in rw same here), AllAhead-one stages dry.1 both.1)

  pub AllAhead-some : (count : ℕ) (stages : List S) → AllDry acts stages → any_spent acts stages ≡ false → AllAhead acts count stages → AllAhead acts (max count 1) stages
  AllAhead-some zero stages dry unspent all = AllAhead-one stages dry unspent
  AllAhead-some (suc count) stages dry unspent all = let e : max (suc count) 1 ≡ suc count = omega arith in rw e all

  -- a stage that took a frame wants one fewer
  ahead-took : (count : ℕ) (s s' : S) (x : Samples) → TookNext acts s s' x → ((n : ℕ) → n < suc count → is_enough (kind acts s).enough ((acts.counts s).taken + n) ≡ false)
      → (n : ℕ) → n < count → is_enough (kind acts s').enough ((acts.counts s').taken + n) ≡ false
  ahead-took count s s' x took all n h =
      let counted : (acts.counts s').taken ≡ (acts.counts s).taken + 1 = ap (λ (c : Counts). c.taken) took.took.counted in
      let same : (acts.counts s').taken + n ≡ (acts.counts s).taken + suc n = omega (arith, counted) in
      enough-same s' s ((acts.counts s').taken + n) ((acts.counts s).taken + suc n) took.took.recipe_stays same (all (suc n) (omega arith))

  ahead-gave : (count : ℕ) (mid s' : S) (g : Samples) → GaveNext acts mid s' g → ((n : ℕ) → n < count → is_enough (kind acts mid).enough ((acts.counts mid).taken + n) ≡ false)
      → (n : ℕ) → n < count → is_enough (kind acts s').enough ((acts.counts s').taken + n) ≡ false
  ahead-gave count mid s' g gave all n h =
      let counted : (acts.counts s').taken ≡ (acts.counts mid).taken = ap (λ (c : Counts). c.taken) gave.gave.gives.counted in
      enough-same s' mid ((acts.counts s').taken + n) ((acts.counts mid).taken + n) gave.gave.recipe_stays (ap (λ m. m + n) counted) (all n h)

  pub AllAhead-went : (count : ℕ) (x : Samples) (out : Option Samples) (old new : List S) → WentThrough acts x out old new → AllAhead acts (suc count) old → AllAhead acts count new
  AllAhead-went count x out [] [] went all = tt
  AllAhead-went count x out (s ∷ stages) (s' ∷ stages') (inl kept) all =
      rw kept.2 (ahead-took count s s' x kept.0 all.0, AllAhead-less count (suc count) stages (omega arith) all.1)
  AllAhead-went count x out (s ∷ stages) (s' ∷ stages') (inr went) all =
      (ahead-gave count went.0 s' went.1 went.3 (ahead-took count s went.0 x went.2 all.0), AllAhead-went count went.1 out stages stages' went.4 all.1)
  AllAhead-went count x out [] (s' ∷ stages') went all = absurd went
  AllAhead-went count x out (s ∷ stages) [] went all = absurd went

  pub AllHeld-went : (x : Samples) (out : Option Samples) (old new : List S) → WentThrough acts x out old new → AllHeld acts old → AllHeld acts new
  AllHeld-went x out [] [] went all = tt
  AllHeld-went x out (s ∷ stages) (s' ∷ stages') (inl kept) all = rw kept.2 (kept.0.held, all.1)
  AllHeld-went x out (s ∷ stages) (s' ∷ stages') (inr went) all = (went.3.held, AllHeld-went went.1 out stages stages' went.4 all.1)
  AllHeld-went x out [] (s' ∷ stages') went all = absurd went
  AllHeld-went x out (s ∷ stages) [] went all = absurd went

  -- the stage that a frame came to gives as many channels
  pub AllKeep-at : (i channels : ℕ) (first frame : Samples) (old new : List S) (d : S) → CameTo acts i first frame old new → AllKeep channels (kinds acts old) → i < length new → (kind acts (get_or new i d)).outputs ≡ channels
  AllKeep-at zero channels first frame [] new d came keep h = absurd (let none = ap length came.1 in omega arith)
  AllKeep-at zero channels first frame (s ∷ stages) new d came keep h = rw came.1 keep.0
  AllKeep-at (suc i) channels first frame (s ∷ stages) (s' ∷ stages') d came keep h = AllKeep-at i channels came.1 frame stages stages' d came.4 keep.1 (omega arith)
  AllKeep-at (suc i) channels first frame [] new d came keep h = absurd came
  AllKeep-at (suc i) channels first frame (s ∷ stages) [] d came keep h = absurd came

  -- stages before a place that have given what is due, and one more
  pub determined-next : (i : ℕ) (new : List S) (s' : S) → i < length new → AllDetermined acts (take i new) → acts.dry s' ≡ true → IsDry acts s' → AllDetermined acts (take (suc i) (set new i s'))
  determined-next i [] s' h all dry is = absurd (omega arith)
  determined-next zero (t ∷ stages) s' h all dry is = (dry, is, tt)
  determined-next (suc i) (t ∷ stages) s' h all dry is = (all.0, all.1, determined-next i stages s' (omega arith) all.2 dry is)

  -- the frame stayed in a stage; those after it stayed as they were
  pub determined-kept : (i : ℕ) (first frame : Samples) (old new : List S) (s' : S) → i < length new → CameTo acts i first frame old new → AllDetermined acts old → AllDetermined acts (take i new) → acts.dry s' ≡ true → IsDry acts s' → AllDetermined acts (set new i s')
  determined-kept zero first frame old [] s' h came before all dry is = absurd (omega arith)
  determined-kept zero first frame [] (t ∷ stages') s' h came before all dry is = absurd (let many = ap length came.1 in omega arith)
  determined-kept zero first frame (s ∷ stages) (t ∷ stages') s' h came before all dry is =
      let tail : stages' ≡ stages = cc (came.1) in
      rw tail (dry, is, before.2)
  determined-kept (suc i) first frame (s ∷ stages) (t ∷ stages') s' h came before all dry is =
      (all.0, all.1, determined-kept i came.1 frame stages stages' s' (omega arith) came.4 before.2 all.2 dry is)
  determined-kept (suc i) first frame [] new s' h came before all dry is = absurd came
  determined-kept (suc i) first frame (s ∷ stages) [] s' h came before all dry is = absurd came

  -- where before each frame no more is due than one for each that came, and all of them have room
  pub FlowCapacity-each : (channels left : ℕ) (stages : List S) (count free : ℕ) → GivesOneEach acts stages left count → count * outputs_of channels (kinds acts stages) ≤ free → FlowTookWithinSpace acts (flow_of acts channels stages left) count free
  FlowCapacity-each channels left stages count free each fits n bound =
      let none : left + 0 + n ≡ left + n = omega arith in
      rw none (free-grows (due_of (kinds acts stages) (left + n) - given_by acts left stages) count (outputs_of channels (kinds acts stages)) free (omega (arith, each n bound, bound)) fits)

  module _ (rises : (r : R) (m n : ℕ) → m ≤ n → (acts.kind_of r).maximum m ≤ (acts.kind_of r).maximum n) (channels outputs count left : ℕ) (first : List S) (input start : List ℤ) where
    -- how far the frames have gone through the stages
    pub record Running (stages : List S) (out : List ℤ) (read written taken given : ℕ) : Type 0 where
      pub turned : Turned acts (flow_of acts channels first left) input start (flow_of acts channels stages (left + taken)) out read written taken given
      pub sound : IsSound acts (flow_of acts channels stages (left + taken))
      pub moves : moves_of acts (flow_of acts channels first left) + ended_of acts first ≤ moves_of acts (flow_of acts channels stages (left + taken)) + ended_of acts stages
      pub held : AllHeld acts stages
      pub ahead : (m : ℕ) → taken + m ≡ count → AllAhead acts m stages
      pub same : kinds acts stages ≡ kinds acts first
      pub fewer : given ≤ taken
      pub each : GivesOneEach acts first left taken
      pub last : given ≡ taken → 1 ≤ given → GaveLast acts (flow_of acts channels first left) (pieces channels taken input) (pieces (outputs_of channels (kinds acts first)) given out) (flow_of acts channels stages (left + taken))

    pub Running-none : MayRun acts channels count first left → AllHeld acts first → AllAhead acts count first → Running first start 0 0 0 0
    Running-none may held ahead =
        let e : left + 0 ≡ left = omega arith in
        record {
          turned = rw e (Turned-none acts (flow_of acts channels first left) input start);
          sound = rw e may.sound;
          moves = rw e (omega arith);
          held = held;
          ahead = λ m is. let same : m ≡ count = omega arith in rw same ahead;
          same = refl;
          fewer = omega arith;
          each = λ n bound. absurd (omega (arith, bound));
          last = λ even some. absurd (omega (arith, some));
        }

    -- and before one frame more, where all have given what is due
    Running-each : (stages : List S) (out : List ℤ) (read written taken given : ℕ) → Running stages out read written taken given → AllDetermined acts stages → GivesOneEach acts first left (taken + 1)
    Running-each stages out read written taken given run determined n bound = elim (cases_lt n taken) [
      | inl less ↦ run.each n less
      | inr last ↦
          let due = given_by-due acts (left + taken) false stages refl determined run.sound.joined in
          let gave = run.turned.gave.given in
          let count : left + n ≡ left + taken = omega (arith, last, bound) in
          let many = length-pieces (outs acts (flow_of acts channels first left) input start) given out in
          rw (count, ← run.same, ← due) (omega (arith, gave, many, run.fewer, last))
    ]

    -- none is spent, and all may be passed a frame
    Running-unspent : (stages : List S) (out : List ℤ) (read written taken given : ℕ) → Running stages out read written taken given → taken < count → any_spent acts stages ≡ false
    Running-unspent stages out read written taken given run more = AllAhead-unspent 1 stages (omega arith) (AllAhead-less 1 (count - taken) stages (omega arith) (run.ahead (count - taken) (omega arith)))

    pub Running-ready : (stages : List S) (out : List ℤ) (read written taken given : ℕ) → Running stages out read written taken given → taken < count → AllDetermined acts stages → AreReady acts channels (left + taken) max_frames stages
    Running-ready stages out read written taken given run more determined =
        let sound = run.sound in
        AreReady-from acts channels (left + taken) max_frames false stages refl (AllDetermined-dry acts stages determined) (Running-unspent stages out read written taken given run more) sound.planned.matching sound.planned.within sound.joined

    -- what the run did so far
    pub Running-ran : (stages : List S) (out : List ℤ) (read written taken given : ℕ) → Running stages out read written taken given → taken * channels ≤ length input → outputs_of channels (kinds acts first) ≡ outputs
        → RanOn acts channels (pieces channels taken input) (pieces outputs given out) first stages left
    Running-ran stages out read written taken given run free outs =
        let many : length (pieces channels taken input) ≡ taken = length-pieces channels taken input in
        record { fed = rw many (rw outs at run.turned.fed); gave = rw many (rw outs at run.turned.gave); sound = rw many run.sound; moves = rw many run.moves; each = rw many run.each; last = λ even some. let gave : length (pieces outputs given out) ≡ given = length-pieces outputs given out in rw many (rw outs at (run.last (omega (arith, gave, many, even)) (omega (arith, gave, some)))) }

    module _ (stages stages' : List S) (out : List ℤ) (read written taken given : ℕ) (x : Samples) (run : Running stages out read written taken given) (bound : left + count ≤ max_frames) (more : taken < count) (determined : AllDetermined acts stages) (shape : IsFrame x) (width : length x ≡ channels) (is : x ≡ take channels (drop read input)) (some : 1 ≤ channels) (free : read + channels ≤ length input) where
      -- of what a frame that goes through the stages keeps
      keeps : (o : Option Samples) → WentThrough acts x o stages stages' → recipes acts stages' ≡ recipes acts stages → (m : ℕ) → taken + 1 + m ≡ count → AllAhead acts m stages'
      keeps o went same m e = AllAhead-went m x o stages stages' went (run.ahead (suc m) (omega (arith, e)))

      unspent : any_spent acts stages ≡ false
      unspent = Running-unspent stages out read written taken given run more

      -- the frame stayed in a stage
      Running-kept : WentThrough acts x None stages stages' → Running stages' out (read + channels) written (taken + 1) given
      Running-kept went =
          let going = passed-pipeline acts rises channels (left + taken) x shape width (omega arith) None stages stages' run.sound determined unspent run.held went in
          let e : left + (taken + 1) ≡ left + taken + 1 = omega arith in
          record {
            turned = rw e (Turned-kept acts (flow_of acts channels first left) input start (flow_of acts channels stages (left + taken)) (flow_of acts channels stages' (left + taken + 1)) x out read written taken given run.turned refl going.fed going.gave some free is);
            sound = rw e going.sound;
            moves = rw e (omega (arith, run.moves, going.moves));
            held = AllHeld-went x None stages stages' went run.held;
            ahead = λ m n. keeps None went going.gave.recipes_stay m n;
            same = ap (map acts.kind_of) going.gave.recipes_stay ∙ run.same;
            fewer = let h = run.fewer in omega arith;
            each = Running-each stages out read written taken given run determined;
            last = λ even some. absurd (omega (arith, even, run.fewer));
          }

      -- a frame came out
      Running-through : (frame : Samples) (out' : List ℤ) → WentThrough acts x (Some frame) stages stages' → length frame ≡ outputs → 1 ≤ length frame → written + outputs ≤ length out → out' ≡ take written out ++ frame ++ drop (written + outputs) out → length out' ≡ length out → outputs_of channels (kinds acts first) ≡ outputs
          → Running stages' out' (read + channels) (written + outputs) (taken + 1) (given + 1)
      Running-through frame out' went sides one fits_out put same outs =
          let going = passed-pipeline acts rises channels (left + taken) x shape width (omega arith) (Some frame) stages stages' run.sound determined unspent run.held went in
          let e : left + (taken + 1) ≡ left + taken + 1 = omega arith in
          let put' : out' ≡ take written out ++ frame ++ drop (written + length frame) out = put ∙ ap (λ n. take written out ++ frame ++ drop (written + n) out) (sym sides) in
          let through = Turned-through acts (flow_of acts channels first left) input start (flow_of acts channels stages (left + taken)) (flow_of acts channels stages' (left + taken + 1)) x frame out out' read written taken given run.turned refl going.fed going.gave some free is
          (sides ∙ sym outs) one (omega (arith, outs)) put' same in
          record {
            turned = rw e (rw sides at through);
            sound = rw e going.sound;
            moves = rw e (omega (arith, run.moves, going.moves));
            held = AllHeld-went x (Some frame) stages stages' went run.held;
            ahead = λ m n. keeps (Some frame) went going.gave.recipes_stay m n;
            same = ap (map acts.kind_of) going.gave.recipes_stay ∙ run.same;
            fewer = let h = run.fewer in omega arith;
            each = Running-each stages out read written taken given run determined;
            last = λ even some. rw e (Turned-last acts (flow_of acts channels first left) input start (flow_of acts channels stages (left + taken)) (flow_of acts channels stages' (left + taken + 1)) x frame out out' read written taken given run.turned
                (passed-pipeline-last acts rises channels (left + taken) x shape width (omega arith) frame stages stages' run.sound determined unspent run.held went) is (sides ∙ sym outs) (omega (arith, outs)) put');
          }

    -- a frame was copied from the input, went through the stages, and what came out was copied to the output
    module _ (stages stages' : List S) (out out' places places' x : List ℤ) (taken given given' : ℕ) (b : Bool) (run : Running stages out (taken * channels) (given * outputs) taken given) (bound : left + count ≤ max_frames) (more : taken < count) (determined : AllDetermined acts stages)
        (outs : outputs_of channels (kinds acts first) ≡ outputs) (frame : (1 ≤ channels) × (channels ≤ 16)) (reach : count * channels ≤ length input) (fits_out : count * outputs ≤ length out) (fits : All (FitsSigned w32) (take (count * channels) input))
        (copied : x ≡ take (taken * channels + channels - taken * channels) (drop (taken * channels) input)) (sixteen : length places' ≡ 16)
        (went : WentThrough acts (take channels (x ++ drop channels places)) (if b then Some (take (outputs_of channels (kinds acts stages)) places') else None) stages stages')
        (wide : b ≡ true → (1 ≤ outputs_of channels (kinds acts stages)) × (outputs_of channels (kinds acts stages) ≤ 16)) where
      next-frame : (n width : ℕ) → n * width + width ≡ (n + 1) * width
      next-frame n width = omega (arith, add-one n, suc-mul n width)

      within : taken * channels + channels ≤ count * channels
      within =
          let turns : (taken + 1) * channels ≤ count * channels = mul-le-mul_right channels (omega (arith, more)) in
          omega (arith, next-frame taken channels, turns)

      x-is : x ≡ take channels (drop (taken * channels) input)
      x-is = let n : taken * channels + channels - taken * channels ≡ channels = omega arith in rw n at copied

      width : length x ≡ channels
      width = ap length x-is ∙ length-take-le channels (drop (taken * channels) input) (omega (arith, length-drop (taken * channels) input, within, reach))

      shape : IsFrame x
      shape = subst IsFrame (sym x-is) (frame-read (taken * channels) channels (count * channels) input frame.0 frame.1 within reach fits)

      outs-now : outputs_of channels (kinds acts stages) ≡ outputs
      outs-now = ap (outputs_of channels) run.same ∙ outs

      went-now : WentThrough acts x (if b then Some (take outputs places') else None) stages stages'
      went-now = let front : take channels (x ++ drop channels places) ≡ x = take_at x (drop channels places) channels width in rw (front, outs-now) at went

      -- a frame that comes out is as wide as those of the output, which has space for it
      placed : b ≡ true → (length (take outputs places') ≡ outputs) × (given * outputs + outputs ≤ length out)
      placed is =
          let wide' = rw outs-now at (wide is) in
          let turns : (given + 1) * outputs ≤ count * outputs = mul-le-mul_right outputs (omega (arith, more, run.fewer)) in
          (length-take-le outputs places' (omega (arith, sixteen, wide'.1)), omega (arith, next-frame given outputs, turns, fits_out))

      pub Running-frame : Wrote outputs b (take outputs places') out out' given given' → Running stages' out' ((taken + 1) * channels) (given' * outputs) (taken + 1) given'
      Running-frame (inl wrote) =
          let went' = rw wrote.0 at went-now in
          let wide' = rw outs-now at (wide wrote.0) in
          let (long, free) = placed wrote.0 in
          let n : given * outputs + outputs - given * outputs ≡ outputs = omega arith in
          let put = put-mid (given * outputs) outputs out (take outputs places') out' (rw n at wrote.1) in
          rw (wrote.2, ← next-frame taken channels, ← next-frame given outputs)
          (Running-through stages stages' out (taken * channels) (given * outputs) taken given x run bound more determined shape width x-is frame.0 (omega (arith, within, reach)) (take outputs places') out' went'
          long (omega (arith, long, wide'.0)) free put (put-long (given * outputs) outputs out (take outputs places') out' long free put) outs)
      Running-frame (inr wrote) =
          let went' = rw wrote.0 at went-now in
          rw (wrote.1, wrote.2, ← next-frame taken channels)
          (Running-kept stages stages' out (taken * channels) (given * outputs) taken given x run bound more determined shape width x-is frame.0 (omega (arith, within, reach)) went')

      -- and the calls were made in order
      pub Order-frame : (handed : List S → StageCall → List S → Type 0) (passed_while : List Samples → List Samples → List Samples → S → S → Type 0) (start-left : ℕ) → Wrote outputs b (take outputs places') out out' given given'
          → InOrder acts handed passed_while (flow_of acts channels first start-left) (pieces channels taken input) (pieces outputs given out) [] 0 (flow_of acts channels stages (start-left + taken))
          → InOrder acts handed passed_while (flow_of acts channels stages (start-left + taken)) (take channels (x ++ drop channels places) ∷ []) (option_to_list (if b then Some (take (outputs_of channels (kinds acts stages)) places') else None)) [] 0 (flow_of acts channels stages' (start-left + taken + 1))
          → InOrder acts handed passed_while (flow_of acts channels first start-left) (pieces channels (taken + 1) input) (pieces outputs given' out') [] 0 (flow_of acts channels stages' (start-left + (taken + 1)))
      Order-frame handed passed_while start-left wrote before here = from wrote
        where
          front : take channels (x ++ drop channels places) ≡ x
          front = take_at x (drop channels places) channels width

          e : start-left + (taken + 1) ≡ start-left + taken + 1
          e = omega arith

          longer : pieces channels (taken + 1) input ≡ pieces channels taken input ++ x ∷ []
          longer = pieces-more channels taken (taken * channels) input refl ∙ ap (λ y. pieces channels taken input ++ y ∷ []) (sym x-is)

          now : InOrder acts handed passed_while (flow_of acts channels stages (start-left + taken)) (x ∷ []) (option_to_list (if b then Some (take outputs places') else None)) [] 0 (flow_of acts channels stages' (start-left + taken + 1))
          now = rw (front, outs-now) at here

          from : Wrote outputs b (take outputs places') out out' given given' → InOrder acts handed passed_while (flow_of acts channels first start-left) (pieces channels (taken + 1) input) (pieces outputs given' out') [] 0 (flow_of acts channels stages' (start-left + (taken + 1)))
          from (inl wrote) =
              let (long, free) = placed wrote.0 in
              let n : given * outputs + outputs - given * outputs ≡ outputs = omega arith in
              let put = put-mid (given * outputs) outputs out (take outputs places') out' (rw n at wrote.1) in
              let put' : out' ≡ take (given * outputs) out ++ take outputs places' ++ drop (given * outputs + length (take outputs places')) out = put ∙ ap (λ k. take (given * outputs) out ++ take outputs places' ++ drop (given * outputs + k) out) (sym long) in
              let next : pieces outputs (given + 1) out' ≡ pieces outputs given out ++ take outputs places' ∷ [] = pieces-put outputs given (given * outputs) out (take outputs places') out' refl long free put' in
              rw (longer, wrote.2, next, e) (InOrder-then acts handed passed_while (flow_of acts channels first start-left) (flow_of acts channels stages (start-left + taken)) (flow_of acts channels stages' (start-left + taken + 1)) (pieces channels taken input) (pieces outputs given out) (x ∷ []) (take outputs places' ∷ []) [] 0 before (rw wrote.0 at now))
          from (inr wrote) =
              rw (longer, wrote.1, wrote.2, e) (rw append-nil at (InOrder-then acts handed passed_while (flow_of acts channels first start-left) (flow_of acts channels stages (start-left + taken)) (flow_of acts channels stages' (start-left + taken + 1)) (pieces channels taken input) (pieces outputs given out) (x ∷ []) [] [] 0 before (rw wrote.0 at now)))
