-- Frames that the first stage of a flow took without giving any, as a run of the flow.
use Rattle.std.proofs.Common.{ℕ, zero, suc, ◌+◌, ◌*◌, ◌≤◌, ◌≡◌, true, false, List, [], ◌∷◌, length, map, take, refl, sym, ap, arith, inl, None, subst, ℤ, FitsSigned}
use Rattle.std.specs.Int.{w32}
use Rattle.std.specs.List.{All}
use Rattle.std.proofs.Math.Nat.{mul-le-mul_right}
use Rattle.fx_frame_base.specs.Feed.{IsHeld, IsNoneDue, TookAll, TookNext}
use Rattle.fx_frame_base.specs.Frame.{Samples}
use Rattle.fx_frame_base.specs.Holds.{kinds}
use Rattle.fx_frame_base.specs.Lists.{pieces}
use Rattle.fx_frame_base.specs.Pipeline.{AreReady}
use Rattle.fx_frame_base.specs.Stage.{Acts, IsDry}
use Rattle.fx_frame_base.proofs.Pieces.{length-pieces}
use Rattle.fx_chain_flow.specs.Feed.{untouched}
use Rattle.fx_chain_flow.specs.Parts.{AllDetermined}
use Rattle.fx_chain_flow.specs.Pipeline.{AllHeld}
use Rattle.fx_chain_flow.specs.Runs.{AllAhead, GivesOneEach, MayRun, RanOn, flow_of}
use Rattle.fx_chain_flow.specs.Sound.{IsSound, max_frames}
use Rattle.fx_chain_flow.specs.StageCall.{At, ChangedAt, MayTakeMany, TookMany}
use Rattle.fx_chain_flow.proofs.Feeding.{FlowGave-none}
use Rattle.fx_chain_flow.proofs.Laws.{given_by-due}
use Rattle.fx_chain_flow.proofs.PipelineRuns.{AreFrames, AreFrames-front, Going-then}
use Rattle.fx_chain_flow.proofs.PipelineSteps.{Going, passed-pipeline}
use Rattle.fx_chain_flow.proofs.Running.{AllAhead-unspent, AllAhead-went}

module _ {S R : Type 0} (acts : Acts S R) where
  -- the first stage may take frames without giving any
  pub may-take : (channels count left : ℕ) (s : S) (stages : List S) → AreReady acts channels left max_frames (s ∷ stages) → left + count ≤ max_frames → AllAhead acts count (s ∷ stages) → IsNoneDue acts count s → (acts.kind_of (acts.recipe s)).outputs ≤ 16 → MayTakeMany acts channels count s
  may-take channels count left s stages ready bound ahead none outputs =
      record { dry = ready.0; not_ended = ready.1; inputs = ready.3; outputs = outputs; none_due = none; ahead = ahead.0; below_limit = omega (arith, ready.4, ready.5, bound) }

  -- before each frame it was dry, and had given what was due
  dry-before : (xs : List Samples) (s s' : S) → TookAll acts xs s s' → (acts.dry s' ≡ true) × IsDry acts s' → (acts.dry s ≡ true) × IsDry acts s
  dry-before [] s s' all dry = rw (← all) dry
  dry-before (x ∷ xs) s s' all dry = let took = all.1 in (took.dry, record { due = λ _. took.due; over = λ ended. absurd (cc (ended, took.not_ended)) })

  -- it holds no more than it may
  held-after : (xs : List Samples) (s s' : S) → IsHeld acts s → TookAll acts xs s s' → IsHeld acts s'
  held-after [] s s' held all = rw all held
  held-after (x ∷ xs) s s' held all = held-after xs all.0 s' all.1.held all.2

  module _ (rises : (r : R) (m n : ℕ) → m ≤ n → (acts.kind_of r).maximum m ≤ (acts.kind_of r).maximum n) (channels : ℕ) where
    -- what one frame did
    one-taken : (x : Samples) (count left : ℕ) (s next : S) (stages : List S) → AreFrames channels (x ∷ []) → left + 1 ≤ max_frames → IsSound acts (flow_of acts channels (s ∷ stages) left) → AllDetermined acts (s ∷ stages) → AllHeld acts (s ∷ stages) → AllAhead acts (suc count) (s ∷ stages) → TookNext acts s next x
        → Going acts (flow_of acts channels (s ∷ stages) left) (x ∷ []) [] (flow_of acts channels (next ∷ stages) (left + 1))
    one-taken x count left s next stages frames bound sound determined held ahead took =
        passed-pipeline acts rises channels left x frames.0 frames.1 (omega arith) None (s ∷ stages) (next ∷ stages) sound determined (AllAhead-unspent acts (suc count) (s ∷ stages) (omega arith) ahead) held (inl (took, refl, refl))

    -- frames that the first stage took went to its flow, one after another
    Going-taken : (xs : List Samples) (left : ℕ) (s s' : S) (stages : List S) → AreFrames channels xs → left + length xs ≤ max_frames → IsSound acts (flow_of acts channels (s ∷ stages) left) → AllDetermined acts (s ∷ stages) → AllHeld acts (s ∷ stages) → AllAhead acts (length xs) (s ∷ stages) → TookAll acts xs s s' → (acts.dry s' ≡ true) × IsDry acts s'
        → Going acts (flow_of acts channels (s ∷ stages) left) xs [] (flow_of acts channels (s' ∷ stages) (left + length xs))
    Going-taken [] left s s' stages frames bound sound determined held ahead all dry =
        let e : left + 0 ≡ left = omega arith in
        rw (all, e) (record { fed = untouched; gave = FlowGave-none acts (flow_of acts channels (s ∷ stages) left); sound = sound; moves = omega arith })
    Going-taken (x ∷ xs) left s s' stages frames bound sound determined held ahead all dry =
        let one = one-taken x (length xs) left s all.0 stages (frames.0, frames.1, tt) (omega (arith, bound)) sound determined held ahead all.1 in
        let before = dry-before xs all.0 s' all.2 dry in
        let rest = Going-taken xs (left + 1) all.0 s' stages frames.2 (omega (arith, bound)) one.sound (before.0, before.1, determined.2) (all.1.held, held.1)
        (AllAhead-went acts (length xs) x None (s ∷ stages) (all.0 ∷ stages) (inl (all.1, refl, refl)) ahead) all.2 dry in
        let e : left + suc (length xs) ≡ left + 1 + length xs = omega arith in
        rw e (Going-then acts _ _ _ (x ∷ []) [] xs [] one refl rest)

    -- before each no more was due than one for each
    each-taken : (xs : List Samples) (left : ℕ) (s s' : S) (stages : List S) → AreFrames channels xs → left + length xs ≤ max_frames → IsSound acts (flow_of acts channels (s ∷ stages) left) → AllDetermined acts (s ∷ stages) → AllHeld acts (s ∷ stages) → AllAhead acts (length xs) (s ∷ stages) → TookAll acts xs s s' → (acts.dry s' ≡ true) × IsDry acts s'
        → GivesOneEach acts (s ∷ stages) left (length xs)
    each-taken [] left s s' stages frames bound sound determined held ahead all dry n less = absurd (omega (arith, less))
    each-taken (x ∷ xs) left s s' stages frames bound sound determined held ahead all dry zero less =
        let due = given_by-due acts left false (s ∷ stages) refl determined sound.joined in
        let count : left + 0 ≡ left = omega arith in
        rw (count, ← due) (omega arith)
    each-taken (x ∷ xs) left s s' stages frames bound sound determined held ahead all dry (suc n) less =
        let one = one-taken x (length xs) left s all.0 stages (frames.0, frames.1, tt) (omega (arith, bound)) sound determined held ahead all.1 in
        let before = dry-before xs all.0 s' all.2 dry in
        let rest = each-taken xs (left + 1) all.0 s' stages frames.2 (omega (arith, bound)) one.sound (before.0, before.1, determined.2) (all.1.held, held.1)
        (AllAhead-went acts (length xs) x None (s ∷ stages) (all.0 ∷ stages) (inl (all.1, refl, refl)) ahead) all.2 dry in
        let later = rest n (omega (arith, less)) in
        let count : left + 1 + n ≡ left + suc n = omega arith in
        let same : kinds acts (all.0 ∷ stages) ≡ kinds acts (s ∷ stages) = ap (map acts.kind_of) one.gave.recipes_stay in
        omega (arith, rw (count, same) at later, one.gave.given)

    -- what the call did to frames at the front of the input
    pub RanOn-taken : (count taken left : ℕ) (old new : List S) (input : List ℤ) → 1 ≤ channels → channels ≤ 16 → taken ≤ count → count * channels ≤ length input → All (FitsSigned w32) (take (taken * channels) input) → MayRun acts channels count old left → AllDetermined acts old → AllHeld acts old → AllAhead acts taken old
        → ChangedAt (TookMany acts (pieces channels taken input)) 0 old new → RanOn acts channels (pieces channels taken input) [] old new left
    RanOn-taken count taken left (s ∷ stages) (s' ∷ stages') input some bound within free fits may determined held ahead changed =
        let less : taken * channels ≤ count * channels = mul-le-mul_right channels within in
        let xs = pieces channels taken input in
        let long = length-pieces channels taken input in
        let frames = AreFrames-front channels taken input some bound (omega (arith, less, free)) fits in
        let fit : left + length xs ≤ max_frames = omega (arith, long, within, may.bound) in
        let all_ahead = subst (λ (k : ℕ). AllAhead acts k (s ∷ stages)) (sym long) ahead in
        let going = Going-taken xs left s s' stages frames fit may.sound determined held all_ahead changed.0.took (changed.0.dry, changed.0.determined) in
        rw changed.1
        (record {
          fed = going.fed;
          gave = going.gave;
          sound = going.sound;
          moves = going.moves;
          each = each-taken xs left s s' stages frames fit may.sound determined held all_ahead changed.0.took (changed.0.dry, changed.0.determined);
          last = λ as_many one. absurd (omega (arith, one));
        })
    RanOn-taken count taken left [] new input some bound within free fits may determined held ahead changed = absurd changed
    RanOn-taken count taken left (s ∷ stages) [] input some bound within free fits may determined held ahead changed = absurd changed

  pub AllHeld-taken : (xs : List Samples) (old new : List S) → AllHeld acts old → ChangedAt (TookMany acts xs) 0 old new → AllHeld acts new
  AllHeld-taken xs (s ∷ stages) (s' ∷ stages') held changed = rw changed.1 (held-after xs s s' held.0 changed.0.took, held.1)
  AllHeld-taken xs [] new held changed = absurd changed
  AllHeld-taken xs (s ∷ stages) [] held changed = absurd changed

  -- the first of stages that are ready may take frames without giving any
  pub first-may-take : (channels count left : ℕ) (stages : List S) → AreReady acts channels left max_frames stages → left + count ≤ max_frames → AllAhead acts count stages → At (IsNoneDue acts count) 0 stages → At (λ s. (acts.kind_of (acts.recipe s)).outputs ≤ 16) 0 stages → At (MayTakeMany acts channels count) 0 stages
  first-may-take channels count left (s ∷ stages) ready bound ahead none narrow = may-take channels count left s stages ready bound ahead none narrow
  first-may-take channels count left [] ready bound ahead none narrow = absurd none
