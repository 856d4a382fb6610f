-- What a run came to, as functions of the plan and the bytes.
use Rattle.std.proofs.Common.{◌≡◌, ℕ, zero, suc, ◌+◌, ◌*◌, ◌/◌, ◌%◌, ◌^◌, ◌<◌, ◌≤◌, ◌⊎◌, inl, inr, map, Bool, true, false, cond, List, [], ◌∷◌, ◌++◌, length, drop, take, refl, sym, ap, ◌∙◌, arith, Option, IfErr, IfOk, MatchBool, Result, Ok, Err, sum}
use Rattle.std.proofs.lemmas.List.{length-map, length-take-le, take-append-drop, take-map, take_all}
use Rattle.std.proofs.lemmas.Nat.{le-div}
use Rattle.fx_frame_base.specs.declared.coding.Coding.{Coding}
use Rattle.fx_frame_base.specs.declared.coding.Coding.TheVariants.{U8, S8, S16Le, S16Be, S24Le, S24Be, S32Le, S32Be}
use Rattle.fx_frame_base.specs.Frame.{Samples}
use Rattle.fx_sound.specs.FrameCoding.{frame_size, coded_samples}
use Rattle.fx_frame_base.specs.Holds.{kinds, recipes, total}
use Rattle.fx_frame_base.specs.Io.{ByteReader, ByteWriter}
use Rattle.fx_frame_base.specs.Lists.{pieces}
use Rattle.fx_frame_base.specs.Stage.{StageKind}
use Rattle.fx_chain_flow.specs.Parts.{Parts, moves_of}
use Rattle.fx_chain_flow.specs.Composed.{Whole, due_of, enough_for}
use Rattle.fx_chain_flow.specs.Steps.{IsDone, rest_of, wholes_of}
use Rattle.fx_plan.specs.Planning.{Planning}
use Rattle.fx_chain_stages.specs.declared.registry.EffectStage.{EffectStage}
use Rattle.fx_chain_stages.specs.Stages.{effect_acts}
use Rattle.fx_sound.specs.declared.head.Head.{Head}
use Rattle.fx_sound.specs.Known.{IfKnown}
use Rattle.fx_sound.proofs.RunLaws.{first_frames-within}
use Rattle.fx_sound.specs.Sound.{lacking, within_sound}
use Rattle.fx_sound.specs.Source.{Held, to_come}
use Rattle.fx_chain_run.specs.declared.report.Report.{Report}
use Rattle.fx_chain_run.specs.declared.pump.Cause.TheVariants as Causes
use Rattle.fx_chain_run.specs.declared.report.RunFault.{RunFault}
use Rattle.fx_chain_run.specs.declared.report.RunFault.TheVariants.{ReadFailed, WriteFailed, TooLong}
use Rattle.fx_chain.specs.Chain.{ChainParts, IsNewChain, chain_gives, chain_wholes, planned, target_for}
use Rattle.fx_chain_run.specs.Due.{clips_due, dues}
use Rattle.fx_chain_run.specs.FlowRun.{RanPart, RanWhole}
use Rattle.fx_chain_run.specs.FrameWriter.{WroteFront, coded, coded_clips}
use Rattle.fx_chain_run.specs.Report.{Completed, StoppedAt, cause_of, clips_now, head_for, output_of, report_at, report_in, clip_counts_of, start_of}
use Rattle.fx_chain_run.specs.Run.{RanToEnd, WantsMore, sound_frames}
use Rattle.fx_chain_run.proofs.Passing.{WantsMore-next}
use Rattle.fx_chain_run.proofs.Reaching.{clips-reached}
use Rattle.fx_chain.proofs.Constants.{maximum-frames}
use Rattle.fx_chain.specs.Theorem.{Broken, Due, Ran, frames_read, given_due, kinds_of, lacks, reported, reported_due, sound_in, strays, until_enough, written_due}
use Rattle.fx_frame_base.proofs.Pieces.{length-pieces, pieces-first}

-- a frame takes some bytes
frame-some : (coding : Coding) (channels : ℕ) → 0 < channels → 0 < frame_size coding channels
frame-some U8 channels h = omega arith
frame-some S8 channels h = omega arith
frame-some S16Le channels h = omega arith
frame-some S16Be channels h = omega arith
frame-some S24Le channels h = omega arith
frame-some S24Be channels h = omega arith
frame-some S32Le channels h = omega arith
frame-some S32Be channels h = omega arith

-- how many whole frames a sound has
pub sound-count : (h : Head) (bytes : List ℕ) → length (sound_in h bytes) ≡ length (within_sound h.announced bytes) / frame_size h.coding h.channels
sound-count h bytes = length-map (pieces (frame_size h.coding h.channels) (length (within_sound h.announced bytes) / frame_size h.coding h.channels) (within_sound h.announced bytes)) (coded_samples h.coding h.channels) ∙ length-pieces _ _ _

pub sound-part : (h : Head) (n : ℕ) (bytes : List ℕ) → 0 < h.channels → n * frame_size h.coding h.channels ≤ length (within_sound h.announced bytes) → n ≤ length (sound_in h bytes)
sound-part h n bytes some free =
    let all = sound-count h bytes in
    let part = le-div n (length (within_sound h.announced bytes)) (frame_size h.coding h.channels) (frame-some h.coding h.channels some) free in
    rw all part

-- the first frames of a sound
pub sound-first : (h : Head) (n : ℕ) (bytes : List ℕ) → 0 < h.channels → n * frame_size h.coding h.channels ≤ length (within_sound h.announced bytes) → sound_frames (start_of h) n bytes ≡ take n (sound_in h bytes)
sound-first h n bytes some free =
    let size : ℕ = frame_size h.coding h.channels in
    let sound : List ℕ = within_sound h.announced bytes in
    let part = le-div n (length sound) size (frame-some h.coding h.channels some) free in
    sym (first_frames-within h.coding h.channels n h.announced bytes free)
    ∙ ap (map (coded_samples h.coding h.channels)) (sym (pieces-first size n (length sound / size) sound part))
    ∙ sym (take-map (coded_samples h.coding h.channels) n (pieces size (length sound / size) sound))

-- frames are read until some effect has enough, or to the end
pub until-take : (ks : List StageKind) (from n : ℕ) (fs : List Samples) → ((m : ℕ) → from ≤ m → m < from + n → enough_for ks m ≡ false) → n ≤ length fs → (enough_for ks (from + n) ≡ true) ⊎ (n ≡ length fs)
    → until_enough ks from fs ≡ take n fs
until-take ks from zero [] wants part ends = refl
until-take ks from (suc n) [] wants part ends = absurd (omega arith)
until-take ks from zero (f ∷ fs) wants part (inl enough) = let e : from + 0 ≡ from = omega arith in let here = rw e at enough in rw here refl
until-take ks from zero (f ∷ fs) wants part (inr all) = absurd (omega arith)
until-take ks from (suc n) (f ∷ fs) wants part ends =
    let here : enough_for ks from ≡ false = wants from (omega arith) (omega arith) in
    let e : from + suc n ≡ from + 1 + n = omega arith in
    rw here (ap (λ l. f ∷ l) (until-take ks (from + 1) n fs (λ m low high. wants m (omega arith) (omega arith)) (omega arith) (later (rw e at ends))))
  where
    later : (enough_for ks (from + 1 + n) ≡ true) ⊎ (suc n ≡ suc (length fs)) → (enough_for ks (from + 1 + n) ≡ true) ⊎ (n ≡ length fs)
    later (inl enough) = inl enough
    later (inr all) = inr (omega arith)

-- a report is what its counts are
pub same-report : (r s : Report) → r.frames_in ≡ s.frames_in → r.frames_out ≡ s.frames_out → r.bytes_out ≡ s.bytes_out → r.moves ≡ s.moves → r.clips ≡ s.clips → r.out_clips ≡ s.out_clips
    → r.missing ≡ s.missing → r.stray ≡ s.stray → r ≡ s
same-report r s a b c d e f g h =
    let same : ◌≡◌ {A = Report} (record { frames_in = r.frames_in; frames_out = r.frames_out; bytes_out = r.bytes_out; moves = r.moves; clips = r.clips; out_clips = r.out_clips; missing = r.missing; stray = r.stray })
    (record { frames_in = s.frames_in; frames_out = s.frames_out; bytes_out = s.bytes_out; moves = s.moves; clips = s.clips; out_clips = s.out_clips; missing = s.missing; stray = s.stray }) = rw (a, b, c, d, e, f, g, h) refl in
    same

module _ (p : Planning) (c : ChainParts) (new : IsNewChain p c) where
  kinds-are : kinds effect_acts c.flow.stages ≡ kinds_of p
  kinds-are = ap (map effect_acts.kind_of) new.made

  -- the frames that were read
  first-read : (n : ℕ) (bytes : List ℕ) → 0 < p.head.channels → n * frame_size p.head.coding p.head.channels ≤ length (within_sound p.head.announced bytes)
      → WantsMore (kinds effect_acts c.flow.stages) n → (enough_for (kinds effect_acts c.flow.stages) n ≡ true) ⊎ (n ≡ length (sound_in p.head bytes))
      → frames_read p bytes ≡ take n (sound_in p.head bytes)
  first-read n bytes some free wants ends =
      until-take (kinds_of p) 0 n (sound_in p.head bytes) (λ m low high. rw (← kinds-are) (wants m (omega arith))) (sound-part p.head n bytes some free) (let e : 0 + n ≡ n = omega arith in rw e (rw kinds-are at ends))

  -- without a fault
  pub Ran-ok : (at : Parts EffectStage) (bytes : List ℕ) (first now : Option (List ℕ)) (r : Report) → 0 < p.head.channels → WantsMore (kinds effect_acts c.flow.stages) r.frames_in
      → Completed effect_acts c.flow at (target_for p) (start_of p.head) bytes (sound_frames (start_of p.head) r.frames_in bytes) first now r → Ran p bytes first now (Ok r)
  Ran-ok at bytes first now r some wants done =
      let n : ℕ = r.frames_in in
      let all : List Samples = sound_in p.head bytes in
      let x : List Samples = sound_frames (start_of p.head) r.frames_in bytes in
      let part = sound-part p.head n bytes some done.whole in
      let first-is : x ≡ take n all = sound-first p.head n bytes some done.whole in
      let read = first-read n bytes some done.whole wants (ended done.ended) in
      let same : x ≡ frames_read p bytes = first-is ∙ sym read in
      let count : n ≡ length (frames_read p bytes) = sym (ap length read ∙ length-take-le n all part) in
      let gives : rest_of effect_acts c.flow x ≡ chain_gives p (frames_read p bytes) = new.gives x ∙ ap (chain_gives p) same in
      let wholes : wholes_of effect_acts c.flow x ≡ chain_wholes p (frames_read p bytes) = new.wholes x ∙ ap (chain_wholes p) same in
      let output = ap (output_of (target_for p)) gives in
      let ends = counted done.ended count in
      record {
        wrote = rw (← output) done.wrote.took;
        reports = same-report r (reported p bytes) count (done.frames_out ∙ ap length gives) (done.wrote.whole ∙ ap length output)
            (done.moves ∙ ap (λ m. m + total (λ (w : Whole). w.given) (wholes_of effect_acts c.flow x)) count ∙ ap (λ ws. length (frames_read p bytes) + total (λ (w : Whole). w.given) ws) wholes)
            (done.clips ∙ ap (λ ws. clip_counts_of (map (λ (w : Whole). w.clips) ws)) wholes) (done.out_clips ∙ ap (coded_clips p.coding) gives) ends.0 ends.1;
        whole_sound = whole-sound x first-is read done.ended done.determined;
        whatever = λ enough z.
            ap (λ y. chain_gives p (y ++ z)) (sym same) ∙ sym (new.gives (x ++ z)) ∙ done.determined (ap (λ ks. enough_for ks r.frames_in) kinds-are ∙ enough) z ∙ gives;
      }
    where
      ended : ((enough_for (kinds effect_acts c.flow.stages) r.frames_in ≡ false) × RanToEnd (start_of p.head) bytes r.frames_in r.missing r.stray) ⊎ ((enough_for (kinds effect_acts c.flow.stages) r.frames_in ≡ true) × ((r.missing ≡ 0) × (r.stray ≡ 0)))
          → (enough_for (kinds effect_acts c.flow.stages) r.frames_in ≡ true) ⊎ (r.frames_in ≡ length (sound_in p.head bytes))
      ended (inl over) = inr (over.1.count ∙ sym (sound-count p.head bytes))
      ended (inr enough) = inl enough.0

      counted : ((enough_for (kinds effect_acts c.flow.stages) r.frames_in ≡ false) × RanToEnd (start_of p.head) bytes r.frames_in r.missing r.stray) ⊎ ((enough_for (kinds effect_acts c.flow.stages) r.frames_in ≡ true) × ((r.missing ≡ 0) × (r.stray ≡ 0)))
          → r.frames_in ≡ length (frames_read p bytes) → (r.missing ≡ lacks p bytes) × (r.stray ≡ strays p bytes)
      counted (inl over) count =
          let e : enough_for (kinds_of p) (length (frames_read p bytes)) ≡ false = sym (ap (λ ks. enough_for ks r.frames_in) kinds-are ∙ ap (enough_for (kinds_of p)) count) ∙ over.0 in
          (over.1.lacks ∙ sym (ap (λ b. cond b 0 (lacking p.head.announced (length (within_sound p.head.announced bytes)))) e), over.1.strays ∙ sym (ap (λ b. cond b 0 (length (within_sound p.head.announced bytes) % frame_size p.head.coding p.head.channels)) e))
      counted (inr enough) count =
          let e : enough_for (kinds_of p) (length (frames_read p bytes)) ≡ true = sym (ap (λ ks. enough_for ks r.frames_in) kinds-are ∙ ap (enough_for (kinds_of p)) count) ∙ enough.0 in
          (enough.1.0 ∙ sym (ap (λ b. cond b 0 (lacking p.head.announced (length (within_sound p.head.announced bytes)))) e), enough.1.1 ∙ sym (ap (λ b. cond b 0 (length (within_sound p.head.announced bytes) % frame_size p.head.coding p.head.channels)) e))

      whole-sound : (x : List Samples) → x ≡ take r.frames_in (sound_in p.head bytes) → frames_read p bytes ≡ take r.frames_in (sound_in p.head bytes)
          → ((enough_for (kinds effect_acts c.flow.stages) r.frames_in ≡ false) × RanToEnd (start_of p.head) bytes r.frames_in r.missing r.stray) ⊎ ((enough_for (kinds effect_acts c.flow.stages) r.frames_in ≡ true) × ((r.missing ≡ 0) × (r.stray ≡ 0)))
          → (enough_for (kinds effect_acts c.flow.stages) r.frames_in ≡ true → (z : List Samples) → rest_of effect_acts c.flow (x ++ z) ≡ rest_of effect_acts c.flow x)
          → chain_gives p (frames_read p bytes) ≡ chain_gives p (sound_in p.head bytes)
      whole-sound x e read (inl over) determined =
          let count : r.frames_in ≡ length (sound_in p.head bytes) = over.1.count ∙ sym (sound-count p.head bytes) in
          ap (chain_gives p) (read ∙ take_all r.frames_in (sound_in p.head bytes) (omega (arith, count)))
      whole-sound x e read (inr enough) determined =
          let same : x ≡ frames_read p bytes = e ∙ sym read in
          ap (chain_gives p) (sym same) ∙ sym (new.gives x) ∙ sym (determined enough.0 (drop r.frames_in (sound_in p.head bytes))) ∙ new.gives (x ++ drop r.frames_in (sound_in p.head bytes)) ∙ ap (λ l. chain_gives p (l ++ drop r.frames_in (sound_in p.head bytes))) e ∙ ap (chain_gives p) (take-append-drop r.frames_in (sound_in p.head bytes))

  -- after a failed read, and where the sound is too long
  pub Ran-due : (at : Parts EffectStage) (bytes : List ℕ) (first now : Option (List ℕ)) (f : RunFault) → 0 < p.head.channels → WantsMore (kinds effect_acts c.flow.stages) (report_at f).frames_in
      → StoppedAt effect_acts c.flow at (target_for p) (start_of p.head) bytes (sound_frames (start_of p.head) (report_at f).frames_in bytes) first now f → (cause_of f ≡ Causes.WriteFailed → ⊥) → Due p bytes first now (report_at f)
  Ran-due at bytes first now f some wants done other =
      let r : Report = report_at f in
      let n : ℕ = r.frames_in in
      let all : List Samples = sound_in p.head bytes in
      let x : List Samples = sound_frames (start_of p.head) n bytes in
      let part = sound-part p.head n bytes some done.whole in
      let first-is : x ≡ take n all = sound-first p.head n bytes some done.whole in
      let count : n ≡ length (take n all) = sym (length-take-le n all part) in
      let gives : rest_of effect_acts c.flow x ≡ chain_gives p (take n all) = new.gives x ∙ ap (chain_gives p) first-is in
      let due : r.frames_out ≡ due_of (kinds_of p) (length (take n all)) = (done.due other).0 ∙ ap (λ ks. due_of ks n) kinds-are ∙ ap (due_of (kinds_of p)) count in
      let given : take r.frames_out (rest_of effect_acts c.flow x) ≡ given_due p (take n all) = ap (take r.frames_out) gives ∙ ap (λ m. take m (chain_gives p (take n all))) due in
      let output : head_for (target_for p) ++ coded p.coding (take r.frames_out (rest_of effect_acts c.flow x)) ≡ written_due p (take n all) = ap (λ y. head_for (target_for p) ++ coded p.coding y) given in
      let wrote = rw output at (done.due other).1 in
      let dues-are : dues (kinds effect_acts c.flow.stages) n ≡ dues (kinds_of p) (length (take n all)) = ap (λ ks. dues ks n) kinds-are ∙ ap (dues (kinds_of p)) count in
      record {
        part = part;
        not_enough = λ m low. rw (← kinds-are) (WantsMore-next (kinds effect_acts c.flow.stages) n wants (done.not_enough other) m (omega arith));
        wrote = wrote.took;
        reports = same-report r (reported_due p (take n all)) count due wrote.whole (done.moves other ∙ ap (λ m. m + sum (dues (kinds effect_acts c.flow.stages) n)) count ∙ ap (λ ds. length (take n all) + sum ds) dues-are)
            (done.clips other new.fresh ∙ ap (λ ds. clip_counts_of (clips_due effect_acts.meaning ds (recipes effect_acts c.flow.stages) x)) dues-are ∙ ap (λ rs. clip_counts_of (clips_due effect_acts.meaning (dues (kinds_of p) (length (take n all))) rs x)) new.made ∙ ap (λ y. clip_counts_of (clips_due effect_acts.meaning (dues (kinds_of p) (length (take n all))) (planned p) y)) first-is)
            (done.reports.out_clips ∙ ap (coded_clips p.coding) given) (done.no_ends other).0 (done.no_ends other).1;
        whatever = λ z.
            ap (λ y. take r.frames_out (chain_gives p (y ++ z))) (sym first-is) ∙ ap (take r.frames_out) (sym (new.gives (x ++ z))) ∙ done.whatever other z ∙ given;
      }

  -- after a failed write
  pub Ran-broken : (at : Parts EffectStage) (bytes : List ℕ) (first now : Option (List ℕ)) (f : RunFault) → 0 < p.head.channels → WantsMore (kinds effect_acts c.flow.stages) (report_at f).frames_in
      → (report_at f).moves ≡ moves_of effect_acts at → (report_at f).clips ≡ clips_now effect_acts at.stages
      → StoppedAt effect_acts c.flow at (target_for p) (start_of p.head) bytes (sound_frames (start_of p.head) (report_at f).frames_in bytes) first now f → cause_of f ≡ Causes.WriteFailed → Broken p bytes first now (report_at f)
  Ran-broken at bytes first now f some wants moves clips done is =
      let r : Report = report_at f in
      let n : ℕ = r.frames_in in
      let all : List Samples = sound_in p.head bytes in
      let x : List Samples = sound_frames (start_of p.head) n bytes in
      let part = sound-part p.head n bytes some done.whole in
      let first-is : x ≡ take n all = sound-first p.head n bytes some done.whole in
      let gives : rest_of effect_acts c.flow x ≡ chain_gives p (take n all) = new.gives x ∙ ap (chain_gives p) first-is in
      record {
        part = part;
        wants = λ m low. rw (← kinds-are) (wants m low);
        start = c.flow;
        made = new.made;
        fresh = new.fresh;
        hungry = new.hungry;
        nothing = new.nothing.0;
        given = take r.frames_out (rest_of effect_acts c.flow x);
        at = at;
        reached = rw (← first-is) done.reports.reached;
        front = ap (take r.frames_out) gives;
        gave = sym gives ∙ done.reports.gave;
        wholes = done.reports.wholes ∙ new.wholes x ∙ ap (chain_wholes p) first-is;
        frames_out = sym (length-take-le r.frames_out (rest_of effect_acts c.flow x) done.reports.part);
        moves = moves;
        clips = clips;
        counted =
            clips ∙ ap clip_counts_of (clips-reached effect_acts c.flow at x _ new.fresh new.hungry.empty done.reports.reached)
            ∙ ap (λ rs. clip_counts_of (clips_due effect_acts.meaning (map (λ s. (effect_acts.counts s).given) at.stages) rs x)) new.made ∙ ap (λ y. clip_counts_of (clips_due effect_acts.meaning (map (λ s. (effect_acts.counts s).given) at.stages) (planned p) y)) first-is;
        out_clips = done.reports.out_clips;
        wrote = wrote (done.front is);
        ends = ended _ (rw kinds-are at (done.ends is));
      }
    where
      wrote : WroteFront first now (report_at f).bytes_out (head_for (target_for p) ++ coded p.coding (take (report_at f).frames_out (rest_of effect_acts c.flow (sound_frames (start_of p.head) (report_at f).frames_in bytes))))
          ⊎ (IsDone effect_acts at × WroteFront first now (report_at f).bytes_out (output_of (target_for p) (rest_of effect_acts c.flow (sound_frames (start_of p.head) (report_at f).frames_in bytes))))
          → WroteFront first now (report_at f).bytes_out (head_for (target_for p) ++ coded p.coding (take (report_at f).frames_out (rest_of effect_acts c.flow (sound_frames (start_of p.head) (report_at f).frames_in bytes))))
          ⊎ (IsDone effect_acts at × WroteFront first now (report_at f).bytes_out (output_of (target_for p) (chain_gives p (take (report_at f).frames_in (sound_in p.head bytes)))))
      wrote (inl front) = inl front
      wrote (inr all) = inr (all.0, rw (ap (output_of (target_for p)) (new.gives (sound_frames (start_of p.head) (report_at f).frames_in bytes) ∙ ap (chain_gives p) (sound-first p.head (report_at f).frames_in bytes some done.whole))) at all.1)

      ended : (b : Bool) → MatchBool b (RanToEnd (start_of p.head) bytes (report_at f).frames_in (report_at f).missing (report_at f).stray) (((report_at f).missing ≡ 0) × ((report_at f).stray ≡ 0))
          → MatchBool b (((report_at f).frames_in ≡ length (sound_in p.head bytes)) × ((report_at f).missing ≡ lacking p.head.announced (length (within_sound p.head.announced bytes))) × ((report_at f).stray ≡ length (within_sound p.head.announced bytes) % frame_size p.head.coding p.head.channels)) (((report_at f).missing ≡ 0) × ((report_at f).stray ≡ 0))
      ended true over = (over.count ∙ sym (sound-count p.head bytes), over.lacks, over.strays)
      ended false zeros = zeros

  -- a run that stopped, whatever stopped it
  pub Ran-stopped : (at : Parts EffectStage) (bytes : List ℕ) (first now : Option (List ℕ)) (f : RunFault) → 0 < p.head.channels → WantsMore (kinds effect_acts c.flow.stages) (report_at f).frames_in
      → (report_at f).moves ≡ moves_of effect_acts at → (report_at f).clips ≡ clips_now effect_acts at.stages
      → StoppedAt effect_acts c.flow at (target_for p) (start_of p.head) bytes (sound_frames (start_of p.head) (report_at f).frames_in bytes) first now f → Ran p bytes first now (Err f)
  Ran-stopped at bytes first now (ReadFailed r) some wants moves clips done = Ran-due at bytes first now (ReadFailed r) some wants done (λ e. absurd (cc))
  Ran-stopped at bytes first now (WriteFailed r) some wants moves clips done = Ran-broken at bytes first now (WriteFailed r) some wants moves clips done refl
  Ran-stopped at bytes first now (TooLong r) some wants moves clips done =
      let long = rw maximum-frames at done.too_long refl in
      (Ran-due at bytes first now (TooLong r) some wants done (λ e. absurd (cc)), long.0, sound-part p.head (2 ^ 40 + 1) bytes some long.1)

  -- what any run came to
  pub Ran-result : {X W : Type 0} (device : ByteReader X) (writer : ByteWriter W) (s s' : Held X) (w w' : W) (at : Parts EffectStage) (result : Result Report RunFault) → 0 < p.head.channels
      → WantsMore (kinds effect_acts c.flow.stages) (report_in result).frames_in
      → (report_in result).moves ≡ moves_of effect_acts at → (report_in result).clips ≡ clips_now effect_acts at.stages
      → IfOk result (RanWhole effect_acts device writer c.flow at (start_of p.head) s s' w w' (target_for p))
      → IfErr result (RanPart effect_acts device writer c.flow at (start_of p.head) s s' w w' (target_for p))
      → IfKnown (to_come device.rest s) (λ bytes. Ran p bytes (writer.taken w) (writer.taken w') result)
  Ran-result device writer s s' w w' at (Ok r) some wants moves clips ran part bytes is = Ran-ok at bytes (writer.taken w) (writer.taken w') r some wants (ran.completed bytes is)
  Ran-result device writer s s' w w' at (Err f) some wants moves clips ran part bytes is = Ran-stopped at bytes (writer.taken w) (writer.taken w') f some wants moves clips (part.stopped bytes is)
