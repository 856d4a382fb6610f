-- What a run reports.
use Rattle.std.proofs.Common.{zero, suc, ◌≡◌, ℕ, ◌+◌, ◌-◌, ◌*◌, ◌<◌, ◌≤◌, map, inl, inr, Bool, true, false, List, [], ◌∷◌, ◌++◌, length, take, replicate, refl, sym, ap, ◌∙◌, arith, ◌⊎◌, MatchBool, Option, Some, drop, not, slice_index, slice_set}
use Rattle.std.proofs.Math.Nat.{div-add-mod'}
use Rattle.std.proofs.lemmas.List.{append-nil, length-append, length-drop, take_at}
use Rattle.fx_sound.specs.Known.{IfKnown}
use Rattle.fx_frame_base.specs.declared.coding.Coding.{Coding}
use Rattle.fx_frame_base.specs.Frame.{Samples}
use Rattle.fx_frame_base.specs.Holds.{kinds, recipes, total}
use Rattle.fx_frame_base.specs.Stage.{Acts}
use Rattle.fx_chain_flow.specs.Parts.{Parts, given_by, moves_of, taken_of}
use Rattle.fx_chain_flow.specs.Composed.{Whole, due_of, enough_for}
use Rattle.fx_chain_flow.specs.Steps.{IsDone, IsHungry, rest_of, wholes_of}
use Rattle.fx_chain_flow.proofs.Laws.{through-Done, wholes-Done}
use Rattle.fx_frame_base.specs.declared.stage.TheConstants.{MAX_FRAMES}
use Rattle.fx_sound.specs.Output.{Pending, Sent, bytes_put}
use Rattle.fx_sound.specs.Sound.{Reading, size_of, within_sound}
use Rattle.fx_chain_run.specs.declared.pump.Cause.TheVariants.{WriteFailed, TooLong}
use Rattle.fx_chain_run.specs.declared.report.Report.{Report}
use Rattle.fx_chain_run.specs.declared.report.RunFault.{RunFault}
use Rattle.fx_chain_run.specs.declared.target.Target.{Target}
use Rattle.fx_chain_run.specs.FrameWriter.{WroteAll, WroteFront, coded, coded_clips}
use Rattle.fx_chain_run.specs.Due.{dues}
use Rattle.fx_chain_run.specs.Report.{Reports, StoppedAt, cause_of, clips_now, head_for, met_end, output_of, pad, report_at, clip_counts_of}
use Rattle.fx_chain_run.specs.Run.{RanToEnd, unread_after}
use Rattle.fx_chain_run.specs.Through.{Through}
use Rattle.fx_chain_run.proofs.Reaching.{clips-stopped, moves-stopped}

-- one more count after others
counts-set : (counts : List ℕ) (i k : ℕ) → i < length counts → slice_set (take i counts ++ replicate (suc k) 0) i (slice_index counts i) ≡ take (suc i) counts ++ replicate k 0
counts-set [] i k h = absurd (omega arith)
counts-set (n ∷ counts) zero k h = refl
counts-set (n ∷ counts) (suc i) k h = ap (λ l. n ∷ l) (counts-set counts i k (omega arith))

pub counts-more : (listed counts : List ℕ) (i n : ℕ) → listed ≡ take i counts ++ replicate (32 - i) 0 → i < length counts → length counts ≤ 32 → n ≡ slice_index counts i → slice_set listed i n ≡ take (i + 1) counts ++ replicate (32 - (i + 1)) 0
counts-more listed counts i n e h bound is =
    let left : 32 - i ≡ suc (32 - (i + 1)) = omega arith in
    let next : i + 1 ≡ suc i = omega arith in
    rw (e, is, left, next) (counts-set counts i (32 - suc i) h)

-- how many bytes were ever to be sent
pub Sent-bytes_put : (first now : Option (List ℕ)) (out : Pending) (all : List ℕ) → Sent first now out all → bytes_put out ≡ length all
Sent-bytes_put first now out all s = let e = ap length s.waiting ∙ length-drop out.written all in omega (arith, s.within, e)

-- the end was met where no effect had enough
ended-either : {P Q T : Type 0} (over enough : Bool) → MatchBool over (enough ≡ false) (enough ≡ true) → MatchBool over P Q → (P → T) → ((enough ≡ false) × T) ⊎ ((enough ≡ true) × Q)
ended-either true enough e p f = inl (e, f p)
ended-either false enough e q f = inr (e, q)

-- where the end of the sound was met, the counts are those of the end
pub ends-known : (known : Option (List ℕ)) (bytes : List ℕ) (sound : Reading) (n missing stray : ℕ) (over met : Bool) → known ≡ Some bytes → over ≡ met
    → MatchBool over (IfKnown known (λ b. RanToEnd sound b n missing stray)) ((missing ≡ 0) × (stray ≡ 0)) → MatchBool met (RanToEnd sound bytes n missing stray) ((missing ≡ 0) × (stray ≡ 0))
ends-known known bytes sound n missing stray true true is e p = p bytes is
ends-known known bytes sound n missing stray false false is e p = p
ends-known known bytes sound n missing stray true false is e p = absurd (cc)
ends-known known bytes sound n missing stray false true is e p = absurd (cc)

-- the end was met where no effect had enough, and the counts are those of the end
pub ended-known : (known : Option (List ℕ)) (bytes : List ℕ) (sound : Reading) (n missing stray : ℕ) (over enough : Bool) → known ≡ Some bytes → MatchBool over (enough ≡ false) (enough ≡ true)
    → MatchBool over (IfKnown known (λ b. RanToEnd sound b n missing stray)) ((missing ≡ 0) × (stray ≡ 0))
    → ((enough ≡ false) × RanToEnd sound bytes n missing stray) ⊎ ((enough ≡ true) × ((missing ≡ 0) × (stray ≡ 0)))
ended-known known bytes sound n missing stray over enough is e p = ended-either over enough e p (λ (f : IfKnown known (λ b. RanToEnd sound b n missing stray)). f bytes is)

-- where some effect had enough the end was not met
pub not-over : (over enough : Bool) → MatchBool over (enough ≡ false) (enough ≡ true) → enough ≡ true → over ≡ false
not-over true enough e t = absurd (cc (e, t))
not-over false enough e t = refl

-- a source stands after what is reported of its sound
pub stands-rest_unchanged : (start : Reading) (bytes : List ℕ) (n missing stray : ℕ) (over : Bool) (to_come known : Option (List ℕ)) → known ≡ Some bytes → to_come ≡ Some (unread_after start (not over) n bytes)
    → MatchBool over (IfKnown known (λ b. RanToEnd start b n missing stray)) ((missing ≡ 0) × (stray ≡ 0)) → to_come ≡ Some (drop (n * size_of start + stray) bytes)
stands-rest_unchanged start bytes n missing stray false to_come known is left p = left ∙ ap (λ m. Some (drop m bytes)) (omega (arith, p.1))
stands-rest_unchanged start bytes n missing stray true to_come known is left p =
    let ran = p bytes is in
    left ∙ ap (λ m. Some (drop m bytes)) (rw (ran.count, ran.strays) (sym (div-add-mod' (length (within_sound start.left bytes)) (size_of start))))

-- the bytes after the head
pub sound-length : (head sound : List ℕ) (put count : ℕ) → put ≡ length (head ++ sound) → count ≡ put - length head → count ≡ length sound
sound-length head sound put count p c = let e = length-append head sound in omega (arith, p, c, e)

module _ {S R : Type 0} (acts : Acts S R) where
  -- the frames given are the first of all
  pub given-is : (start at : Parts S) (frames given : List Samples) (n : ℕ) → Through acts start at frames given → n ≡ given_by acts at.left at.stages → take n (rest_of acts start frames) ≡ given
  given-is start at frames given n p e =
      let all : rest_of acts start frames ≡ given ++ rest_of acts at [] = ap (rest_of acts start) (sym (append-nil frames)) ∙ p.rest [] (λ t. refl) in
      ap (take n) all ∙ take_at given (rest_of acts at []) n (sym (e ∙ p.counted))

  Reports-from : (start at : Parts S) (coding : Coding) (frames given : List Samples) (r : Report) → Through acts start at frames given → r.frames_out ≡ given_by acts at.left at.stages → r.out_clips ≡ coded_clips coding given
      → Reports acts start at coding frames r
  Reports-from start at coding frames given r p out clips =
      let all : rest_of acts start frames ≡ given ++ rest_of acts at [] = ap (rest_of acts start) (sym (append-nil frames)) ∙ p.rest [] (λ t. refl) in
      let first = given-is start at frames given r.frames_out p out in
      let count = out ∙ p.counted in
      let sum = ap length all ∙ length-append given (rest_of acts at []) in
      record {
        gave = all ∙ ap (λ l. l ++ rest_of acts at []) (sym first);
        part = omega (arith, count, sum);
        wholes = p.whole [] (λ t. refl) ∙ ap (wholes_of acts start) (append-nil frames);
        out_clips = clips ∙ ap (coded_clips coding) (sym first);
        reached = rw first p.reached;
      }

  -- a run that stopped before its end, and wrote the frames then due
  pub stopped-due : (start at : Parts S) (target : Target) (sound : Reading) (bytes : List ℕ) (frames given : List Samples) (first now : Option (List ℕ)) (f : RunFault)
      → Through acts start at frames given → IsHungry acts start → IsHungry acts at → recipes acts at.stages ≡ recipes acts start.stages → taken_of at ≡ (report_at f).frames_in
      → map (λ s. (acts.counts s).given) at.stages ≡ dues (kinds acts at.stages) (taken_of at) → (report_at f).moves ≡ moves_of acts at → (report_at f).clips ≡ clips_now acts at.stages
      → (report_at f).frames_in * size_of sound ≤ length (within_sound sound.left bytes)
      → (report_at f).frames_out ≡ given_by acts at.left at.stages → (report_at f).out_clips ≡ coded_clips target.coding given
      → (cause_of f ≡ WriteFailed → ⊥) → (report_at f).frames_out ≡ due_of (kinds acts start.stages) (report_at f).frames_in
      → WroteAll first now (report_at f).bytes_out (head_for target ++ coded target.coding given) → ((report_at f).missing ≡ 0) × ((report_at f).stray ≡ 0)
      → enough_for (kinds acts start.stages) (report_at f).frames_in ≡ false
      → (cause_of f ≡ TooLong → ((report_at f).frames_in ≡ MAX_FRAMES) × ((MAX_FRAMES + 1) * size_of sound ≤ length (within_sound sound.left bytes)))
      → StoppedAt acts start at target sound bytes frames first now f
  stopped-due start at target sound bytes frames given first now f p fresh hungry stay taken all moves counted whole out clips other due wrote zeros unspent long =
      let running = hungry.not_ended in
      let front = given-is start at frames given (report_at f).frames_out p out in
      record {
        whole = whole;
        reports = Reports-from start at target.coding frames given (report_at f) p out clips;
        hungry = λ n. hungry;
        moves = λ n. moves-stopped acts start at (report_at f).frames_in (report_at f).moves hungry stay taken all moves;
        clips = λ n new. counted ∙ ap clip_counts_of (clips-stopped acts start at frames given (report_at f).frames_in fresh stay taken all p.reached new);
        due = λ n. (due, rw front wrote);
        whatever = λ n z. ap (take (report_at f).frames_out) (p.rest z (λ t. absurd (cc (running, t)))) ∙ take_at given (rest_of acts at z) (report_at f).frames_out (sym (out ∙ p.counted)) ∙ sym front;
        front = λ e. absurd (other e);
        ends = λ e. absurd (other e);
        no_ends = λ n. zeros;
        not_enough = λ n. unspent;
        too_long = long;
      }

  -- a run at which a write failed
  pub stopped-front : (start at : Parts S) (target : Target) (sound : Reading) (bytes : List ℕ) (frames given : List Samples) (first now : Option (List ℕ)) (f : RunFault)
      → Through acts start at frames given → (report_at f).frames_out ≡ given_by acts at.left at.stages → (report_at f).out_clips ≡ coded_clips target.coding given
      → cause_of f ≡ WriteFailed
      → (WroteFront first now (report_at f).bytes_out (head_for target ++ coded target.coding given) ⊎ (IsDone acts at × WroteFront first now (report_at f).bytes_out (output_of target (rest_of acts start frames))))
      → (report_at f).frames_in * size_of sound ≤ length (within_sound sound.left bytes)
      → MatchBool (met_end at.ended (enough_for (kinds acts start.stages) (report_at f).frames_in)) (RanToEnd sound bytes (report_at f).frames_in (report_at f).missing (report_at f).stray) (((report_at f).missing ≡ 0) × ((report_at f).stray ≡ 0))
      → StoppedAt acts start at target sound bytes frames first now f
  stopped-front start at target sound bytes frames given first now f p out clips is front whole ends =
      let part = given-is start at frames given (report_at f).frames_out p out in
      record {
        whole = whole;
        reports = Reports-from start at target.coding frames given (report_at f) p out clips;
        hungry = λ n. absurd (n is);
        moves = λ n. absurd (n is);
        clips = λ n new. absurd (n is);
        due = λ n. absurd (n is);
        whatever = λ n. absurd (n is);
        front = λ e. rw part front;
        ends = λ e. ends;
        no_ends = λ n. absurd (n is);
        not_enough = λ n. absurd (n is);
        too_long = λ e. absurd (cc (e, is));
      }

  -- where all was given, nothing is to come
  pub all-given : (start at : Parts S) (frames given : List Samples) → Through acts start at frames given → IsDone acts at → rest_of acts start frames ≡ given
  all-given start at frames given p done =
      let none : rest_of acts at [] ≡ [] = rw done.empty (through-Done acts at.stages done.dry done.all_ended) in
      ap (rest_of acts start) (sym (append-nil frames)) ∙ p.rest [] (λ t. refl) ∙ ap (λ l. given ++ l) none ∙ append-nil given

  clips-map : (stages : List S) → map (λ (w : Whole). w.clips) (map (λ s. record { given = (acts.counts s).given; clips = (acts.counts s).clips }) stages) ≡ map (λ s. (acts.counts s).clips) stages
  clips-map [] = refl
  clips-map (s ∷ stages) = ap (λ l. (acts.counts s).clips ∷ l) (clips-map stages)

  -- where all was given, the clips counted are those of the definitions
  pub clips-all : (start at : Parts S) (frames given : List Samples) → Through acts start at frames given → IsDone acts at → map (λ s. (acts.counts s).clips) at.stages ≡ map (λ (w : Whole). w.clips) (wholes_of acts start frames)
  clips-all start at frames given p done =
      let same : wholes_of acts at [] ≡ map (λ s. record { given = (acts.counts s).given; clips = (acts.counts s).clips }) at.stages = rw done.empty (wholes-Done acts at.stages done.dry done.all_ended) in
      sym (clips-map at.stages) ∙ ap (map (λ (w : Whole). w.clips)) (sym same ∙ p.whole [] (λ t. refl) ∙ ap (wholes_of acts start) (append-nil frames))

  -- all was written, and the pad byte
  pub wrote-all : (start at : Parts S) (target : Target) (frames given : List Samples) (first now : Option (List ℕ)) (written sound : ℕ) → rest_of acts start frames ≡ given → sound ≡ length (coded target.coding given)
      → WroteAll first now written ((head_for target ++ coded target.coding given) ++ pad target.kind target.named sound) → WroteAll first now written (output_of target (rest_of acts start frames))
  wrote-all start at target frames given first now written sound all e w = rw all (rw e at w)

  pub wrote-front : (start at : Parts S) (target : Target) (frames given : List Samples) (first now : Option (List ℕ)) (written sound : ℕ) → rest_of acts start frames ≡ given → sound ≡ length (coded target.coding given)
      → WroteFront first now written ((head_for target ++ coded target.coding given) ++ pad target.kind target.named sound) → WroteFront first now written (output_of target (rest_of acts start frames))
  wrote-front start at target frames given first now written sound all e w = rw all (rw e at w)

  -- where all was given, the hand-overs are the frames taken and those that each effect gives
  pub moves-all : (start at : Parts S) (frames given : List Samples) (moves n : ℕ) → Through acts start at frames given → moves ≡ taken_of at + total (λ (w : Whole). w.given) (wholes_of acts at []) → taken_of at ≡ n
      → moves ≡ n + total (λ (w : Whole). w.given) (wholes_of acts start frames)
  moves-all start at frames given moves n p m e =
      let same = p.whole [] (λ t. refl) ∙ ap (wholes_of acts start) (append-nil frames) in
      rw (e, same) at m
