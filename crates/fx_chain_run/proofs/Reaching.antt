-- What the calls of a flow come to.
use Rattle.std.proofs.Common.{◌≡◌, ℕ, zero, suc, ◌+◌, map, Bool, true, false, true≢false, List, [], ◌∷◌, ◌++◌, length, take, refl, sym, ap, ◌∙◌, arith, inl, inr, Some, None, Option, option_to_list, sum}
use Rattle.std.proofs.lemmas.List.{append_assoc, append-nil, length-append, take_at}
use Rattle.std.proofs.lemmas.List.Sums.{sum_by-cons}
use Rattle.fx_frame_base.specs.Frame.{Samples}
use Rattle.fx_frame_base.specs.Holds.{kinds, recipes}
use Rattle.fx_frame_base.specs.Stage.{Acts, Counts, Given}
use Rattle.fx_chain_flow.specs.Parts.{AllNew, AllDetermined, EndPassed, PipelineFed, HandedOver, IsFirstOpen, Joined, Parts, given_of, moves_of, taken_of}
use Rattle.fx_chain_flow.specs.Composed.{clips_given, frames_of}
use Rattle.fx_chain_flow.specs.Steps.{IsHungry, MovedOn}
use Rattle.fx_chain_run.specs.Due.{clips_due, dues, first_due, meanings}
use Rattle.fx_chain_run.specs.Through.{Reached, took, end_reported, untouched, stepped}
use Rattle.fx_chain_flow.proofs.Laws.{none_true}
use Rattle.fx_frame_base.proofs.FedLaws.{total-append}

-- one list after the other, each at its place
abbrev append_each : List (List Given) → List (List Given) → List (List Given)
append_each [] ds = []
append_each (g ∷ gs) [] = []
append_each (g ∷ gs) (d ∷ ds) = (g ++ d) ∷ append_each gs ds

clips-append : (g d : List Given) → clips_given (g ++ d) ≡ clips_given g + clips_given d
clips-append g d = total-append (λ (x : Given). x.clips) g d

module _ {S R : Type 0} (acts : Acts S R) where
  -- each stage gave these frames since, and counted them, where z are to come in place of y
  abbrev After : List (List Given) → List S → List S → List Samples → List Samples → Type 0
  After [] [] [] y z = Unit {0}
  After (g ∷ gs) (s ∷ ss) (t ∷ ts) y z =
      (acts.rest s y ≡ g ++ acts.rest t z)
      × ((acts.counts t).given ≡ (acts.counts s).given + length g)
      × ((acts.counts t).clips ≡ (acts.counts s).clips + clips_given g)
      × After gs ss ts (frames_of (acts.rest s y)) (frames_of (acts.rest t z))
  After gs ss ts y z = ⊥

  abbrev nones : List S → List (List Given)
  nones [] = []
  nones (s ∷ ss) = [] ∷ nones ss

  After-same : (ss : List S) (y : List Samples) → After (nones ss) ss ss y y
  After-same [] y = tt
  After-same (s ∷ ss) y = (refl, omega arith, omega arith, After-same ss _)

  After-then : (gs ds : List (List Given)) (ss ts us : List S) (y z w : List Samples) → After gs ss ts y z → After ds ts us z w → After (append_each gs ds) ss us y w
  After-then [] [] [] [] [] y z w a b = tt
  After-then (g ∷ gs) (d ∷ ds) (s ∷ ss) (t ∷ ts) (u ∷ us) y z w a b = (
    a.0 ∙ ap (λ l. g ++ l) b.0 ∙ sym (append_assoc g d (acts.rest u w)),
    omega (arith, a.1, b.1, length-append g d),
    omega (arith, a.2, b.2, clips-append g d),
    After-then gs ds ss ts us _ _ _ a.3 b.3,
  )
  After-then [] ds [] [] us y z w a b = absurd b
  After-then (g ∷ gs) ds (s ∷ ss) (t ∷ ts) us y z w a b = absurd b
  After-then gs ds ss ts us y z w a b = absurd a

  -- a frame that is handed over is what one stage gave
  After-pending : (i : ℕ) (out : Option Samples) (old new : List S) → HandedOver acts i out old new → (ds : List (List Given)) × ((z : List Samples) → After ds old new z z)
  After-pending zero (Some frame) (s ∷ []) (s' ∷ []) gave =
      let given : (acts.counts s').given ≡ (acts.counts s).given + 1 = ap (λ (c : Counts). c.given) gave.gives.counted in
      let clips : (acts.counts s').clips ≡ (acts.counts s).clips + gave.gives.clips = ap (λ (c : Counts). c.clips) gave.gives.counted in
      ((record { samples = frame; clips = gave.gives.clips } ∷ []) ∷ [], λ z. (gave.gives.first z, omega arith, omega arith, tt))
  After-pending zero None (s ∷ t ∷ stages) (s' ∷ t' ∷ stages') h =
      let given : (acts.counts s').given ≡ (acts.counts s).given + 1 = ap (λ (c : Counts). c.given) h.1.gives.counted in
      let clips : (acts.counts s').clips ≡ (acts.counts s).clips + h.1.gives.clips = ap (λ (c : Counts). c.clips) h.1.gives.counted in
      let unchanged : (acts.counts t').given ≡ (acts.counts t).given = ap (λ (c : Counts). c.given) h.2.counted in
      let alike : (acts.counts t').clips ≡ (acts.counts t).clips = ap (λ (c : Counts). c.clips) h.2.counted in (
        (record { samples = h.0; clips = h.1.gives.clips } ∷ []) ∷ [] ∷ nones stages,
        λ z.
            let e : acts.rest t (frames_of (acts.rest s z)) ≡ acts.rest t' (frames_of (acts.rest s' z)) = ap (λ w. acts.rest t (frames_of w)) (h.1.gives.first z) ∙ sym (h.2.rest (frames_of (acts.rest s' z))) in
            (h.1.gives.first z, omega arith, omega arith, (e, omega arith, omega arith, rw (h.3, e) (After-same stages _))),
      )
  After-pending (suc i) out (s ∷ stages) (s' ∷ stages') h =
      let r = After-pending i out stages stages' h.1 in
      ([] ∷ r.0, λ z. rw h.0 (refl, omega arith, omega arith, r.1 _))
  After-pending i out old new h = absurd h

  -- a frame that comes in is given by none
  After-fed : (frame : Samples) (out : Option Samples) (old new : List S) → PipelineFed acts frame out old new → (z : List Samples) → After (nones old) old new (frame ∷ z) z
  After-fed frame (Some x) [] [] e z = tt
  After-fed frame None (s ∷ stages) (s' ∷ stages') h z =
      let unchanged : (acts.counts s').given ≡ (acts.counts s).given = ap (λ (c : Counts). c.given) h.0.counted in
      let alike : (acts.counts s').clips ≡ (acts.counts s).clips = ap (λ (c : Counts). c.clips) h.0.counted in
      (sym (h.0.rest z), omega arith, omega arith, rw (h.1, h.0.rest z) (After-same stages _))
  After-fed frame out old new h z = absurd h

  -- the end is given by none: the stages before the one that is given it give nothing more
  After-end : (i : ℕ) (old new : List S) → AllDetermined acts old → IsFirstOpen acts i old → EndPassed acts i old new → After (nones old) old new [] []
  After-end zero (s ∷ stages) (s' ∷ stages') dry first h =
      let unchanged : (acts.counts s').given ≡ (acts.counts s).given = ap (λ (c : Counts). c.given) h.0.counted in
      let alike : (acts.counts s').clips ≡ (acts.counts s).clips = ap (λ (c : Counts). c.clips) h.0.counted in
      (sym (h.0.rest []), omega arith, omega arith, rw (h.1, h.0.rest []) (After-same stages _))
  After-end (suc i) (s ∷ stages) (s' ∷ stages') dry first h =
      let none : acts.rest s [] ≡ [] = dry.1.over first.0 [] in
      rw (h.0, none) (refl, omega arith, omega arith, After-end i stages stages' dry.2 first.1 h.1)
  After-end i old new dry first h = absurd h

  -- what each stage gave while the flow took these frames, whatever follows them; after the end nothing does
  record History (first : Parts S) (xs : List Samples) (f : Parts S) : Type 0 where
    gs : List (List Given)
    all : (z : List Samples) → (f.ended ≡ true → z ≡ []) → After gs first.stages f.stages (option_to_list first.inlet ++ (xs ++ z)) (option_to_list f.inlet ++ z)

  History-step : (first f f' : Parts S) (xs : List Samples) → History first xs f → f'.ended ≡ f.ended → (ds : List (List Given))
      → ((z : List Samples) → (f.ended ≡ true → z ≡ []) → After ds f.stages f'.stages (option_to_list f.inlet ++ z) (option_to_list f'.inlet ++ z)) → History first xs f'
  History-step first f f' xs p unchanged ds more = record {
    gs = append_each p.gs ds;
    all = λ z over. let before : f.ended ≡ true → z ≡ [] = λ e. over (unchanged ∙ e) in After-then p.gs ds first.stages f.stages f'.stages _ _ _ (p.all z before) (more z before);
  }

  History-took : (first f f' : Parts S) (xs : List Samples) (x : Samples) → History first xs f → f.ended ≡ false → f.inlet ≡ None → f' ≡ record f { inlet = Some x } → History first (xs ++ x ∷ []) f'
  History-took first f f' xs x p running none e =
      let stages : f'.stages ≡ f.stages = ap (λ (h : Parts S). h.stages) e in
      let inlet : f'.inlet ≡ Some x = ap (λ (h : Parts S). h.inlet) e in
      record {
        gs = p.gs;
        all = λ z over.
            let before = p.all (x ∷ z) (λ ended. absurd (true≢false (sym ended ∙ running))) in
            let empty : option_to_list f.inlet ++ (x ∷ z) ≡ x ∷ z = ap (λ (o : Option Samples). option_to_list o ++ (x ∷ z)) none in
            rw (stages, inlet, append_assoc xs (x ∷ []) z) (rw empty at before);
      }

  History-delivered : (first f f' : Parts S) (xs : List Samples) → History first xs f → f.ended ≡ false → f' ≡ record f { ended = true } → History first xs f'
  History-delivered first f f' xs p running e =
      let stages : f'.stages ≡ f.stages = ap (λ (h : Parts S). h.stages) e in
      let inlet : f'.inlet ≡ f.inlet = ap (λ (h : Parts S). h.inlet) e in
      record { gs = p.gs; all = λ z over. rw (stages, inlet) (p.all z (λ ended. absurd (true≢false (sym ended ∙ running)))) }

  History-moved : (first f f' : Parts S) (step : _) (xs : List Samples) → History first xs f → MovedOn acts f step f' → History first xs f'
  History-moved first f f' step xs p (inl m) =
      let unchanged : f'.ended ≡ f.ended = ap (λ (h : Parts S). h.ended) m.others in
      let inlet : f'.inlet ≡ f.inlet = ap (λ (h : Parts S). h.inlet) m.others in
      let r = After-pending m.place m.out f.stages f'.stages m.over in
      History-step first f f' xs p unchanged r.0 (λ z over. rw inlet (r.1 (option_to_list f.inlet ++ z)))
  History-moved first f f' step xs p (inr (inl m)) =
      let unchanged : f'.ended ≡ f.ended = ap (λ (h : Parts S). h.ended) m.others in
      let inlet : f'.inlet ≡ None = ap (λ (h : Parts S). h.inlet) m.others in
      History-step first f f' xs p unchanged (nones f.stages) (λ z over. rw (inlet, m.inlet) (After-fed m.frame m.out f.stages f'.stages m.fed z))
  History-moved first f f' step xs p (inr (inr m)) =
      let unchanged : f'.ended ≡ f.ended = ap (λ (h : Parts S). h.ended) m.others in
      let inlet : f'.inlet ≡ f.inlet = ap (λ (h : Parts S). h.inlet) m.others in
      History-step first f f' xs p unchanged (nones f.stages) (λ z over. rw (inlet, m.empty, over m.ended) (After-end m.place f.stages f'.stages m.dry m.first m.passed))

  History-reached : (first f : Parts S) (xs gs : List Samples) → Reached acts first xs gs f → History first xs f
  History-reached first f xs gs untouched = record { gs = nones first.stages; all = λ z over. After-same first.stages _ }
  History-reached first f xs gs (took ys hs x g g' r hungry e) = History-took first g g' ys x (History-reached first g ys hs r) hungry.not_ended hungry.empty e
  History-reached first f xs gs (end_reported ys hs g g' r hungry e) = History-delivered first g g' ys (History-reached first g ys hs r) hungry.not_ended e
  History-reached first f xs gs (stepped ys hs step g g' r m) = History-moved first g g' step ys (History-reached first g ys hs r) m

  -- what new stages gave is the front of what their definitions say
  After-firsts : (gs : List (List Given)) (ss ts : List S) (y z : List Samples) → AllNew acts ss → After gs ss ts y z → first_due (map (λ s. (acts.counts s).given) ts) (meanings acts.meaning (recipes acts ss) y) ≡ gs
  After-firsts [] [] [] y z new a = refl
  After-firsts (g ∷ gs) (s ∷ ss) (t ∷ ts) y z new a =
      let none : (acts.counts s).given ≡ 0 = ap (λ (c : Counts). c.given) new.0.counts in
      let count : length g ≡ (acts.counts t).given = omega (arith, a.1) in
      let first : take (acts.counts t).given (acts.meaning (acts.recipe s) y) ≡ g = ap (take (acts.counts t).given) (sym (new.0.rest y) ∙ a.0) ∙ take_at g (acts.rest t z) _ count in
      let others = After-firsts gs ss ts _ _ new.1 (rw (new.0.rest y) at a.3) in
      rw (first, others) refl
  After-firsts gs ss ts y z new a = absurd a

  After-clips : (gs : List (List Given)) (ss ts : List S) (y z : List Samples) → AllNew acts ss → After gs ss ts y z → map (λ s. (acts.counts s).clips) ts ≡ map clips_given gs
  After-clips [] [] [] y z new a = refl
  After-clips (g ∷ gs) (s ∷ ss) (t ∷ ts) y z new a =
      let none : (acts.counts s).clips ≡ 0 = ap (λ (c : Counts). c.clips) new.0.counts in
      let here : (acts.counts t).clips ≡ clips_given g = omega (arith, a.2) in
      rw (here, After-clips gs ss ts _ _ new.1 a.3) refl
  After-clips gs ss ts y z new a = absurd a

  History-clips : (first f : Parts S) (xs : List Samples) → AllNew acts first.stages → first.inlet ≡ None → History first xs f
      → map (λ s. (acts.counts s).clips) f.stages ≡ clips_due acts.meaning (map (λ s. (acts.counts s).given) f.stages) (recipes acts first.stages) xs
  History-clips first f xs new empty p =
      let came : option_to_list first.inlet ++ (xs ++ []) ≡ xs = ap (λ (o : Option Samples). option_to_list o ++ (xs ++ [])) empty ∙ append-nil xs in
      let all = rw came at (p.all [] (λ over. refl)) in
      After-clips p.gs first.stages f.stages xs _ new all ∙ ap (map clips_given) (sym (After-firsts p.gs first.stages f.stages xs _ new all))

  -- what the effects of a new flow counted as clipped is what is clipped in the first frames that their definitions give
  pub clips-reached : (first f : Parts S) (xs gs : List Samples) → AllNew acts first.stages → first.inlet ≡ None → Reached acts first xs gs f
      → map (λ s. (acts.counts s).clips) f.stages ≡ clips_due acts.meaning (map (λ s. (acts.counts s).given) f.stages) (recipes acts first.stages) xs
  clips-reached first f xs gs new empty r = History-clips first f xs new empty (History-reached first f xs gs r)

  -- what each stage has given is what was due
  pub givens-due : (n : ℕ) (over : Bool) (stages : List S) → over ≡ false → AllDetermined acts stages → Joined acts n over stages → map (λ s. (acts.counts s).given) stages ≡ dues (kinds acts stages) n
  givens-due n over [] f dry j = refl
  givens-due n over (s ∷ stages) f dry j =
      let open_ = none_true _ _ j.1 f in
      let due : (acts.counts s).given ≡ (acts.kind_of (acts.recipe s)).due n = dry.1.due open_ ∙ ap (acts.kind_of (acts.recipe s)).due j.0 in
      let others = givens-due (acts.counts s).given _ stages (rw open_ refl) dry.2 j.3 in
      rw (others, due) refl

  given-sum : (stages : List S) → given_of acts stages ≡ sum (map (λ s. (acts.counts s).given) stages)
  given-sum [] = refl
  given-sum (s ∷ stages) = ap (λ n. (acts.counts s).given + n) (given-sum stages) ∙ sym (sum_by-cons (λ (n : ℕ). n) (acts.counts s).given (map (λ s. (acts.counts s).given) stages))

  -- the hand-overs of a hungry flow are the frames taken and those that were due
  pub moves-due : (f : Parts S) (counts : List ℕ) → IsHungry acts f → map (λ s. (acts.counts s).given) f.stages ≡ counts → moves_of acts f ≡ taken_of f + sum counts
  moves-due f counts hungry e =
      let left : taken_of f ≡ f.left = rw (hungry.empty) (omega arith) in
      let all = given-sum f.stages ∙ ap sum e in
      omega arith

  -- the same stages have the same due
  dues-same : (start at : Parts S) (n : ℕ) → recipes acts at.stages ≡ recipes acts start.stages → taken_of at ≡ n → dues (kinds acts at.stages) (taken_of at) ≡ dues (kinds acts start.stages) n
  dues-same start at n stay e = ap (λ (rs : List R). dues (map acts.kind_of rs) (taken_of at)) stay ∙ ap (dues (kinds acts start.stages)) e

  -- what was handed over, where all that was due was given
  pub moves-stopped : (start at : Parts S) (n moves : ℕ) → IsHungry acts at → recipes acts at.stages ≡ recipes acts start.stages → taken_of at ≡ n
      → map (λ s. (acts.counts s).given) at.stages ≡ dues (kinds acts at.stages) (taken_of at) → moves ≡ moves_of acts at → moves ≡ n + sum (dues (kinds acts start.stages) n)
  moves-stopped start at n moves hungry stay taken due is = is ∙ moves-due at (dues (kinds acts start.stages) n) hungry (due ∙ dues-same start at n stay taken) ∙ ap (λ m. m + sum (dues (kinds acts start.stages) n)) taken

  -- what was clipped by then
  pub clips-stopped : (start at : Parts S) (frames given : List Samples) (n : ℕ) → IsHungry acts start → recipes acts at.stages ≡ recipes acts start.stages → taken_of at ≡ n
      → map (λ s. (acts.counts s).given) at.stages ≡ dues (kinds acts at.stages) (taken_of at) → Reached acts start frames given at → AllNew acts start.stages
      → map (λ s. (acts.counts s).clips) at.stages ≡ clips_due acts.meaning (dues (kinds acts start.stages) n) (recipes acts start.stages) frames
  clips-stopped start at frames given n fresh stay taken due reached new =
      clips-reached start at frames given new fresh.empty reached
      ∙ ap (λ counts. clips_due acts.meaning counts (recipes acts start.stages) frames) (due ∙ dues-same start at n stay taken)
