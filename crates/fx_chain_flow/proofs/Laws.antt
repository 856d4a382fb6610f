use Rattle.std.proofs.Common.{ℕ, zero, suc, ◌+◌, ◌<◌, ◌≤◌, Bool, true, false, List, [], ◌∷◌, ◌++◌, ◌≡◌, length, map, get_or, add-zero, arith, refl, sym, ap, ◌∙◌, Some, None, Option, option_to_list, ◌&&◌, ◌||◌}
use Rattle.std.proofs.lemmas.Bool.{and_right}
use Rattle.fx_frame_base.specs.Frame.{Samples}
use Rattle.fx_frame_base.specs.Stage.{Counts, Acts, Gave, Took, Ended, is_enough, kind}
use Rattle.fx_frame_base.specs.Holds.{total, recipes, kinds}
use Rattle.fx_frame_base.specs.Pipeline.{outputs_of}
use Rattle.fx_chain_flow.specs.Parts.{Matching, Within, work, max_of, any_spent, through, wholes, given_by, given_of, ended_of, AllDry, AllDetermined, AllEnded, AllNew, IsLastWet, IsFirstOpen, Joined, CanHandOver, HandedOver, CanFeed, PipelineFed, EndPassed}
use Rattle.fx_chain_flow.specs.Composed.{Whole, frames_of, clips_given, due_of, enough_for}

-- what would be true only with a false fact is false
pub none_true : (b c : Bool) → (b ≡ true → c ≡ true) → c ≡ false → b ≡ false
none_true true c h e = absurd (let t = h refl in cc)
none_true false c h e = refl

module _ {S R : Type 0} (acts : Acts S R) where
  -- the last of stages decides
  pub outputs-last : (channels : ℕ) (stages : List S) (last : S) → outputs_of channels (kinds acts (stages ++ last ∷ [])) ≡ (kind acts last).outputs
  outputs-last channels [] last = refl
  outputs-last channels (s ∷ stages) last = outputs-last (kind acts s).outputs stages last

  pub given_by-last : (left : ℕ) (stages : List S) (last : S) → given_by acts left (stages ++ last ∷ []) ≡ (acts.counts last).given
  given_by-last left [] last = refl
  given_by-last left (s ∷ stages) last = given_by-last (acts.counts s).given stages last

  kind-stays : (s s' : S) → acts.recipe s' ≡ acts.recipe s → kind acts s' ≡ kind acts s
  kind-stays s s' e = ap acts.kind_of e

  Gave-given : (s s' : S) (frame : Samples) → Gave acts s s' frame → (acts.counts s').given ≡ (acts.counts s).given + 1
  Gave-given s s' frame gave = ap (λ (c : Counts). c.given) gave.gives.counted

  Gave-taken : (s s' : S) (frame : Samples) → Gave acts s s' frame → (acts.counts s').taken ≡ (acts.counts s).taken
  Gave-taken s s' frame gave = ap (λ (c : Counts). c.taken) gave.gives.counted

  Gave-ended : (s s' : S) (frame : Samples) → Gave acts s s' frame → (acts.counts s').ended ≡ (acts.counts s).ended
  Gave-ended s s' frame gave = ap (λ (c : Counts). c.ended) gave.gives.counted

  -- its clips, so far and to come, are as many as before
  Gave-clips : (s s' : S) (frame : Samples) → Gave acts s s' frame → (z : List Samples) → (acts.counts s').clips + clips_given (acts.rest s' z) ≡ (acts.counts s).clips + clips_given (acts.rest s z)
  Gave-clips s s' frame gave z =
      let c : (acts.counts s').clips ≡ (acts.counts s).clips + gave.gives.clips = ap (λ (c : Counts). c.clips) gave.gives.counted in
      let e : clips_given (acts.rest s z) ≡ gave.gives.clips + clips_given (acts.rest s' z) = ap clips_given (gave.gives.first z) in
      omega arith

  Gave-length : (s s' : S) (frame : Samples) → Gave acts s s' frame → (z : List Samples) → (acts.counts s').given + length (acts.rest s' z) ≡ (acts.counts s).given + length (acts.rest s z)
  Gave-length s s' frame gave z =
      let c = Gave-given s s' frame gave in
      let e : length (acts.rest s z) ≡ suc (length (acts.rest s' z)) = ap length (gave.gives.first z) in
      omega arith

  Took-given : (s s' : S) (frame : Samples) → Took acts s s' frame → (acts.counts s').given ≡ (acts.counts s).given
  Took-given s s' frame took = ap (λ (c : Counts). c.given) took.counted

  Took-taken : (s s' : S) (frame : Samples) → Took acts s s' frame → (acts.counts s').taken ≡ (acts.counts s).taken + 1
  Took-taken s s' frame took = ap (λ (c : Counts). c.taken) took.counted

  Took-ended : (s s' : S) (frame : Samples) → Took acts s s' frame → (acts.counts s').ended ≡ (acts.counts s).ended
  Took-ended s s' frame took = ap (λ (c : Counts). c.ended) took.counted

  Took-clips : (s s' : S) (frame : Samples) → Took acts s s' frame → (acts.counts s').clips ≡ (acts.counts s).clips
  Took-clips s s' frame took = ap (λ (c : Counts). c.clips) took.counted

  -- the frames to come are those to come after the step, after what it gave
  pub through-HandedOver : (i : ℕ) (out : Option Samples) (old new : List S) → HandedOver acts i out old new → (z : List Samples) → through acts old z ≡ option_to_list out ++ through acts new z
  through-HandedOver zero (Some frame) (s ∷ []) (s' ∷ []) gave z = ap frames_of (gave.gives.first z)
  through-HandedOver zero None (s ∷ t ∷ stages) (s' ∷ t' ∷ stages') h z =
      rw h.3 (ap (λ w. through acts stages (frames_of w)) (ap (λ w. acts.rest t (frames_of w)) (h.1.gives.first z) ∙ sym (h.2.rest (frames_of (acts.rest s' z)))))
  through-HandedOver (suc i) out (s ∷ stages) (s' ∷ stages') h z = rw h.0 (through-HandedOver i out stages stages' h.1 (frames_of (acts.rest s z)))
  through-HandedOver i out old new h z = absurd h

  pub recipes-HandedOver : (i : ℕ) (out : Option Samples) (old new : List S) → HandedOver acts i out old new → recipes acts new ≡ recipes acts old
  recipes-HandedOver zero (Some frame) (s ∷ []) (s' ∷ []) gave = rw gave.recipe_stays refl
  recipes-HandedOver zero None (s ∷ t ∷ stages) (s' ∷ t' ∷ stages') h = rw (h.1.recipe_stays, h.2.recipe_stays, h.3) refl
  recipes-HandedOver (suc i) out (s ∷ stages) (s' ∷ stages') h = rw (h.0, recipes-HandedOver i out stages stages' h.1) refl
  recipes-HandedOver i out old new h = absurd h

  pub given-HandedOver : (i : ℕ) (out : Option Samples) (old new : List S) → HandedOver acts i out old new → given_of acts new ≡ suc (given_of acts old)
  given-HandedOver zero (Some frame) (s ∷ []) (s' ∷ []) gave = let e = Gave-given s s' frame gave in omega arith
  given-HandedOver zero None (s ∷ t ∷ stages) (s' ∷ t' ∷ stages') h =
      let e = Gave-given s s' h.0 h.1 in let f = Took-given t t' h.0 h.2 in rw h.3 (omega arith)
  given-HandedOver (suc i) out (s ∷ stages) (s' ∷ stages') h = let e = given-HandedOver i out stages stages' h.1 in rw h.0 (omega arith)
  given-HandedOver i out old new h = absurd h

  pub ended-HandedOver : (i : ℕ) (out : Option Samples) (old new : List S) → HandedOver acts i out old new → ended_of acts new ≡ ended_of acts old
  ended-HandedOver zero (Some frame) (s ∷ []) (s' ∷ []) gave = rw (Gave-ended s s' frame gave) refl
  ended-HandedOver zero None (s ∷ t ∷ stages) (s' ∷ t' ∷ stages') h = rw (Gave-ended s s' h.0 h.1, Took-ended t t' h.0 h.2, h.3) refl
  ended-HandedOver (suc i) out (s ∷ stages) (s' ∷ stages') h = rw (h.0, ended-HandedOver i out stages stages' h.1) refl
  ended-HandedOver i out old new h = absurd h

  pub Joined-along : (m n : ℕ) (b c : Bool) (stages : List S) → m ≡ n → b ≡ c → Joined acts m b stages → Joined acts n c stages
  Joined-along m n b c stages e f j = rw (← e, ← f) j

  pub last-HandedOver : (i : ℕ) (out : Option Samples) (old new : List S) (n : ℕ) → HandedOver acts i out old new → given_by acts n new ≡ given_by acts n old + length (option_to_list out)
  last-HandedOver zero (Some frame) (s ∷ []) (s' ∷ []) n gave = Gave-given s s' frame gave
  last-HandedOver zero None (s ∷ t ∷ stages) (s' ∷ t' ∷ stages') n h = rw (h.3, Took-given t t' h.0 h.2) (omega arith)
  last-HandedOver (suc i) out (s ∷ stages) (s' ∷ stages') n h = rw h.0 (last-HandedOver i out stages stages' _ h.1)
  last-HandedOver i out old new n h = absurd h

  -- no clip is lost
  pub wholes-HandedOver : (i : ℕ) (out : Option Samples) (old new : List S) → HandedOver acts i out old new → (z : List Samples) → wholes acts new z ≡ wholes acts old z
  wholes-HandedOver zero (Some frame) (s ∷ []) (s' ∷ []) gave z = rw (Gave-length s s' frame gave z, Gave-clips s s' frame gave z) refl
  wholes-HandedOver zero None (s ∷ t ∷ stages) (s' ∷ t' ∷ stages') h z =
      let e : acts.rest t' (frames_of (acts.rest s' z)) ≡ acts.rest t (frames_of (acts.rest s z)) = h.2.rest _ ∙ sym (ap (λ w. acts.rest t (frames_of w)) (h.1.gives.first z)) in
      rw (h.3, Gave-length s s' h.0 h.1 z, Gave-clips s s' h.0 h.1 z, e, Took-given t t' h.0 h.2, Took-clips t t' h.0 h.2) refl
  wholes-HandedOver (suc i) out (s ∷ stages) (s' ∷ stages') h z = rw h.0 (ap (λ (w : List Whole). record { given = (acts.counts s).given + length (acts.rest s z); clips = (acts.counts s).clips + clips_given (acts.rest s z) } ∷ w) (wholes-HandedOver i out stages stages' h.1 (frames_of (acts.rest s z))))
  wholes-HandedOver i out old new h z = absurd h

  -- the first stage takes a frame
  pub through-Fed : (frame : Samples) (out : Option Samples) (old new : List S) → PipelineFed acts frame out old new → (z : List Samples) → through acts old (frame ∷ z) ≡ option_to_list out ++ through acts new z
  through-Fed frame (Some x) [] [] e z = rw e refl
  through-Fed frame None (s ∷ stages) (s' ∷ stages') h z = rw h.1 (ap (λ w. through acts stages (frames_of w)) (sym (h.0.rest z)))
  through-Fed frame out old new h z = absurd h

  pub wholes-Fed : (frame : Samples) (out : Option Samples) (old new : List S) → PipelineFed acts frame out old new → (z : List Samples) → wholes acts new z ≡ wholes acts old (frame ∷ z)
  wholes-Fed frame (Some x) [] [] e z = refl
  wholes-Fed frame None (s ∷ stages) (s' ∷ stages') h z = rw (h.1, h.0.rest z, Took-given s s' frame h.0, Took-clips s s' frame h.0) refl
  wholes-Fed frame out old new h z = absurd h

  pub last-Fed : (frame : Samples) (out : Option Samples) (old new : List S) (n : ℕ) → PipelineFed acts frame out old new → given_by acts (n + 1) new ≡ given_by acts n old + length (option_to_list out)
  last-Fed frame (Some x) [] [] n e = refl
  last-Fed frame None (s ∷ stages) (s' ∷ stages') n h = rw (h.1, Took-given s s' frame h.0) (omega arith)
  last-Fed frame out old new n h = absurd h

  pub recipes-Fed : (frame : Samples) (out : Option Samples) (old new : List S) → PipelineFed acts frame out old new → recipes acts new ≡ recipes acts old
  recipes-Fed frame (Some x) [] [] e = refl
  recipes-Fed frame None (s ∷ stages) (s' ∷ stages') h = rw (h.1, h.0.recipe_stays) refl
  recipes-Fed frame out old new h = absurd h

  pub given-Fed : (frame : Samples) (out : Option Samples) (old new : List S) → PipelineFed acts frame out old new → given_of acts new ≡ given_of acts old
  given-Fed frame (Some x) [] [] e = refl
  given-Fed frame None (s ∷ stages) (s' ∷ stages') h = rw (h.1, Took-given s s' frame h.0) refl
  given-Fed frame out old new h = absurd h

  pub ended-Fed : (frame : Samples) (out : Option Samples) (old new : List S) → PipelineFed acts frame out old new → ended_of acts new ≡ ended_of acts old
  ended-Fed frame (Some x) [] [] e = refl
  ended-Fed frame None (s ∷ stages) (s' ∷ stages') h = rw (h.1, Took-ended s s' frame h.0) refl
  ended-Fed frame out old new h = absurd h

  Ended-given : (s s' : S) → Ended acts s s' → (acts.counts s').given ≡ (acts.counts s).given
  Ended-given s s' h = ap (λ (c : Counts). c.given) h.counted

  Ended-taken : (s s' : S) → Ended acts s s' → (acts.counts s').taken ≡ (acts.counts s).taken
  Ended-taken s s' h = ap (λ (c : Counts). c.taken) h.counted

  Ended-clips : (s s' : S) → Ended acts s s' → (acts.counts s').clips ≡ (acts.counts s).clips
  Ended-clips s s' h = ap (λ (c : Counts). c.clips) h.counted

  Ended-ended : (s s' : S) → Ended acts s s' → (acts.counts s').ended ≡ true
  Ended-ended s s' h = ap (λ (c : Counts). c.ended) h.counted

  -- the end goes on, where all are dry
  pub through-EndPassed : (i : ℕ) (old new : List S) → AllDetermined acts old → IsFirstOpen acts i old → EndPassed acts i old new → through acts new [] ≡ through acts old []
  through-EndPassed zero (s ∷ stages) (s' ∷ stages') dry first h = rw (h.1, h.0.rest []) refl
  through-EndPassed (suc i) (s ∷ stages) (s' ∷ stages') dry first h = rw (h.0, dry.1.over first.0 _) (through-EndPassed i stages stages' dry.2 first.1 h.1)
  through-EndPassed zero [] new dry first h = absurd first
  through-EndPassed (suc i) [] new dry first h = absurd first
  through-EndPassed i old [] dry first h = absurd h

  pub wholes-EndPassed : (i : ℕ) (old new : List S) → AllDetermined acts old → IsFirstOpen acts i old → EndPassed acts i old new → wholes acts new [] ≡ wholes acts old []
  wholes-EndPassed zero (s ∷ stages) (s' ∷ stages') dry first h = rw (h.1, h.0.rest [], Ended-given s s' h.0, Ended-clips s s' h.0) refl
  wholes-EndPassed (suc i) (s ∷ stages) (s' ∷ stages') dry first h = rw (h.0, dry.1.over first.0 _) (ap (λ (w : List Whole). record { given = (acts.counts s).given + 0; clips = (acts.counts s).clips + 0 } ∷ w) (wholes-EndPassed i stages stages' dry.2 first.1 h.1))
  wholes-EndPassed zero [] new dry first h = absurd first
  wholes-EndPassed (suc i) [] new dry first h = absurd first
  wholes-EndPassed i old [] dry first h = absurd h

  pub recipes-EndPassed : (i : ℕ) (old new : List S) → EndPassed acts i old new → recipes acts new ≡ recipes acts old
  recipes-EndPassed zero (s ∷ stages) (s' ∷ stages') h = rw (h.1, h.0.recipe_stays) refl
  recipes-EndPassed (suc i) (s ∷ stages) (s' ∷ stages') h = rw (h.0, recipes-EndPassed i stages stages' h.1) refl
  recipes-EndPassed i old new h = absurd h

  pub last-EndPassed : (i : ℕ) (old new : List S) (n : ℕ) → EndPassed acts i old new → given_by acts n new ≡ given_by acts n old
  last-EndPassed zero (s ∷ stages) (s' ∷ stages') n h = rw (h.1, Ended-given s s' h.0) refl
  last-EndPassed (suc i) (s ∷ stages) (s' ∷ stages') n h = rw h.0 (last-EndPassed i stages stages' _ h.1)
  last-EndPassed i old new n h = absurd h

  pub given-EndPassed : (i : ℕ) (old new : List S) → EndPassed acts i old new → given_of acts new ≡ given_of acts old
  given-EndPassed zero (s ∷ stages) (s' ∷ stages') h = rw (h.1, Ended-given s s' h.0) refl
  given-EndPassed (suc i) (s ∷ stages) (s' ∷ stages') h = rw (h.0, given-EndPassed i stages stages' h.1) refl
  given-EndPassed i old new h = absurd h

  pub ended-EndPassed : (i : ℕ) (old new : List S) → IsFirstOpen acts i old → EndPassed acts i old new → ended_of acts new ≡ suc (ended_of acts old)
  ended-EndPassed zero (s ∷ stages) (s' ∷ stages') first h = rw (h.1, Ended-ended s s' h.0, first) (omega arith)
  ended-EndPassed (suc i) (s ∷ stages) (s' ∷ stages') first h = rw (h.0, ended-EndPassed i stages stages' first.1 h.1) (omega arith)
  ended-EndPassed zero [] new first h = absurd first
  ended-EndPassed (suc i) [] new first h = absurd first
  ended-EndPassed i old [] first h = absurd h

  -- nothing is to come where all are ended and dry
  pub through-Done : (stages : List S) → AllDetermined acts stages → AllEnded acts stages → through acts stages [] ≡ []
  through-Done [] dry ended = refl
  through-Done (s ∷ stages) dry ended = rw (dry.1.over ended.0 _) (through-Done stages dry.2 ended.1)

  -- where the end may not have come, none is ended
  pub Joined-any : (n : ℕ) (b : Bool) (stages : List S) → Joined acts n false stages → Joined acts n b stages
  Joined-any n b [] j = tt
  Joined-any n b (s ∷ stages) j = (j.0, (λ e. absurd (let t = j.1 e in cc)), j.2, j.3)

  pub Joined-EndPassed : (i : ℕ) (old new : List S) (n : ℕ) → AllDetermined acts old → IsFirstOpen acts i old → EndPassed acts i old new → Joined acts n true old → Joined acts n true new
  Joined-EndPassed zero (s ∷ stages) (s' ∷ stages') n dry first h j =
      rw (h.1, Ended-given s s' h.0, kind-stays _ _ h.0.recipe_stays)
      (Ended-taken s s' h.0 ∙ j.0, (λ e. refl), j.2, Joined-any _ _ stages (Joined-along _ _ _ _ stages refl (rw first refl) j.3))
  Joined-EndPassed (suc i) (s ∷ stages) (s' ∷ stages') n dry first h j =
      let over : ((acts.counts s).ended && acts.dry s) ≡ true = rw (first.0, dry.0) refl in
      rw h.0 (j.0, j.1, j.2, Joined-along _ _ _ _ stages' refl (sym over) (Joined-EndPassed i stages stages' _ dry.2 first.1 h.1 (Joined-along _ _ _ _ stages refl over j.3)))
  Joined-EndPassed zero [] new n dry first h j = absurd first
  Joined-EndPassed (suc i) [] new n dry first h j = absurd first
  Joined-EndPassed i old [] n dry first h j = absurd h

  -- what each stage has given is what was due
  pub given_by-due : (n : ℕ) (over : Bool) (stages : List S) → over ≡ false → AllDetermined acts stages → Joined acts n over stages → given_by acts n stages ≡ due_of (kinds acts stages) n
  given_by-due n over [] f dry j = refl
  given_by-due n over (s ∷ stages) f dry j =
      let open_ = none_true _ _ j.1 f in
      let due = dry.1.due open_ in
      given_by-due (acts.counts s).given _ stages (rw open_ refl) dry.2 j.3 ∙ ap (due_of (kinds acts stages)) (due ∙ ap (kind acts s).due j.0)

  -- a dry flow is spent where enough frames have come
  pub any_spent-enough : (n : ℕ) (over : Bool) (stages : List S) → over ≡ false → AllDetermined acts stages → Joined acts n over stages → any_spent acts stages ≡ enough_for (kinds acts stages) n
  any_spent-enough n over [] f dry j = refl
  any_spent-enough n over (s ∷ stages) f dry j =
      let open_ = none_true _ _ j.1 f in
      let due = dry.1.due open_ in
      rw (dry.0, j.0) (ap (λ b. is_enough (kind acts s).enough n || b)
      (any_spent-enough (acts.counts s).given _ stages (rw open_ refl) dry.2 j.3 ∙ ap (enough_for (kinds acts stages)) (due ∙ ap (kind acts s).due j.0)))

  -- new stages have given nothing
  pub given_by-new : (stages : List S) → AllNew acts stages → given_by acts 0 stages ≡ 0
  given_by-new [] new = refl
  given_by-new (s ∷ stages) new = rw (ap (λ (c : Counts). c.given) new.0.counts) (given_by-new stages new.1)

  module _ (rises : (r : R) (m n : ℕ) → m ≤ n → (acts.kind_of r).maximum m ≤ (acts.kind_of r).maximum n) where
    -- each stage stays joined to the next
    pub Joined-HandedOver : (i : ℕ) (out : Option Samples) (old new : List S) (n : ℕ) (over : Bool) → CanHandOver acts i old → HandedOver acts i out old new → Joined acts n over old → Joined acts n over new
    Joined-HandedOver zero (Some frame) (s ∷ []) (s' ∷ []) n over can gave j =
        let taken = Gave-taken s s' frame gave ∙ j.0 in
        (taken, (λ e. j.1 (sym (Gave-ended s s' frame gave) ∙ e)), rw (kind-stays _ _ gave.recipe_stays, ← taken) gave.maximum, tt)
    Joined-HandedOver zero None (s ∷ t ∷ stages) (s' ∷ t' ∷ stages') n over can h j =
        let taken = Gave-taken s s' h.0 h.1 ∙ j.0 in
        let given = Gave-given s s' h.0 h.1 in
        let not_ended = Took-ended t t' h.0 h.2 ∙ can.2 in
        let more : (acts.counts s).given ≤ (acts.counts s).given + 1 = omega arith in
        let maximum = rises (acts.recipe t) _ _ more in
        let before = j.3.2 in (
          taken,
          (λ e. j.1 (sym (Gave-ended s s' h.0 h.1) ∙ e)),
          rw (kind-stays _ _ h.1.recipe_stays, ← taken) h.1.maximum,
          (
            Took-taken t t' h.0 h.2 ∙ ap (λ k. k + 1) j.3.0 ∙ sym given,
            (λ e. absurd (cc (e, not_ended))),
            rw (Took-given t t' h.0 h.2, kind-stays _ _ h.2.recipe_stays, given) (omega arith),
            rw h.3 (Joined-along _ _ _ _ stages (sym (Took-given t t' h.0 h.2)) (rw (can.2, not_ended) refl) j.3.3),
          ),
        )
    Joined-HandedOver (suc i) out (s ∷ stages) (s' ∷ stages') n over can h j =
        rw h.0 (j.0, j.1, j.2, Joined-HandedOver i out stages stages' _ _ can h.1 j.3)
    Joined-HandedOver i out old new n over can h j = absurd h

    pub Joined-Fed : (frame : Samples) (out : Option Samples) (old new : List S) (n : ℕ) (over : Bool) → CanFeed acts frame old → PipelineFed acts frame out old new → Joined acts n over old → Joined acts (n + 1) over new
    Joined-Fed frame (Some x) [] [] n over can e j = tt
    Joined-Fed frame None (s ∷ stages) (s' ∷ stages') n over can h j =
        let more : n ≤ n + 1 = omega arith in
        let maximum = rises (acts.recipe s) _ _ more in
        let before = j.2 in
        let not_ended = Took-ended s s' frame h.0 ∙ can.1 in (
          Took-taken s s' frame h.0 ∙ ap (λ k. k + 1) j.0,
          (λ e. absurd (cc (e, not_ended))),
          rw (Took-given s s' frame h.0, kind-stays _ _ h.0.recipe_stays) (omega arith),
          rw h.1 (Joined-along _ _ _ _ stages (sym (Took-given s s' frame h.0)) (rw (can.1, not_ended) refl) j.3),
        )
    Joined-Fed frame out old new n over can h j = absurd h

    -- the frames that left are no more than the work
    pub work-le : (stages : List S) (n maximum : ℕ) (over : Bool) → Joined acts n over stages → n ≤ maximum → n + given_of acts stages ≤ work (kinds acts stages) maximum
    work-le [] n maximum over j h = omega arith
    work-le (s ∷ stages) n maximum over j h =
        let given = j.2 in
        let up = rises (acts.recipe s) n maximum h in
        let rest = work-le stages _ ((kind acts s).maximum maximum) _ j.3 (omega arith) in
        omega arith

    pub max_of-le : (stages : List S) (m n : ℕ) → m ≤ n → max_of (kinds acts stages) m ≤ max_of (kinds acts stages) n
    max_of-le [] m n h = h
    max_of-le (s ∷ stages) m n h = max_of-le stages _ _ (rises (acts.recipe s) m n h)

    -- the frames that the last gave are no more than the most
    pub given_by-le : (stages : List S) (n maximum : ℕ) (over : Bool) → Joined acts n over stages → n ≤ maximum → given_by acts n stages ≤ max_of (kinds acts stages) maximum
    given_by-le [] n maximum over j h = h
    given_by-le (s ∷ stages) n maximum over j h =
        let given = j.2 in
        let up = rises (acts.recipe s) n maximum h in
        given_by-le stages _ _ _ j.3 (omega arith)

    -- the last stage that is not dry may give its frame to the next one
    pub CanHandOver-from : (i : ℕ) (stages : List S) (n : ℕ) (over : Bool) (channels maximum : ℕ)
        → IsLastWet acts i stages → Joined acts n over stages → Matching channels (kinds acts stages) → Within (kinds acts stages) maximum → n ≤ maximum → CanHandOver acts i stages
    CanHandOver-from zero (s ∷ []) n over channels maximum wet j m w h = wet.0
    CanHandOver-from zero (s ∷ t ∷ stages) n over channels maximum wet j m w h =
        let up = rises (acts.recipe s) _ _ h in
        (wet.0, wet.1.0, none_true _ _ j.3.1 (and_right _ _ wet.0), sym m.1.0, j.3.0, rw j.0 (let l = w.1.0 in omega arith))
    CanHandOver-from (suc i) (s ∷ stages) n over channels maximum wet j m w h =
        let given = j.2 in
        let up = rises (acts.recipe s) _ _ h in
        CanHandOver-from i stages _ _ _ ((kind acts s).maximum maximum) wet j.3 m.1 w.1 (omega arith)
    CanHandOver-from i [] n over channels maximum wet j m w h = absurd wet

    -- the first stage may take what is in the inlet
    pub CanFeed-from : (frame : Samples) (stages : List S) (n : ℕ) (over : Bool) (channels maximum : ℕ)
        → AllDetermined acts stages → over ≡ false → Joined acts n over stages → Matching channels (kinds acts stages) → Within (kinds acts stages) maximum → n < maximum → length frame ≡ channels → CanFeed acts frame stages
    CanFeed-from frame [] n over channels maximum dry f j m w h e = tt
    CanFeed-from frame (s ∷ stages) n over channels maximum dry f j m w h e =
        (dry.0, none_true _ _ j.1 f, e ∙ sym m.0, rw j.0 (let l = w.0 in omega arith))

  -- a new chain
  pub Joined-AllNew : (stages : List S) → AllNew acts stages → Joined acts 0 false stages
  Joined-AllNew [] h = tt
  Joined-AllNew (s ∷ stages) h =
      let taken = ap (λ (c : Counts). c.taken) h.0.counts in
      let given = ap (λ (c : Counts). c.given) h.0.counts in
      let ended = ap (λ (c : Counts). c.ended) h.0.counts in
      (taken, (λ e. absurd (cc (e, ended))), rw given (omega arith), Joined-along _ _ _ _ stages (sym given) (rw ended refl) (Joined-AllNew stages h.1))

  pub given-AllNew : (stages : List S) → AllNew acts stages → given_of acts stages ≡ 0
  given-AllNew [] h = refl
  given-AllNew (s ∷ stages) h = rw (ap (λ (c : Counts). c.given) h.0.counts, given-AllNew stages h.1) refl

  pub ended-AllNew : (stages : List S) → AllNew acts stages → ended_of acts stages ≡ 0
  ended-AllNew [] h = refl
  ended-AllNew (s ∷ stages) h = rw (ap (λ (c : Counts). c.ended) h.0.counts, ended-AllNew stages h.1) refl

  pub AllNew-dry : (stages : List S) → AllNew acts stages → AllDry acts stages
  AllNew-dry [] h = tt
  AllNew-dry (s ∷ stages) h = (h.0.dry, AllNew-dry stages h.1)

  -- where all are ended and dry, each stage has given all
  pub wholes-Done : (stages : List S) → AllDetermined acts stages → AllEnded acts stages → wholes acts stages [] ≡ map (λ s. record { given = (acts.counts s).given; clips = (acts.counts s).clips }) stages
  wholes-Done [] dry ended = refl
  wholes-Done (s ∷ stages) dry ended = rw (dry.1.over ended.0 _, add-zero, add-zero, wholes-Done stages dry.2 ended.1) refl

  pub given-wholes : (stages : List S) → total (λ (w : Whole). w.given) (map (λ s. record { given = (acts.counts s).given; clips = (acts.counts s).clips }) stages) ≡ given_of acts stages
  given-wholes [] = refl
  given-wholes (s ∷ stages) = ap (λ n. (acts.counts s).given + n) (given-wholes stages)

  pub clips-wholes : (stages : List S) (i : ℕ) → get_or (map (λ (w : Whole). w.clips) (map (λ s. record { given = (acts.counts s).given; clips = (acts.counts s).clips }) stages)) i 0 ≡ get_or (map (λ s. (acts.counts s).clips) stages) i 0
  clips-wholes [] i = refl
  clips-wholes (s ∷ stages) zero = refl
  clips-wholes (s ∷ stages) (suc i) = clips-wholes stages i
