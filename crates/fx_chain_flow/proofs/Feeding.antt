-- A flow that is fed, frame by frame.
use Rattle.std.proofs.Common.{◌≡◌, ◌+◌, ◌-◌, ◌*◌, ◌<◌, ◌≤◌, ℕ, zero, suc, true, false, List, [], ◌∷◌, ◌++◌, length, take, drop, map, refl, sym, ap, ◌∙◌, arith, add-one, length-append, append_assoc, append-nil, inl, inr, Option, Some, None, ℤ}
use Rattle.std.proofs.lemmas.List.{drop-drop, drop_at, length-drop, length-map, length-take-le, take_at}
use Rattle.std.proofs.Math.Nat.{add-mul, mul-le-mul_right, suc-mul}
use Rattle.fx_frame_base.specs.Frame.{Samples}
use Rattle.fx_frame_base.specs.Holds.{kinds, recipes}
use Rattle.fx_frame_base.specs.Lists.{pieces}
use Rattle.fx_frame_base.specs.Stage.{Acts, StageKind}
use Rattle.fx_frame_base.proofs.Puts.{pieces-split, drop-put, pieces-more, pieces-put, pieces-same}
use Rattle.fx_frame_base.proofs.Pieces.{length-pieces}
use Rattle.fx_frame_base.proofs.Capacities.{free-grows}
use Rattle.fx_chain_flow.specs.Feed.{FlowFed, FlowGave, FlowTookWithinSpace, GaveLast, Stepped, TookIn, stepped, taken_in, untouched}
use Rattle.fx_frame_base.specs.Pipeline.{outputs_of}
use Rattle.fx_chain_flow.specs.Parts.{PipelineFed, HandedOver, Parts, ended_of, given_by, moves_of, taken_of, work}
use Rattle.fx_chain_flow.specs.Composed.{due_of, enough_for}
use Rattle.fx_chain_flow.proofs.Laws.{recipes-EndPassed, recipes-Fed, recipes-HandedOver}
use Rattle.std.proofs.lemmas.Bool.{cases_lt}
use Rattle.fx_chain_flow.specs.StageCall.{StageCall}
use Rattle.fx_chain_flow.specs.Order.{InOrder}
use Rattle.fx_chain_flow.proofs.Orders.{InOrder-then}
use Rattle.fx_chain_flow.specs.Sound.{IsSound, max_frames}
use Rattle.fx_chain_flow.specs.Steps.{MovedOn, Steps, given_out, rest_of, step_of, wholes_of}
use Rattle.fx_chain_flow.specs.declared.flow.Step.{Step}
use Rattle.fx_chain_flow.specs.declared.flow.Step.TheVariants.{Moved, Given, Idle}

-- frames are no more than their samples
pub le-times : (n m : ℕ) → 1 ≤ m → n ≤ n * m
le-times zero m h = omega arith
le-times (suc n) m h = omega (arith, suc-mul n m, le-times n m h)

-- where so many frames fill the room but for less than one, each of them gave one
pub all-gave : (given taken count width free : ℕ) → given ≤ taken → taken ≤ count → count * width ≤ free → free < given * width + width → given ≡ taken
all-gave given taken count width free bound within fits full = elim (cases_lt given taken) [
  | inl less ↦ let more : suc given * width ≤ count * width = mul-le-mul_right width (omega arith) in absurd (omega (arith, more, suc-mul given width))
  | inr same ↦ omega arith
]

-- and where there was room for one, there is one
pub some-gave : (given width written free : ℕ) → written + width ≤ free → free < written + given * width + width → 1 ≤ given
some-gave zero width written free fits_out full = absurd (omega arith)
some-gave (suc given) width written free fits_out full = omega arith

module _ {S R : Type 0} (acts : Acts S R) where
  -- a frame that comes out has the channels of the last stage
  sides-over : (i : ℕ) (frame : Samples) (old new : List S) (channels : ℕ) → HandedOver acts i (Some frame) old new → length frame ≡ outputs_of channels (kinds acts old)
  sides-over zero frame (s ∷ []) (s' ∷ []) channels h = h.channels
  sides-over (suc i) frame (s ∷ stages) (s' ∷ stages') channels h = sides-over i frame stages stages' (acts.kind_of (acts.recipe s)).outputs h.1
  sides-over i frame old new channels h = absurd h

  sides-fed : (x frame : Samples) (old new : List S) (channels : ℕ) → length x ≡ channels → PipelineFed acts x (Some frame) old new → length frame ≡ outputs_of channels (kinds acts old)
  sides-fed x frame [] [] channels e h = ap length h ∙ e
  sides-fed x frame old new channels e h = absurd h

  pub sides-moved : (f f' : Parts S) (frame : Samples) → IsSound acts f → MovedOn acts f (Given frame) f' → length frame ≡ outputs_of f.channels (kinds acts f.stages)
  sides-moved f f' frame sound (inl gave) = from-out gave.out gave.over gave.delivered
    where
      from-out : (out : Option Samples) → HandedOver acts gave.place out f.stages f'.stages → Given frame ≡ step_of out → length frame ≡ outputs_of f.channels (kinds acts f.stages)
      from-out (Some x) over delivered = let e : frame ≡ x = cc in ap length e ∙ sides-over gave.place x f.stages f'.stages f.channels over
      from-out None over delivered = absurd (cc)
  sides-moved f f' frame sound (inr (inl fed)) = from-out fed.out fed.fed fed.delivered
    where
      from-out : (out : Option Samples) → PipelineFed acts fed.frame out f.stages f'.stages → Given frame ≡ step_of out → length frame ≡ outputs_of f.channels (kinds acts f.stages)
      from-out (Some x) over delivered = let e : frame ≡ x = cc in ap length e ∙ sides-fed fed.frame x f.stages f'.stages f.channels (sound.inlet fed.frame fed.inlet).1 over
      from-out None over delivered = absurd (cc)
  sides-moved f f' frame sound (inr (inr passed)) = let delivered = passed.delivered in absurd (cc)

  -- nothing was done yet
  pub FlowGave-none : (f : Parts S) → FlowGave acts f [] [] f
  FlowGave-none f = record { rest = λ z e. refl; whole = λ z e. refl; recipes_stay = refl; taken = omega arith; given = omega arith; ended = refl; channels = refl }

  -- one frame more was taken
  pub FlowGave-took : (first f f' : Parts S) (xs gs : List Samples) (x : Samples) → FlowGave acts first xs gs f → f.inlet ≡ None → f.ended ≡ false → f' ≡ record f { inlet = Some x } → FlowGave acts first (xs ++ x ∷ []) gs f'
  FlowGave-took first f f' xs gs x all empty going took =
      let stages : f'.stages ≡ f.stages = ap (λ (h : Parts S). h.stages) took in
      let inlet : f'.inlet ≡ Some x = ap (λ (h : Parts S). h.inlet) took in
      let left : f'.left ≡ f.left = ap (λ (h : Parts S). h.left) took in
      let one : taken_of f' ≡ taken_of f + 1 = rw (left, inlet, empty) (omega arith) in
      let o : first.ended ≡ false = sym all.ended ∙ going in
      let closed : (z : List Samples) → first.ended ≡ true → x ∷ z ≡ [] = λ z e. absurd (cc (e, o)) in
      let same : (z : List Samples) → rest_of acts f (x ∷ z) ≡ rest_of acts f' z = λ z. rw (stages, inlet, empty) refl in
      let alike : (z : List Samples) → wholes_of acts f' z ≡ wholes_of acts f (x ∷ z) = λ z. rw (stages, inlet, empty) refl in
      record {
        rest = λ z e. ap (rest_of acts first) (append_assoc xs (x ∷ []) z) ∙ all.rest (x ∷ z) (closed z) ∙ ap (λ w. gs ++ w) (same z);
        whole = λ z e. alike z ∙ all.whole (x ∷ z) (closed z) ∙ sym (ap (wholes_of acts first) (append_assoc xs (x ∷ []) z));
        recipes_stay = ap (recipes acts) stages ∙ all.recipes_stay;
        taken = omega (arith, one, all.taken, length-append xs (x ∷ []));
        given = rw (stages, left) all.given;
        ended = ap (λ (h : Parts S). h.ended) took ∙ all.ended;
        channels = ap (λ (h : Parts S). h.channels) took ∙ all.channels;
      }

  -- one step more was made
  pub FlowGave-stepped : (first f f' : Parts S) (xs gs : List Samples) (step : Step) → FlowGave acts first xs gs f → Steps acts f step f' → FlowGave acts first xs (gs ++ given_out step) f'
  FlowGave-stepped first f f' xs gs step all steps =
      record {
        rest = λ z e. all.rest z e ∙ ap (λ w. gs ++ w) (steps.rest z (λ over. e (sym all.ended ∙ over))) ∙ sym (append_assoc gs (given_out step) (rest_of acts f' z));
        whole = λ z e. steps.whole z (λ over. e (sym all.ended ∙ over)) ∙ all.whole z e;
        recipes_stay = steps.recipes_stay ∙ all.recipes_stay;
        taken = steps.taken ∙ all.taken;
        given = omega (arith, steps.given, all.given, length-append gs (given_out step));
        ended = steps.ended ∙ all.ended;
        channels = steps.channels ∙ all.channels;
      }

  -- the most that may be handed over does not fall
  pub work-rises : ((r : R) (m n : ℕ) → m ≤ n → (acts.kind_of r).maximum m ≤ (acts.kind_of r).maximum n) → (rs : List R) (m n : ℕ) → m ≤ n → work (map acts.kind_of rs) m ≤ work (map acts.kind_of rs) n
  work-rises rises [] m n h = h
  work-rises rises (r ∷ rs) m n h = let k = work-rises rises rs _ _ (rises r m n h) in omega arith

module _ {S R : Type 0} (acts : Acts S R) where
  -- one run after another
  pub FlowFed-then : (first f f' : Parts S) (xs gs ys hs : List Samples) → FlowFed acts first xs gs f → FlowFed acts f ys hs f' → FlowFed acts first (xs ++ ys) (gs ++ hs) f'
  FlowFed-then first f f' xs gs ys hs one untouched = simp append-nil one
  FlowFed-then first f f' xs gs ys hs one (taken_in ks js x h h' two took) = rw (← append_assoc xs ks (x ∷ [])) (taken_in (xs ++ ks) (gs ++ js) x h h' (FlowFed-then first f h xs gs ks js one two) took)
  FlowFed-then first f f' xs gs ys hs one (stepped ks js step h h' two moved) = rw (← append_assoc gs js (given_out step)) (stepped (xs ++ ks) (gs ++ js) step h h' (FlowFed-then first f h xs gs ks js one two) moved)

  pub GaveLast-then : (first f f' : Parts S) (xs gs ys hs : List Samples) → FlowFed acts first xs gs f → GaveLast acts f ys hs f' → GaveLast acts first (xs ++ ys) (gs ++ hs) f'
  GaveLast-then first f f' xs gs ys hs one two =
      record {
        earlier = gs ++ two.earlier;
        frame = two.frame;
        before = two.before;
        all = ap (λ l. gs ++ l) two.all ∙ sym (append_assoc gs two.earlier (two.frame ∷ []));
        fed = FlowFed-then first f two.before xs gs ys two.earlier one two.fed;
        gave = two.gave;
      }

  pub FlowGave-then : (first f f' : Parts S) (xs gs ys hs : List Samples) → FlowGave acts first xs gs f → f.ended ≡ false → FlowGave acts f ys hs f' → FlowGave acts first (xs ++ ys) (gs ++ hs) f'
  FlowGave-then first f f' xs gs ys hs one going two =
      let o : first.ended ≡ false = sym one.ended ∙ going in
      record {
        rest = λ z e.
            ap (rest_of acts first) (append_assoc xs ys z) ∙ one.rest (ys ++ z) (λ t. absurd (cc (t, o))) ∙ ap (λ w. gs ++ w) (two.rest z (λ t. absurd (cc (t, going)))) ∙ sym (append_assoc gs hs (rest_of acts f' z));
        whole = λ z e. two.whole z (λ t. absurd (cc (t, going))) ∙ one.whole (ys ++ z) (λ t. absurd (cc (t, o))) ∙ sym (ap (wholes_of acts first) (append_assoc xs ys z));
        recipes_stay = two.recipes_stay ∙ one.recipes_stay;
        taken = omega (arith, two.taken, one.taken, length-append xs ys);
        given = omega (arith, two.given, one.given, length-append gs hs);
        ended = two.ended ∙ one.ended;
        channels = two.channels ∙ one.channels;
      }

module _ {S R : Type 0} (acts : Acts S R) (first : Parts S) (input start : List ℤ) where
  abbrev pub outs : ℕ
  outs = outputs_of first.channels (kinds acts first.stages)

  -- how far a flow was fed by steps
  pub record Turned (f : Parts S) (out : List ℤ) (read written taken given : ℕ) : Type 0 where
    pub gave : FlowGave acts first (pieces first.channels taken input) (pieces outs given out) f
    pub fed : FlowFed acts first (pieces first.channels taken input) (pieces outs given out) f
    pub read_is : read ≡ taken * first.channels
    pub read_in : read ≤ length input
    pub bound : taken ≤ read
    pub written_is : written ≡ given * outs
    pub written_in : written ≤ length out
    pub small : given ≤ written
    pub rest_unchanged : drop written out ≡ drop written start

  pub Turned-none : Turned first start 0 0 0 0
  Turned-none =
      record { gave = FlowGave-none acts first; fed = untouched; read_is = omega arith; read_in = omega arith; bound = omega arith; written_is = omega arith; written_in = omega arith; small = omega arith; rest_unchanged = refl }

  pub Turned-took : (f f' : Parts S) (x : Samples) (out : List ℤ) (read written count number : ℕ)
      → Turned f out read written count number → TookIn acts f f' x → 1 ≤ first.channels → read + first.channels ≤ length input → x ≡ take first.channels (drop read input)
      → Turned f' out (read + first.channels) written (count + 1) number
  Turned-took f f' x out read written count number t took some free is =
      let more : pieces first.channels (count + 1) input ≡ pieces first.channels count input ++ x ∷ [] = pieces-more first.channels count read input t.read_is ∙ ap (λ y. pieces first.channels count input ++ y ∷ []) (sym is) in
      record {
        gave = rw more (FlowGave-took acts first f f' _ _ x t.gave took.hungry.empty took.hungry.not_ended took.took);
        fed = rw more (taken_in _ _ x f f' t.fed took);
        read_is = rw t.read_is (omega (arith, suc-mul count first.channels, add-one count));
        read_in = free;
        bound = let h = t.bound in omega arith;
        written_is = t.written_is;
        written_in = t.written_in;
        small = t.small;
        rest_unchanged = t.rest_unchanged;
      }

  pub Turned-outs : (f : Parts S) (out : List ℤ) (read written count number : ℕ) → Turned f out read written count number → outputs_of f.channels (kinds acts f.stages) ≡ outs
  Turned-outs f out read written count number t =
      let kept : ◌≡◌ {A = ℕ × List StageKind} (f.channels, kinds acts f.stages) (first.channels, kinds acts first.stages) = rw (t.gave.channels, t.gave.recipes_stay) refl in
      ap (λ (p : ℕ × List StageKind). outputs_of p.0 p.1) kept

  -- a frame that went through the stages, or stayed in one
  pub Turned-kept : (f f' : Parts S) (x : Samples) (out : List ℤ) (read written count number : ℕ)
      → Turned f out read written count number → f.ended ≡ false → FlowFed acts f (x ∷ []) [] f' → FlowGave acts f (x ∷ []) [] f' → 1 ≤ first.channels → read + first.channels ≤ length input → x ≡ take first.channels (drop read input)
      → Turned f' out (read + first.channels) written (count + 1) number
  Turned-kept f f' x out read written count number t going fed gave some free is =
      let more : pieces first.channels (count + 1) input ≡ pieces first.channels count input ++ x ∷ [] = pieces-more first.channels count read input t.read_is ∙ ap (λ y. pieces first.channels count input ++ y ∷ []) (sym is) in
      record {
        gave = rw more (rw append-nil at (FlowGave-then acts first f f' _ _ (x ∷ []) [] t.gave going gave));
        fed = rw more (rw append-nil at (FlowFed-then acts first f f' _ _ (x ∷ []) [] t.fed fed));
        read_is = rw t.read_is (omega (arith, suc-mul count first.channels, add-one count));
        read_in = free;
        bound = let h = t.bound in omega arith;
        written_is = t.written_is;
        written_in = t.written_in;
        small = t.small;
        rest_unchanged = t.rest_unchanged;
      }

  pub Turned-through : (f f' : Parts S) (x frame : Samples) (out out' : List ℤ) (read written count number : ℕ)
      → Turned f out read written count number → f.ended ≡ false → FlowFed acts f (x ∷ []) (frame ∷ []) f' → FlowGave acts f (x ∷ []) (frame ∷ []) f' → 1 ≤ first.channels → read + first.channels ≤ length input → x ≡ take first.channels (drop read input)
      → length frame ≡ outs → 1 ≤ length frame → written + outs ≤ length out → out' ≡ take written out ++ frame ++ drop (written + length frame) out → length out' ≡ length out
      → Turned f' out' (read + first.channels) (written + length frame) (count + 1) (number + 1)
  Turned-through f f' x frame out out' read written count number t going fed gave wide free is sides some fits_out put same =
      let more : pieces first.channels (count + 1) input ≡ pieces first.channels count input ++ x ∷ [] = pieces-more first.channels count read input t.read_is ∙ ap (λ y. pieces first.channels count input ++ y ∷ []) (sym is) in
      let next : pieces outs (number + 1) out' ≡ pieces outs number out ++ frame ∷ [] = pieces-put outs number written out frame out' t.written_is sides fits_out put in
      record {
        gave = rw (more, next) (FlowGave-then acts first f f' _ _ (x ∷ []) (frame ∷ []) t.gave going gave);
        fed = rw (more, next) (FlowFed-then acts first f f' _ _ (x ∷ []) (frame ∷ []) t.fed fed);
        read_is = rw t.read_is (omega (arith, suc-mul count first.channels, add-one count));
        read_in = free;
        bound = let h = t.bound in omega arith;
        written_is = rw (sides, t.written_is) (omega (arith, suc-mul number outs, add-one number));
        written_in = omega arith;
        small = let h = t.small in omega arith;
        rest_unchanged = rw sides (drop-put written outs start out frame out' sides fits_out put t.rest_unchanged);
      }

  -- where the last of all came out of it
  pub Turned-last : (f f' : Parts S) (x frame : Samples) (out out' : List ℤ) (read written count number : ℕ)
      → Turned f out read written count number → GaveLast acts f (x ∷ []) (frame ∷ []) f' → x ≡ take first.channels (drop read input)
      → length frame ≡ outs → written + outs ≤ length out → out' ≡ take written out ++ frame ++ drop (written + length frame) out
      → GaveLast acts first (pieces first.channels (count + 1) input) (pieces outs (number + 1) out') f'
  Turned-last f f' x frame out out' read written count number t last is sides fits_out put =
      let more : pieces first.channels (count + 1) input ≡ pieces first.channels count input ++ x ∷ [] = pieces-more first.channels count read input t.read_is ∙ ap (λ y. pieces first.channels count input ++ y ∷ []) (sym is) in
      let next : pieces outs (number + 1) out' ≡ pieces outs number out ++ frame ∷ [] = pieces-put outs number written out frame out' t.written_is sides fits_out put in
      rw (more, next) (GaveLast-then acts first f f' _ _ (x ∷ []) (frame ∷ []) t.fed last)

  -- a step that lets no frame out
  pub Turned-moved : (f f' : Parts S) (step : Step) (out : List ℤ) (read written count number : ℕ)
      → Turned f out read written count number → Steps acts f step f' → Stepped acts f step f' → given_out step ≡ [] → Turned f' out read written count number
  Turned-moved f f' step out read written count number t steps moved none =
      let gave = FlowGave-stepped acts first f f' _ _ step t.gave steps in
      let fed : FlowFed acts first (pieces first.channels count input) (pieces outs number out ++ given_out step) f' = stepped _ _ step f f' t.fed moved in
      record {
        gave = rw (none, append-nil) at gave;
        fed = rw (none, append-nil) at fed;
        read_is = t.read_is;
        read_in = t.read_in;
        bound = t.bound;
        written_is = t.written_is;
        written_in = t.written_in;
        small = t.small;
        rest_unchanged = t.rest_unchanged;
      }

  -- a frame that is let out has the channels of all that come out
  pub Turned-sides : (f f' : Parts S) (frame : Samples) (out : List ℤ) (read written count number : ℕ) → Turned f out read written count number → IsSound acts f → MovedOn acts f (Given frame) f' → length frame ≡ outs
  Turned-sides f f' frame out read written count number t sound moved =
      let kept : ◌≡◌ {A = ℕ × List StageKind} (f.channels, kinds acts f.stages) (first.channels, kinds acts first.stages) = rw (t.gave.channels, t.gave.recipes_stay) refl in
      sides-moved acts f f' frame sound moved ∙ ap (λ (p : ℕ × List StageKind). outputs_of p.0 p.1) kept

  -- a step that lets a frame out
  pub Turned-gave : (f f' : Parts S) (frame : Samples) (out out' : List ℤ) (read written count number : ℕ)
      → Turned f out read written count number → IsSound acts f → Steps acts f (Given frame) f' → Stepped acts f (Given frame) f' → 1 ≤ length frame → written + outs ≤ length out → out' ≡ take written out ++ frame ++ drop (written + length frame) out → length out' ≡ length out
      → Turned f' out' read (written + length frame) count (number + 1)
  Turned-gave f f' frame out out' read written count number t sound steps moved some free put same =
      let sides : length frame ≡ outs = Turned-sides f f' frame out read written count number t sound moved.moved in
      let more : pieces outs (number + 1) out' ≡ pieces outs number out ++ frame ∷ [] = pieces-put outs number written out frame out' t.written_is sides free put in
      record {
        gave = rw more (FlowGave-stepped acts first f f' _ _ (Given frame) t.gave steps);
        fed = rw more (stepped _ _ (Given frame) f f' t.fed moved);
        read_is = t.read_is;
        read_in = t.read_in;
        bound = t.bound;
        written_is = rw (sides, t.written_is) (omega (arith, suc-mul number outs, add-one number));
        written_in = omega arith;
        small = let h = t.small in omega arith;
        rest_unchanged = rw sides (drop-put written outs start out frame out' sides free put t.rest_unchanged);
      }

  -- and that was the last of the calls
  pub Turned-gave-last : (f f' : Parts S) (frame : Samples) (out out' : List ℤ) (read written count number : ℕ)
      → Turned f out read written count number → Stepped acts f (Given frame) f' → length frame ≡ outs → written + outs ≤ length out → out' ≡ take written out ++ frame ++ drop (written + length frame) out
      → GaveLast acts first (pieces first.channels count input) (pieces outs (number + 1) out') f'
  Turned-gave-last f f' frame out out' read written count number t moved sides free put =
      record { earlier = pieces outs number out; frame = frame; before = f; all = pieces-put outs number written out frame out' t.written_is sides free put; fed = t.fed; gave = moved }

  -- the pieces of the input and the output after many frames
  pieces-run : (f : Parts S) (out out' new : List ℤ) (read written count number n k : ℕ) → Turned f out read written count number → out' ≡ take written out ++ new
      → (pieces first.channels (count + n) input ≡ pieces first.channels count input ++ pieces first.channels n (drop read input))
      × (pieces outs (number + k) out' ≡ pieces outs number out ++ pieces outs k new) × (drop (number * outs) out' ≡ new)
  pieces-run f out out' new read written count number n k t put =
      let front : length (take written out) ≡ number * outs = length-take-le written out t.written_in ∙ t.written_is in
      let rest : drop (number * outs) out' ≡ new = rw put (drop_at (take written out) new (number * outs) front) in
      let long : length out' ≡ length (take written out) + length new = rw put (length-append (take written out) new) in
      let kept : take (number * outs) out' ≡ take written out = rw put (take_at (take written out) new (number * outs) front) in
      let before : pieces outs number out' ≡ pieces outs number out =
      pieces-same outs number out' out (omega (arith, front, long)) (omega (arith, t.written_is, t.written_in)) (kept ∙ ap (λ m. take m out) t.written_is) in
      let more : pieces first.channels (count + n) input ≡ pieces first.channels count input ++ pieces first.channels n (drop read input) = pieces-split first.channels count n input ∙ ap (λ m. pieces first.channels count input ++ pieces first.channels n (drop m input)) (sym t.read_is) in
      let next : pieces outs (number + k) out' ≡ pieces outs number out ++ pieces outs k new = pieces-split outs number k out' ∙ ap (λ l. pieces outs number out' ++ pieces outs k l) rest ∙ ap (λ ps. ps ++ pieces outs k new) before in
      (more, next, rest)

  -- many frames went through the stages, and some came out
  Turned-run : (f f' : Parts S) (out out' new : List ℤ) (read written count number n k : ℕ)
      → Turned f out read written count number → f.ended ≡ false → FlowFed acts f (pieces first.channels n (drop read input)) (pieces outs k new) f' → FlowGave acts f (pieces first.channels n (drop read input)) (pieces outs k new) f' → 1 ≤ first.channels → n * first.channels ≤ length (drop read input)
      → k * outs ≤ length new → k ≤ k * outs → drop (k * outs) new ≡ drop (k * outs) (drop written out) → length new ≡ length (drop written out) → out' ≡ take written out ++ new
      → Turned f' out' (read + n * first.channels) (written + k * outs) (count + n) (number + k)
  Turned-run f f' out out' new read written count number n k t going fed gave some free fits_out small rest_unchanged same put =
      let (more, next, rest) = pieces-run f out out' new read written count number n k t put in
      let left : length (drop read input) ≡ length input - read = length-drop read input in
      let over : length (drop written out) ≡ length out - written = length-drop written out in
      let cut : drop (written + k * outs) out' ≡ drop (k * outs) new = sym (drop-drop (k * outs) written out') ∙ ap (drop (k * outs)) (ap (λ m. drop m out') t.written_is ∙ rest) in
      let max_more : n ≤ n * first.channels = le-times n first.channels some in
      record {
        gave = rw (more, next) (FlowGave-then acts first f f' _ _ _ _ t.gave going gave);
        fed = rw (more, next) (FlowFed-then acts first f f' _ _ _ _ t.fed fed);
        read_is = rw t.read_is (sym (add-mul count n first.channels));
        read_in = let h = t.read_in in omega arith;
        bound = let h = t.bound in omega arith;
        written_is = rw t.written_is (sym (add-mul number k outs));
        written_in = let i : length (take written out) ≡ written = length-take-le written out t.written_in in let long = ap length put ∙ length-append (take written out) new in omega (arith, t.written_in, i, long);
        small = let h = t.small in omega arith;
        rest_unchanged = cut ∙ rest_unchanged ∙ ap (drop (k * outs)) t.rest_unchanged ∙ drop-drop (k * outs) written start;
      }

  -- the same, where the channels are named otherwise
  pub Turned-ran : (ins os : ℕ) → ins ≡ first.channels → os ≡ outs → (f f' : Parts S) (out out' new : List ℤ) (read written count number n k : ℕ)
      → Turned f out read written count number → f.ended ≡ false → FlowFed acts f (pieces ins n (drop read input)) (pieces os k new) f' → FlowGave acts f (pieces ins n (drop read input)) (pieces os k new) f' → 1 ≤ first.channels → n * ins ≤ length (drop read input)
      → k * os ≤ length new → k ≤ k * os → drop (k * os) new ≡ drop (k * os) (drop written out) → length new ≡ length (drop written out) → out' ≡ take written out ++ new
      → Turned f' out' (read + n * first.channels) (written + k * outs) (count + n) (number + k)
  Turned-ran ins os e o f f' out out' new read written count number n k t going fed gave some free fits_out small rest_unchanged same put =
      Turned-run f f' out out' new read written count number n k t going (rw (e, o) at fed) (rw (e, o) at gave) some (rw e at free) (rw o at fits_out) (rw o at small) (rw o at rest_unchanged) same put

  -- where the last of all calls gave the last of those
  pub Turned-ran-last : (ins os : ℕ) → ins ≡ first.channels → os ≡ outs → (f f' : Parts S) (out out' new : List ℤ) (read written count number n k : ℕ)
      → Turned f out read written count number → GaveLast acts f (pieces ins n (drop read input)) (pieces os k new) f' → out' ≡ take written out ++ new
      → GaveLast acts first (pieces first.channels (count + n) input) (pieces outs (number + k) out') f'
  Turned-ran-last ins os e o f f' out out' new read written count number n k t last put =
      let (more, next, rest) = pieces-run f out out' new read written count number n k t put in
      rw (more, next) (GaveLast-then acts first f f' _ _ _ _ t.fed (rw (e, o) at last))

  -- the calls were made in order, up to a frame that was let out
  pub Turned-gave-order : (handed : List S → StageCall → List S → Type 0) (passed_while : List Samples → List Samples → List Samples → S → S → Type 0) (f f' : Parts S) (frame : Samples) (out out' : List ℤ) (read written count number : ℕ)
      → Turned f out read written count number → length frame ≡ outs → written + outs ≤ length out → out' ≡ take written out ++ frame ++ drop (written + length frame) out
      → InOrder acts handed passed_while first (pieces first.channels count input) (pieces outs number out ++ frame ∷ []) [] 0 f' → InOrder acts handed passed_while first (pieces first.channels count input) (pieces outs (number + 1) out') [] 0 f'
  Turned-gave-order handed passed_while f f' frame out out' read written count number t sides free put order = rw (pieces-put outs number written out frame out' t.written_is sides free put) order

  -- and up to many frames
  pub Turned-ran-order : (handed : List S → StageCall → List S → Type 0) (passed_while : List Samples → List Samples → List Samples → S → S → Type 0) (ins os : ℕ) → ins ≡ first.channels → os ≡ outs → (f f' : Parts S) (out out' new : List ℤ) (read written count number n k : ℕ)
      → Turned f out read written count number → InOrder acts handed passed_while first (pieces first.channels count input) (pieces outs number out) [] 0 f → InOrder acts handed passed_while f (pieces ins n (drop read input)) (pieces os k new) [] 0 f' → out' ≡ take written out ++ new
      → InOrder acts handed passed_while first (pieces first.channels (count + n) input) (pieces outs (number + k) out') [] 0 f'
  Turned-ran-order handed passed_while ins os e o f f' out out' new read written count number n k t before order put =
      let front : length (take written out) ≡ number * outs = length-take-le written out t.written_in ∙ t.written_is in
      let rest : drop (number * outs) out' ≡ new = rw put (drop_at (take written out) new (number * outs) front) in
      let long : length out' ≡ length (take written out) + length new = rw put (length-append (take written out) new) in
      let kept : take (number * outs) out' ≡ take written out = rw put (take_at (take written out) new (number * outs) front) in
      let same : pieces outs number out' ≡ pieces outs number out =
      pieces-same outs number out' out (omega (arith, front, long)) (omega (arith, t.written_is, t.written_in)) (kept ∙ ap (λ m. take m out) t.written_is) in
      let more : pieces first.channels (count + n) input ≡ pieces first.channels count input ++ pieces first.channels n (drop read input) = pieces-split first.channels count n input ∙ ap (λ m. pieces first.channels count input ++ pieces first.channels n (drop m input)) (sym t.read_is) in
      let next : pieces outs (number + k) out' ≡ pieces outs number out ++ pieces outs k new = pieces-split outs number k out' ∙ ap (λ l. pieces outs number out' ++ pieces outs k l) rest ∙ ap (λ ps. ps ++ pieces outs k new) same in
      rw (more, next) (InOrder-then acts handed passed_while first f f' _ _ _ _ [] 0 before (rw (e, o) at order))

  -- frames were taken while there was space, and after them more in the space that was left
  pub Turned-free : (f : Parts S) (out : List ℤ) (read written count number n free : ℕ) → Turned f out read written count number
      → FlowTookWithinSpace acts first count free → FlowTookWithinSpace acts f n (free - written) → written ≤ free → FlowTookWithinSpace acts first (count + n) free
  Turned-free f out read written count number n free t before after within i bound = elim (cases_lt i count) [
    | inl less ↦ before i less
    | inr more ↦
        let later = after (i - count) (omega (arith, more, bound)) in
        let gave = t.gave in
        let same : kinds acts f.stages ≡ kinds acts first.stages = ap (map acts.kind_of) gave.recipes_stay in
        let here : taken_of f + (i - count) ≡ taken_of first + i = omega (arith, gave.taken, length-pieces first.channels count input, more) in
        let number_is : given_by acts f.left f.stages ≡ given_by acts first.left first.stages + number = omega (arith, gave.given, length-pieces outs number out) in
        let due : ℕ = due_of (kinds acts first.stages) (taken_of first + i) in
        let fits_out : (due - given_by acts f.left f.stages + 1) * outs ≤ free - written = rw (Turned-outs f out read written count number t, same, here) at later in
        free-grows (due - given_by acts first.left first.stages) (number + (due - given_by acts f.left f.stages + 1)) outs free
        (omega (arith, number_is))
        (omega (arith, fits_out, within, t.written_is, add-mul number (due - given_by acts f.left f.stages + 1) outs))
  ]

  -- how much is left to be done, at most
  abbrev pub left_to_do : Parts S → ℕ → ℕ
  left_to_do f read = work (kinds acts first.stages) max_frames + length first.stages + 1 - (moves_of acts f + ended_of acts f.stages) + (length input - read)

  pub smaller-step : ((r : R) (m n : ℕ) → m ≤ n → (acts.kind_of r).maximum m ≤ (acts.kind_of r).maximum n) → (f f' : Parts S) (step : Step) (xs gs : List Samples) (read : ℕ)
      → FlowGave acts first xs gs f → IsSound acts f → Steps acts f step f' → left_to_do f' read < left_to_do f read
  smaller-step rises f f' step xs gs read gave sound steps =
      let stays : recipes acts f'.stages ≡ recipes acts first.stages = steps.recipes_stay ∙ gave.recipes_stay in
      let same : length f'.stages ≡ length first.stages = simp length-map at (ap length stays) in
      let bound : taken_of f' ≤ max_frames = rw steps.taken sound.bound in
      let maximum : work (kinds acts f'.stages) (taken_of f') ≤ work (kinds acts first.stages) max_frames = rw stays (work-rises acts rises (recipes acts first.stages) (taken_of f') max_frames bound) in
      omega (arith, steps.steps, steps.within, same, maximum)

  -- frames that went through the stages left less to be done
  pub smaller-run : (f f' : Parts S) (read n : ℕ) → moves_of acts f + ended_of acts f.stages ≤ moves_of acts f' + ended_of acts f'.stages → 1 ≤ first.channels → 1 ≤ n → n * first.channels ≤ length input - read → read ≤ length input → left_to_do f' (read + n * first.channels) < left_to_do f read
  smaller-run f f' read n moves some one free within = let h : n ≤ n * first.channels = le-times n first.channels some in omega (arith, moves)

pub none-out : (step : Step) → ((frame : Samples) → step ≡ Given frame → ⊥) → given_out step ≡ []
none-out (Given frame) h = absurd (h frame refl)
none-out Moved h = refl
none-out Idle h = refl

module _ {S R : Type 0} (acts : Acts S R) where
  -- a step changes no recipe, and takes nothing
  moved-keeps : (f f' : Parts S) (step : Step) → MovedOn acts f step f' → (recipes acts f'.stages ≡ recipes acts f.stages) × (taken_of f' ≡ taken_of f)
  moved-keeps f f' step (inl gave) = (recipes-HandedOver acts gave.place gave.out f.stages f'.stages gave.over, ap taken_of gave.others)
  moved-keeps f f' step (inr (inl fed)) =
      let count : taken_of f ≡ f.left + 1 = rw fed.inlet (omega arith) in
      (recipes-Fed acts fed.frame fed.out f.stages f'.stages fed.fed, omega (arith, ap taken_of fed.others, count))
  moved-keeps f f' step (inr (inr passed)) = (recipes-EndPassed acts passed.place f.stages f'.stages passed.passed, ap taken_of passed.others)

  pub FlowFed-keeps : (first f : Parts S) (xs gs : List Samples) → FlowFed acts first xs gs f → (recipes acts f.stages ≡ recipes acts first.stages) × (taken_of f ≡ taken_of first + length xs)
  FlowFed-keeps first f xs gs untouched = (refl, omega arith)
  FlowFed-keeps first f xs gs (taken_in ys hs x g g' fed took) =
      let old = FlowFed-keeps first g ys hs fed in
      let stages : recipes acts g'.stages ≡ recipes acts g.stages = ap (λ (h : Parts S). recipes acts h.stages) took.took in
      let before : taken_of g ≡ g.left = rw took.hungry.empty (omega arith) in
      (stages ∙ old.0, omega (arith, ap taken_of took.took, before, old.1, length-append ys (x ∷ [])))
  FlowFed-keeps first f xs gs (stepped ys hs step g g' fed step_made) =
      let old = FlowFed-keeps first g ys hs fed in
      let kept = moved-keeps g g' step step_made.moved in
      (kept.0 ∙ old.0, kept.1 ∙ old.1)

  -- no frame was taken where enough had come
  pub FlowFed-wants : (first f : Parts S) (xs gs : List Samples) → FlowFed acts first xs gs f → (m : ℕ) → m < length xs → enough_for (kinds acts first.stages) (taken_of first + m) ≡ false
  FlowFed-wants first f xs gs untouched m h = absurd (omega arith)
  FlowFed-wants first f xs gs (taken_in ys hs x g g' fed took) m h =
      let old = FlowFed-keeps first g ys hs fed in
      let all : length (ys ++ x ∷ []) ≡ length ys + 1 = omega (arith, length-append ys (x ∷ [])) in
      elim (cases_lt m (length ys)) [
        | inl lt ↦ FlowFed-wants first g ys hs fed m lt
        | inr ge ↦
            let same : taken_of first + m ≡ taken_of g = omega (arith, old.1, all, h, ge) in
            rw (same, ← old.0) took.wants
      ]
  FlowFed-wants first f xs gs (stepped ys hs step g g' fed step_made) m h = FlowFed-wants first g ys hs fed m h
