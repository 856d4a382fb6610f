-- Frames that go through stages piece by piece.
use Rattle.std.proofs.Common.{ℕ, zero, suc, ◌+◌, ◌<◌, ◌≤◌, ◌≡◌, false, true, List, [], ◌∷◌, get_or, length, drop, set, refl, ap, ◌∙◌, arith}
use Rattle.fx_frame_base.specs.Feed.{IsOneToOne}
use Rattle.fx_frame_base.specs.Frame.{Samples}
use Rattle.fx_frame_base.specs.Holds.{kinds}
use Rattle.fx_frame_base.specs.Pipeline.{AreReady, EachThrough, PipelineThrough, outputs_of}
use Rattle.fx_frame_base.specs.Stage.{Acts, IsDry, is_enough, kind}
use Rattle.fx_frame_base.proofs.PipelineLaws.{EachThrough-long, each-fewer, one-through}
use Rattle.fx_chain_flow.specs.Parts.{AllDetermined}
use Rattle.fx_chain_flow.specs.Runs.{AllAhead, AllKeep, AllOneToOne}

module _ {S R : Type 0} (acts : Acts S R) where
  pub AllOneToOne-less : (m n : ℕ) (stages : List S) → m ≤ n → AllOneToOne acts n stages → AllOneToOne acts m stages
  AllOneToOne-less m n [] h all = tt
  AllOneToOne-less m n (s ∷ stages) h all = ((λ k l. all.0 k (omega arith)), AllOneToOne-less m n stages h all.1)

  pub AllOneToOne-drop : (i count : ℕ) (stages : List S) (d : S) → i < length stages → IsOneToOne acts count (get_or stages i d) → AllOneToOne acts count (drop (suc i) stages) → AllOneToOne acts count (drop i stages)
  AllOneToOne-drop i count [] d h here more = absurd (omega arith)
  AllOneToOne-drop zero count (s ∷ stages) d h here more = (here, more)
  AllOneToOne-drop (suc i) count (s ∷ stages) d h here more = AllOneToOne-drop i count stages d (omega arith) here more

  -- these frames, of so many channels, came to the stage at a place: each one before took all of the frames before it, and gave one for each
  abbrev pub PieceTo : ℕ → ℕ → List Samples → ℕ → List Samples → List S → List S → Type 0
  PieceTo zero channels xs width zs old new = (width ≡ channels) × (zs ≡ xs) × (new ≡ old)
  PieceTo (suc i) channels xs width zs (s ∷ stages) (s' ∷ stages') =
      (between : List Samples) × EachThrough acts xs between s s' × PieceTo i (kind acts s).outputs between width zs stages stages'
  PieceTo (suc i) channels xs width zs old new = ⊥

  -- what the stage at a place asks of them
  pub record MayFeed (t : S) (width count : ℕ) : Type 0 where
    pub dry : acts.dry t ≡ true
    pub not_ended : (acts.counts t).ended ≡ false
    pub inputs : width ≡ (kind acts t).inputs
    pub one_to_one : IsOneToOne acts count t
    pub ahead : (n : ℕ) → n < count → is_enough (kind acts t).enough ((acts.counts t).taken + n) ≡ false
    pub below_limit : (acts.counts t).taken + count ≤ (kind acts t).limit

  module _ (rises : (r : R) (m n : ℕ) → m ≤ n → (acts.kind_of r).maximum m ≤ (acts.kind_of r).maximum n) where
    -- the stage that they came to takes them
    pub MayFeed-at : (i channels taken maximum count width : ℕ) (xs zs : List Samples) (old new : List S) (d : S) → 1 ≤ count → length xs ≡ count → taken + count ≤ maximum → AreReady acts channels taken maximum old → AllOneToOne acts count old → AllAhead acts count old → PieceTo i channels xs width zs old new → i < length new
        → MayFeed (get_or new i d) width count
    MayFeed-at zero channels taken maximum count width xs zs [] new d some long h ready one_to_one ahead came n = absurd (let none = ap length came.2 in omega arith)
    MayFeed-at zero channels taken maximum count width xs zs (s ∷ stages) new d some long h ready one_to_one ahead came n =
        rw (came.0, came.2) (record { dry = ready.0; not_ended = ready.1; inputs = ready.3; one_to_one = one_to_one.0; ahead = ahead.0; below_limit = omega (arith, h, ready.4, ready.5) })
    MayFeed-at (suc i) channels taken maximum count width xs zs (s ∷ stages) (s' ∷ stages') d some long h ready one_to_one ahead came n =
        MayFeed-at i (kind acts s).outputs (acts.counts s).given ((kind acts s).maximum maximum) count width came.0 zs stages stages' d some (EachThrough-long acts xs came.0 s s' came.1 ∙ long)
        (let fewer = each-fewer acts rises xs came.0 s s' taken maximum came.1 (omega (arith, some, long)) ready.4 (omega (arith, h, long)) in omega (arith, fewer, long)) ready.6 one_to_one.1 ahead.1 came.2 (omega arith)
    MayFeed-at (suc i) channels taken maximum count width xs zs [] new d some long h ready one_to_one ahead came n = absurd came
    MayFeed-at (suc i) channels taken maximum count width xs zs (s ∷ stages) [] d some long h ready one_to_one ahead came n = absurd came

  -- it gives frames of as many channels
  pub AllKeep-piece : (i channels width keeps : ℕ) (xs zs : List Samples) (old new : List S) (d : S) → PieceTo i channels xs width zs old new → AllKeep keeps (kinds acts old) → i < length new → (kind acts (get_or new i d)).outputs ≡ keeps
  AllKeep-piece zero channels width keeps xs zs [] new d came all n = absurd (let none = ap length came.2 in omega arith)
  AllKeep-piece zero channels width keeps xs zs (s ∷ stages) new d came all n = rw came.2 all.0
  AllKeep-piece (suc i) channels width keeps xs zs (s ∷ stages) (s' ∷ stages') d came all n = AllKeep-piece i (kind acts s).outputs width keeps came.0 zs stages stages' d came.2 all.1 (omega arith)
  AllKeep-piece (suc i) channels width keeps xs zs [] new d came all n = absurd came
  AllKeep-piece (suc i) channels width keeps xs zs (s ∷ stages) [] d came all n = absurd came

  -- it gave one for each, which came to the next place
  pub PieceTo-next : (i channels width outputs : ℕ) (xs zs ws : List Samples) (old new : List S) (s' d : S) → i < length new → PieceTo i channels xs width zs old new → EachThrough acts zs ws (get_or new i d) s' → outputs ≡ (kind acts (get_or new i d)).outputs → PieceTo (suc i) channels xs outputs ws old (set new i s')
  PieceTo-next zero channels width outputs xs zs ws [] new s' d n came each e = absurd (let none = ap length came.2 in omega arith)
  PieceTo-next zero channels width outputs xs zs ws (s ∷ stages) [] s' d n came each e = absurd (omega arith)
  PieceTo-next zero channels width outputs xs zs ws (s ∷ stages) (t ∷ stages') s' d n came each e =
      let head : t ≡ s = cc (came.2) in
      let tail : stages' ≡ stages = cc (came.2) in
      (ws, rw (head, came.1) at each, (rw head at e, refl, tail))
  PieceTo-next (suc i) channels width outputs xs zs ws (s ∷ stages) (t ∷ stages') s' d n came each e =
      (came.0, came.1, PieceTo-next i (kind acts s).outputs width outputs came.0 zs ws stages stages' s' d (omega arith) came.2 each e)
  PieceTo-next (suc i) channels width outputs xs zs ws [] new s' d n came each e = absurd came
  PieceTo-next (suc i) channels width outputs xs zs ws (s ∷ stages) [] s' d n came each e = absurd came

  -- they came out after the last
  pub PieceTo-out : (i channels width : ℕ) (xs zs : List Samples) (old new : List S) → length new ≤ i → PieceTo i channels xs width zs old new → PipelineThrough acts xs zs old new × (width ≡ outputs_of channels (kinds acts old))
  PieceTo-out zero channels width xs zs [] [] n came = (came.1, came.0)
  PieceTo-out zero channels width xs zs [] (t ∷ stages') n came = absurd (omega arith)
  PieceTo-out zero channels width xs zs (s ∷ stages) new n came = absurd (let many = ap length came.2 in omega arith)
  PieceTo-out (suc i) channels width xs zs (s ∷ stages) (t ∷ stages') n came =
      let rest = PieceTo-out i (kind acts s).outputs width came.0 zs stages stages' (omega arith) came.2 in
      ((came.0, came.1, rest.0), rest.1)
  PieceTo-out (suc i) channels width xs zs [] new n came = absurd came
  PieceTo-out (suc i) channels width xs zs (s ∷ stages) [] n came = absurd came

  -- what a stage is when these frames went through it
  record After (s s' : S) (n : ℕ) : Type 0 where
    pub recipe : acts.recipe s' ≡ acts.recipe s
    pub came : (acts.counts s').taken ≡ (acts.counts s).taken + n
    pub dry : acts.dry s ≡ true → acts.dry s' ≡ true
    pub determined : IsDry acts s → IsDry acts s'

  after-each : (xs ys : List Samples) (s s' : S) → EachThrough acts xs ys s s' → After s s' (length xs)
  after-each [] [] s s' each = rw each (record { recipe = refl; came = omega arith; dry = λ d. d; determined = λ d. d })
  after-each (x ∷ xs) (y ∷ ys) s s' each =
      let one = one-through acts x y s each.0 each.1 in
      let more = after-each xs ys each.0 s' each.3 in
      record { recipe = more.recipe ∙ one.2; came = omega (arith, more.came, one.1); dry = λ d. more.dry each.1.3; determined = λ d. more.determined each.2 }
  after-each [] (y ∷ ys) s s' each = absurd each
  after-each (x ∷ xs) [] s s' each = absurd each

  pub determined-pipeline : (xs ys : List Samples) (old new : List S) → PipelineThrough acts xs ys old new → AllDetermined acts old → AllDetermined acts new
  determined-pipeline xs ys [] [] pipeline all = tt
  determined-pipeline xs ys (s ∷ stages) (s' ∷ stages') pipeline all = let a = after-each xs pipeline.0 s s' pipeline.1 in (a.dry all.0, a.determined all.1, determined-pipeline pipeline.0 ys stages stages' pipeline.2 all.2)
  determined-pipeline xs ys [] (s' ∷ stages') pipeline all = absurd pipeline
  determined-pipeline xs ys (s ∷ stages) [] pipeline all = absurd pipeline

  pub kinds-pipeline : (xs ys : List Samples) (old new : List S) → PipelineThrough acts xs ys old new → kinds acts new ≡ kinds acts old
  kinds-pipeline xs ys [] [] pipeline = refl
  kinds-pipeline xs ys (s ∷ stages) (s' ∷ stages') pipeline = let a = after-each xs pipeline.0 s s' pipeline.1 in rw (a.recipe, kinds-pipeline pipeline.0 ys stages stages' pipeline.2) refl
  kinds-pipeline xs ys [] (s' ∷ stages') pipeline = absurd pipeline
  kinds-pipeline xs ys (s ∷ stages) [] pipeline = absurd pipeline

  ahead-after : (s s' : S) (n m : ℕ) → After s s' n → ((k : ℕ) → k < n + m → is_enough (kind acts s).enough ((acts.counts s).taken + k) ≡ false) → (k : ℕ) → k < m → is_enough (kind acts s').enough ((acts.counts s').taken + k) ≡ false
  ahead-after s s' n m a ahead k more =
      let place : (acts.counts s').taken + k ≡ (acts.counts s).taken + (n + k) = omega (arith, a.came) in
      ap (λ (r : R). is_enough (acts.kind_of r).enough ((acts.counts s').taken + k)) a.recipe ∙ ap (is_enough (kind acts s).enough) place ∙ ahead (n + k) (omega (arith, more))

  one_to_one-after : (s s' : S) (n m : ℕ) → After s s' n → IsOneToOne acts (n + m) s → IsOneToOne acts m s'
  one_to_one-after s s' n m a one_to_one k bound =
      let place : (acts.counts s').taken + k ≡ (acts.counts s).taken + (n + k) = omega (arith, a.came) in
      let all : (kind acts s').due ((acts.counts s').taken + k) ≡ (kind acts s).due (acts.counts s).taken + (n + k) =
      ap (λ (r : R). (acts.kind_of r).due ((acts.counts s').taken + k)) a.recipe ∙ ap (kind acts s).due place ∙ one_to_one (n + k) (omega (arith, bound)) in
      let here : (kind acts s').due (acts.counts s').taken ≡ (kind acts s).due (acts.counts s).taken + n =
      ap (λ (r : R). (acts.kind_of r).due (acts.counts s').taken) a.recipe ∙ ap (kind acts s).due a.came ∙ one_to_one n (omega (arith, bound)) in
      omega (arith, all, here)

  pub ahead-pipeline : (xs ys : List Samples) (m : ℕ) (old new : List S) → PipelineThrough acts xs ys old new → AllAhead acts (length xs + m) old → AllAhead acts m new
  ahead-pipeline xs ys m [] [] pipeline all = tt
  ahead-pipeline xs ys m (s ∷ stages) (s' ∷ stages') pipeline all =
      (ahead-after s s' (length xs) m (after-each xs pipeline.0 s s' pipeline.1) all.0, ahead-pipeline pipeline.0 ys m stages stages' pipeline.2 (rw (EachThrough-long acts xs pipeline.0 s s' pipeline.1) all.1))
  ahead-pipeline xs ys m [] (s' ∷ stages') pipeline all = absurd pipeline
  ahead-pipeline xs ys m (s ∷ stages) [] pipeline all = absurd pipeline

  pub one_to_one-pipeline : (xs ys : List Samples) (m : ℕ) (old new : List S) → PipelineThrough acts xs ys old new → AllOneToOne acts (length xs + m) old → AllOneToOne acts m new
  one_to_one-pipeline xs ys m [] [] pipeline all = tt
  one_to_one-pipeline xs ys m (s ∷ stages) (s' ∷ stages') pipeline all =
      (one_to_one-after s s' (length xs) m (after-each xs pipeline.0 s s' pipeline.1) all.0, one_to_one-pipeline pipeline.0 ys m stages stages' pipeline.2 (rw (EachThrough-long acts xs pipeline.0 s s' pipeline.1) all.1))
  one_to_one-pipeline xs ys m [] (s' ∷ stages') pipeline all = absurd pipeline
  one_to_one-pipeline xs ys m (s ∷ stages) [] pipeline all = absurd pipeline
