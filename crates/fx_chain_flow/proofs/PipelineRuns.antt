-- Frames that went through stages in sequence by one call, as a run of their flow.
use Rattle.std.proofs.Common.{ℕ, zero, suc, ◌+◌, ◌*◌, ◌≤◌, ◌≡◌, List, [], ◌∷◌, ◌++◌, length, map, take, drop, false, refl, sym, ap, ◌∙◌, subst, arith, inr, Some, ℤ, FitsSigned}
use Rattle.std.specs.Int.{w32}
use Rattle.std.specs.List.{All}
use Rattle.std.proofs.lemmas.List.{length-drop, length-take-le}
use Rattle.std.proofs.lemmas.List.Elements.{All-drop, All-take}
use Rattle.std.proofs.Math.Nat.{mul-le-mul_right, suc-mul}
use Rattle.fx_frame_base.specs.Frame.{IsFrame, Samples}
use Rattle.fx_frame_base.specs.Lists.{pieces}
use Rattle.fx_frame_base.specs.Pipeline.{AreReady, EachThrough, PipelineThrough}
use Rattle.fx_frame_base.specs.Stage.{Acts}
use Rattle.fx_frame_base.proofs.Puts.{pieces-take}
use Rattle.fx_frame_base.proofs.Pieces.{length-pieces}
use Rattle.fx_chain_flow.specs.Feed.{GaveLast, untouched}
use Rattle.fx_chain_flow.specs.Parts.{AllDetermined, Parts}
use Rattle.fx_chain_flow.specs.Pipeline.{AllHeld, WentThrough}
use Rattle.fx_frame_base.specs.Holds.{kinds}
use Rattle.fx_chain_flow.proofs.Laws.{given_by-due}
use Rattle.fx_chain_flow.specs.Runs.{AllAhead, GivesOneEach, MayRun, RanOn, flow_of}
use Rattle.fx_chain_flow.specs.Sound.{IsSound, max_frames}
use Rattle.fx_chain_flow.proofs.Feeding.{FlowFed-then, FlowGave-none, FlowGave-then, GaveLast-then}
use Rattle.fx_chain_flow.proofs.HandOvers.{AllDetermined-dry}
use Rattle.fx_chain_flow.proofs.Pipelines.{AreReady-from}
use Rattle.fx_chain_flow.proofs.PipelineSteps.{Going, passed-pipeline, passed-pipeline-last}
use Rattle.fx_chain_flow.proofs.Running.{AllAhead-less, AllAhead-unspent, AllAhead-went, AllHeld-went}

-- each is a frame of so many channels
abbrev pub AreFrames : ℕ → List Samples → Type 0
AreFrames channels [] = Unit {0}
AreFrames channels (x ∷ xs) = IsFrame x × (length x ≡ channels) × AreFrames channels xs

-- samples of 32 bits, cut into frames
AreFrames-cut : (channels n : ℕ) (xs : List ℤ) → 1 ≤ channels → channels ≤ 16 → length xs ≡ n * channels → All (FitsSigned w32) xs → AreFrames channels (pieces channels n xs)
AreFrames-cut channels zero xs some bound long fits = tt
AreFrames-cut channels (suc n) xs some bound long fits =
    let all : length xs ≡ n * channels + channels = long ∙ suc-mul n channels in
    let one : length (take channels xs) ≡ channels = length-take-le channels xs (omega arith) in
    let rest : length (drop channels xs) ≡ n * channels = omega (arith, length-drop channels xs) in
    (record { some = omega arith; bound = omega arith; fits = All-take (FitsSigned w32) channels xs fits }, one, AreFrames-cut channels n (drop channels xs) some bound rest (All-drop (FitsSigned w32) channels xs fits))

pub AreFrames-front : (channels n : ℕ) (xs : List ℤ) → 1 ≤ channels → channels ≤ 16 → n * channels ≤ length xs → All (FitsSigned w32) (take (n * channels) xs) → AreFrames channels (pieces channels n xs)
AreFrames-front channels n xs some bound free fits = rw (pieces-take channels n xs free) at (AreFrames-cut channels n (take (n * channels) xs) some bound (length-take-le (n * channels) xs free) fits)

module _ {S R : Type 0} (acts : Acts S R) where
  -- no frames went through: nothing came out, and the stages stayed as they were
  none-rest_unchanged : (between ys : List Samples) (s s' : S) (stages stages' : List S) → (PipelineThrough acts [] ys stages stages' → (ys ≡ []) × (stages' ≡ stages)) → EachThrough acts [] between s s' → PipelineThrough acts between ys stages stages' → (ys ≡ []) × (s' ∷ stages' ≡ s ∷ stages)
  none-rest_unchanged [] ys s s' stages stages' rest_unchanged each pipeline = let rest = rest_unchanged pipeline in (rest.0, rw (each, rest.1) refl)
  none-rest_unchanged (y ∷ between) ys s s' stages stages' rest_unchanged each pipeline = absurd each

  PipelineThrough-nothing : (ys : List Samples) (old new : List S) → PipelineThrough acts [] ys old new → (ys ≡ []) × (new ≡ old)
  PipelineThrough-nothing ys [] [] pipeline = (pipeline, refl)
  PipelineThrough-nothing ys (s ∷ stages) (s' ∷ stages') pipeline = none-rest_unchanged pipeline.0 ys s s' stages stages' (PipelineThrough-nothing ys stages stages') pipeline.1 pipeline.2
  PipelineThrough-nothing ys [] (s' ∷ stages') pipeline = absurd pipeline
  PipelineThrough-nothing ys (s ∷ stages) [] pipeline = absurd pipeline

  pub PipelineThrough-stays : (channels n : ℕ) (input : List ℤ) (ys : List Samples) (old new : List S) → n ≤ 0 → PipelineThrough acts (pieces channels n input) ys old new → new ≡ old
  PipelineThrough-stays channels zero input ys old new none pipeline = let same = PipelineThrough-nothing ys old new pipeline in same.1
  PipelineThrough-stays channels (suc n) input ys old new none pipeline = absurd (omega arith)

  -- the first frame went through all stages, and then the others
  record FirstThrough (x : Samples) (xs ys : List Samples) (old new : List S) : Type 0 where
    pub out : Samples
    pub outs : List Samples
    pub mid : List S
    pub is : ys ≡ out ∷ outs
    pub went : WentThrough acts x (Some out) old mid
    pub determined : AllDetermined acts mid
    pub more : PipelineThrough acts xs outs mid new

  first-rest_unchanged : (x : Samples) (xs between ys : List Samples) (s s' : S) (stages stages' : List S) → ((y : Samples) (zs : List Samples) → PipelineThrough acts (y ∷ zs) ys stages stages' → FirstThrough y zs ys stages stages') → EachThrough acts (x ∷ xs) between s s' → PipelineThrough acts between ys stages stages'
      → FirstThrough x xs ys (s ∷ stages) (s' ∷ stages')
  first-rest_unchanged x xs [] ys s s' stages stages' rest_unchanged each pipeline = absurd each
  first-rest_unchanged x xs (y ∷ between) ys s s' stages stages' rest_unchanged each pipeline =
      let rest = rest_unchanged y between pipeline in
      let passed = each.1 in
      record { out = rest.out; outs = rest.outs; mid = each.0 ∷ rest.mid; is = rest.is; went = inr (passed.0, y, passed.1, passed.2, rest.went); determined = (passed.3, each.2, rest.determined); more = (between, each.3, rest.more) }

  first-through : (x : Samples) (xs ys : List Samples) (old new : List S) → PipelineThrough acts (x ∷ xs) ys old new → FirstThrough x xs ys old new
  first-through x xs ys [] [] pipeline = record { out = x; outs = xs; mid = []; is = pipeline; went = refl; determined = tt; more = refl }
  first-through x xs ys (s ∷ stages) (s' ∷ stages') pipeline = first-rest_unchanged x xs pipeline.0 ys s s' stages stages' (λ y zs. first-through y zs ys stages stages') pipeline.1 pipeline.2
  first-through x xs ys [] (s' ∷ stages') pipeline = absurd pipeline
  first-through x xs ys (s ∷ stages) [] pipeline = absurd pipeline

  -- some frames may be passed to stages in sequence, of which none has had enough
  pub AreReady-run : (channels count left : ℕ) (stages : List S) → MayRun acts channels count stages left → 1 ≤ count → AllDetermined acts stages → AllAhead acts count stages → AreReady acts channels left max_frames stages
  AreReady-run channels count left stages may some determined ahead =
      let sound = may.sound in
      AreReady-from acts channels left max_frames false stages refl (AllDetermined-dry acts stages determined) (AllAhead-unspent acts count stages some ahead) sound.planned.matching sound.planned.within sound.joined

  -- one run of a flow after another
  pub Going-then : (first f f' : Parts S) (xs gs ys hs : List Samples) → Going acts first xs gs f → f.ended ≡ false → Going acts f ys hs f' → Going acts first (xs ++ ys) (gs ++ hs) f'
  Going-then first f f' xs gs ys hs one open_ two =
      record { fed = FlowFed-then acts first f f' xs gs ys hs one.fed two.fed; gave = FlowGave-then acts first f f' xs gs ys hs one.gave open_ two.gave; sound = two.sound; moves = omega (arith, one.moves, two.moves) }

  module _ (rises : (r : R) (m n : ℕ) → m ≤ n → (acts.kind_of r).maximum m ≤ (acts.kind_of r).maximum n) (channels : ℕ) where
    -- frames that went through stages in sequence went through their flow, one after another
    Going-pipeline : (xs ys : List Samples) (left : ℕ) (old new : List S) → AreFrames channels xs → left + length xs ≤ max_frames → IsSound acts (flow_of acts channels old left) → AllDetermined acts old → AllHeld acts old → AllAhead acts (length xs) old → PipelineThrough acts xs ys old new
        → Going acts (flow_of acts channels old left) xs ys (flow_of acts channels new (left + length xs))
    Going-pipeline [] ys left old new frames bound sound determined held ahead pipeline =
        let same = PipelineThrough-nothing ys old new pipeline in
        let e : left + 0 ≡ left = omega arith in
        rw (same.0, same.1, e) (record { fed = untouched; gave = FlowGave-none acts (flow_of acts channels old left); sound = sound; moves = omega arith })
    Going-pipeline (x ∷ xs) ys left old new frames bound sound determined held ahead pipeline =
        let one = first-through x xs ys old new pipeline in
        let went = passed-pipeline acts rises channels left x frames.0 frames.1 (omega arith) (Some one.out) old one.mid sound determined (AllAhead-unspent acts (suc (length xs)) old (omega arith) ahead) held one.went in
        let rest = Going-pipeline xs one.outs (left + 1) one.mid new frames.2 (omega arith) went.sound one.determined (AllHeld-went acts x (Some one.out) old one.mid one.went held) (AllAhead-went acts (length xs) x (Some one.out) old one.mid one.went ahead) one.more in
        let e : left + suc (length xs) ≡ left + 1 + length xs = omega arith in
        rw (one.is, e) (Going-then _ _ _ (x ∷ []) (one.out ∷ []) xs one.outs went refl rest)

    -- the last of the calls gave the last of them
    last-of-pipeline : (x : Samples) (xs ys : List Samples) (left : ℕ) (old new : List S) → AreFrames channels (x ∷ xs) → left + length (x ∷ xs) ≤ max_frames → IsSound acts (flow_of acts channels old left) → AllDetermined acts old → AllHeld acts old → AllAhead acts (length (x ∷ xs)) old → PipelineThrough acts (x ∷ xs) ys old new
        → GaveLast acts (flow_of acts channels old left) (x ∷ xs) ys (flow_of acts channels new (left + length (x ∷ xs)))
    last-of-pipeline x [] ys left old new frames bound sound determined held ahead pipeline =
        let one = first-through x [] ys old new pipeline in
        let none = PipelineThrough-nothing one.outs one.mid new one.more in
        let out : ys ≡ one.out ∷ [] = one.is ∙ ap (λ l. one.out ∷ l) none.0 in
        let last = passed-pipeline-last acts rises channels left x frames.0 frames.1 (omega arith) one.out old one.mid sound determined (AllAhead-unspent acts 1 old (omega arith) ahead) held one.went in
        subst (λ (m : List S). GaveLast acts (flow_of acts channels old left) (x ∷ []) ys (flow_of acts channels m (left + 1))) (sym none.1)
        (subst (λ (l : List Samples). GaveLast acts (flow_of acts channels old left) (x ∷ []) l (flow_of acts channels one.mid (left + 1))) (sym out) last)
    last-of-pipeline x (y ∷ xs) ys left old new frames bound sound determined held ahead pipeline =
        let one = first-through x (y ∷ xs) ys old new pipeline in
        let went = passed-pipeline acts rises channels left x frames.0 frames.1 (omega arith) (Some one.out) old one.mid sound determined (AllAhead-unspent acts (length (x ∷ y ∷ xs)) old (omega arith) ahead) held one.went in
        let rest = last-of-pipeline y xs one.outs (left + 1) one.mid new frames.2 (omega arith) went.sound one.determined (AllHeld-went acts x (Some one.out) old one.mid one.went held) (AllAhead-went acts (length (y ∷ xs)) x (Some one.out) old one.mid one.went ahead) one.more in
        let e : left + length (x ∷ y ∷ xs) ≡ left + 1 + length (y ∷ xs) = omega arith in
        rw (one.is, e) (GaveLast-then acts _ _ _ (x ∷ []) (one.out ∷ []) (y ∷ xs) one.outs went.fed rest)

    last-pipeline : (xs ys : List Samples) (left : ℕ) (old new : List S) → AreFrames channels xs → left + length xs ≤ max_frames → IsSound acts (flow_of acts channels old left) → AllDetermined acts old → AllHeld acts old → AllAhead acts (length xs) old → PipelineThrough acts xs ys old new → 1 ≤ length ys
        → GaveLast acts (flow_of acts channels old left) xs ys (flow_of acts channels new (left + length xs))
    last-pipeline [] ys left old new frames bound sound determined held ahead pipeline some = let same = PipelineThrough-nothing ys old new pipeline in absurd (omega (arith, ap length same.0, some))
    last-pipeline (x ∷ xs) ys left old new frames bound sound determined held ahead pipeline some = last-of-pipeline x xs ys left old new frames bound sound determined held ahead pipeline

    -- and each gave one
    each-pipeline : (xs ys : List Samples) (left : ℕ) (old new : List S) → AreFrames channels xs → left + length xs ≤ max_frames → IsSound acts (flow_of acts channels old left) → AllDetermined acts old → AllHeld acts old → AllAhead acts (length xs) old → PipelineThrough acts xs ys old new
        → GivesOneEach acts old left (length xs)
    each-pipeline [] ys left old new frames bound sound determined held ahead pipeline n less = absurd (omega (arith, less))
    each-pipeline (x ∷ xs) ys left old new frames bound sound determined held ahead pipeline zero less =
        let due = given_by-due acts left false old refl determined sound.joined in
        let count : left + 0 ≡ left = omega arith in
        rw (count, ← due) (omega arith)
    each-pipeline (x ∷ xs) ys left old new frames bound sound determined held ahead pipeline (suc n) less =
        let one = first-through x xs ys old new pipeline in
        let went = passed-pipeline acts rises channels left x frames.0 frames.1 (omega arith) (Some one.out) old one.mid sound determined (AllAhead-unspent acts (suc (length xs)) old (omega arith) ahead) held one.went in
        let rest = each-pipeline xs one.outs (left + 1) one.mid new frames.2 (omega arith) went.sound one.determined (AllHeld-went acts x (Some one.out) old one.mid one.went held) (AllAhead-went acts (length xs) x (Some one.out) old one.mid one.went ahead) one.more in
        let later = rest n (omega (arith, less)) in
        let count : left + 1 + n ≡ left + suc n = omega arith in
        let same : kinds acts one.mid ≡ kinds acts old = ap (map acts.kind_of) went.gave.recipes_stay in
        omega (arith, rw (count, same) at later, went.gave.given)

    -- what stages in sequence did to frames in front of the input
    pub RanOn-pipeline : (count passed left : ℕ) (old new : List S) (input : List ℤ) (ys : List Samples) → 1 ≤ channels → channels ≤ 16 → passed ≤ count → count * channels ≤ length input → All (FitsSigned w32) (take (passed * channels) input) → MayRun acts channels count old left → AllDetermined acts old → AllHeld acts old → AllAhead acts count old
        → PipelineThrough acts (pieces channels passed input) ys old new → RanOn acts channels (pieces channels passed input) ys old new left
    RanOn-pipeline count passed left old new input ys some bound within free fits may determined held ahead pipeline =
        let less : passed * channels ≤ count * channels = mul-le-mul_right channels within in
        let many : length (pieces channels passed input) ≡ passed = length-pieces channels passed input in
        let frames : AreFrames channels (pieces channels passed input) = AreFrames-front channels passed input some bound (omega arith) fits in
        let going = Going-pipeline (pieces channels passed input) ys left old new frames (omega (arith, may.bound)) may.sound determined held (rw many (AllAhead-less acts passed count old within ahead)) pipeline in
        let each = each-pipeline (pieces channels passed input) ys left old new frames (omega (arith, may.bound)) may.sound determined held (rw many (AllAhead-less acts passed count old within ahead)) pipeline in
        record { fed = going.fed; gave = going.gave; sound = going.sound; moves = going.moves; each = each; last = λ even one_out. last-pipeline (pieces channels passed input) ys left old new frames (omega (arith, may.bound)) may.sound determined held (rw many (AllAhead-less acts passed count old within ahead)) pipeline one_out }
