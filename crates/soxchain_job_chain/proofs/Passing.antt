-- What calls of a chain make together.
use Rattle.std.proofs.Common.{◌≡◌, ℕ, ◌+◌, ◌-◌, ◌*◌, ◌<◌, ◌≤◌, Bool, inl, inr, true, false, List, [], ◌++◌, drop, length, refl, subst, sym, ap, ◌∙◌, arith, ℤ, ◌⊎◌, take, OnOk, Result, Ok, Err}
use Rattle.std.proofs.Math.Nat.{mul-le-mul_right}
use Rattle.std.proofs.lemmas.Bool.{cases_lt}
use Rattle.std.proofs.lemmas.List.{append_assoc, append-nil, drop-drop, length-append, length-drop, nil_from_length}
use Rattle.fx_chain.specs.Chain.{ChainParts}
use Rattle.fx_chain_flow.proofs.Laws.{through-Done}
use Rattle.fx_chain_flow.specs.Steps.{IsDone, rest_of}
use Rattle.fx_chain_run.specs.FrameWriter.{coded}
use Rattle.fx_chain_run.proofs.Sending.{coded-append, coded_clips-append}
use Rattle.fx_chain_stages.specs.Stages.{effect_acts}
use Rattle.fx_frame_base.specs.Frame.{Samples}
use Rattle.fx_frame_base.specs.Lists.{pieces}
use Rattle.fx_frame_base.proofs.Pieces.{length-pieces}
use Rattle.fx_frame_base.proofs.Puts.{pieces-split}
use Rattle.fx_plan.specs.Planning.{Planning}
use Rattle.fx_sound.specs.Container.{first_frames}
use Rattle.fx_sound.specs.FrameCoding.{frame_size}
use Rattle.fx_sound.proofs.Sounds.{first_frames-add, first_frames-taken}
use Rattle.soxchain_job_chain.specs.CodedChain.{CodedParts, Finishes, NeedsNoMore, Passes, PassesFront, KeepsPlan}

pub KeepsPlan-then : (a b c : CodedParts) → KeepsPlan a b → KeepsPlan b c → KeepsPlan a c
KeepsPlan-then a b c p q = record { plan = q.plan ∙ p.plan; announced = q.announced ∙ p.announced }

both-empty : {X : Type 0} (xs ys : List X) → xs ≡ [] → ys ≡ [] → xs ++ ys ≡ []
both-empty xs ys p q = rw (p, q) refl

module _ (a b c : CodedParts) (before mid after : List ℕ) where
  -- frames after frames
  pub Passes-then : (xs ys : List Samples) → Passes a b xs before mid → Passes b c ys mid after → (a.chain.flow.ended ≡ true → ys ≡ []) → Passes a c (xs ++ ys) before after
  Passes-then xs ys p q none =
      let coding = a.chain.plan.coding in
      let same : b.chain.plan.coding ≡ coding = ap (λ (l : Planning). l.coding) p.stays.plan in
      let bytes = coded-append coding p.given q.given in
      let out : after ≡ mid ++ coded coding q.given = rw same at q.appended in
      let sound = rw same at q.sound_bytes in
      let clips = rw same at q.out_clips in
      record {
        given = p.given ++ q.given;
        rest = λ z e.
            ap (rest_of effect_acts a.chain.flow) (append_assoc xs ys z)
            ∙ p.rest (ys ++ z) (λ over. both-empty ys z (none over) (e over))
            ∙ ap (λ l. p.given ++ l) (q.rest z (λ over. e (sym p.ended ∙ over)))
            ∙ sym (append_assoc p.given q.given (rest_of effect_acts c.chain.flow z));
        appended = rw (bytes, ← append_assoc before (coded coding p.given) (coded coding q.given), ← p.appended) out;
        frames_out = omega (arith, p.frames_out, q.frames_out, length-append p.given q.given);
        sound_bytes = omega (arith, p.sound_bytes, sound, ap length bytes, length-append (coded coding p.given) (coded coding q.given));
        out_clips = omega (arith, p.out_clips, clips, coded_clips-append coding p.given q.given);
        ended = q.ended ∙ p.ended;
        stays = KeepsPlan-then a b c p.stays q.stays;
      }

  -- samples after samples
  pub PassesFront-then : (input left rest : List ℤ) → 1 ≤ a.chain.plan.head.channels → (a.chain.flow.ended ≡ true → length input ≡ 0)
      → PassesFront a b input left before mid → PassesFront b c left rest mid after → PassesFront a c input rest before after
  PassesFront-then input left rest some none p q =
      let channels : ℕ = a.chain.plan.head.channels in
      let same : b.chain.plan.head.channels ≡ channels = ap (λ (l : Planning). l.head.channels) p.passes.stays.plan in
      let within : q.taken * channels ≤ length left = subst (λ (n : ℕ). q.taken * n ≤ length left) same q.within in
      let left_is = subst (λ (n : ℕ). rest ≡ drop (q.taken * n) left) same q.left_is in
      let more = subst (λ (n : ℕ). Passes b c (pieces n q.taken left) mid after) same q.passes in
      let split : (p.taken + q.taken) * channels ≡ p.taken * channels + q.taken * channels = omega arith in
      let long : length left ≡ length input - p.taken * channels = ap length p.left_is ∙ length-drop (p.taken * channels) input in
      let none_taken : a.chain.flow.ended ≡ true → pieces channels q.taken left ≡ [] = λ over. nil_from_length _ (length-pieces channels q.taken left ∙ no-frames q.taken channels some (omega (arith, within, long, none over))) in
      record {
        taken = p.taken + q.taken;
        within = rw split (omega (arith, p.within, within, long));
        left_is = left_is ∙ ap (drop (q.taken * channels)) p.left_is ∙ drop-drop (q.taken * channels) (p.taken * channels) input ∙ ap (λ n. drop n input) (sym split);
        passes = rw (pieces-split channels p.taken q.taken input, ← p.left_is) (Passes-then (pieces channels p.taken input) (pieces channels q.taken left) p.passes more none_taken);
      }
    where
      no-frames : (n size : ℕ) → 1 ≤ size → n * size ≤ 0 → n ≡ 0
      no-frames n size some h = elim (cases_lt 0 n) [
        | inl more ↦ (let k : 1 * size ≤ n * size = mul-le-mul_right size more in absurd (omega arith))
        | inr none ↦ omega arith
      ]

-- fewer frames are no more samples
fewer : (n m size : ℕ) → 1 ≤ size → n * size ≤ m * size → n ≤ m
fewer n m size some h = elim (cases_lt m n) [
  | inl more ↦ (let k : (m + 1) * size ≤ n * size = mul-le-mul_right size (omega arith) in let e : (m + 1) * size ≡ m * size + size = omega arith in absurd (omega arith))
  | inr fits ↦ fits
]

module _ (a b : CodedParts) (before after : List ℕ) where
  -- where no more is needed, more frames may have gone in
  pub Passes-enough : (xs ys : List Samples) → a.chain.flow.ended ≡ false → NeedsNoMore b.chain.flow → Passes a b xs before after → Passes a b (xs ++ ys) before after
  Passes-enough xs ys running enough p = record {
    given = p.given;
    rest = λ z e.
        ap (rest_of effect_acts a.chain.flow) (append_assoc xs ys z) ∙ p.rest (ys ++ z) (λ over. absurd (cc (over, running)))
        ∙ ap (λ l. p.given ++ l) (enough (ys ++ z) ∙ sym (enough z));
    appended = p.appended;
    frames_out = p.frames_out;
    sound_bytes = p.sound_bytes;
    out_clips = p.out_clips;
    ended = p.ended;
    stays = p.stays;
  }

  -- all whole frames went in, or as many as were needed
  pub Passes-all : (input left : List ℤ) (n : ℕ) → 1 ≤ a.chain.plan.head.channels → (a.chain.flow.ended ≡ true → length input ≡ 0)
      → (b.chain.flow.ended ≡ false → NeedsNoMore b.chain.flow ⊎ (length left < a.chain.plan.head.channels)) → length input ≡ n * a.chain.plan.head.channels
      → PassesFront a b input left before after → Passes a b (pieces a.chain.plan.head.channels n input) before after
  Passes-all input left n some none last whole p = by-end a.chain.flow.ended refl
    where
      channels : ℕ
      channels = a.chain.plan.head.channels

      here : p.taken ≤ n
      here = fewer p.taken n channels some (omega (arith, p.within, whole))

      same : n ≤ p.taken → Passes a b (pieces channels n input) before after
      same h = let e : n ≡ p.taken = omega (arith, h, here) in rw e p.passes

      by-end : (over : Bool) → a.chain.flow.ended ≡ over → Passes a b (pieces channels n input) before after
      by-end true e = same (fewer n p.taken channels some (omega (arith, whole, none e)))
      by-end false e = elim (last (p.passes.ended ∙ e)) [
        | inl enough ↦ (let parts : n ≡ p.taken + (n - p.taken) = omega (arith, here) in
            let cut : pieces channels n input ≡ pieces channels p.taken input ++ pieces channels (n - p.taken) (drop (p.taken * channels) input) = ap (λ m. pieces channels m input) parts ∙ pieces-split channels p.taken (n - p.taken) input in
            rw cut (Passes-enough (pieces channels p.taken input) _ e enough p.passes))
        | inr short ↦ (let long : length left ≡ length input - p.taken * channels = ap length p.left_is ∙ length-drop (p.taken * channels) input in
            let next : (p.taken + 1) * channels ≡ p.taken * channels + channels = omega arith in
            same (elim (cases_lt p.taken n) [
              | inl more ↦ (let k : (p.taken + 1) * channels ≤ n * channels = mul-le-mul_right channels (omega arith) in absurd (omega (arith, short, long, whole, next, k)))
              | inr fits ↦ fits
            ]))
      ]

-- what a later call says of the samples that are left, in the channels of the first one
pub last-turn : (a b c : CodedParts) (left : List ℤ) → KeepsPlan a b → (c.chain.flow.ended ≡ false → NeedsNoMore c.chain.flow ⊎ (length left < b.chain.plan.head.channels))
    → c.chain.flow.ended ≡ false → NeedsNoMore c.chain.flow ⊎ (length left < a.chain.plan.head.channels)
last-turn a b c left stays last running =
    let same : b.chain.plan.head.channels ≡ a.chain.plan.head.channels = ap (λ (l : Planning). l.head.channels) stays.plan in
    subst (λ (n : ℕ). NeedsNoMore c.chain.flow ⊎ (length left < n)) same (last running)

pub on_ok-then : {X E P Q : Type 0} (r : Result X E) → (P → Q) → OnOk r P → OnOk r Q
on_ok-then (Ok x) f p = f p
on_ok-then (Err e) f p = p

-- blocks of frames
pub Passes-block : (a b c : CodedParts) (done count size : ℕ) (bytes block before mid after : List ℕ) → size ≡ frame_size a.chain.plan.head.coding a.chain.plan.head.channels → (done + count) * size ≤ length bytes
    → block ≡ take ((done + count) * size - done * size) (drop (done * size) bytes) → a.chain.flow.ended ≡ false
    → Passes a b (first_frames a.chain.plan.head.coding a.chain.plan.head.channels done bytes) before mid
    → Passes b c (first_frames b.chain.plan.head.coding b.chain.plan.head.channels count block) mid after
    → Passes a c (first_frames a.chain.plan.head.coding a.chain.plan.head.channels (done + count) bytes) before after
Passes-block a b c done count size bytes block before mid after size_is within block_is running p q =
    let coding = a.chain.plan.head.coding in
    let channels : ℕ = a.chain.plan.head.channels in
    let split : (done + count) * size ≡ done * size + count * size = omega arith in
    let long : (done + count) * size - done * size ≡ count * size = omega (arith, split) in
    let rest : List ℕ = drop (done * size) bytes in
    let enough : count * size ≤ length rest = omega (arith, within, split, length-drop (done * size) bytes) in
    let block_frames : first_frames coding channels count block ≡ first_frames coding channels count rest =
    ap (first_frames coding channels count) (block_is ∙ ap (λ n. take n rest) (long ∙ ap (λ n. count * n) size_is)) ∙ first_frames-taken coding channels count rest (subst (λ (n : ℕ). count * n ≤ length rest) size_is enough) in
    let plan : first_frames b.chain.plan.head.coding b.chain.plan.head.channels count block ≡ first_frames coding channels count block = ap (λ (l : Planning). first_frames l.head.coding l.head.channels count block) p.stays.plan in
    let more = subst (λ (l : List Samples). Passes b c l mid after) (plan ∙ block_frames) q in
    let all : first_frames coding channels (done + count) bytes ≡ first_frames coding channels done bytes ++ first_frames coding channels count rest =
    first_frames-add coding channels done count bytes ∙ ap (λ n. first_frames coding channels done bytes ++ first_frames coding channels count (drop (done * n) bytes)) (sym size_is) in
    subst (λ (l : List Samples). Passes a c l before after) (sym all) (Passes-then a b c before mid after _ _ p more (λ over. absurd (cc (over, running))))

-- the end was given, and all came out
pub Finishes-from : (a mid b : CodedParts) (before after : List ℕ) → mid.chain ≡ record a.chain { flow = record a.chain.flow { ended = true } } → mid.frames_out ≡ a.frames_out → mid.sound_bytes ≡ a.sound_bytes → mid.announced ≡ a.announced
    → Passes mid b [] before after → IsDone effect_acts b.chain.flow → b.frames_out ≡ b.announced → Finishes a b before after
Finishes-from a mid b before after ended frames bytes announced p done all =
    let none : rest_of effect_acts b.chain.flow [] ≡ [] = rw done.empty (through-Done effect_acts b.chain.flow.stages done.dry done.all_ended) in
    let same : rest_of effect_acts mid.chain.flow [] ≡ rest_of effect_acts a.chain.flow [] = ap (λ (c : ChainParts). rest_of effect_acts c.flow []) ended in
    let coding : mid.chain.plan.coding ≡ a.chain.plan.coding = ap (λ (c : ChainParts). c.plan.coding) ended in
    let given : p.given ≡ rest_of effect_acts a.chain.flow [] = sym (append-nil p.given) ∙ ap (λ l. p.given ++ l) (sym none) ∙ sym (p.rest [] (λ over. refl)) ∙ same in
    let sent : coded mid.chain.plan.coding p.given ≡ coded a.chain.plan.coding (rest_of effect_acts a.chain.flow []) = ap (λ k. coded k p.given) coding ∙ ap (coded a.chain.plan.coding) given in
    record {
      appended = p.appended ∙ ap (λ l. before ++ l) sent;
      sound_bytes = p.sound_bytes ∙ ap (λ n. n + length (coded mid.chain.plan.coding p.given)) bytes ∙ ap (λ l. a.sound_bytes + length l) sent;
      announced = omega (arith, ap length given, p.frames_out, frames, all, p.stays.announced, announced);
    }
