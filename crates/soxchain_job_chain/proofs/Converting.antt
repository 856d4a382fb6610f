-- What the calls of a conversion write together.
use Rattle.std.proofs.Common.{◌≡◌, ℕ, ◌+◌, ◌-◌, ◌*◌, ◌/◌, ◌<◌, ◌≤◌, Bool, inl, inr, true, false, List, [], ◌++◌, drop, length, refl, subst, sym, ap, ◌∙◌, arith, Some, None, ℤ, ◌⊎◌, if◌then◌else◌, Option, take}
use Rattle.std.proofs.Math.Seq.{drop-nil, take-nil}
use Rattle.std.proofs.lemmas.List.{append_assoc, append-nil, length-append, length-drop}
use Rattle.std.proofs.lemmas.Nat.{div_below}
use Rattle.fx_chain.specs.Chain.{ChainParts}
use Rattle.fx_chain_flow.specs.Feed.{FlowGave}
use Rattle.fx_chain_flow.specs.Parts.{any_spent}
use Rattle.fx_chain_flow.specs.Steps.{rest_of}
use Rattle.fx_chain_run.specs.FrameWriter.{coded}
use Rattle.fx_chain_run.specs.Report.{pad}
use Rattle.fx_chain_run.proofs.Sending.{coded-append}
use Rattle.fx_chain_stages.specs.Stages.{effect_acts}
use Rattle.fx_frame_base.specs.Frame.{Samples}
use Rattle.fx_frame_base.specs.Lists.{pieces}
use Rattle.fx_frame_base.specs.declared.coding.Coding.{Coding}
use Rattle.fx_frame_base.proofs.Pieces.{length-pieces}
use Rattle.fx_plan.specs.Planning.{Planning}
use Rattle.fx_sound.specs.Container.{first_frames, frames_of_sound}
use Rattle.fx_sound.specs.FrameCoding.{bytes_of, clips_of, frame_size}
use Rattle.fx_sound.specs.Sound.{within_sound}
use Rattle.fx_sound.proofs.ManyBytes.{encoded-clips, encoded-frames}
use Rattle.soxchain_job.specs.Conversion.{ConvertsPiece}
use Rattle.soxchain_job_chain.specs.CodedChain.{CodedParts, Finishes, NeedsNoMore, Passes, PassesFront, sound_to_come}
use Rattle.soxchain_job_chain.specs.JobOutput.{ConversionParts, PassesSound, head_to_come, input_frame, output_to_come, padded_after, sized_head, sound_left}
use Rattle.soxchain_job_chain.proofs.SoundParts.{frames-both}

-- a flow was fed once, and what it gave was encoded
pub PassesFront-fed : (a b : CodedParts) (outputs taken given : ℕ) (input left samples : List ℤ) (before after : List ℕ)
    → FlowGave effect_acts a.chain.flow (pieces a.chain.plan.head.channels taken input) (pieces outputs given samples) b.chain.flow
    → b.chain.plan ≡ a.chain.plan → b.announced ≡ a.announced → taken * a.chain.plan.head.channels ≤ length input → left ≡ drop (taken * a.chain.plan.head.channels) input
    → after ≡ before ++ bytes_of a.chain.plan.coding (take (given * outputs) samples) → b.frames_out ≡ a.frames_out + given
    → b.sound_bytes ≡ a.sound_bytes + length (bytes_of a.chain.plan.coding (take (given * outputs) samples))
    → b.out_clips ≡ a.out_clips + clips_of a.chain.plan.coding (take (given * outputs) samples) → PassesFront a b input left before after
PassesFront-fed a b outputs taken given input left samples before after gave plan announced within left_is out frames bytes clips =
    let frames_are = encoded-frames a.chain.plan.coding outputs given samples in
    let clips_are = encoded-clips a.chain.plan.coding outputs given samples in
    record {
      taken = taken;
      within = within;
      left_is = left_is;
      passes = record {
        given = pieces outputs given samples;
        rest = gave.rest;
        appended = rw frames_are out;
        frames_out = rw length-pieces frames;
        sound_bytes = rw frames_are bytes;
        out_clips = rw clips_are clips;
        ended = gave.ended;
        stays = record { plan = plan; announced = announced };
      };
    }

-- the same where the chain after the feeding is known
pub PassesFront-put : (a b : CodedParts) (fed : ChainParts) (outputs width taken given channels : ℕ) (input left samples : List ℤ) (before after : List ℕ)
    → FlowGave effect_acts a.chain.flow (pieces a.chain.plan.head.channels taken input) (pieces width given samples) fed.flow
    → outputs ≡ width → channels ≡ a.chain.plan.head.channels → fed.plan ≡ a.chain.plan → b.chain ≡ fed → b.announced ≡ a.announced → taken * channels ≤ length input → left ≡ drop (taken * channels) input
    → after ≡ before ++ bytes_of fed.plan.coding (take (given * outputs) samples) → b.frames_out ≡ a.frames_out + given
    → b.sound_bytes ≡ a.sound_bytes + length (bytes_of fed.plan.coding (take (given * outputs) samples))
    → b.out_clips ≡ a.out_clips + clips_of fed.plan.coding (take (given * outputs) samples) → PassesFront a b input left before after
PassesFront-put a b fed outputs width taken given channels input left samples before after gave outputs_are channels_are plan chain announced within left_is out frames bytes clips =
    let coding : fed.plan.coding ≡ a.chain.plan.coding = ap (λ (l : Planning). l.coding) plan in
    PassesFront-fed a b outputs taken given input left samples before after
    (subst (λ (c : ChainParts). FlowGave effect_acts a.chain.flow (pieces a.chain.plan.head.channels taken input) (pieces outputs given samples) c.flow) (sym chain)
    (subst (λ (n : ℕ). FlowGave effect_acts a.chain.flow (pieces a.chain.plan.head.channels taken input) (pieces n given samples) fed.flow) (sym outputs_are) gave))
    (ap (λ (c : ChainParts). c.plan) chain ∙ plan) announced
    (subst (λ (n : ℕ). taken * n ≤ length input) channels_are within) (subst (λ (n : ℕ). left ≡ drop (taken * n) input) channels_are left_is)
    (rw coding at out) frames (rw coding at bytes) (rw coding at clips)

-- where the block after a chain was not filled, all whole frames went in, or no more are needed
pub all-or-enough : (fed now : ChainParts) (spent : Bool) (given taken outputs width channels read : ℕ) (input left samples : List ℤ) → now ≡ fed → spent ≡ any_spent effect_acts fed.flow.stages
    → (spent ≡ true → NeedsNoMore fed.flow) → (given * width + width ≤ length samples → fed.flow.ended ≡ false → any_spent effect_acts fed.flow.stages ≡ false → length input < taken * channels + channels)
    → outputs ≡ width → given * outputs + outputs ≤ length samples → read ≡ channels → taken * read ≤ length input → left ≡ drop (taken * read) input → now.flow.ended ≡ false → NeedsNoMore now.flow ⊎ (length left < channels)
all-or-enough fed now true given taken outputs width channels read input left samples same is enough used outputs_are free reads within left_is running = inl (subst (λ (c : ChainParts). NeedsNoMore c.flow) (sym same) (enough refl))
all-or-enough fed now false given taken outputs width channels read input left samples same is enough used outputs_are free reads within left_is running =
    let here : length input < taken * channels + channels = used (subst (λ (n : ℕ). given * n + n ≤ length samples) outputs_are free) (subst (λ (c : ChainParts). c.flow.ended ≡ false) same running) (sym is) in
    let long : length left ≡ length input - taken * channels = ap length left_is ∙ length-drop (taken * read) input ∙ ap (λ n. length input - taken * n) reads in
    let there : taken * channels ≤ length input = subst (λ (n : ℕ). taken * n ≤ length input) reads within in
    inr (omega (arith, here, long, there))

-- the last part of a sound in two parts
pub padded-both : (p : Planning) (n : ℕ) (front back : List ℕ) → padded_after p n (front ++ back) ≡ front ++ padded_after p (n + length front) back
padded-both p n front back =
    let long : n + length (front ++ back) ≡ n + length front + length back = omega (arith, length-append front back) in
    rw (long, append_assoc front back) refl

-- more bytes of the sound came
pub sound-both : (a b : CodedParts) (pending sound kept rest before after : List ℕ) → a.chain.flow.ended ≡ false → 0 < frame_size a.chain.plan.head.coding a.chain.plan.head.channels
    → (p : Passes a b (frames_of_sound a.chain.plan.head.coding a.chain.plan.head.channels (pending ++ sound)) before after)
    → kept ≡ drop (length (pending ++ sound) / frame_size a.chain.plan.head.coding a.chain.plan.head.channels * frame_size a.chain.plan.head.coding a.chain.plan.head.channels) (pending ++ sound)
    → sound_to_come a (pending ++ (sound ++ rest)) ≡ coded a.chain.plan.coding p.given ++ sound_to_come b (kept ++ rest)
sound-both a b pending sound kept rest before after running some p kept_is =
    let head = a.chain.plan.head in
    let coding = a.chain.plan.coding in
    let front : List Samples = frames_of_sound head.coding head.channels (pending ++ sound) in
    let back : List Samples = frames_of_sound head.coding head.channels (kept ++ rest) in
    let cut : frames_of_sound head.coding head.channels (pending ++ (sound ++ rest)) ≡ front ++ back =
    ap (frames_of_sound head.coding head.channels) (sym (append_assoc pending sound rest)) ∙ frames-both head.coding head.channels (pending ++ sound) rest some ∙ ap (λ l. front ++ frames_of_sound head.coding head.channels (l ++ rest)) (sym kept_is) in
    let plan : sound_to_come b (kept ++ rest) ≡ coded coding (rest_of effect_acts b.chain.flow back) =
    ap (λ (l : Planning). coded l.coding (rest_of effect_acts b.chain.flow (frames_of_sound l.head.coding l.head.channels (kept ++ rest)))) p.stays.plan in
    ap (λ l. coded coding (rest_of effect_acts a.chain.flow l)) cut ∙ ap (coded coding) (p.rest back (λ over. absurd (cc (over, running))))
    ∙ coded-append coding p.given (rest_of effect_acts b.chain.flow back) ∙ ap (λ l. coded coding p.given ++ l) (sym plan)

-- less than a frame is no frame
pub frames-none : (coding : Coding) (channels : ℕ) (bytes : List ℕ) → length bytes < frame_size coding channels → frames_of_sound coding channels bytes ≡ []
frames-none coding channels bytes short =
    let none : length bytes / frame_size coding channels < 1 = div_below (length bytes) (frame_size coding channels) 1 (omega arith) (omega arith) in
    let zero_frames : length bytes / frame_size coding channels ≡ 0 = omega arith in
    ap (λ n. first_frames coding channels n bytes) zero_frames

-- A piece came: the head was written, and more bytes of the sound.
pub step-converts : (old new : ConversionParts) (piece sound before headed after : List ℕ)
    → ((input : List ℕ) → within_sound old.left (drop old.skip (piece ++ input)) ≡ sound ++ within_sound new.left (drop new.skip input))
    → headed ≡ before ++ head_to_come old → new.has_head ≡ true → old.coded.chain.flow.ended ≡ false → 0 < input_frame old
    → Passes old.coded new.coded (frames_of_sound old.coded.chain.plan.head.coding old.coded.chain.plan.head.channels (old.pending ++ sound)) headed after
    → new.pending ≡ drop (length (old.pending ++ sound) / input_frame old * input_frame old) (old.pending ++ sound)
    → ConvertsPiece output_to_come old new piece before after
step-converts old new piece sound before headed after law head written running some p kept =
    let coding = old.coded.chain.plan.coding in
    let gave : List ℕ = coded coding p.given in
    record {
      written = head_to_come old ++ gave;
      appended = p.appended ∙ ap (λ l. l ++ gave) head ∙ append_assoc before (head_to_come old) gave;
      rest = λ input.
          let rest : List ℕ = within_sound new.left (drop new.skip input) in
          let back : List ℕ = sound_to_come new.coded (new.pending ++ rest) in
          let sound_is : sound_to_come old.coded (sound_left old (piece ++ input)) ≡ gave ++ back =
          ap (λ l. sound_to_come old.coded (old.pending ++ l)) (law input) ∙ sound-both old.coded new.coded old.pending sound new.pending rest headed after running some p kept in
          let none : head_to_come new ≡ [] = ap (λ b. if b then [] else sized_head new.coded.chain.plan new.coded.announced) written in
          let tail : padded_after old.coded.chain.plan (old.coded.sound_bytes + length gave) back ≡ output_to_come new input =
          ap (λ (l : Planning). padded_after l (old.coded.sound_bytes + length gave) back) (sym p.stays.plan) ∙ ap (λ n. padded_after new.coded.chain.plan n back) (sym p.sound_bytes) ∙ ap (λ l. l ++ padded_after new.coded.chain.plan new.coded.sound_bytes back) (sym none) in
          ap (λ l. head_to_come old ++ padded_after old.coded.chain.plan old.coded.sound_bytes l) sound_is
          ∙ ap (λ l. head_to_come old ++ l) (padded-both old.coded.chain.plan old.coded.sound_bytes gave back ∙ ap (λ l. gave ++ l) tail)
          ∙ sym (append_assoc (head_to_come old) gave (output_to_come new input));
    }

-- the same by the calls of a step
pub step-passes : (old head mid new : ConversionParts) (piece sound before headed after : List ℕ) → head ≡ record old { has_head = true } → mid ≡ record head { skip = mid.skip; left = mid.left }
    → ((input : List ℕ) → within_sound head.left (drop head.skip (piece ++ input)) ≡ sound ++ within_sound mid.left (drop mid.skip input))
    → headed ≡ before ++ head_to_come old → old.coded.chain.flow.ended ≡ false → 0 < input_frame old → PassesSound mid new sound headed after → ConvertsPiece output_to_come old new piece before after
step-passes old head mid new piece sound before headed after head_is mid_is law headed_is running some q =
    let base : ConversionParts = record old { has_head = true; skip = mid.skip; left = mid.left } in
    let base_is : mid ≡ base = mid_is ∙ ap (λ (h : ConversionParts). record h { skip = mid.skip; left = mid.left }) head_is in
    let p = subst (λ (v : ConversionParts). PassesSound v new sound headed after) base_is q in
    let written : new.has_head ≡ true = ap (λ (v : ConversionParts). v.has_head) p.others in
    let skip : mid.skip ≡ new.skip = sym (ap (λ (v : ConversionParts). v.skip) p.others) in
    let left : mid.left ≡ new.left = sym (ap (λ (v : ConversionParts). v.left) p.others) in
    let next = λ (input : List ℕ).
    ap (λ (v : ConversionParts). within_sound v.left (drop v.skip (piece ++ input))) (sym head_is) ∙ law input ∙ ap (λ n. sound ++ within_sound mid.left (drop n input)) skip ∙ ap (λ o. sound ++ within_sound o (drop new.skip input)) left in
    step-converts old new piece sound before headed after next headed_is written running some p.passes p.pending

no-more : (left : Option ℕ) (skip : ℕ) → within_sound left (drop skip []) ≡ []
no-more None skip = drop-nil skip
no-more (Some n) skip = ap (take n) (drop-nil skip) ∙ take-nil n

-- The end came: the head was written, and all that was to come.
pub finish-writes : (old : ConversionParts) (ended : CodedParts) (before headed sounded after : List ℕ) → length old.pending < input_frame old → headed ≡ before ++ head_to_come old
    → Finishes old.coded ended headed sounded → after ≡ sounded ++ pad old.coded.chain.plan.kind true ended.sound_bytes → after ≡ before ++ output_to_come old []
finish-writes old ended before headed sounded after short head f last =
    let plan = old.coded.chain.plan in
    let sound : List ℕ = coded plan.coding (rest_of effect_acts old.coded.chain.flow []) in
    let left : sound_left old [] ≡ old.pending = ap (λ l. old.pending ++ l) (no-more old.left old.skip) ∙ append-nil old.pending in
    let frames : frames_of_sound plan.head.coding plan.head.channels (sound_left old []) ≡ [] = ap (frames_of_sound plan.head.coding plan.head.channels) left ∙ frames-none plan.head.coding plan.head.channels old.pending short in
    let sound_is : sound_to_come old.coded (sound_left old []) ≡ sound = ap (λ l. coded plan.coding (rest_of effect_acts old.coded.chain.flow l)) frames in
    last ∙ ap (λ n. sounded ++ pad plan.kind true n) f.sound_bytes ∙ ap (λ l. l ++ pad plan.kind true (old.coded.sound_bytes + length sound)) f.appended
    ∙ append_assoc headed sound _ ∙ ap (λ l. l ++ padded_after plan old.coded.sound_bytes sound) head ∙ append_assoc before (head_to_come old) _
    ∙ ap (λ l. before ++ (head_to_come old ++ padded_after plan old.coded.sound_bytes l)) (sym sound_is)
