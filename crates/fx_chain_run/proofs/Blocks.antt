-- What a whole buffer of frames adds to what was read, passed on and sent.
use Rattle.std.proofs.Common.{◌≡◌, ℕ, ◌+◌, ◌-◌, ◌*◌, ◌<◌, ◌≤◌, ◌^◌, inl, inr, map, false, List, [], ◌∷◌, ◌++◌, drop, refl, subst, sym, ap, ◌∙◌, arith, Option, Some}
use Rattle.std.proofs.lemmas.Bool.{cases_lt}
use Rattle.std.proofs.lemmas.List.{append_assoc, append-nil, length-append}
use Rattle.fx_frame_base.specs.declared.coding.Coding.{Coding}
use Rattle.fx_frame_base.specs.Frame.{Samples}
use Rattle.fx_frame_base.specs.Holds.{kinds, recipes}
use Rattle.fx_frame_base.specs.Io.{ByteReader}
use Rattle.fx_frame_base.specs.Stage.{Acts}
use Rattle.fx_chain_flow.proofs.Feeding.{FlowGave-none}
use Rattle.fx_chain_flow.specs.Feed.{FlowFed, FlowGave, stepped, taken_in, untouched}
use Rattle.fx_chain_flow.specs.Parts.{Parts, given_by, taken_of}
use Rattle.fx_chain_flow.specs.Composed.{enough_for}
use Rattle.fx_chain_flow.specs.Steps.{given_out, rest_of, wholes_of}
use Rattle.fx_sound.proofs.Held.{Takes-both, Takes-turn}
use Rattle.fx_sound.proofs.Sending.{Sent-put}
use Rattle.fx_sound.proofs.Sounds.{first_frames-add, held-next, held-passed, length-first_frames}
use Rattle.fx_sound.specs.Container.{after_frames, first_frames}
use Rattle.fx_sound.specs.Output.{Pending, SendsOn, bytes_put}
use Rattle.fx_sound.specs.Runs.{RanFrames}
use Rattle.fx_sound.proofs.RunLaws.{Ran-block, Ran-start, Ran-turn, Takes-none, after_frames-add, after_frames-more}
use Rattle.fx_frame_base.specs.declared.stage.TheConstants.{MAX_FRAMES}
use Rattle.fx_sound.specs.Known.{IfKnown}
use Rattle.fx_sound.specs.Sound.{Reading, TakesFrame, after_frame, size_of}
use Rattle.fx_sound.specs.Source.{Held, Takes, to_come}
use Rattle.fx_chain_run.specs.Block.{Blocked}
use Rattle.fx_chain_run.specs.FrameWriter.{coded, coded_clips}
use Rattle.fx_chain_run.specs.Pump.{Pumped, PumpedFront, Start}
use Rattle.fx_chain_run.specs.Run.{Flowed, WantsMore, sound_frames}
use Rattle.fx_chain_run.specs.Through.{RunCutOff, Drained, RunGives, Reached, Through, RunWaits, took}
use Rattle.fx_chain_run.specs.Through as reach
use Rattle.fx_chain_run.proofs.Passing.{Flowed-more, Flowed-turn, FlowedFront-more, WantsMore-next, enough-same, not-both, sound_frames-more, taken-take}
use Rattle.fx_chain_run.proofs.Sending.{coded-append, coded_clips-append}

module _ {S R : Type 0} (acts : Acts S R) where
  -- a sequence of calls, after those that came before
  Reached-fed : (first at mid : Parts S) (frames xs given gs : List Samples) → Reached acts first frames given at → FlowFed acts at xs gs mid → Reached acts first (frames ++ xs) (given ++ gs) mid
  Reached-fed first at mid frames xs given gs r untouched = rw (append-nil frames, append-nil given) r
  Reached-fed first at mid frames xs given gs r (taken_in ys hs x f f' fed t) =
      rw (← append_assoc frames ys (x ∷ [])) (took (frames ++ ys) (given ++ hs) x f f' (Reached-fed first at f frames ys given hs r fed) t.hungry t.took)
  Reached-fed first at mid frames xs given gs r (stepped ys hs step f f' fed s) =
      rw (← append_assoc given hs (given_out step)) (reach.stepped (frames ++ ys) (given ++ hs) step f f' (Reached-fed first at f frames ys given hs r fed) s.moved)

  -- frames were taken, and others given
  Through-block : (start at mid : Parts S) (frames xs given gs : List Samples) → Through acts start at frames given → at.ended ≡ false → FlowFed acts at xs gs mid → FlowGave acts at xs gs mid → Through acts start mid (frames ++ xs) (given ++ gs)
  Through-block start at mid frames xs given gs p running fed q = record {
    rest = λ z over.
        ap (rest_of acts start) (append_assoc frames xs z) ∙ p.rest (xs ++ z) (λ t. not-both at.ended running t)
        ∙ ap (λ l. given ++ l) (q.rest z (λ t. not-both at.ended running t)) ∙ sym (append_assoc given gs (rest_of acts mid z));
    whole = λ z over.
        q.whole z (λ t. not-both at.ended running t) ∙ p.whole (xs ++ z) (λ t. not-both at.ended running t) ∙ sym (ap (wholes_of acts start) (append_assoc frames xs z));
    counted = omega (arith, q.given, p.counted, length-append given gs);
    reached = Reached-fed start at mid frames xs given gs p.reached fed;
  }

  -- what the flow then gave
  Through-gave : (start at new : Parts S) (frames given more : List Samples) → Through acts start at frames given → at.ended ≡ false → RunGives acts at new more → Through acts start new frames (given ++ more)
  Through-gave start at new frames given more p running q = record {
    rest = λ z over.
        p.rest z (λ t. not-both at.ended running t) ∙ ap (λ l. given ++ l) (q.rest z (λ t. not-both at.ended running t)) ∙ sym (append_assoc given more (rest_of acts new z));
    whole = λ z over. q.whole z (λ t. not-both at.ended running t) ∙ p.whole z (λ t. not-both at.ended running t);
    counted = omega (arith, q.counted, p.counted, length-append given more);
    reached = q.reached start frames given p.reached;
  }

  -- what it gave waits after what was sent
  Flowed-put : (start at mid : Parts S) (coding : Coding) (frames xs gs : List Samples) (clips new_clips : ℕ) (first now : Option (List ℕ)) (out new_out : Pending) (head : List ℕ)
      → Flowed acts start at coding frames clips first now out head → at.ended ≡ false → FlowFed acts at xs gs mid → FlowGave acts at xs gs mid → new_clips ≡ clips + coded_clips coding gs
      → new_out.bytes ≡ out.bytes ++ coded coding gs → new_out.written ≡ out.written → Flowed acts start mid coding (frames ++ xs) new_clips first now new_out head
  Flowed-put start at mid coding frames xs gs clips new_clips first now out new_out head p running fed q c b w = record {
    given = p.given ++ gs;
    through = Through-block start at mid frames xs p.given gs p.through running fed q;
    clipped = omega (arith, coded_clips-append coding p.given gs, c, p.clipped);
    sent = rw (coded-append coding p.given gs, ← append_assoc head (coded coding p.given) (coded coding gs)) (Sent-put first now out new_out (head ++ coded coding p.given) (coded coding gs) p.sent b w);
  }

-- nothing was passed
pub Blocked-none : {S R X : Type 0} (acts : Acts S R) (f : Parts S) (s : Held X) (p : Reading) (coding : Coding) (clips : ℕ) (out : Pending) → p.frames + 0 ≤ 2 ^ 40 → Blocked acts f f s s p p coding clips clips out out
Blocked-none acts f s p coding clips out bound =
    let none : 0 * size_of p ≡ 0 = omega arith in
    record {
      count = 0;
      given = [];
      held = record { there = omega (arith, none); announced = omega (arith, none); bound = bound; begun = λ over. refl };
      bytes = rw none refl;
      reader = refl;
      short = refl;
      counted = (Ran-start p [] (Some []) refl).now_is;
      fed = untouched;
      gave = FlowGave-none acts f;
      wants = λ m h. absurd (omega arith);
      clipped = omega arith;
      put = sym (append-nil out.bytes);
      written = refl;
    }

module _ {S R X : Type 0} (acts : Acts S R) (device : ByteReader X) (first : Start S X)
    (flow mid : Parts S) (source source' : Held X) (progress progress' : Reading) (coding : Coding) (clips mid_clips : ℕ) (out mid_out : Pending) (wrote : Option (List ℕ))
    (p : Pumped acts device first flow source progress coding clips out wrote)
    (b : Blocked acts flow mid source source' progress progress' coding clips mid_clips out mid_out) where
  frames-block : progress'.frames ≡ progress.frames + b.count
  frames-block = ap (λ (q : Reading). q.frames) b.counted

  running-block : mid.ended ≡ false
  running-block = b.gave.ended ∙ p.hungry.not_ended

  taken-block : taken_of mid ≡ progress'.frames
  taken-block = omega (arith, b.gave.taken, p.taken, frames-block, length-first_frames progress.coding progress.channels b.count source.bytes)

  wants-block : WantsMore (kinds acts first.flow.stages) progress'.frames
  wants-block m h = elim (cases_lt m progress.frames) [
    | inl before ↦ p.wants m before
    | inr rest_unchanged ↦
        let n : ℕ = m - progress.frames in
        let there : n < b.count = omega (arith, h, frames-block) in
        let place : taken_of flow + n ≡ m = omega (arith, p.taken) in
        sym (ap (λ ks. enough_for ks m) (ap (map acts.kind_of) p.stay)) ∙ ap (enough_for (kinds acts flow.stages)) (sym place) ∙ b.wants n there
  ]

  module _ (bytes : List ℕ) (known : to_come device.rest first.source ≡ Some bytes) where
    ran-block : RanFrames first.progress progress' bytes progress'.frames (to_come device.rest source')
    ran-block =
        let r = p.ran bytes known in
        let next = held-next device.rest progress source b.count b.held _ r.to_come_is in
        let Read : ℕ → Type 0 = λ n. RanFrames first.progress progress' bytes n (to_come device.rest source') in
        subst Read (sym frames-block) (Ran-block _ _ _ bytes progress.frames b.count _ _ r next.0 b.counted (held-passed device.rest source source' (b.count * size_of progress) b.held.there b.bytes b.reader _ r.to_come_is))

    frames-more : sound_frames first.progress progress'.frames bytes ≡ sound_frames first.progress progress.frames bytes ++ first_frames progress.coding progress.channels b.count source.bytes
    frames-more =
        let r = p.ran bytes known in
        let next = held-next device.rest progress source b.count b.held _ r.to_come_is in
        let here : first_frames progress.coding progress.channels b.count source.bytes ≡ sound_frames first.progress b.count (drop (progress.frames * size_of first.progress) bytes) =
        next.1 ∙ ap (λ (q : Reading). first_frames q.coding q.channels b.count (drop (progress.frames * size_of first.progress) bytes)) p.at in
        rw (frames-block, here) (first_frames-add first.progress.coding first.progress.channels progress.frames b.count bytes)

    flowed-block : Flowed acts first.flow mid first.coding (sound_frames first.progress progress'.frames bytes) mid_clips first.wrote wrote mid_out first.head
    flowed-block = rw frames-more
        (Flowed-put acts first.flow flow mid first.coding _ _ b.given clips mid_clips first.wrote wrote out mid_out first.head (p.flowed bytes known) p.hungry.not_ended b.fed b.gave (rw p.coded at b.clipped) (rw p.coded at b.put) b.written)

  -- a whole buffer of frames went through the flow, and then it was stepped until it waited
  pub Pumped-block : (new : Parts S) (new_clips : ℕ) (new_out : Pending) (new_wrote : Option (List ℕ)) → Drained acts mid new coding mid_clips new_clips wrote new_wrote mid_out new_out → RunWaits acts new
      → bytes_put new_out ≤ 68 + 64 * given_by acts new.left new.stages → new_clips ≤ 16 * given_by acts new.left new.stages
      → Pumped acts device first new source' progress' coding new_clips new_out new_wrote
  Pumped-block new new_clips new_out new_wrote q waits free bound = record {
    maximum = rw frames-block b.held.bound;
    begun = ap (λ (r : Reading). r.over) b.counted ∙ p.begun;
    ends = (ap (λ (r : Reading). r.missing) b.counted ∙ p.ends.0, ap (λ (r : Reading). r.stray) b.counted ∙ p.ends.1);
    at = b.counted ∙ ap (λ r. after_frames r b.count) p.at ∙ after_frames-add first.progress progress.frames b.count ∙ ap (after_frames first.progress) (sym frames-block);
    size = ap size_of b.counted ∙ p.size;
    hungry = waits.hungry (q.gives.ended ∙ running-block);
    taken = q.gives.taken ∙ taken-block;
    width = q.gives.channels ∙ b.gave.channels ∙ p.width ∙ sym (ap (λ (r : Reading). r.channels) b.counted);
    stay = q.gives.recipes_stay ∙ b.gave.recipes_stay ∙ p.stay;
    kept = q.gives.channels ∙ b.gave.channels ∙ p.kept;
    wants = wants-block;
    free = free;
    bound = bound;
    coded = p.coded;
    ran = ran-block;
    flowed = λ bytes known. let f = flowed-block bytes known in let r = rw p.coded at q in Flowed-more acts f r (Through-gave acts first.flow mid new _ f.given r.given f.through running-block r.gives);
    takes =
        let size : ℕ = size_of first.progress in
        let same : b.count * size_of progress ≡ b.count * size = ap (λ n. b.count * n) p.size in
        let all : progress.frames * size + b.count * size_of progress ≡ progress'.frames * size = rw (frames-block, same) (omega arith) in
        rw (← all) (Takes-turn device.delivered first.source source source source' (progress.frames * size) (b.count * size_of progress) p.takes (Takes-none device.delivered source) b.bytes b.reader b.held.there);
    reads = ap device.failures b.reader ∙ p.reads;
  }

  -- the writer failed while it was stepped
  pub Pumped-cut : (new : Parts S) (new_clips : ℕ) (new_out : Pending) (new_wrote : Option (List ℕ)) → RunCutOff acts mid new coding mid_clips new_clips wrote new_wrote mid_out new_out
      → PumpedFront acts device first new source' progress' new_clips new_out new_wrote
  Pumped-cut new new_clips new_out new_wrote q = record {
    maximum = rw frames-block b.held.bound;
    begun = ap (λ (r : Reading). r.over) b.counted ∙ p.begun;
    ends = (ap (λ (r : Reading). r.missing) b.counted ∙ p.ends.0, ap (λ (r : Reading). r.stray) b.counted ∙ p.ends.1);
    running = q.gives.ended ∙ running-block;
    taken = q.gives.taken ∙ taken-block;
    stay = q.gives.recipes_stay ∙ b.gave.recipes_stay ∙ p.stay;
    kept = q.gives.channels ∙ b.gave.channels ∙ p.kept;
    wants = wants-block;
    whole = λ bytes known. (ran-block bytes known).whole;
    left = λ bytes known. (ran-block bytes known).to_come_is;
    flowed = λ bytes known. let f = flowed-block bytes known in let r = rw p.coded at q in FlowedFront-more acts f r (Through-gave acts first.flow mid new _ f.given r.given f.through running-block r.gives);
    reads = ap device.failures b.reader ∙ p.reads;
  }

-- one frame that was read went through the flow, which was stepped until it waited
pub Pumped-turn : {S R X : Type 0} (acts : Acts S R) (device : ByteReader X) (first : Start S X) (flow fed new : Parts S) (source source' : Held X) (progress progress' : Reading) (coding : Coding)
    (clips new_clips : ℕ) (out new_out : Pending) (wrote new_wrote : Option (List ℕ)) (frame : Samples)
    → Pumped acts device first flow source progress coding clips out wrote
    → progress' ≡ after_frame progress → progress'.frames ≤ MAX_FRAMES → IfKnown (to_come device.rest source) (λ bytes. TakesFrame progress bytes frame (to_come device.rest source')) → Takes device.delivered source source' (size_of progress)
    → device.failures source'.reader ≡ device.failures source.reader → enough_for (kinds acts flow.stages) (taken_of flow) ≡ false → fed ≡ record flow { inlet = Some frame }
    → Drained acts fed new coding clips new_clips wrote new_wrote out new_out → RunWaits acts new → bytes_put new_out ≤ 68 + 64 * given_by acts new.left new.stages → new_clips ≤ 16 * given_by acts new.left new.stages
    → Pumped acts device first new source' progress' coding new_clips new_out new_wrote
Pumped-turn acts device first flow fed new source source' progress progress' coding clips new_clips out new_out wrote new_wrote frame p counted maximum takes taken reads unspent is q waits free bound =
    let turn : ℕ = progress.frames in
    let size : ℕ = size_of first.progress in
    let more : (turn + 1) * size ≡ turn * size + size = omega arith in
    let count : progress'.frames ≡ turn + 1 = ap (λ (r : Reading). r.frames) counted in
    let gives = q.gives in
    let going : fed.ended ≡ false = ap (λ (h : Parts _). h.ended) is ∙ p.hungry.not_ended in
    let wide : WantsMore (kinds acts first.flow.stages) (turn + 1) =
    WantsMore-next (kinds acts first.flow.stages) turn p.wants (sym (enough-same acts first.flow flow turn p.stay p.taken) ∙ unspent) in
    record {
      maximum = maximum;
      begun = ap (λ (r : Reading). r.over) counted ∙ p.begun;
      ends = (ap (λ (r : Reading). r.missing) counted ∙ p.ends.0, ap (λ (r : Reading). r.stray) counted ∙ p.ends.1);
      at = counted ∙ ap after_frame p.at ∙ after_frames-more first.progress turn ∙ ap (after_frames first.progress) (sym count);
      size = ap size_of counted ∙ p.size;
      hungry = waits.hungry (gives.ended ∙ going);
      taken = gives.taken ∙ taken-take acts flow fed frame p.hungry.empty is ∙ ap (λ m. m + 1) p.taken ∙ sym count;
      width = gives.channels ∙ ap (λ (h : Parts _). h.channels) is ∙ p.width ∙ sym (ap (λ (r : Reading). r.channels) counted);
      stay = gives.recipes_stay ∙ ap (λ (h : Parts _). recipes acts h.stages) is ∙ p.stay;
      kept = gives.channels ∙ ap (λ (h : Parts _). h.channels) is ∙ p.kept;
      wants = subst (WantsMore (kinds acts first.flow.stages)) (sym count) wide;
      free = free;
      bound = bound;
      coded = p.coded;
      ran = λ bytes known.
          let ran = p.ran bytes known in
          let Read : ℕ → Type 0 = λ n. RanFrames first.progress progress' bytes n (to_come device.rest source') in
          subst Read (sym count) (Ran-turn _ _ _ bytes _ turn _ _ ran (takes (drop (turn * size) bytes) ran.to_come_is) counted);
      flowed = λ bytes known.
          let ran = p.ran bytes known in
          let taken = takes (drop (turn * size) bytes) ran.to_come_is in
          let frames = ap (λ n. sound_frames first.progress n bytes) count ∙ sound_frames-more _ _ _ _ _ _ _ ran taken in
          rw frames
          (Flowed-turn acts first.flow flow fed new first.coding _ _ _ _ _ _ _ _ first.head (p.flowed bytes known) p.hungry _ is (rw p.coded at q));
      takes = Takes-both device.delivered first.source source source' (turn * size) size _ (sym (ap (λ n. n * size) count ∙ more)) p.takes (rw p.size at taken);
      reads = reads ∙ p.reads;
    }

module _ {S R X : Type 0} (acts : Acts S R) (device : ByteReader X) (first : Start S X)
    (flow : Parts S) (source : Held X) (progress : Reading) (coding : Coding) (clips : ℕ) (out new_out : Pending) (wrote new_wrote : Option (List ℕ))
    (p : Pumped acts device first flow source progress coding clips out wrote)
    (s : SendsOn wrote new_wrote out new_out) where
  -- bytes that waited went to the writer
  pub Pumped-sent : bytes_put new_out ≡ bytes_put out → Pumped acts device first flow source progress coding clips new_out new_wrote
  Pumped-sent count = record {
    maximum = p.maximum;
    begun = p.begun;
    ends = p.ends;
    at = p.at;
    size = p.size;
    hungry = p.hungry;
    taken = p.taken;
    width = p.width;
    stay = p.stay;
    kept = p.kept;
    wants = p.wants;
    free = omega (arith, count, p.free);
    bound = p.bound;
    coded = p.coded;
    ran = p.ran;
    flowed = λ bytes known.
        let f = p.flowed bytes known in
        record { given = f.given; through = f.through; clipped = f.clipped; sent = s first.wrote (first.head ++ coded first.coding f.given) f.sent };
    takes = p.takes;
    reads = p.reads;
  }

  -- the writer failed at them
  pub Pumped-stuck : PumpedFront acts device first flow source progress clips new_out new_wrote
  Pumped-stuck = record {
    maximum = p.maximum;
    begun = p.begun;
    ends = p.ends;
    running = p.hungry.not_ended;
    taken = p.taken;
    stay = p.stay;
    kept = p.kept;
    wants = p.wants;
    whole = λ bytes known. (p.ran bytes known).whole;
    left = λ bytes known. (p.ran bytes known).to_come_is;
    flowed = λ bytes known.
        let f = p.flowed bytes known in
        let sent = s first.wrote (first.head ++ coded first.coding f.given) f.sent in
        record { given = f.given; through = f.through; clipped = f.clipped; front = record { part = sent.within; took = sent.taken } };
    reads = p.reads;
  }
