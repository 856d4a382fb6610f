use Rattle.std.proofs.Common.{◌≡◌, false, refl, ℕ, ◌+◌, ◌*◌, ◌++◌, ◌∷◌, [], drop, take, sym, ap, ◌∙◌, arith, rules, Ok, Err, OnErr, Result}
use Rattle.fx_sound.specs.FrameCoding.{coded_samples}
use Rattle.fx_sound.specs.Container.{after_frames, first_frames}
use Rattle.fx_sound.proofs.RunLaws.{after_frames-more, Ran-rest_unchanged, Ran-turn, Ran-end, Ran-whole, Ran-failed, first_frames-more, first_frames-within}
use Rattle.fx_sound.specs.Sound.{Reading, size_of, within_sound, after_frame}
use Rattle.fx_sound.specs.declared.progress.ReadFault.TheVariants.{ReadFailed, TooLong}
use Rattle.fx_sound.proofs.sound.read_frames.Goals as goal
use Rattle.fx_sound.proofs.Held.{HoldsWhatCame-rest, Takes-both}
use Rattle.fx_sound.specs.Fault.{is_sound_read_failed}
use Rattle.fx_sound.specs.declared.progress.ReadFault.{ReadFault}
use Rattle.fx_sound.specs.declared.sound.SoundFault.TheVariants.{Read}

-- what always is, is where a result is an error
on-error : {X E P : Type 0} (result : Result X E) → P → OnErr result P
on-error (Ok x) holds = tt
on-error (Err e) holds = holds

-- a read that did not fail met a sound that is too long
too-long : (fault : ReadFault) → is_sound_read_failed {X = ℕ} (Err (Read fault)) ≡ false → fault ≡ TooLong
too-long ReadFailed h = absurd (cc)
too-long TooLong h = refl

pub returns-in_err-map_err-in-Ok-Some-clause-counted : goal.returns-in_err-map_err-in-Ok-Some-clause-counted
returns-in_err-map_err-in-Ok-Some-clause-counted g c =
    let p : Reading = c.args.progress.now in
    let n : ℕ = c.loop-turn._turn in
    let next = rw c.in-Ok-Some.field-0-is at c.in-Ok-Some.ensures in
    let is : c.next_frame.new.progress ≡ after_frames p (n + 1) = next.frame.counted ∙ ap after_frame c.loop-turn.invariant.now ∙ after_frames-more p n in
    let frames : c.next_frame.new.progress.frames ≡ p.frames + (n + 1) = ap (λ q. q.frames) is in
    let count : n + 1 ≡ c.next_frame.new.progress.frames = omega (arith, frames, c.requires.fresh) in
    on-error c.from_residual.result (is ∙ ap (after_frames p) count)

pub returns-in_err-map_err-in-Ok-Some-clause-stands : goal.returns-in_err-map_err-in-Ok-Some-clause-stands
returns-in_err-map_err-in-Ok-Some-clause-stands g c =
    let old = c.loop-turn.invariant in
    let p : Reading = c.args.progress.now in
    let n : ℕ = c.loop-turn._turn in
    let next = rw c.in-Ok-Some.field-0-is at c.in-Ok-Some.ensures in
    let frames : c.next_frame.new.progress.frames ≡ p.frames + n + 1 = ap (λ q. q.frames) next.frame.counted ∙ ap (λ q. q.frames + 1) old.now in
    let count : c.next_frame.new.progress.frames ≡ n + 1 = omega (arith, frames, c.requires.fresh) in
    on-error c.from_residual.result (λ _ bytes known.
    let ran = old.ran bytes known in
    rw count (Ran-turn p c.loop-turn.progress c.next_frame.new.progress bytes c.in-Ok-Some.frame n _ _ ran (next.frame.value (drop (n * size_of p) bytes) ran.to_come_is) next.frame.counted).to_come_is)

pub returns-in-Ok-None-clause-whole : goal.returns-in-Ok-None-clause-whole
returns-in-Ok-None-clause-whole g c =
    let old = c.loop-turn.invariant in
    let p : Reading = c.args.progress.now in
    let n : ℕ = c.loop-turn._turn in
    let next = rw c.in-Ok-None.field-0-is at c.in-Ok-None.ensures in
    let met = next.end (ap (λ q. q.over) old.now ∙ c.requires.begun) in
    record {
      frames = λ bytes known.
          let ran = old.ran bytes known in
          let end = Ran-end p c.loop-turn.progress c.next_frame.new.progress bytes n _ ran (met.end (drop (n * size_of p) bytes) ran.to_come_is) in
          old.items bytes known ∙ sym (first_frames-within p.coding p.channels n p.left bytes ran.whole)
          ∙ ap (λ m. first_frames p.coding p.channels m (within_sound p.left bytes)) end.0;
      end = λ bytes known.
          let ran = old.ran bytes known in
          (Ran-end p c.loop-turn.progress c.next_frame.new.progress bytes n _ ran (met.end (drop (n * size_of p) bytes) ran.to_come_is)).1;
      left = λ bytes known.
          let ran = old.ran bytes known in
          Ran-rest_unchanged p c.loop-turn.progress bytes n _ _ ran (met.left (drop (n * size_of p) bytes) ran.to_come_is);
    }

pub returns-in-Err-clause-read_failed : goal.returns-in-Err-clause-read_failed
returns-in-Err-clause-read_failed g c = λ e.
    let old = c.loop-turn.invariant in
    let p : Reading = c.args.progress.now in
    let is : c.in-Err.fault ≡ ReadFailed = cc in
    let cut = c.in-Err.ensures.read_failed (ap Err is) in
    let none : p.frames + c.loop-turn._turn ≡ c.loop-turn._turn = omega (arith, c.requires.fresh) in
    let count : c.next_frame.new.progress.frames ≡ c.loop-turn._turn = ap (λ q. q.frames) c.in-Err.ensures.err ∙ ap (λ q. q.frames) old.now ∙ none in
    let size : ℕ = c.loop-turn._turn * size_of p in
    record {
      read_failed = rw count (Ran-failed g.R.ByteIn.reads.delivered p c.loop-turn.progress c.loop-turn._turn c.args.source.now c.loop-turn.source c.next_frame.new.source.reader old.now old.delivered cut.short);
      came = λ bytes known. rw count (HoldsWhatCame-rest g.R.ByteIn.reads.delivered c.args.source.now c.loop-turn.source c.next_frame.new.source bytes size old.delivered (cut.came (drop size bytes) (old.ran bytes known).to_come_is));
    }

pub returns-in-Err-clause-stands : goal.returns-in-Err-clause-stands
returns-in-Err-clause-stands g c = λ no bytes known.
    let old = c.loop-turn.invariant in
    let none : c.args.progress.now.frames + c.loop-turn._turn ≡ c.loop-turn._turn = omega (arith, c.requires.fresh) in
    let count : c.next_frame.new.progress.frames ≡ c.loop-turn._turn = ap (λ q. q.frames) c.in-Err.ensures.err ∙ ap (λ q. q.frames) old.now ∙ none in
    rw count ((c.in-Err.ensures.too_long (ap Err (too-long c.in-Err.fault no))).1 _ (old.ran bytes known).to_come_is)

pub returns-in-Err-clause-too_long : goal.returns-in-Err-clause-too_long
returns-in-Err-clause-too_long g c = λ e bytes known.
    let old = c.loop-turn.invariant in
    let p : Reading = c.args.progress.now in
    let is : c.in-Err.fault ≡ TooLong = cc in
    let follows = (c.in-Err.ensures.too_long (ap Err is)).0 in
    let ran = old.ran bytes known in
    let whole = Ran-whole p c.loop-turn.progress bytes c.loop-turn._turn _ ran (follows.whole (drop (c.loop-turn._turn * size_of p) bytes) ran.to_come_is) in
    let none : p.frames + c.loop-turn._turn ≡ c.loop-turn._turn = omega (arith, c.requires.fresh) in
    let count : c.loop-turn._turn ≡ 1099511627776 = sym none ∙ sym (ap (λ q. q.frames) old.now) ∙ follows.maximum in
    rw count at whole

pub loop-turn-preserved : goal.loop-turn-preserved
loop-turn-preserved g c =
    let old = c.loop-turn.invariant in
    let p : Reading = c.args.progress.now in
    let n : ℕ = c.loop-turn._turn in
    let size : ℕ = size_of p in
    let next = rw c.in-Ok-Some.field-0-is at c.in-Ok-Some.ensures in
    let same : size_of c.loop-turn.progress ≡ size = ap size_of old.now in
    let more : n * size + size_of c.loop-turn.progress ≡ (n + 1) * size = omega (arith, same) in
    let pushed : c.push.new.self.items ≡ c.loop-turn.frames.items ++ c.in-Ok-Some.frame ∷ [] = search rules in
    record {
      now = next.frame.counted ∙ ap after_frame old.now ∙ after_frames-more p n;
      maximum = next.maximum;
      failures = next.failures ∙ old.failures;
      ran = λ bytes known.
          let ran = old.ran bytes known in
          Ran-turn p c.loop-turn.progress c.next_frame.new.progress bytes c.in-Ok-Some.frame n _ _ ran (next.frame.value (drop (n * size) bytes) ran.to_come_is) next.frame.counted;
      items = λ bytes known.
          let ran = old.ran bytes known in
          let taken = next.frame.value (drop (n * size) bytes) ran.to_come_is in
          let frame : c.in-Ok-Some.frame ≡ coded_samples p.coding p.channels (take size (drop (n * size) bytes)) =
          taken.samples ∙ ap (λ q. coded_samples q.coding q.channels (take (size_of q) (drop (n * size) bytes))) old.now in
          pushed ∙ ap (λ l. l ++ c.in-Ok-Some.frame ∷ []) (old.items bytes known)
          ∙ ap (λ f. first_frames p.coding p.channels n bytes ++ f ∷ []) frame ∙ sym (first_frames-more p.coding p.channels n bytes);
      delivered = Takes-both g.R.ByteIn.reads.delivered c.args.source.now c.loop-turn.source c.next_frame.new.source (n * size) (size_of c.loop-turn.progress) _ more old.delivered next.frame.delivered;
    }
