use Rattle.std.proofs.Common.{◌≡◌, ◌+◌, ◌-◌, ◌<◌, length, drop, ap, ◌∙◌, arith, take, sym, Some}
use Rattle.std.proofs.lemmas.List.{length-drop, drop-drop, take-take, length-take}
use Rattle.std.proofs.lemmas.Result.{IfErr-weaker}
use Rattle.fx_sound.proofs.Faults.{IfOk-both}
use Rattle.fx_sound.proofs.Held.{Tells-both}
use Rattle.fx_sound.proofs.WaveRiff.{riff-short, riff-cut, riff-chunks, riff-unknown, riff-chunks-cut}
use Rattle.fx_sound.proofs.Standing.{stands-taken, stands-unread, stands-rest}
use Rattle.fx_sound.proofs.wave.read_wav.Goals as goal

pub returns-in_default-clause-cut : goal.returns-in_default-clause-cut
returns-in_default-clause-cut g c = λ _.
    let short = c.in_default.ensures.failed.short in
    let eight = c.fill.auto.out in
    record {
      came = short.came;
      tells = short.tells;
      undecided = λ bytes known. riff-cut bytes short.came (omega (arith, short.bound));
    }

pub returns-then-got-lt8-clause-fault : goal.returns-then-got-lt8-clause-fault
returns-then-got-lt8-clause-fault g c = λ _ bytes known.
    let eight = c.fill.auto.out in
    let all : c.in-Ok.got ≡ length bytes = c.in-Ok.ensures.taken.all (omega arith) bytes known in
    riff-short bytes (omega arith)

pub returns-then-ne-clause-fault : goal.returns-then-ne-clause-fault
returns-then-ne-clause-fault g c = λ _ bytes known.
    let eight = c.fill.auto.out in
    let front = c.in-Ok.ensures.filled.known bytes known in
    let first = c.in-Ok.ensures.taken.bytes bytes known in
    let count = c.in-Ok.ensures.taken.count in
    riff-unknown bytes c.fill.new.out c.name_at-name.result c.in-Ok.got front first.0 (omega arith) (omega arith) (omega arith) (c.name_at-name.ensures ∙ take-take 4 4 (drop 4 c.fill.new.out) (omega arith)) c.if-ne.ensures

pub returns-clause-fields : goal.returns-clause-fields
returns-clause-fields g c = IfOk-both c.read_chunks.result _ _ _ c.read_chunks.ensures.offset c.read_chunks.ensures.head (λ head place chunks bytes known.
    let eight = c.fill.auto.out in
    let front = c.in-Ok.ensures.filled.known bytes known in
    let first = c.in-Ok.ensures.taken.bytes bytes known in
    let count = c.in-Ok.ensures.taken.count in
    let far : 12 < head.offset = place.0 in
    let then = chunks _ first.1 in
    let all : c.in-Ok.got + (head.offset - 12) ≡ head.offset - 4 = omega arith in (
      riff-chunks bytes c.fill.new.out c.name_at-name.result c.in-Ok.got front first.0 (omega arith) (omega arith) (omega arith) (c.name_at-name.ensures ∙ take-take 4 4 (drop 4 c.fill.new.out) (omega arith)) c.if-ne.ensures ∙ then.0,
      omega (arith, then.1, first.0, length-drop c.in-Ok.got bytes),
      then.2 ∙ ap Some (drop-drop (head.offset - 12) c.in-Ok.got bytes ∙ ap (λ i. drop i bytes) all),
    ))

pub returns-clause-fault : goal.returns-clause-fault
returns-clause-fault g c = IfErr-weaker c.read_chunks.result _ _ (λ fault refuses not_read bytes known.
    let eight = c.fill.auto.out in
    let front = c.in-Ok.ensures.filled.known bytes known in
    let first = c.in-Ok.ensures.taken.bytes bytes known in
    let count = c.in-Ok.ensures.taken.count in
    riff-chunks bytes c.fill.new.out c.name_at-name.result c.in-Ok.got front first.0 (omega arith) (omega arith) (omega arith) (c.name_at-name.ensures ∙ take-take 4 4 (drop 4 c.fill.new.out) (omega arith)) c.if-ne.ensures
    ∙ refuses not_read _ first.1) c.read_chunks.ensures.fault

pub returns-clause-cut : goal.returns-clause-cut
returns-clause-cut g c = IfErr-weaker c.read_chunks.result _ _ (λ fault fails is_read.
    let eight = c.fill.auto.out in
    let count = c.in-Ok.ensures.taken.count in
    let cut = fails is_read in
    record {
      came = c.in-Ok.got + cut.came;
      tells = Tells-both g.R.ByteIn.reads.delivered _ _ _ c.in-Ok.got cut.came c.in-Ok.ensures.taken.delivered cut.tells;
      undecided = λ bytes known.
          let front = c.in-Ok.ensures.filled.known bytes known in
          let first = c.in-Ok.ensures.taken.bytes bytes known in
          riff-chunks-cut bytes c.fill.new.out c.name_at-name.result c.in-Ok.got cut.came front first.0 (omega arith) (omega arith) (omega arith) (c.name_at-name.ensures ∙ take-take 4 4 (drop 4 c.fill.new.out) (omega arith)) c.if-ne.ensures
          ∙ cut.undecided _ first.1;
    }) c.read_chunks.ensures.cut

pub returns-in_default-clause-stands : goal.returns-in_default-clause-stands
returns-in_default-clause-stands g c = λ bytes known. stands-unread g.R.ByteIn.reads.rest g.R.ByteIn.reads.delivered _ _ _ _ bytes c.in_default.ensures.failed.untaken (c.in_default.ensures.failed.front bytes known)

pub returns-then-got-lt8-clause-stands : goal.returns-then-got-lt8-clause-stands
returns-then-got-lt8-clause-stands g c = λ bytes known.
    let first = c.in-Ok.ensures.taken.bytes bytes known in
    stands-taken g.R.ByteIn.reads.rest g.R.ByteIn.reads.delivered _ _ _ _ bytes _ c.in-Ok.got (omega arith) c.in-Ok.ensures.taken.delivered (λ k lt. riff-cut bytes k (omega arith)) first.0 first.1 (riff-cut bytes c.in-Ok.got (omega arith)) (λ _. let size = c.fill.auto.out in c.in-Ok.ensures.taken.all (omega arith) bytes known)

pub returns-then-ne-clause-stands : goal.returns-then-ne-clause-stands
returns-then-ne-clause-stands g c = λ bytes known.
    let eight = c.fill.auto.out in
    let front = c.in-Ok.ensures.filled.known bytes known in
    let first = c.in-Ok.ensures.taken.bytes bytes known in
    let count = c.in-Ok.ensures.taken.count in
    stands-taken g.R.ByteIn.reads.rest g.R.ByteIn.reads.delivered _ _ _ _ bytes _ c.in-Ok.got (omega arith) c.in-Ok.ensures.taken.delivered (λ k lt. riff-cut bytes k (omega arith)) first.0 first.1
    (riff-unknown (take c.in-Ok.got bytes) c.fill.new.out c.name_at-name.result c.in-Ok.got (front ∙ sym (take-take c.in-Ok.got c.in-Ok.got bytes (omega arith))) (omega (arith, first.0, length-take c.in-Ok.got bytes)) (omega arith) (omega arith) (omega arith) (c.name_at-name.ensures ∙ take-take 4 4 (drop 4 c.fill.new.out) (omega arith)) c.if-ne.ensures) (λ cut. absurd (cc))

pub returns-clause-stands : goal.returns-clause-stands
returns-clause-stands g c = IfErr-weaker c.read_chunks.result _ _ (λ fault stands bytes known.
    let eight = c.fill.auto.out in
    let front = c.in-Ok.ensures.filled.known bytes known in
    let first = c.in-Ok.ensures.taken.bytes bytes known in
    let count = c.in-Ok.ensures.taken.count in
    stands-rest g.R.ByteIn.reads.rest g.R.ByteIn.reads.delivered _ _ _ _ _ _ _ bytes c.in-Ok.got fault first.0 (omega arith) c.in-Ok.ensures.taken.delivered
    (λ k lt. riff-cut bytes k (omega arith))
    (λ k _ decided. riff-chunks-cut bytes c.fill.new.out c.name_at-name.result c.in-Ok.got k front first.0 (omega arith) (omega arith) (omega arith) (c.name_at-name.ensures ∙ take-take 4 4 (drop 4 c.fill.new.out) (omega arith)) c.if-ne.ensures ∙ decided)
    (stands _ first.1)) c.read_chunks.ensures.stands
