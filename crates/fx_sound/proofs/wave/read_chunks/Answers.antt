use Rattle.std.proofs.Common.{◌≡◌, ◌+◌, ◌-◌, ◌≤◌, drop, sym, ap, ◌∙◌, arith, subst, Some, Ok}
use Rattle.std.proofs.lemmas.List.{length-drop, drop-drop}
use Rattle.fx_sound.specs.declared.wave.ChunkStep.{ChunkStep}
use Rattle.fx_sound.specs.declared.wave.ChunkStep.TheVariants as step
use Rattle.fx_sound.specs.Wave.{end_of, GoesOn, IsProperSeen, max_chunk_bytes, max_chunks, chunks_of}
use Rattle.fx_sound.proofs.Faults.{IfErr-passed}
use Rattle.fx_sound.proofs.Held.{Takes-both, Tells-both}
use Rattle.fx_sound.proofs.WaveLemmas.{turn-next, turn-sound, turn-fault}
use Rattle.fx_sound.proofs.WaveCut.{cut-next, early-next}
use Rattle.fx_sound.proofs.Standing.{stands-rest}
use Rattle.fx_sound.proofs.wave.read_chunks.Goals as goal

pub returns-in_err-head-clause-fault : goal.returns-in_err-head-clause-fault
returns-in_err-head-clause-fault g c = IfErr-passed c.from_residual.result _ _ c.from_residual.ensures.1 (λ not_read bytes known.
    let old = c.loop-turn.invariant.rest bytes known in
    sym old.2 ∙ turn-fault max_chunks c.loop-turn._turn c.loop-turn.offset c.loop-turn.seen _ c.in_err-head.field-0.0 (omega arith) (c.in_err-head.ensures.fault not_read _ old.1))

pub returns-in-Sound-clause-head : goal.returns-in-Sound-clause-head
returns-in-Sound-clause-head g c = λ bytes known.
    let far = c.loop-turn.invariant.far in
    let old = c.loop-turn.invariant.rest bytes known in
    let new = c.in_ok-head.ensures.step _ old.1 in
    let P : ChunkStep → Type 0 = GoesOn c.loop-turn.offset in
    let on : P (step.Sound c.in-Sound.head) = subst P c.in-Sound.is c.in_ok-head.ensures.on in
    let here : c.in-Sound.head.offset ≡ c.loop-turn.offset + 8 = on.0 in
    let end : end_of c.in_ok-head.field-0 ≡ c.in-Sound.head.offset = ap end_of c.in-Sound.is in
    let all : c.loop-turn.offset - 12 + (end_of c.in_ok-head.field-0 - c.loop-turn.offset) ≡ c.in-Sound.head.offset - 12 = omega arith in (
      sym old.2 ∙ turn-sound max_chunks c.loop-turn._turn c.loop-turn.offset c.loop-turn.seen _ c.in-Sound.head (omega arith) (new.0 ∙ ap Ok c.in-Sound.is),
      omega (arith, new.1, old.0, length-drop (c.loop-turn.offset - 12) bytes),
      new.2 ∙ ap Some (drop-drop (end_of c.in_ok-head.field-0 - c.loop-turn.offset) (c.loop-turn.offset - 12) bytes ∙ ap (λ i. drop i bytes) all),
    )

pub loop-turn-preserved : goal.loop-turn-preserved
loop-turn-preserved g c =
    let far = c.loop-turn.invariant.far in
    let P : ChunkStep → Type 0 = GoesOn c.loop-turn.offset in
    let on : (c.loop-turn.offset + 8 ≤ c.in-Next.next) × (c.in-Next.next ≤ max_chunk_bytes) × IsProperSeen c.in-Next.format = subst P c.in-Next.is c.in_ok-head.ensures.on in
    let end : end_of c.in_ok-head.field-0 ≡ c.in-Next.next = ap end_of c.in-Next.is in
    let all : c.loop-turn.offset - 12 + (end_of c.in_ok-head.field-0 - c.loop-turn.offset) ≡ c.in-Next.next - 12 = omega (arith, on.0) in
    let all-2 : c.loop-turn.offset - 12 + (c.in-Next.next - c.loop-turn.offset) ≡ c.in-Next.next - 12 = omega (arith, on.0) in
    record {
      far = omega (arith, on.0);
      near = on.1;
      seen = on.2;
      rest = λ bytes known.
          let old = c.loop-turn.invariant.rest bytes known in
          let new = c.in_ok-head.ensures.step _ old.1 in (
            omega (arith, new.1, old.0, on.0, length-drop (c.loop-turn.offset - 12) bytes),
            new.2 ∙ ap Some (drop-drop (end_of c.in_ok-head.field-0 - c.loop-turn.offset) (c.loop-turn.offset - 12) bytes ∙ ap (λ i. drop i bytes) all),
            ap (chunks_of (max_chunks - (c.loop-turn._turn + 1)) c.in-Next.next c.in-Next.format) (ap (λ i. drop i bytes) (sym all-2) ∙ sym (drop-drop (c.in-Next.next - c.loop-turn.offset) (c.loop-turn.offset - 12) bytes))
                ∙ sym (turn-next max_chunks c.loop-turn._turn c.loop-turn.offset c.in-Next.next c.loop-turn.seen c.in-Next.format _ (omega arith) (new.0 ∙ ap Ok c.in-Next.is))
                ∙ old.2,
          );
      delivered = Takes-both g.R.ByteIn.reads.delivered _ _ c.read_step.new.source _ _ _ all c.loop-turn.invariant.delivered c.in_ok-head.ensures.delivered;
      cut = λ bytes known.
          let old = c.loop-turn.invariant.rest bytes known in
          let new = c.in_ok-head.ensures.step _ old.1 in
          cut-next max_chunks c.loop-turn._turn c.loop-turn.offset c.in-Next.next c.loop-turn.seen c.in-Next.format bytes (omega arith) (omega arith) on.0
          (new.0 ∙ ap Ok c.in-Next.is) (omega (arith, new.1)) (c.loop-turn.invariant.cut bytes known);
      early = λ bytes known.
          let old = c.loop-turn.invariant.rest bytes known in
          let new = c.in_ok-head.ensures.step _ old.1 in
          early-next max_chunks c.loop-turn._turn c.loop-turn.offset c.in-Next.next c.loop-turn.seen c.in-Next.format bytes (omega arith) (omega arith)
          (new.0 ∙ ap Ok c.in-Next.is) (c.loop-turn.invariant.cut bytes known) (c.loop-turn.invariant.early bytes known);
      failures = c.in_ok-head.ensures.failures ∙ c.loop-turn.invariant.failures;
    }

pub returns-in_err-head-clause-cut : goal.returns-in_err-head-clause-cut
returns-in_err-head-clause-cut g c = IfErr-passed c.from_residual.result _ _ c.from_residual.ensures.1 (λ is_read.
    let cut = c.in_err-head.ensures.cut is_read in
    record {
      came = c.loop-turn.offset - 12 + cut.came;
      tells = Tells-both g.R.ByteIn.reads.delivered _ _ _ (c.loop-turn.offset - 12) cut.came c.loop-turn.invariant.delivered cut.tells;
      undecided = λ bytes known.
          let old = c.loop-turn.invariant.rest bytes known in
          sym (c.loop-turn.invariant.cut bytes known cut.came)
          ∙ turn-fault max_chunks c.loop-turn._turn c.loop-turn.offset c.loop-turn.seen _ _ (omega arith) (cut.undecided _ old.1);
    })

pub returns-in_err-head-clause-stands : goal.returns-in_err-head-clause-stands
returns-in_err-head-clause-stands g c = IfErr-passed c.from_residual.result _ _ c.from_residual.ensures.1 (λ bytes known.
    let far = c.loop-turn.invariant.far in
    let near = c.loop-turn.invariant.near in
    let old = c.loop-turn.invariant.rest bytes known in
    stands-rest g.R.ByteIn.reads.rest g.R.ByteIn.reads.delivered _ _ _ _ _ _ _ bytes (c.loop-turn.offset - 12) _ old.0 (omega arith) c.loop-turn.invariant.delivered (c.loop-turn.invariant.early bytes known)
    (λ k _ decided. sym (c.loop-turn.invariant.cut bytes known k) ∙ turn-fault max_chunks c.loop-turn._turn c.loop-turn.offset c.loop-turn.seen _ _ (omega arith) decided)
    (c.in_err-head.ensures.stands _ old.1))
