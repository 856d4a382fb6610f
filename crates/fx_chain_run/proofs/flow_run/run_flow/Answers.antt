use Rattle.std.proofs.Common.{rules, ◌≡◌, ◌∙◌, inl, inr, length, refl, sym, ap, arith, Err}
use Rattle.std.proofs.lemmas.Grind.{common_steps}
use Rattle.fx_chain_run.specs.declared.pump.Cause.TheVariants.{ReadFailed, WriteFailed, TooLong}
use Rattle.fx_chain_run.specs.FrameWriter.{coded_clips}
use Rattle.std.proofs.lemmas.List.{append-nil}
use Rattle.fx_chain_run.specs.Report.{clip_counts_of, start_of}
use Rattle.fx_chain_run.specs.Run.{sound_frames}
use Rattle.fx_chain_run.proofs.Running.{Sent-bytes_put, all-given, clips-all, moves-all, ended-known, ends-known, not-over, sound-length, stands-rest_unchanged, stopped-due, stopped-front, wrote-all, wrote-front}
use Rattle.fx_chain_run.proofs.flow_run.run_flow.Goals as goal

pub returns-in_default-clause-stopped : goal.returns-in_default-clause-stopped
returns-in_default-clause-stopped g c = record {
  stopped =
      λ bytes known.
      let p = rw (c.new-progress.ensures, c.as_slice.ensures ∙ c.streamed_head-written.ensures) at c.in-Ok.ensures in
      let r = c.report_of.ensures in
      let flowed = p.sent.sent refl bytes known in
      let count = c.bytes_put.ensures ∙ Sent-bytes_put _ _ _ _ flowed.sent in
      let long = sound-length _ _ _ _ count (rw (c.as_slice-in-Ok.ensures ∙ c.streamed_head-written.ensures) at c.saturating_sub-sound.ensures) in
      let closed = rw (c.padding.ensures.value) at (c.in_default.ensures.front _ _ flowed.sent) in
      let all = all-given g.S.Stage.acts _ _ _ _ flowed.through p.flow.done in
      rw (r.frames_in)
      (stopped-front g.S.Stage.acts _ _ c.args.target _ bytes _ _ _ _ _ flowed.through
      r.frames_out (r.out_clips ∙ c.close.ensures.clips ∙ flowed.clipped) refl
      (inr (p.flow.done, rw (r.bytes_out) (wrote-front g.S.Stage.acts c.args.flow.now c.pump-pumped.new.flow c.args.target (sound_frames (start_of c.args.head.now) c.pump-pumped.new.progress.frames bytes) _ _ _ _ _ all long closed)))
      (p.taken.whole bytes known)
      (rw (r.ends.0, r.ends.1) (ends-known _ bytes _ _ _ _ _ _ known p.taken.met p.taken.ends)));
  due_flushed = first_of (search rules, grind (arith, common_steps));
  read_failed = first_of (search rules, grind (arith, common_steps));
}

pub returns-in-Ok-close-clause-completed : goal.returns-in-Ok-close-clause-completed
returns-in-Ok-close-clause-completed g c = record {
  completed =
      λ bytes known.
      let p = rw (c.new-progress.ensures, c.as_slice.ensures ∙ c.streamed_head-written.ensures) at c.in-Ok.ensures in
      let r = c.report_of-in-Ok.ensures in
      let flowed = p.sent.sent refl bytes known in
      let count = c.bytes_put.ensures ∙ Sent-bytes_put _ _ _ _ flowed.sent in
      let long = sound-length _ _ _ _ count (rw (c.as_slice-in-Ok.ensures ∙ c.streamed_head-written.ensures) at c.saturating_sub-sound.ensures) in
      let closed = rw (c.padding.ensures.value) at (c.in-Ok-close.ensures.wrote _ _ flowed.sent) in
      let all = all-given g.S.Stage.acts _ _ _ _ flowed.through p.flow.done in
      rw (r.frames_in)
      (record {
        whole = p.taken.whole bytes known;
        wrote = rw (r.bytes_out) (wrote-all g.S.Stage.acts c.args.flow.now c.pump-pumped.new.flow c.args.target (sound_frames (start_of c.args.head.now) c.pump-pumped.new.progress.frames bytes) _ _ _ _ _ all long closed);
        frames_out = r.frames_out ∙ flowed.through.counted ∙ ap length (sym all);
        out_clips = r.out_clips ∙ c.close.ensures.clips ∙ flowed.clipped ∙ ap (coded_clips c.args.target.coding) (sym all);
        clips = r.clips ∙ ap clip_counts_of (clips-all g.S.Stage.acts _ _ _ _ flowed.through p.flow.done);
        moves = moves-all g.S.Stage.acts _ _ _ _ _ _ flowed.through (r.done p.flow.done) p.flow.taken;
        ended = rw (r.ends.0, r.ends.1) (ended-known _ bytes _ _ _ _ _ _ known p.taken.enough p.taken.ends);
        determined = λ e z. p.taken.determined (not-over _ _ p.taken.enough e) bytes known z;
      });
  flushed = first_of (search rules, grind (arith, common_steps));
  done = first_of (search rules, grind (arith, common_steps));
}

pub returns-in-Ok-close-clause-stands : goal.returns-in-Ok-close-clause-stands
returns-in-Ok-close-clause-stands g c = λ bytes known.
    let p = rw (c.new-progress.ensures) at c.in-Ok.ensures in
    let r = c.report_of-in-Ok.ensures in
    rw (r.frames_in, r.ends.1) (stands-rest_unchanged (start_of c.args.head.now) bytes _ _ _ _ _ _ known (p.source.left refl bytes known) p.taken.ends)

pub returns-in_default-clause-stands : goal.returns-in_default-clause-stands
returns-in_default-clause-stands g c = λ bytes known.
    let p = rw (c.new-progress.ensures) at c.in-Ok.ensures in
    let r = c.report_of.ensures in
    inl (rw (r.frames_in, r.ends.1) (stands-rest_unchanged (start_of c.args.head.now) bytes _ _ _ _ _ _ known (p.source.left refl bytes known) p.taken.ends))

pub returns-in-Err-WriteFailed-clause-stands : goal.returns-in-Err-WriteFailed-clause-stands
returns-in-Err-WriteFailed-clause-stands g c = λ bytes known.
    let is : c.pump-pumped.result ≡ Err WriteFailed = search rules in
    let p = rw (is, c.new-progress.ensures) at c.pump-pumped.ensures in
    let r = c.report_of-in-Err-WriteFailed.ensures in
    inl (rw (r.frames_in, r.ends.1) (stands-rest_unchanged (start_of c.args.head.now) bytes _ _ _ _ _ _ known (p.source.left refl bytes known) p.taken.ends))

pub returns-in_default-close-clause-stands : goal.returns-in_default-close-clause-stands
returns-in_default-close-clause-stands g c = λ bytes known.
    let is : c.pump-pumped.result ≡ Err ReadFailed = search rules in
    let p = rw (is, c.new-progress.ensures) at c.pump-pumped.ensures in
    let r = c.report_of-in_default-close.ensures in
    rw (r.frames_in, r.frames_out) (inr (p.source.came refl bytes known, (p.faults.reads, record { due = p.flow.due refl; hungry = p.flow.hungry refl; not_enough = p.taken.not_enough refl; read_failed = p.taken.read_failed refl })))

pub returns-in-Ok-close-2-clause-stands : goal.returns-in-Ok-close-2-clause-stands
returns-in-Ok-close-2-clause-stands g c = λ bytes known.
    let is : c.pump-pumped.result ≡ Err ReadFailed = search rules in
    let p = rw (is, c.new-progress.ensures) at c.pump-pumped.ensures in
    rw (c.report_of-in-Err-ReadFailed.ensures.frames_in) (p.source.came refl bytes known)

pub returns-in_default-close-2-clause-stands : goal.returns-in_default-close-2-clause-stands
returns-in_default-close-2-clause-stands g c = λ bytes known.
    let is : c.pump-pumped.result ≡ Err TooLong = search rules in
    let p = rw (is, c.new-progress.ensures) at c.pump-pumped.ensures in
    let r = c.report_of-in_default-close-2.ensures in
    inl (rw (r.frames_in, r.ends.1) (stands-rest_unchanged (start_of c.args.head.now) bytes _ _ _ _ _ _ known (p.source.left refl bytes known) p.taken.ends))

pub returns-in-Ok-close-3-clause-stands : goal.returns-in-Ok-close-3-clause-stands
returns-in-Ok-close-3-clause-stands g c = λ bytes known.
    let is : c.pump-pumped.result ≡ Err TooLong = search rules in
    let p = rw (is, c.new-progress.ensures) at c.pump-pumped.ensures in
    let r = c.report_of-in-Err-TooLong.ensures in
    rw (r.frames_in, r.ends.1) (stands-rest_unchanged (start_of c.args.head.now) bytes _ _ _ _ _ _ known (p.source.left refl bytes known) p.taken.ends)

pub returns-in-Err-WriteFailed-clause-stopped : goal.returns-in-Err-WriteFailed-clause-stopped
returns-in-Err-WriteFailed-clause-stopped g c = record {
  stopped =
      λ bytes known.
      let is : c.pump-pumped.result ≡ Err WriteFailed = search rules in
      let p = rw (is, c.new-progress.ensures, c.as_slice.ensures ∙ c.streamed_head-written.ensures) at c.pump-pumped.ensures in
      let r = c.report_of-in-Err-WriteFailed.ensures in
      let flowed = p.sent.write_failed refl bytes known in
      rw (r.frames_in)
      (stopped-front g.S.Stage.acts _ _ c.args.target _ bytes _ _ _ _ _ flowed.through
      r.frames_out (r.out_clips ∙ flowed.clipped) refl
      (inl (rw (r.bytes_out) flowed.front))
      (p.taken.whole bytes known)
      (rw (r.ends.0, r.ends.1) (ends-known _ bytes _ _ _ _ _ _ known p.taken.met p.taken.ends)));
  due_flushed = first_of (search rules, grind (arith, common_steps));
  read_failed = first_of (search rules, grind (arith, common_steps));
}

pub returns-in_default-close-clause-stopped : goal.returns-in_default-close-clause-stopped
returns-in_default-close-clause-stopped g c = record {
  stopped =
      λ bytes known.
      let is : c.pump-pumped.result ≡ Err ReadFailed = search rules in
      let p = rw (is, c.new-progress.ensures, c.as_slice.ensures ∙ c.streamed_head-written.ensures) at c.pump-pumped.ensures in
      let r = c.report_of-in_default-close.ensures in
      let flowed = p.sent.sent refl bytes known in
      let closed = rw (append-nil _) at (c.in_default-close.ensures.front _ _ flowed.sent) in
      rw (r.frames_in)
      (stopped-front g.S.Stage.acts _ _ c.args.target _ bytes _ _ _ _ _ flowed.through
      r.frames_out (r.out_clips ∙ c.close-in-Err-ReadFailed.ensures.clips ∙ flowed.clipped) refl
      (inl (rw (r.bytes_out) closed))
      (p.taken.whole bytes known)
      (rw (r.ends.0, r.ends.1) (ends-known _ bytes _ _ _ _ _ _ known p.taken.met p.taken.ends)));
  due_flushed = first_of (search rules, grind (arith, common_steps));
  read_failed = first_of (search rules, grind (arith, common_steps));
}

pub returns-in-Ok-close-2-clause-stopped : goal.returns-in-Ok-close-2-clause-stopped
returns-in-Ok-close-2-clause-stopped g c = record {
  stopped =
      λ bytes known.
      let is : c.pump-pumped.result ≡ Err ReadFailed = search rules in
      let p = rw (is, c.new-progress.ensures, c.as_slice.ensures ∙ c.streamed_head-written.ensures) at c.pump-pumped.ensures in
      let r = c.report_of-in-Err-ReadFailed.ensures in
      let flowed = p.sent.sent refl bytes known in
      let closed = rw (append-nil _) at (c.in-Ok-close-2.ensures.wrote _ _ flowed.sent) in
      let zeros = rw (p.taken.over refl) at p.taken.ends in
      rw (r.frames_in)
      (stopped-due g.S.Stage.acts _ _ c.args.target _ bytes _ _ _ _ _ flowed.through c.requires.flow.hungry (p.flow.hungry refl) p.flow.recipes p.flow.taken (r.due (p.flow.hungry refl)) r.moves r.clips (p.taken.whole bytes known)
      r.frames_out (r.out_clips ∙ c.close-in-Err-ReadFailed.ensures.clips ∙ flowed.clipped) (λ e. absurd (cc))
      (r.frames_out ∙ p.flow.due refl)
      (rw (r.bytes_out) closed)
      (r.ends.0 ∙ zeros.0, r.ends.1 ∙ zeros.1)
      (p.taken.not_enough refl)
      (λ e. absurd (cc)));
  due_flushed = first_of (search rules, grind (arith, common_steps));
  read_failed = first_of (search rules, grind (arith, common_steps));
}

pub returns-in_default-close-2-clause-stopped : goal.returns-in_default-close-2-clause-stopped
returns-in_default-close-2-clause-stopped g c = record {
  stopped =
      λ bytes known.
      let is : c.pump-pumped.result ≡ Err TooLong = search rules in
      let p = rw (is, c.new-progress.ensures, c.as_slice.ensures ∙ c.streamed_head-written.ensures) at c.pump-pumped.ensures in
      let r = c.report_of-in_default-close-2.ensures in
      let flowed = p.sent.sent refl bytes known in
      let closed = rw (append-nil _) at (c.in_default-close-2.ensures.front _ _ flowed.sent) in
      rw (r.frames_in)
      (stopped-front g.S.Stage.acts _ _ c.args.target _ bytes _ _ _ _ _ flowed.through
      r.frames_out (r.out_clips ∙ c.close-in-Err-TooLong.ensures.clips ∙ flowed.clipped) refl
      (inl (rw (r.bytes_out) closed))
      (p.taken.whole bytes known)
      (rw (r.ends.0, r.ends.1) (ends-known _ bytes _ _ _ _ _ _ known p.taken.met p.taken.ends)));
  due_flushed = first_of (search rules, grind (arith, common_steps));
  read_failed = first_of (search rules, grind (arith, common_steps));
}

pub returns-in-Ok-close-3-clause-stopped : goal.returns-in-Ok-close-3-clause-stopped
returns-in-Ok-close-3-clause-stopped g c = record {
  stopped =
      λ bytes known.
      let is : c.pump-pumped.result ≡ Err TooLong = search rules in
      let p = rw (is, c.new-progress.ensures, c.as_slice.ensures ∙ c.streamed_head-written.ensures) at c.pump-pumped.ensures in
      let r = c.report_of-in-Err-TooLong.ensures in
      let flowed = p.sent.sent refl bytes known in
      let closed = rw (append-nil _) at (c.in-Ok-close-3.ensures.wrote _ _ flowed.sent) in
      let zeros = rw (p.taken.over refl) at p.taken.ends in
      rw (r.frames_in)
      (stopped-due g.S.Stage.acts _ _ c.args.target _ bytes _ _ _ _ _ flowed.through c.requires.flow.hungry (p.flow.hungry refl) p.flow.recipes p.flow.taken (r.due (p.flow.hungry refl)) r.moves r.clips (p.taken.whole bytes known)
      r.frames_out (r.out_clips ∙ c.close-in-Err-TooLong.ensures.clips ∙ flowed.clipped) (λ e. absurd (cc))
      (r.frames_out ∙ p.flow.due refl)
      (rw (r.bytes_out) closed)
      (r.ends.0 ∙ zeros.0, r.ends.1 ∙ zeros.1)
      (p.taken.not_enough refl)
      (λ e. let q = p.taken.too_long refl in (q.0, q.1 bytes known)));
  due_flushed = first_of (search rules, grind (arith, common_steps));
  read_failed = first_of (search rules, grind (arith, common_steps));
}
