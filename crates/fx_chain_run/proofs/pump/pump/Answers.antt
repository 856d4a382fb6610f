use Rattle.std.proofs.Common.{rules, ◌≡◌, ℕ, ◌+◌, ◌*◌, ◌≤◌, ◌∙◌, ◌++◌, List, [], MatchBool, Option, Some, ◌^◌, length, drop, not, refl, subst, sym, ap, arith, false, true}
use Rattle.fx_frame_base.specs.Io.{saturated}
use Rattle.fx_sound.specs.Runs.{RanFrames}
use Rattle.fx_sound.proofs.RunLaws.{Ran-start, Ran-turn, Ran-whole, Takes-none, Ran-rest_unchanged, Ran-failed}
use Rattle.fx_sound.specs.Container.{ReadAllDelivered, after_frames}
use Rattle.fx_sound.specs.Sound.{Reading, size_of, within_sound}
use Rattle.fx_sound.specs.Source.{to_come}
use Rattle.std.proofs.lemmas.Grind.{common_steps}
use Rattle.std.proofs.lemmas.Result.{err_from_is_err_and}
use Rattle.fx_chain_run.specs.Run.{Flowed, RanToEnd, sound_frames, is_write_failed, unread_after}
use Rattle.fx_chain_run.specs.Pump.{Pumped, Start}
use Rattle.fx_chain_run.specs.Pumping.{WaitedForDue}
use Rattle.fx_sound.specs.Known.{IfKnown}
use Rattle.fx_sound.specs.Output.{bytes_put}
use Rattle.fx_frame_base.specs.Frame.{Samples}
use Rattle.fx_frame_base.specs.declared.stage.TheConstants.{MAX_FRAMES}
use Rattle.fx_chain_flow.specs.Steps.{rest_of}
use Rattle.fx_chain_run.proofs.Blocks.{Pumped-sent, Pumped-stuck, Pumped-turn}
use Rattle.fx_chain_run.proofs.Draining.{given_by-bound}
use Rattle.fx_chain_run.proofs.Passing.{determined, Flowed-end, Flowed-start, FlowedFront-end, FlowedFront-start, FlowedFront-turn, RanToEnd-end, not-both, sound_frames-more}
use Rattle.fx_chain_run.proofs.Sending.{WroteFront-sent}
use Rattle.fx_chain_run.specs.Waiting.{begun}
use Rattle.fx_chain_run.proofs.Waiting.{Waits-asked, WaitsMore-turn, WaitsMore-until, came-turn}
use Rattle.fx_chain_run.proofs.pump.pump.Given as given
use Rattle.fx_chain_run.proofs.pump.pump.Goals as goal
use Rattle.fx_chain_run.proofs.pump.pump.Goals.{After-next_frame, After-pump_block, In-Ok-None, In-Ok-Some, Then-is_spent}
use Rattle.fx_sound.proofs.Sending.{Sent-start}
use Rattle.fx_sound.proofs.Held.{HoldsWhatCame-rest}

-- before the first frame
none-read : (held size : ℕ) → 0 * size + held ≡ held
none-read held size = omega arith

-- the reads for the next frame
asked : (g : given.Over) (c : After-next_frame g) → WaitedForDue g.S.Stage.acts g.R.ReadBeside.reads g.R.ReadBeside.asked c.args.flow.now c.args.frame_writer.now.coding c.args.head.now c.args.progress.now
    (g.W.ByteOut.writes.taken c.args.writer.now) c.args.source.now c.next_frame.new.source.reader
asked g c =
    let first : Start g.row.S.Denot g.row.R.Denot =
    record { flow = c.args.flow.now; source = c.args.source.now; progress = c.args.progress.now; coding = c.args.frame_writer.now.coding; head = c.args.head.now; wrote = g.W.ByteOut.writes.taken c.args.writer.now } in
    let due = c.stages-stages.ensures.due c.loop-turn.invariant.pumped.hungry in
    let waits = Waits-asked g.S.Stage.acts g.R.ReadBeside.reads g.R.ReadBeside.asked first _ c.loop-turn.source _ _ _ _ _ c.loop-turn.invariant.pumped due c.next_frame.new.source _ c.next_frame.ensures.asked c.loop-turn.invariant.waited in
    WaitsMore-until g.S.Stage.acts g.R.ReadBeside.reads g.R.ReadBeside.asked first _ c.next_frame.new.source _ waits

-- the frames that were read, the end if it was met, and what is to come
abbrev ReadTo : Reading → Reading → Option (List ℕ) → Option (List ℕ) → Type 0
ReadTo p q known left =
    IfKnown known (λ bytes. q.frames * size_of p ≤ length (within_sound p.left bytes))
    × MatchBool q.over (IfKnown known (λ bytes. RanToEnd p bytes q.frames q.missing q.stray)) ((q.missing ≡ 0) × (q.stray ≡ 0))
    × IfKnown known (λ bytes. left ≡ Some (unread_after p (not q.over) q.frames bytes))

-- one frame more was read
read_frame : (g : given.Over) (c : In-Ok-Some g) → ReadTo c.args.progress.now c.next_frame.new.progress (to_come g.R.ReadBeside.reads.rest c.args.source.now) (to_come g.R.ReadBeside.reads.rest c.next_frame.new.source)
read_frame g c =
    let p = c.args.progress.now in
    let q = c.next_frame.new.progress in
    let next = rw c.in-Ok-Some.field-0-is at c.in-Ok-Some.ensures in
    let old = c.loop-turn.invariant.pumped in
    let turn : ℕ = c.loop-turn.progress.frames in
    let count : q.frames ≡ turn + 1 = ap (λ (r : Reading). r.frames) next.frame.counted in
    let begun : q.over ≡ false = ap (λ (r : Reading). r.over) next.frame.counted ∙ old.begun in
    let ran = λ (bytes : List ℕ) (known : to_come g.R.ReadBeside.reads.rest c.args.source.now ≡ Some bytes).
    Ran-turn _ _ _ bytes _ turn _ _ (old.ran bytes known) (next.frame.value (drop (turn * size_of p) bytes) (old.ran bytes known).to_come_is) next.frame.counted in (
      λ bytes known. rw count (ran bytes known).whole,
      rw begun (ap (λ (r : Reading). r.missing) next.frame.counted ∙ old.ends.0, ap (λ (r : Reading). r.stray) next.frame.counted ∙ old.ends.1),
      λ bytes known. rw (begun, count) (ran bytes known).to_come_is,
    )

-- the end of the sound was read
read_end : (g : given.Over) (c : In-Ok-None g) → ReadTo c.args.progress.now c.next_frame.new.progress (to_come g.R.ReadBeside.reads.rest c.args.source.now) (to_come g.R.ReadBeside.reads.rest c.next_frame.new.source)
read_end g c =
    let next = rw c.in-Ok-None.field-0-is at c.in-Ok-None.ensures in
    let p = c.args.progress.now in
    let turn : ℕ = c.loop-turn.progress.frames in
    let ran = c.loop-turn.invariant.pumped.ran in (
      λ bytes known. rw next.end.over.1 (ran bytes known).whole,
      rw next.end.over.0 (λ bytes known. rw next.end.over.1 (RanToEnd-end _ _ _ bytes turn _ (ran bytes known) (next.end.end (drop (turn * size_of p) bytes) (ran bytes known).to_come_is))),
      rw next.end.over.0 (λ bytes known. Ran-rest_unchanged p c.loop-turn.progress bytes turn _ _ (ran bytes known) (next.end.left (drop (turn * size_of p) bytes) (ran bytes known).to_come_is)),
    )

-- what is to come where the flow is spent
unread : (g : given.Over) (c : Then-is_spent g) → IfKnown (to_come g.R.ReadBeside.reads.rest c.args.source.now) (λ bytes.
    to_come g.R.ReadBeside.reads.rest c.loop-turn.source ≡ Some (unread_after c.args.progress.now (not c.loop-turn.progress.over) c.loop-turn.progress.frames bytes))
unread g c = let old = c.loop-turn.invariant.pumped in rw old.begun (λ bytes known. (old.ran bytes known).to_come_is)

-- one frame went through the flow, which was stepped until it waited
turned : (g : given.Over) (c : After-pump_block g) → Pumped g.S.Stage.acts g.R.ReadBeside.reads
    (record { flow = c.args.flow.now; source = c.args.source.now; progress = c.args.progress.now; coding = c.args.frame_writer.now.coding; head = c.args.head.now; wrote = g.W.ByteOut.writes.taken c.args.writer.now })
    c.drain.new.flow c.next_frame.new.source c.next_frame.new.progress c.drain.new.frame_writer.coding c.drain.new.frame_writer.clips c.drain.new.frame_writer.output (g.W.ByteOut.writes.taken c.drain.new.writer)
turned g c =
    let next = rw c.in-Ok-Some.field-0-is at c.in-Ok-Some.ensures in
    let old = Pumped-sent g.S.Stage.acts g.R.ReadBeside.reads _ _ _ _ _ _ _ _ _ _ c.loop-turn.invariant.pumped next.sent.sends next.sent.count in
    let drained = c.in_ok-drain-in-Ok-Some.ensures in
    let turned = Pumped-turn g.S.Stage.acts g.R.ReadBeside.reads _ c.loop-turn.flow c.take.new.self c.drain.new.flow c.loop-turn.source c.next_frame.new.source c.loop-turn.progress c.next_frame.new.progress
    _ _ _ _ _ _ _ _ old next.frame.counted next.maximum next.frame.value next.frame.delivered next.faults.reads (sym (c.is_spent.ensures.enough old.hungry) ∙ c.if-is_spent.false) c.take.ensures.value drained.drained drained.waits drained.free drained.bound in
    rw drained.coding turned

-- what was given before a fault of the source was sent
sent_before : (g : given.Over) (c : After-next_frame g) → c.next_frame.new.progress ≡ c.loop-turn.progress →
    IfKnown (to_come g.R.ReadBeside.reads.rest c.args.source.now) (λ bytes. Flowed g.S.Stage.acts c.args.flow.now c.loop-turn.flow c.args.frame_writer.now.coding (sound_frames c.args.progress.now c.next_frame.new.progress.frames bytes) c.loop-turn.frame_writer.clips
    (g.W.ByteOut.writes.taken c.args.writer.now) (g.W.ByteOut.writes.taken c.next_frame.new.writer) c.next_frame.new.output c.args.head.now)
    × (bytes_put c.next_frame.new.output ≤ 2 ^ 63)
sent_before g c same =
    let sent = c.next_frame.ensures.sent in
    let old = Pumped-sent g.S.Stage.acts g.R.ReadBeside.reads _ _ _ _ _ _ _ _ _ _ c.loop-turn.invariant.pumped sent.sends sent.count in
    let bound = given_by-bound g.S.Stage.acts g.met.S.Stage.rises c.args.flow.now c.loop-turn.flow old.stay c.requires.fits c.stages-stages.ensures.maximum c.stages-stages.ensures.sound.bound in
    (λ bytes known. rw same (old.flowed bytes known), omega (arith, bound, old.free))

pub returns-in_err-push-clause-sent : goal.returns-in_err-push-clause-sent
returns-in_err-push-clause-sent g c = record {
  sent = first_of (search rules, grind (arith, common_steps));
  write_failed =
      λ _ bytes known.
      rw (c.requires.sound.fresh.0)
      (FlowedFront-start g.S.Stage.acts c.args.flow.now c.args.frame_writer.now.coding _ _ _ _ c.args.head.now c.requires.flow.new.1 c.requires.sound.empty.2
      (WroteFront-sent _ _ _ [] c.args.head.now (c.in_err-push.ensures.sent_err (g.W.ByteOut.writes.taken c.args.writer.now) [] (Sent-start _ _ c.requires.sound.empty.0 c.requires.sound.empty.1))));
  free = first_of (search rules, grind (arith, common_steps));
}

pub loop-turn-init : goal.loop-turn-init
loop-turn-init g c =
    let p = c.args.progress.now in
    let fresh : p.frames ≡ 0 = c.requires.sound.fresh.0 in
    let none : 0 * size_of p ≡ 0 = omega arith in
    record {
      turns = omega arith;
      pumped = record {
        maximum = omega (arith, fresh);
        begun = c.requires.sound.fresh.1;
        ends = (c.requires.sound.fresh.2, c.requires.sound.fresh.3);
        at = (Ran-start p [] (Some []) refl).now_is ∙ ap (after_frames p) (sym fresh);
        size = refl;
        hungry = c.requires.flow.hungry;
        taken = c.requires.flow.new.0 ∙ sym fresh;
        width = c.requires.flow.width;
        stay = refl;
        kept = refl;
        wants = λ m h. absurd (omega (arith, fresh));
        free = omega (arith, c.in_ok-push.ensures.count, ap length c.requires.sound.empty.0, c.requires.sound.empty.1, c.requires.head);
        bound = omega (arith, c.requires.sound.empty.2);
        coded = refl;
        ran = λ bytes known.
            let Read : ℕ → Type 0 = λ n. RanFrames p p bytes n (to_come g.R.ReadBeside.reads.rest c.args.source.now) in
            subst Read (sym fresh) (Ran-start p bytes (to_come g.R.ReadBeside.reads.rest c.args.source.now) known);
        flowed = λ bytes known.
            rw fresh
            (Flowed-start g.S.Stage.acts c.args.flow.now c.args.frame_writer.now.coding _ _ _ _ c.args.head.now c.requires.flow.new.1 c.requires.sound.empty.2
            (c.in_ok-push.ensures.sent (g.W.ByteOut.writes.taken c.args.writer.now) [] (Sent-start _ _ c.requires.sound.empty.0 c.requires.sound.empty.1)));
        takes = rw (fresh, none) (Takes-none g.R.ReadBeside.reads.delivered c.args.source.now);
        reads = refl;
      };
      waited = λ bytes known. rw (fresh, none-read (length c.args.source.now.bytes) (size_of p)) begun;
      writes = c.in_ok-push.ensures.failures;
    }

pub returns-in_err-end_flow-clause-sent : goal.returns-in_err-end_flow-clause-sent
returns-in_err-end_flow-clause-sent g c =
    let old = c.loop-turn.invariant.pumped in
    let sent = λ (bytes : List ℕ) (known : to_come g.R.ReadBeside.reads.rest c.args.source.now ≡ Some bytes).
    FlowedFront-end g.S.Stage.acts c.args.flow.now c.loop-turn.flow _ c.end_flow.new.flow c.args.frame_writer.now.coding _ _ _ _ _ _ _ _ c.args.head.now (old.flowed bytes known) old.hungry refl (rw old.coded at c.in_err-end_flow.ensures.cut_off) in
    first_of (search (rules, sent), grind (arith, common_steps, sent))

pub returns-then-is_spent-clause-sent : goal.returns-then-is_spent-clause-sent
returns-then-is_spent-clause-sent g c =
    let old = c.loop-turn.invariant.pumped in
    let sent = λ (bytes : List ℕ) (known : to_come g.R.ReadBeside.reads.rest c.args.source.now ≡ Some bytes).
    Flowed-end g.S.Stage.acts c.args.flow.now c.loop-turn.flow _ c.end_flow.new.flow c.args.frame_writer.now.coding _ _ _ _ _ _ _ _ c.args.head.now (old.flowed bytes known) old.hungry refl (rw old.coded at c.in_ok-end_flow.ensures.drained) in
    first_of (search (rules, sent), grind (arith, common_steps, sent))

pub returns-in_err-drain-in-Ok-Some-clause-sent : goal.returns-in_err-drain-in-Ok-Some-clause-sent
returns-in_err-drain-in-Ok-Some-clause-sent g c = record {
  sent = first_of (search rules, grind (arith, common_steps));
  write_failed =
      λ _ bytes known.
      let next = rw c.in-Ok-Some.field-0-is at c.in-Ok-Some.ensures in
      let old = Pumped-sent g.S.Stage.acts g.R.ReadBeside.reads _ _ _ _ _ _ _ _ _ _ c.loop-turn.invariant.pumped next.sent.sends next.sent.count in
      let turn : ℕ = c.loop-turn.progress.frames in
      let count : c.next_frame.new.progress.frames ≡ turn + 1 = ap (λ (p : Reading). p.frames) next.frame.counted in
      let ran = old.ran bytes known in
      let taken = next.frame.value (drop (turn * size_of c.args.progress.now) bytes) ran.to_come_is in
      rw (count, sound_frames-more _ _ _ _ _ _ _ ran taken)
      (FlowedFront-turn g.S.Stage.acts c.args.flow.now c.loop-turn.flow c.take.new.self c.drain.new.flow c.args.frame_writer.now.coding _ _ _ _ _ _ _ _ c.args.head.now (old.flowed bytes known) old.hungry _ c.take.ensures.value
      (rw (old.coded) at c.in_err-drain-in-Ok-Some.ensures.cut_off));
  free = first_of (search rules, grind (arith, common_steps));
}

pub returns-in_err-drain-in-Ok-Some-clause-taken : goal.returns-in_err-drain-in-Ok-Some-clause-taken
returns-in_err-drain-in-Ok-Some-clause-taken g c =
    let (whole, ends, left) = read_frame g (goal.at.returns-in_err-drain-in-Ok-Some-clause-taken g c).In-Ok-Some in
    record {
      whole = whole;
      ends = ends;
      met = first_of (search rules, grind (arith, common_steps));
      over = first_of (search rules, grind (arith, common_steps));
      wants = first_of (search rules, grind (arith, common_steps));
      enough = first_of (search rules, grind (arith, common_steps));
      determined = first_of (search rules, grind (arith, common_steps));
      not_enough = first_of (search rules, grind (arith, common_steps));
      read_failed = first_of (search rules, grind (arith, common_steps));
      too_long = first_of (search rules, grind (arith, common_steps));
      maximum = first_of (search rules, grind (arith, common_steps));
    }

pub returns-in_err-end_flow-in-Ok-None-clause-sent : goal.returns-in_err-end_flow-in-Ok-None-clause-sent
returns-in_err-end_flow-in-Ok-None-clause-sent g c = record {
  sent = first_of (search rules, grind (arith, common_steps));
  write_failed =
      λ _ bytes known.
      let next = rw c.in-Ok-None.field-0-is at c.in-Ok-None.ensures in
      let old = Pumped-sent g.S.Stage.acts g.R.ReadBeside.reads _ _ _ _ _ _ _ _ _ _ c.loop-turn.invariant.pumped next.sent.sends next.sent.count in
      rw (next.end.over.1)
      (FlowedFront-end g.S.Stage.acts c.args.flow.now c.loop-turn.flow _ c.end_flow-in-Ok-None.new.flow c.args.frame_writer.now.coding _ _ _ _ _ _ _ _ c.args.head.now (old.flowed bytes known) old.hungry refl
      (rw (old.coded) at c.in_err-end_flow-in-Ok-None.ensures.cut_off));
  free = first_of (search rules, grind (arith, common_steps));
}

pub returns-in_err-end_flow-in-Ok-None-clause-taken : goal.returns-in_err-end_flow-in-Ok-None-clause-taken
returns-in_err-end_flow-in-Ok-None-clause-taken g c = let (whole, ends, left) = read_end g (goal.at.returns-in_err-end_flow-in-Ok-None-clause-taken g c).In-Ok-None in first_of (search (rules, whole, ends), grind (arith, common_steps, whole, ends))

pub returns-in-Ok-None-clause-sent : goal.returns-in-Ok-None-clause-sent
returns-in-Ok-None-clause-sent g c = record {
  sent =
      λ _ bytes known.
      let next = rw c.in-Ok-None.field-0-is at c.in-Ok-None.ensures in
      let old = Pumped-sent g.S.Stage.acts g.R.ReadBeside.reads _ _ _ _ _ _ _ _ _ _ c.loop-turn.invariant.pumped next.sent.sends next.sent.count in
      rw (next.end.over.1)
      (Flowed-end g.S.Stage.acts c.args.flow.now c.loop-turn.flow _ c.end_flow-in-Ok-None.new.flow c.args.frame_writer.now.coding _ _ _ _ _ _ _ _ c.args.head.now (old.flowed bytes known) old.hungry refl
      (rw (old.coded) at c.in_ok-end_flow-in-Ok-None.ensures.drained));
  write_failed = first_of (search rules, grind (arith, common_steps));
  free = first_of (search rules, grind (arith, common_steps));
}

pub returns-in-Ok-None-clause-taken : goal.returns-in-Ok-None-clause-taken
returns-in-Ok-None-clause-taken g c = let (whole, ends, left) = read_end g (goal.at.returns-in-Ok-None-clause-taken g c).In-Ok-None in first_of (search (rules, whole, ends), grind (arith, common_steps, whole, ends))

pub returns-in-Err-ReadFailed-clause-taken : goal.returns-in-Err-ReadFailed-clause-taken
returns-in-Err-ReadFailed-clause-taken g c =
    let next = rw c.in-Err-ReadFailed.field-0-is at c.in-Err-ReadFailed.ensures in
    let old = c.loop-turn.invariant.pumped in
    let read_failed : ReadAllDelivered g.R.ReadBeside.reads.delivered c.args.source.now c.next_frame.new.source.reader c.args.progress.now c.next_frame.new.progress.frames =
    rw (ap (λ (p : Reading). p.frames) next.kept.progress) (Ran-failed g.R.ReadBeside.reads.delivered c.args.progress.now c.loop-turn.progress c.loop-turn.progress.frames c.args.source.now c.loop-turn.source _ old.at old.takes (next.read_failed refl).short) in
    first_of (search (rules, read_failed), grind (arith, common_steps, read_failed))

pub returns-in-Err-ReadFailed-clause-source : goal.returns-in-Err-ReadFailed-clause-source
returns-in-Err-ReadFailed-clause-source g c = record {
  left = first_of (search rules, grind (arith, common_steps));
  came =
      λ _ bytes known.
      let old = c.loop-turn.invariant.pumped in
      let next = rw c.in-Err-ReadFailed.field-0-is at c.in-Err-ReadFailed.ensures in
      let count : c.next_frame.new.progress.frames ≡ c.loop-turn.progress.frames = ap (λ (p : Reading). p.frames) next.kept.progress in
      let size : ℕ = c.loop-turn.progress.frames * size_of c.args.progress.now in
      rw count (HoldsWhatCame-rest g.R.ReadBeside.reads.delivered c.args.source.now c.loop-turn.source _ bytes size old.takes ((next.read_failed refl).came (drop size bytes) (old.ran bytes known).to_come_is));
}

pub returns-in-Err-TooLong-clause-taken : goal.returns-in-Err-TooLong-clause-taken
returns-in-Err-TooLong-clause-taken g c =
    let next = rw c.in-Err-TooLong.field-0-is at c.in-Err-TooLong.ensures in
    let p = c.args.progress.now in
    let maximum = next.too_long refl in
    let too_long : (c.next_frame.new.progress.frames ≡ MAX_FRAMES) × IfKnown (to_come g.R.ReadBeside.reads.rest c.args.source.now) (λ bytes. (MAX_FRAMES + 1) * size_of p ≤ length (within_sound p.left bytes)) = (
      ap (λ (p : Reading). p.frames) next.kept.progress ∙ maximum.maximum,
      λ bytes known.
          let ran = c.loop-turn.invariant.pumped.ran bytes known in
          rw maximum.maximum at (Ran-whole _ _ bytes c.loop-turn.progress.frames _ ran (maximum.whole (drop (c.loop-turn.progress.frames * size_of p) bytes) ran.to_come_is)),
    ) in
    first_of (search (rules, too_long), grind (arith, common_steps, too_long))

pub returns-in-Err-ReadFailed-clause-sent : goal.returns-in-Err-ReadFailed-clause-sent
returns-in-Err-ReadFailed-clause-sent g c =
    let (flowed, free) = sent_before g (goal.at.returns-in-Err-ReadFailed-clause-sent g c).After-next_frame (rw c.in-Err-ReadFailed.field-0-is at c.in-Err-ReadFailed.ensures).kept.progress in
    record { sent = λ _. flowed; write_failed = first_of (search rules, grind (arith, common_steps)); free = λ _. free }

pub returns-in-Err-TooLong-clause-sent : goal.returns-in-Err-TooLong-clause-sent
returns-in-Err-TooLong-clause-sent g c =
    let (flowed, free) = sent_before g (goal.at.returns-in-Err-TooLong-clause-sent g c).After-next_frame (rw c.in-Err-TooLong.field-0-is at c.in-Err-TooLong.ensures).kept.progress in
    record { sent = λ _. flowed; write_failed = first_of (search rules, grind (arith, common_steps)); free = λ _. free }

pub returns-then-is_spent-clause-taken : goal.returns-then-is_spent-clause-taken
returns-then-is_spent-clause-taken g c =
    let old = c.loop-turn.invariant.pumped in
    let start = c.args.flow.now in
    let last : IfKnown (to_come g.R.ReadBeside.reads.rest c.args.source.now) (λ bytes. (z : List Samples) →
    rest_of g.S.Stage.acts start (sound_frames c.args.progress.now c.loop-turn.progress.frames bytes ++ z) ≡ rest_of g.S.Stage.acts start (sound_frames c.args.progress.now c.loop-turn.progress.frames bytes)) =
    λ bytes known z. determined g.S.Stage.acts start c.loop-turn.flow _ _ z (old.flowed bytes known).through old.hungry.not_ended (λ y. c.is_spent.ensures.same c.if-is_spent.true y) in
    first_of (search (rules, last), grind (arith, common_steps, last))

pub returns-in_err-push-clause-source : goal.returns-in_err-push-clause-source
returns-in_err-push-clause-source g c = record {
  left =
      λ _ bytes known.
      let p = c.args.progress.now in
      rw (c.requires.sound.fresh.1, c.requires.sound.fresh.0) (Ran-start p bytes (to_come g.R.ReadBeside.reads.rest c.args.source.now) known).to_come_is;
  came = first_of (search rules, grind (arith, common_steps));
}

pub returns-then-is_spent-clause-source : goal.returns-then-is_spent-clause-source
returns-then-is_spent-clause-source g c = let left = unread g (goal.at.returns-then-is_spent-clause-source g c).Then-is_spent in first_of (search (rules, left), grind (arith, common_steps, left))

pub returns-in_err-end_flow-clause-source : goal.returns-in_err-end_flow-clause-source
returns-in_err-end_flow-clause-source g c = let left = unread g (goal.at.returns-in_err-end_flow-clause-source g c).Then-is_spent in first_of (search (rules, left), grind (arith, common_steps, left))

pub returns-in_err-drain-in-Ok-Some-clause-source : goal.returns-in_err-drain-in-Ok-Some-clause-source
returns-in_err-drain-in-Ok-Some-clause-source g c = let (whole, ends, left) = read_frame g (goal.at.returns-in_err-drain-in-Ok-Some-clause-source g c).In-Ok-Some in first_of (search (rules, left), grind (arith, common_steps, left))

pub returns-in_err-end_flow-in-Ok-None-clause-source : goal.returns-in_err-end_flow-in-Ok-None-clause-source
returns-in_err-end_flow-in-Ok-None-clause-source g c = let (whole, ends, left) = read_end g (goal.at.returns-in_err-end_flow-in-Ok-None-clause-source g c).In-Ok-None in first_of (search (rules, left), grind (arith, common_steps, left))

pub returns-in-Ok-None-clause-source : goal.returns-in-Ok-None-clause-source
returns-in-Ok-None-clause-source g c = let (whole, ends, left) = read_end g (goal.at.returns-in-Ok-None-clause-source g c).In-Ok-None in first_of (search (rules, left), grind (arith, common_steps, left))

pub returns-in-Err-TooLong-clause-source : goal.returns-in-Err-TooLong-clause-source
returns-in-Err-TooLong-clause-source g c = record {
  left =
      λ _ bytes known.
      let old = c.loop-turn.invariant.pumped in
      let next = rw c.in-Err-TooLong.field-0-is at c.in-Err-TooLong.ensures in
      let ran = old.ran bytes known in
      rw (next.kept.progress, old.begun) (next.kept.kept refl _ ran.to_come_is);
  came = first_of (search rules, grind (arith, common_steps));
}

pub returns-in_err-pump_block : goal.returns-in_err-pump_block
returns-in_err-pump_block g c =
    let next = rw c.in-Ok-Some.field-0-is at c.in-Ok-Some.ensures in
    let front = c.in_err-pump_block.ensures.cut_off _ (turned g (goal.at.returns-in_err-pump_block g c).After-pump_block) in
    let failed = err_from_is_err_and c.from_residual-in_err-pump_block.result c.from_residual-in_err-pump_block.ensures.1 in
    rw (failed.1, failed.2)
    (record {
      sent = record { sent = λ other. not-both true other refl; write_failed = λ _. front.flowed; free = λ other. not-both true other refl };
      flow = record { done = tt; hungry = λ other. not-both true other refl; due = λ other. not-both true other refl; recipes = front.stay; width = front.kept; taken = front.taken };
      taken = record { whole = front.whole; ends = rw front.begun front.ends; met = rw (front.begun, front.running) refl; over = λ other. not-both true other refl; wants = front.wants; enough = tt; determined = tt; not_enough = λ other. not-both true other refl; read_failed = λ other. not-both false refl other; too_long = λ other. not-both true (ap is_write_failed other) refl; maximum = front.maximum };
      source = record { left = λ _ bytes known. rw front.begun (front.left bytes known); came = λ other. not-both false refl other };
      waited = rw c.pump_block.ensures.passed.reader (asked g (goal.at.returns-in_err-pump_block g c).After-next_frame);
      faults = record { reads = front.reads; writes = c.in_err-pump_block.ensures.failures ∙ ap (λ n. saturated (n + 1)) (c.in_ok-drain-in-Ok-Some.ensures.failures ∙ next.faults.writes ∙ c.loop-turn.invariant.writes) };
    })

pub loop-turn-preserved : goal.loop-turn-preserved
loop-turn-preserved g c =
    let next = rw c.in-Ok-Some.field-0-is at c.in-Ok-Some.ensures in
    let passed = turned g (goal.at.loop-turn-preserved g c).After-pump_block in
    let count = ap (λ (p : Reading). p.frames) next.frame.counted in
    let first : Start g.row.S.Denot g.row.R.Denot =
    record { flow = c.args.flow.now; source = c.args.source.now; progress = c.args.progress.now; coding = c.args.frame_writer.now.coding; head = c.args.head.now; wrote = g.W.ByteOut.writes.taken c.args.writer.now } in
    let due = c.stages-stages.ensures.due c.loop-turn.invariant.pumped.hungry in
    let waits = Waits-asked g.S.Stage.acts g.R.ReadBeside.reads g.R.ReadBeside.asked first _ c.loop-turn.source _ _ _ _ _ c.loop-turn.invariant.pumped due c.next_frame.new.source _ next.asked c.loop-turn.invariant.waited in
    record {
      turns = omega (arith, count, c.in_ok-pump_block.ensures.passed.more, c.loop-turn.invariant.turns);
      pumped = c.in_ok-pump_block.ensures.pumped _ passed;
      waited = WaitsMore-turn g.S.Stage.acts g.R.ReadBeside.reads g.R.ReadBeside.asked first _ _ c.next_frame.new.source c.pump_block.new.source _ waits
          (λ more fits. came-turn c.loop-turn.progress.frames c.next_frame.new.progress.frames c.pump_block.new.progress.frames (size_of c.args.progress.now) _ more _ _ count (fits ∙ ap (λ n. n + length c.next_frame.new.source.bytes) c.loop-turn.invariant.pumped.size)
          (rw passed.size at c.pump_block.ensures.passed.held)) c.pump_block.ensures.passed.reader c.pump_block.ensures.passed.short;
      writes = c.in_ok-pump_block.ensures.failures ∙ c.in_ok-drain-in-Ok-Some.ensures.failures ∙ next.faults.writes ∙ c.loop-turn.invariant.writes;
    }

pub returns-in-Err-WriteFailed : goal.returns-in-Err-WriteFailed
returns-in-Err-WriteFailed g c =
    let next = rw c.in-Err-WriteFailed.field-0-is at c.in-Err-WriteFailed.ensures in
    let front = Pumped-stuck g.S.Stage.acts g.R.ReadBeside.reads _ _ _ _ _ _ _ _ _ _ c.loop-turn.invariant.pumped next.sent.sends in
    rw next.kept.progress
    (record {
      sent = record { sent = λ other. not-both true other refl; write_failed = λ _. front.flowed; free = λ other. not-both true other refl };
      flow = record { done = tt; hungry = λ other. not-both true other refl; due = λ other. not-both true other refl; recipes = front.stay; width = front.kept; taken = front.taken };
      taken = record { whole = front.whole; ends = rw front.begun front.ends; met = rw (front.begun, front.running) refl; over = λ other. not-both true other refl; wants = front.wants; enough = tt; determined = tt; not_enough = λ other. not-both true other refl; read_failed = λ other. not-both false refl other; too_long = λ other. not-both true (ap is_write_failed other) refl; maximum = front.maximum };
      source = record { left = λ _ bytes known. rw front.begun (next.kept.kept refl _ (front.left bytes known)); came = λ other. not-both false refl other };
      waited = asked g (goal.at.returns-in-Err-WriteFailed g c).After-next_frame;
      faults = record { reads = next.faults.reads ∙ front.reads; writes = next.faults.writes ∙ ap (λ n. saturated (n + 1)) c.loop-turn.invariant.writes };
    })

pub returns-then-is_spent-clause-waited : goal.returns-then-is_spent-clause-waited
returns-then-is_spent-clause-waited g c = λ bytes known. record { came = _; short = _; waited = c.loop-turn.invariant.waited bytes known }

pub returns-in_err-end_flow-clause-waited : goal.returns-in_err-end_flow-clause-waited
returns-in_err-end_flow-clause-waited g c = λ bytes known. record { came = _; short = _; waited = c.loop-turn.invariant.waited bytes known }

pub returns-in_err-push-clause-waited : goal.returns-in_err-push-clause-waited
returns-in_err-push-clause-waited g c = λ bytes known. record { came = length c.args.source.now.bytes; short = c.args.source.now.short; waited = begun }

pub returns-in_err-drain-in-Ok-Some-clause-waited : goal.returns-in_err-drain-in-Ok-Some-clause-waited
returns-in_err-drain-in-Ok-Some-clause-waited g c = asked g (goal.at.returns-in_err-drain-in-Ok-Some-clause-waited g c).After-next_frame

pub returns-in_err-end_flow-in-Ok-None-clause-waited : goal.returns-in_err-end_flow-in-Ok-None-clause-waited
returns-in_err-end_flow-in-Ok-None-clause-waited g c = asked g (goal.at.returns-in_err-end_flow-in-Ok-None-clause-waited g c).After-next_frame

pub returns-in-Ok-None-clause-waited : goal.returns-in-Ok-None-clause-waited
returns-in-Ok-None-clause-waited g c = asked g (goal.at.returns-in-Ok-None-clause-waited g c).After-next_frame

pub returns-in-Err-ReadFailed-clause-waited : goal.returns-in-Err-ReadFailed-clause-waited
returns-in-Err-ReadFailed-clause-waited g c = asked g (goal.at.returns-in-Err-ReadFailed-clause-waited g c).After-next_frame

pub returns-in-Err-TooLong-clause-waited : goal.returns-in-Err-TooLong-clause-waited
returns-in-Err-TooLong-clause-waited g c = asked g (goal.at.returns-in-Err-TooLong-clause-waited g c).After-next_frame
