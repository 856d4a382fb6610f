use Rattle.std.proofs.Common.{◌≡◌, ◌++◌, ◌-◌, ◌≤◌, length, take, ap, sym, ◌∙◌, arith}
use Rattle.std.proofs.lemmas.List.{append_assoc}
use Rattle.std.proofs.lemmas.Result.{MatchResult-from_err}
use Rattle.fx_sound.specs.FrameCoding.{bytes_of}
use Rattle.fx_sound.proofs.Sending.{Sent-put}
use Rattle.fx_sound.proofs.output.Output.push_over_edge.Goals as goal

pub returns-in_err-drain-clause-sent_err : goal.returns-in_err-drain-clause-sent_err
returns-in_err-drain-clause-sent_err g c = MatchResult-from_err _ _ _ c.from_residual.ensures.0 (λ _.
    let n = 4096 - c.self.inside.end in
    let coded = c.encode-clips.ensures.bytes in
    let first : c.split_at.result.0.now ≡ take n (bytes_of c.args.coding c.args.frame.now) = c.split_at.ensures.front ∙ ap (take n) coded in
    let within : n ≤ length c.encode-clips.new.out = omega (arith, c.split_at.ensures.back_len) in
    record {
      count = n;
      within = rw (← coded) within;
      sends = λ from all s. rw (← first) (c.in_err-drain.ensures.sent from _ (Sent-put from _ _ _ all _ s c.put.ensures.bytes c.put.ensures.written));
    })

pub returns-clause-sent : goal.returns-clause-sent
returns-clause-sent g c = λ from all s.
    let whole : c.split_at.result.0.now ++ c.split_at.result.1.now ≡ bytes_of c.args.coding c.args.frame.now = sym c.split_at.ensures.by_index.0 ∙ c.encode-clips.ensures.bytes in
    let filled = c.in_ok-drain.ensures.sent from _ (Sent-put from _ _ _ all _ s c.put.ensures.bytes c.put.ensures.written) in
    rw (← whole, ← append_assoc all c.split_at.result.0.now c.split_at.result.1.now) (Sent-put from _ _ _ _ _ filled c.put-2.ensures.bytes c.put-2.ensures.written)
