use Rattle.std.proofs.Common.{◌≡◌, ◌∙◌, ◌≤◌, ◌+◌, ◌*◌, ◌-◌, length, drop, ap, sym, arith}
use borrow.Author.Tests.{ltb-false}
use Rattle.std.proofs.lemmas.List.{length-drop, take_all}
use Rattle.fx_plan.specs.Planning.{Planning}
use Rattle.fx_sound.specs.declared.head.Head.{Head}
use Rattle.soxchain_job_chain.proofs.Converting.{PassesFront-put, all-or-enough}
use Rattle.soxchain_job_chain.proofs.coded_chain.CodedChain.feed_once.Goals as goal

pub returns-clause-passes : goal.returns-clause-passes
returns-clause-passes c =
    let taken = c.feed-passed.result.taken * c.head-channels.result.channels in
    let put = c.in_ok-put.ensures in
    let stream = c.self.inside.stream in
    let channels : c.head-channels.result.channels ≡ stream.chain.plan.head.channels = ap (λ (h : Head). h.channels) c.head-channels.ensures.value ∙ ap (λ (p : Planning). p.head.channels) (sym stream.same) in
    rw (← c.self.view_is)
    (PassesFront-put _ c.put.new.self c.feed-passed.new.self c.outputs-outputs.result _ c.feed-passed.result.taken c.feed-passed.result.given c.head-channels.result.channels c.args.input.now _ c.feed-passed.new.output
    c.args.output.now.items c.put.new.output.items c.feed-passed.ensures.fed.gave c.outputs-outputs.ensures.value channels c.feed-passed.ensures.fed.plan put.chain put.announced (rw channels c.feed-passed.ensures.fed.read)
    (take_all (length c.args.input.now - taken) (drop taken c.args.input.now) (omega (arith, length-drop taken c.args.input.now))) put.appended put.frames put.bytes put.clips)

pub returns-clause-all : goal.returns-clause-all
returns-clause-all c = λ full running.
    let taken = c.feed-passed.result.taken * c.head-channels.result.channels in
    let stream = c.self.inside.stream in
    let channels : c.head-channels.result.channels ≡ stream.chain.plan.head.channels = ap (λ (h : Head). h.channels) c.head-channels.ensures.value ∙ ap (λ (p : Planning). p.head.channels) (sym stream.same) in
    let free : c.feed-passed.result.given * c.outputs-outputs.result + c.outputs-outputs.result ≤ 4096 = ltb-false _ _ full in
    rw (← c.self.view_is)
    (all-or-enough c.feed-passed.new.self c.put.new.self.chain c.is_spent-is_spent.result c.feed-passed.result.given c.feed-passed.result.taken c.outputs-outputs.result _ _ c.head-channels.result.channels c.args.input.now _ c.feed-passed.new.output
    c.in_ok-put.ensures.chain c.is_spent-is_spent.ensures.value c.is_spent-is_spent.ensures.same c.feed-passed.ensures.fed.used c.outputs-outputs.ensures.value
    (omega (arith, free, c.feed-passed.auto.output, c.requires.samples)) channels (rw channels c.feed-passed.ensures.fed.read)
    (take_all (length c.args.input.now - taken) (drop taken c.args.input.now) (omega (arith, length-drop taken c.args.input.now))) running)
