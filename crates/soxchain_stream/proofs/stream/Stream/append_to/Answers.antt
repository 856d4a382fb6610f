use Rattle.std.proofs.Common.{◌≡◌, ◌∙◌, List, ℕ, refl, subst}
use Rattle.fx_chain_flow.specs.Frozen.{AllSound}
use Rattle.fx_chain_flow.specs.Parts.{Parts}
use Rattle.fx_chain_flow.specs.Sound.{IsSound}
use Rattle.fx_chain_stages.specs.Stages.{effect_acts, sound_of_stages}
use Rattle.fx_chain_stages.specs.declared.registry.EffectStage.{EffectStage}
use Rattle.soxchain_stream.specs.Appended.{AppendsFlow}
use Rattle.soxchain_stream.specs.Frozen.{snapshot_bytes}
use Rattle.soxchain_stream.proofs.stream.Stream.append_to.Goals as goal

pub returns-clause-frozen : goal.returns-clause-frozen
returns-clause-frozen c =
    let flow : Parts EffectStage = c.args.self.now.chain.flow in
    let before : List ℕ = c.args.bytes.now.items in
    let after : List ℕ = c.append_flow.new.bytes.items in
    let appends : AppendsFlow effect_acts flow before after = subst (λ (f : Parts EffectStage). AppendsFlow effect_acts f before after) c.flow_of.ensures.flow c.in_ok-append_flow.ensures.frozen in
    record {
      frozen = snapshot_bytes appends.numbers appends.frames;
      freezes = record { numbers = appends.numbers; frames = appends.frames; freezes = appends.freezes; stored = appends.stored; bytes_are = refl };
      appended = appends.appended;
    }

pub returns-clause-sound : goal.returns-clause-sound
returns-clause-sound c =
    let same = c.flow_of.ensures.flow in
    record {
      chain = c.flow_of.ensures.chain;
      flow = subst (λ (f : Parts EffectStage). IsSound effect_acts f) same c.in_ok-append_flow.ensures.sound;
      stages = subst (λ (f : Parts EffectStage). AllSound sound_of_stages f.stages) same c.in_ok-append_flow.ensures.stages;
    }
