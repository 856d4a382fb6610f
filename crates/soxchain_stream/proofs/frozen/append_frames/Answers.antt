use Rattle.std.proofs.Common.{◌≡◌, ◌∙◌, ◌+◌, ◌<◌, ◌≤◌, ℕ, List, [], ◌∷◌, ◌++◌, ap, append_assoc, drop, length, refl, rules, subst, sym, slice_index_or}
use Rattle.std.proofs.lemmas.List.{append-nil, drop_all}
use Rattle.fx_chain_flow.specs.Frozen.{stored_all}
use Rattle.fx_chain_flow.proofs.Thawing.{drop-next}
use Rattle.fx_frame_base.specs.Frame.{Samples}
use Rattle.soxchain_stream.specs.Appended.{AppendsFrames}
use Rattle.soxchain_stream.proofs.Appending.{frames-then, no-frames-appended}
use Rattle.soxchain_stream.proofs.frozen.append_frames.Goals as goal

pub frames-init : goal.frames-init
frames-init g c = ([], no-frames-appended c.args.bytes.now.items, refl)

pub frames-preserved : goal.frames-preserved
frames-preserved g c =
    let acts = g.S.Stage.acts in
    let stages = c.args.stages.now in
    let place : ℕ = c.frames.stage-index in
    let some : place < length stages = search rules in
    let item : slice_index_or stages place c.stage-item.result ≡ c.stage-item.result = search rules in
    let j = drop-next stages place c.stage-item.result some in
    let next : drop place stages ≡ c.stage-item.result ∷ drop (place + 1) stages = search rules in
    let done : List Samples = c.frames.invariant.0 in
    let own : List Samples = acts.stored c.stage-item.result in (
      done ++ own,
      frames-then c.args.bytes.now.items c.frames.bytes.items c.append_stored.new.bytes.items done own c.frames.invariant.1 c.in_ok-append_stored.ensures,
      append_assoc done own (stored_all acts (drop (place + 1) stages)) ∙ ap (λ l. done ++ stored_all acts l) (sym next) ∙ c.frames.invariant.2,
    )

pub returns : goal.returns
returns g c =
    let acts = g.S.Stage.acts in
    let stages = c.args.stages.now in
    let done : List Samples = c.frames.invariant.0 in
    let end : length stages ≤ c.frames.stage-index = search rules in
    let all : done ≡ stored_all acts stages = sym (append-nil done) ∙ ap (λ l. done ++ stored_all acts l) (sym (drop_all c.frames.stage-index stages end)) ∙ c.frames.invariant.2 in
    subst (λ (l : List Samples). AppendsFrames c.args.bytes.now.items c.frames.bytes.items l) all c.frames.invariant.1
