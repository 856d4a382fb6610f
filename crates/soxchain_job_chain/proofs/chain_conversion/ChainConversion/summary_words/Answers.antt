use Rattle.std.proofs.Common.{◌≡◌, ◌∙◌, ◌+◌, ◌∷◌, ◌++◌, [], List, ℕ, ap, sym, arith}
use Rattle.fx_chain_flow.specs.Parts.{taken_of}
use Rattle.fx_frame_base.specs.Lists.{tabulate}
use Rattle.fx_frame_base.proofs.Tabulate.{tabulate-append}
use Rattle.soxchain_job_chain.specs.FrozenConversion.{clips_by, missing_of, stray_of}
use Rattle.soxchain_job_chain.proofs.chain_conversion.ChainConversion.summary_words.Goals as goal

pub loop-place-preserved : goal.loop-place-preserved
loop-place-preserved c =
    let old = c.args.self.now in
    let clips = clips_by old.coded.chain in
    let place : ℕ = c.loop-place.place in
    let front : List ℕ = taken_of old.coded.chain.flow ∷ old.coded.frames_out ∷ missing_of old ∷ stray_of old ∷ old.coded.out_clips ∷ [] in
    let next : place + 1 ≡ 1 + place = omega arith in
    let last : c.clips.result ≡ clips (1 + place) = c.clips.ensures ∙ ap clips next in
    let longer : tabulate clips 1 (place + 1) ≡ tabulate clips 1 place ++ clips (1 + place) ∷ [] = tabulate-append clips 1 place 1 in
    c.in_ok-push.ensures.items ∙ ap (λ (l : List ℕ). l ++ c.clips.result ∷ []) c.loop-place.invariant ∙ ap (λ (n : ℕ). front ++ (tabulate clips 1 place ++ n ∷ [])) last ∙ ap (λ (l : List ℕ). front ++ l) (sym longer)
