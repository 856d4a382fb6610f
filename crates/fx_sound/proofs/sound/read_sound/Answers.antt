use Rattle.std.proofs.Common.{◌≡◌, ℕ, ◌%◌, List, length, drop, sym, ap, ◌∙◌, rules, Ok, Result}
use Rattle.std.proofs.lemmas.Result.{IfOk-at_ok}
use Rattle.fx_sound.specs.declared.head.HeadFault.{HeadFault}
use Rattle.fx_sound.specs.declared.sound.SoundFault.{SoundFault}
use Rattle.fx_sound.specs.declared.sound.SoundFault.TheVariants as fault
use Rattle.fx_frame_base.specs.Frame.{Samples}
use Rattle.fx_sound.specs.FrameCoding.{frame_size}
use Rattle.fx_sound.specs.declared.fields.Format.{Format}
use Rattle.fx_sound.specs.Sound.{within_sound, lacking}
use Rattle.fx_sound.specs.Container.{Outcome, container, with_frames, frames_of_sound, at_end}
use Rattle.fx_sound.specs.WholeSound.{IsHeadFault, IsAfterHead}
use Rattle.fx_sound.proofs.Faults.{IfErr-passed}
use Rattle.fx_sound.proofs.sound.read_sound.Goals as goal

no_head : (c : Result Outcome HeadFault) (e : SoundFault) → IsAfterHead e → IsHeadFault c e
no_head c (fault.Head e) h = elim h [ ]
no_head c (fault.Read e) h = tt
no_head c fault.Memory h = tt

pub returns-in_err-frames-clause-fault : goal.returns-in_err-frames-clause-fault
returns-in_err-frames-clause-fault g c = IfErr-passed c.from_residual-in_err-frames.result _ _ c.from_residual-in_err-frames.ensures.1 (λ bytes known. no_head (container c.args.expected bytes) c.in_err-frames.field-0.0 c.in_err-frames.ensures.after_head)

pub returns-clause-sound : goal.returns-clause-sound
returns-clause-sound g c = λ bytes known.
    let was : c.read_head.result ≡ Ok c.in_ok-head.head = search rules in
    let head = IfOk-at_ok _ was c.read_head.ensures.head bytes known in
    let frames = c.in_ok-frames.ensures.whole.frames _ head.others in
    let end = c.in_ok-frames.ensures.whole.end _ head.others in
    let h = c.in_ok-head.head in
    let rest : List ℕ = drop head.offset bytes in
    let sound : List ℕ = within_sound h.announced rest in
    let format : Format = record { rate = h.rate; channels = h.channels; coding = h.coding } in
    let made = λ (frames : List Samples) (missing stray : ℕ). let r : Result Outcome HeadFault =
    Ok (record { kind = h.kind; format = format; announced = h.announced; frames = frames; missing = missing; stray = stray }) in r in
    let same-frames : c.in_ok-frames.frames.items ≡ frames_of_sound h.coding h.channels sound =
    frames ∙ ap (λ p. frames_of_sound p.coding p.channels (within_sound p.left rest)) c.new-progress.ensures in
    let ended = end ∙ ap (λ p. at_end p (within_sound p.left rest)) c.new-progress.ensures in
    let same-missing = c.missing.ensures ∙ ap (λ p. p.missing) ended in
    let same-stray = c.stray.ensures ∙ ap (λ p. p.stray) ended in
    ap (with_frames bytes) head.spelt
    ∙ ap (λ f. made f (lacking h.announced (length sound)) (length sound % frame_size h.coding h.channels)) (sym same-frames)
    ∙ ap (λ m. made c.in_ok-frames.frames.items m (length sound % frame_size h.coding h.channels)) (sym same-missing)
    ∙ ap (made c.in_ok-frames.frames.items c.missing.result) (sym same-stray)
