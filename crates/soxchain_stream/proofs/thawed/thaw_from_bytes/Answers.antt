use Rattle.std.proofs.Common.{ℕ, subst, List, ◌≡◌, ◌∙◌, sym}
use Rattle.std.specs.List.{All}
use Rattle.soxchain_stream.specs.Frozen.{IsWord, snapshot_words}
use Rattle.soxchain_stream.proofs.Words.{if_found-both, if_ok-more}
use Rattle.soxchain_stream.proofs.thawed.thaw_from_bytes.Goals as goal

pub returns-in_default-clause-back : goal.returns-in_default-clause-back
returns-in_default-clause-back c = λ numbers frames stored e.
    let found = c.in_ok-words.ensures.back (snapshot_words numbers frames) stored.words e in
    rw c.in_default.is at found

pub returns-clause-back : goal.returns-clause-back
returns-clause-back c = if_ok-more c.stored_of.result
    (λ found back numbers frames stored e.
    let known = c.in_ok-words.ensures.back (snapshot_words numbers frames) stored.words e in
    let words : c.in-Some.words.items ≡ snapshot_words numbers frames = rw c.in-Some.is at known in
    back numbers frames stored.frames_wide (sym (c.deref.ensures.value ∙ words)))
    c.stored_of.ensures.back

pub returns-clause-stored : goal.returns-clause-stored
returns-clause-stored c =
    let known = c.in_ok-words.ensures.words in
    let all = rw c.in-Some.is at known in
    let words : All IsWord c.deref.result.now = rw c.deref.ensures.value all in
    let P : List ℕ → Type 0 = λ l. All IsWord l in
    if_found-both c.stored_of.result (λ s is wide. record { words = subst P (sym is) words; frames_wide = wide }) c.stored_of.ensures.some c.stored_of.ensures.wide
