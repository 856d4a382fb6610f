use Rattle.std.proofs.Common.{rules, ◌≡◌, true, Ok, Err, IfOk, MatchResult, Result, is_ok}
use Rattle.soxchain_cli.specs.Named.{Cut}
use Rattle.soxchain_cli.proofs.files.write_over.Goals as goal

went : {X E : Type 0} (r : Result X E) (P : Type 0) → is_ok r ≡ true → IfOk r (λ _. P) → P
went (Ok x) P e h = h
went (Err e) P t h = absurd (cc)

unfailed : {X E : Type 0} (r : Result X E) (P Q : Type 0) → is_ok r ≡ true → MatchResult r (λ _. P) (λ _. Q) → P
unfailed (Ok x) P Q e h = h
unfailed (Err e) P Q t h = absurd (cc)

pub returns-then-is_ok-clause-failed : goal.returns-then-is_ok-clause-failed
returns-then-is_ok-clause-failed g c = λ stopped.
    let ok : is_ok c.rewind.result ≡ true = search rules in
    Cut c.rewind.new.self (record { back = went c.rewind.result _ ok c.rewind.ensures.back; start = went c.rewind.result _ ok c.rewind.ensures.start })
    (unfailed c.rewind.result _ _ ok c.rewind.ensures.failures) (c.write_whole.ensures.front stopped)
