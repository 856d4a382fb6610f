use Rattle.std.proofs.Common.{◌∙◌, ◌++◌, List, ℕ, ap, append_assoc, refl}
use Rattle.soxchain_job_cli.proofs.hashed.HashedConversionConversion.freeze.Goals as goal

pub returns : goal.returns
returns g c =
    let before : List ℕ = c.args.bytes.now.items in
    let inner = c.in_ok-freeze.ensures.frozen in
    let digests = c.in_ok-append_to_frozen.ensures in
    record {
      frozen = record {
        frozen = inner.frozen ++ digests.digests;
        freezes = record { inner = inner.frozen; digests = digests.digests; holds = rw (← c.self.view_is) inner.freezes; both = digests.count; bytes_are = refl };
        appended = digests.appended ∙ ap (λ (l : List ℕ). l ++ digests.digests) inner.appended ∙ append_assoc before inner.frozen digests.digests;
      };
    }
