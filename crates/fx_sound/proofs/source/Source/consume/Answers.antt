use Rattle.std.proofs.Common.{◌≡◌, ◌-◌, length, ap, sym, ◌∙◌, arith}
use Rattle.fx_sound.proofs.Held.{drop-held, length-held}
use Rattle.fx_sound.proofs.source.Source.consume.Goals as goal

pub returns-clause-bytes : goal.returns-clause-bytes
returns-clause-bytes g c =
    let len : length c.args.self.now.bytes ≡ c.self.inside.end - c.self.inside.start =
    ap (λ s. length s.bytes) (sym c.self.view_is) ∙ length-held c.self.inside.buffer c.self.inside.start c.self.inside.end (omega arith) (omega arith) in
    rw (← c.self.view_is) (drop-held c.self.inside.buffer c.self.inside.start c.self.inside.end c.args.n (omega arith))
