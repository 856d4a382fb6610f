-- A spelled front is read.
use Rattle.std.proofs.Common.{ℕ, ◌≡◌, Bool, List, [], ◌∷◌, ◌++◌, flat_map, Ok, Some, refl, sym, ◌∙◌, ap, codes}
use Rattle.fx_plan.specs.declared.line.LineShape.TheVariants.{Name}
use Rattle.fx_plan.specs.declared.line.Options.{Options}
use Rattle.fx_plan.specs.Line.{shape_of, front_of}
use Rattle.fx_plan.specs.Spelling.{Dither, KindIs, BitsAre, spelled, FrontIsRead}
use Rattle.fx_plan.proofs.Fronts.{front_after_dither, front_after_kind, front_after_bits}

pub front_of-name : (b : Bool) (set : Options) (file : List ℕ) (words : List (List ℕ)) → Name ≡ shape_of file → front_of b set (file ∷ words) ≡ Ok (set, file, words)
front_of-name b set file [] is = rw (sym is, front_of) refl
front_of-name b set file (w ∷ ws) is = rw (sym is, front_of) refl

pub spelled_read : FrontIsRead
spelled_read b set out [] file words sets is = front_of-name b set file words is ∙ ap (λ o. Ok (o, file, words)) sets
spelled_read b set out (Dither ∷ more) file words sets is =
    front_after_dither b set (codes "-D") (flat_map spelled more ++ (file ∷ words)) refl ∙ spelled_read b set out more file words sets is
spelled_read b set out (KindIs value ∷ more) file words sets is =
    front_after_kind b set (codes "-t") value (flat_map spelled more ++ (file ∷ words)) sets.0 refl sets.1 ∙ spelled_read b (record set { kind = Some sets.0 }) out more file words sets.2 is
spelled_read b set out (BitsAre value ∷ more) file words sets is =
    ap (λ v. front_of v set (codes "-b" ∷ value ∷ (flat_map spelled more ++ (file ∷ words)))) (sym sets.1)
    ∙ front_after_bits set (codes "-b") value (flat_map spelled more ++ (file ∷ words)) sets.0 refl sets.2
    ∙ ap (λ v. front_of v (record set { bits = Some sets.0 }) (flat_map spelled more ++ (file ∷ words))) sets.1
    ∙ spelled_read b (record set { bits = Some sets.0 }) out more file words sets.3 is
