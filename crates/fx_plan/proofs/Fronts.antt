-- The front of a command line, an option at a time.
use Rattle.std.proofs.Common.{◌≡◌, ℕ, Bool, true, List, [], ◌∷◌, Some, refl, ◌∙◌, sym, ap}
use Rattle.fx_plan.specs.declared.line.LineShape.TheVariants.{NoDither, Typed, Depth}
use Rattle.fx_plan.specs.declared.line.Options.{Options}
use Rattle.fx_plan.specs.declared.bits.Bits.{Bits}
use Rattle.fx_sound.specs.declared.head.Kind.{Kind}
use Rattle.fx_plan.specs.Line.{shape_of, kind_of_name, bits_of, front_of}

pub front_after_dither : (b : Bool) (set : Options) (word : List ℕ) (words : List (List ℕ)) → NoDither ≡ shape_of word → front_of b set (word ∷ words) ≡ front_of b set words
front_after_dither b set word [] is = rw (sym is, front_of) refl
front_after_dither b set word (w ∷ ws) is = rw (sym is, front_of) refl

pub front_after_kind : (b : Bool) (set : Options) (word value : List ℕ) (words : List (List ℕ)) (kind : Kind) → Typed ≡ shape_of word → Some kind ≡ kind_of_name value → front_of b set (word ∷ value ∷ words) ≡ front_of b (record set { kind = Some kind }) words
front_after_kind b set word value words kind is reads = rw (sym is, front_of) (rw (sym reads, front_of) refl)

pub front_after_bits : (set : Options) (word value : List ℕ) (words : List (List ℕ)) (bits : Bits) → Depth ≡ shape_of word → Some bits ≡ bits_of value → front_of true set (word ∷ value ∷ words) ≡ front_of true (record set { bits = Some bits }) words
front_after_bits set word value words bits is reads = rw (sym is, front_of) (rw (sym reads, front_of) refl)

-- the same, for a list that is known to begin so
pub after_dither : (b : Bool) (set : Options) (text shown : List ℕ) (rest words : List (List ℕ)) → NoDither ≡ shape_of text → text ≡ shown → rest ≡ shown ∷ words → front_of b set words ≡ front_of b set rest
after_dither b set text shown rest words is same begins =
    sym (ap (front_of b set) begins ∙ front_after_dither b set shown words (is ∙ ap shape_of same))

pub after_kind : (b : Bool) (set : Options) (text shown value given : List ℕ) (rest after words : List (List ℕ)) (kind : Kind) → Typed ≡ shape_of text → text ≡ shown → rest ≡ shown ∷ after → Some kind ≡ kind_of_name value → value ≡ given → after ≡ given ∷ words → front_of b (record set { kind = Some kind }) words ≡ front_of b set rest
after_kind b set text shown value given rest after words kind is same begins reads alike goes =
    sym (ap (front_of b set) (begins ∙ ap (λ l. shown ∷ l) goes) ∙ front_after_kind b set shown given words kind (is ∙ ap shape_of same) (reads ∙ ap kind_of_name alike))

pub after_bits : (b : Bool) (set : Options) (text shown value given : List ℕ) (rest after words : List (List ℕ)) (bits : Bits) → true ≡ b → Depth ≡ shape_of text → text ≡ shown → rest ≡ shown ∷ after → Some bits ≡ bits_of value → value ≡ given → after ≡ given ∷ words → front_of b (record set { bits = Some bits }) words ≡ front_of b set rest
after_bits b set text shown value given rest after words bits takes is same begins reads alike goes =
    rw (sym takes) (sym (ap (front_of true set) (begins ∙ ap (λ l. shown ∷ l) goes) ∙ front_after_bits set shown given words bits (is ∙ ap shape_of same) (reads ∙ ap bits_of alike)))
