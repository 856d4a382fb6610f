-- How accepted options and their file are written.
use Rattle.std.specs.Prelude.{ℕ, ◌≡◌, Bool, true, List, [], ◌∷◌, ◌++◌, flat_map, codes, Some, Ok}
use Rattle.fx_sound.specs.declared.head.Kind.{Kind}
use Rattle.fx_plan.specs.declared.line.LineShape.TheVariants.{Name}
use Rattle.fx_plan.specs.declared.line.Options.{Options}
use Rattle.fx_plan.specs.declared.bits.Bits.{Bits}
use Rattle.fx_plan.specs.Line.{shape_of, kind_of_name, bits_of, front_of}

-- an option and its value
pub data Setting : Type 0 where
  Dither : Setting
  KindIs : List ℕ → Setting
  BitsAre : List ℕ → Setting

abbrev pub spelled : Setting → List (List ℕ)
spelled Dither = codes "-D" ∷ []
spelled (KindIs value) = codes "-t" ∷ value ∷ []
spelled (BitsAre value) = codes "-b" ∷ value ∷ []

-- the options after these are read; the last of a kind is used
abbrev pub Sets : Bool → Options → List Setting → Options → Type 0
Sets takes_bits set [] out = set ≡ out
Sets takes_bits set (Dither ∷ more) out = Sets takes_bits set more out
Sets takes_bits set (KindIs value ∷ more) out = (kind : Kind) × (Some kind ≡ kind_of_name value) × Sets takes_bits (record set { kind = Some kind }) more out
Sets takes_bits set (BitsAre value ∷ more) out = (bits : Bits) × (true ≡ takes_bits) × (Some bits ≡ bits_of value) × Sets takes_bits (record set { bits = Some bits }) more out

-- options and a file that are written so are read back, whatever follows them
abbrev pub FrontIsRead : Type 0
FrontIsRead = (takes_bits : Bool) (set out : Options) (settings : List Setting) (file : List ℕ) (words : List (List ℕ)) →
    Sets takes_bits set settings out → Name ≡ shape_of file →
    front_of takes_bits set (flat_map spelled settings ++ (file ∷ words)) ≡ Ok (out, file, words)
