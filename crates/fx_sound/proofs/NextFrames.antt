-- The end of a sound, met in the bytes that a source held after reads.
use Rattle.std.proofs.Common.{◌≡◌, ℕ, ◌<◌, List, length, ◌∙◌, arith, None, Option, IfNone, Some}
use Rattle.fx_frame_base.specs.Io.{ByteReader}
use Rattle.fx_sound.specs.NextFrame.{HoldsRest, MetEnd, ReachesEnd}
use Rattle.fx_sound.specs.Sound.{Reading, at_most_announced, size_of}
use Rattle.fx_sound.specs.Source.{Held, HoldsAll, Stays, to_come}

-- what two facts of a missing value together say
pub IfNone-both : {X : Type 0} (o : Option X) (P Q T : Type 0) → IfNone o P → IfNone o Q → (P → Q → T) → IfNone o T
IfNone-both None P Q T p q h = h p q
IfNone-both (Some x) P Q T p q h = tt

module _ {R : Type 0} (device : ByteReader R) (old mid new : Held R) (p p' : Reading) (wanted : ℕ) where
  -- after reads for a frame, fewer bytes than it asks for are all that is to come
  HoldsRest-read : wanted ≡ at_most_announced p.left (size_of p) → Stays device.rest old mid → (length mid.bytes < wanted → HoldsAll device.rest old mid)
      → (bytes : List ℕ) → to_come device.rest old ≡ Some bytes → HoldsRest device.rest mid p
  HoldsRest-read w stays all bytes known short more now =
      let kept : to_come device.rest mid ≡ Some bytes = stays bytes known in
      let same : more ≡ bytes = cc in
      same ∙ all (omega (arith, w, short)) bytes known

  -- the end that was met in these bytes is that of what was to come
  pub MetEnd-read : wanted ≡ at_most_announced p.left (size_of p) → Stays device.rest old mid → (length mid.bytes < wanted → HoldsAll device.rest old mid)
      → (HoldsRest device.rest mid p → MetEnd device mid new p p') → ReachesEnd p p' → MetEnd device old new p p'
  MetEnd-read w stays all met over = record {
    end = λ bytes known. (met (HoldsRest-read w stays all bytes known)).end bytes (stays bytes known);
    left = λ bytes known. (met (HoldsRest-read w stays all bytes known)).left bytes (stays bytes known);
    over = over;
  }
