-- What is stated of the advice, from the reason why there is no plan to the words that have it.
use Rattle.std.proofs.Common.{◌≡◌, ◌≢◌, ℕ, List, Option, Result, Ok, Err, refl}
use Rattle.fx_frame_base.specs.Io.{ByteWriter}
use Rattle.soxchain_common.specs.Consoles.{Machine}
use Rattle.fx_plan.specs.declared.line.LineFault.{LineFault}
use Rattle.fx_plan.specs.declared.line.LineFault.TheVariants as LineFaults
use Rattle.fx_plan.specs.Line.{Said}
use Rattle.fx_plan.specs.CommandLines.{LineReads}
use Rattle.fx_sound.specs.declared.head.HeadFault.{HeadFault}
use Rattle.soxchain_plan.specs.Advising.{IsFaultAdvice, IsHeadAdvice, IsLineAdvice}
use Rattle.soxchain_plan.specs.Answering.{Delivered, PlanDevices, Quoted, Stops, Unquoted}
use Rattle.soxchain_plan.specs.Formats.{IsFormatOf}
use Rattle.soxchain_plan.specs.declared.formats.FormatFault.{FormatFault}
use Rattle.soxchain_plan.specs.declared.style.Style.{Style}

-- a weaker statement of the advice
pub Stops-advice : {H I R O M : Type 0} (d : PlanDevices I R O) (m : H → H → Machine I O) (writes : ByteWriter M) (style : Style) (message : List ℕ) (P Q : List ℕ → Type 0) (code : ℕ) (host new_host : H) (old new : M) (status : ℕ)
    → ((advice : List ℕ) → P advice → Q advice)
    → Stops d m writes style message P code host new_host old new status → Stops d m writes style message Q code host new_host old new status
Stops-advice d m writes style message P Q code host new_host old new status weaker (Delivered advice is s h a) = Delivered advice (weaker advice is) s h a
Stops-advice d m writes style message P Q code host new_host old new status weaker (Quoted advice between is s a q) = Quoted advice between (weaker advice is) s a q
Stops-advice d m writes style message P Q code host new_host old new status weaker (Unquoted advice other between is s h a u) = Unquoted advice other between (weaker advice is) s h a u

-- nothing is stated of the advice where the fault is another than an option
pub other-line : (words : List (List ℕ)) (fault : LineFault) (advice : List ℕ) → fault ≢ LineFaults.BadOption → IsLineAdvice words fault advice
other-line words LineFaults.MissingFile advice other = tt
other-line words LineFaults.BadOption advice other = absurd (other refl)
other-line words LineFaults.NoOutputType advice other = tt
other-line words LineFaults.BadBits advice other = tt
other-line words LineFaults.Memory advice other = tt

-- words that are read to be refused for an option are
pub read-refused : (read : Result Said LineFault) (fault : LineFault) → LineReads read (Err fault) → fault ≡ LineFaults.BadOption → read ≡ Err LineFaults.BadOption
read-refused (Ok line) fault e h = absurd cc
read-refused (Err f) fault e h = cc

-- the advice on a head is that on its fault and on a format of these bytes
pub head-advice : (known : Option (List ℕ)) (fault : HeadFault) (format : FormatFault) (advice : List ℕ) → IsFormatOf known format → IsFaultAdvice fault format advice → IsHeadAdvice known fault advice
head-advice known fault format advice of is = (format, of, is)
