-- What to do where there is no plan (this project's profile).
use Rattle.std.specs.Prelude.{◌≡◌, ℕ, List, ◌++◌, Option}
use Rattle.fx_sound.specs.declared.head.HeadFault.{HeadFault}
use Rattle.fx_sound.specs.declared.head.HeadFault.TheVariants as HeadFaults
use Rattle.fx_plan.specs.declared.line.LineFault.{LineFault}
use Rattle.fx_plan.specs.declared.line.LineFault.TheVariants as LineFaults
use Rattle.soxchain_plan.specs.declared.advice.Advice.{Advice}
use Rattle.soxchain_plan.specs.declared.stop.PlanStop.{PlanStop}
use Rattle.soxchain_plan.specs.declared.stop.PlanStop.TheVariants.{BadOption, CannotCreate, Head}
use Rattle.soxchain_plan.specs.declared.formats.FormatFault.{FormatFault}
use Rattle.soxchain_plan.specs.Creating.{create_advice}
use Rattle.soxchain_plan.specs.declared.host.CreateFault.{CreateFault}
use Rattle.soxchain_plan.specs.Formats.{IsFormatOf, format_advice}
use Rattle.soxchain_plan.specs.Options.{IsRefusedWord, options_text}

-- the advice as it is shown
abbrev pub advice_text : Advice → List ℕ
advice_text advice = advice.subject.now ++ advice.text.now

-- nothing is stated of the advice
abbrev pub AnyAdvice : List ℕ → Type 0
AnyAdvice advice = Unit {0}

-- it names the word that is refused, and the options that exist
abbrev pub IsOptionAdvice : List ℕ → List ℕ → Type 0
IsOptionAdvice word advice = advice ≡ word ++ options_text

-- of words with this fault: for an option the advice names the first word for which they are refused
abbrev pub IsLineAdvice : List (List ℕ) → LineFault → List ℕ → Type 0
IsLineAdvice words LineFaults.BadOption advice = (word : List ℕ) × IsRefusedWord words word × IsOptionAdvice word advice
IsLineAdvice words fault advice = Unit {0}

-- of a head with this fault: where its format is not one of the profile, the advice is that of what is wrong with the format
abbrev pub IsFaultAdvice : HeadFault → FormatFault → List ℕ → Type 0
IsFaultAdvice HeadFaults.NotInProfile format advice = advice ≡ format_advice format
IsFaultAdvice fault format advice = Unit {0}

-- the same, where these are the bytes of IN, if they are known
abbrev pub IsHeadAdvice : Option (List ℕ) → HeadFault → List ℕ → Type 0
IsHeadAdvice known fault advice = (format : FormatFault) × IsFormatOf known format × IsFaultAdvice fault format advice

-- of an output that cannot be made for this fault
abbrev pub IsCreateAdvice : CreateFault → List ℕ → Type 0
IsCreateAdvice fault advice = advice ≡ create_advice fault

-- the same of each reason why there is no plan
abbrev pub IsAdviceOn : PlanStop → List ℕ → Type 0
IsAdviceOn (BadOption word) advice = IsOptionAdvice word.now advice
IsAdviceOn (CannotCreate name fault) advice = IsCreateAdvice fault advice
IsAdviceOn (Head line fault format) advice = IsFaultAdvice fault format advice
IsAdviceOn stop advice = Unit {0}
