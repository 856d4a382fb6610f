-- The messages of the program (this project's profile), as the bytes of a line each.
use Rattle.std.specs.Prelude.{ℕ, zero, suc, ◌+◌, ◌-◌, nat_lt, min, slice_get, slice_index_or, unwrap_or, Bool, true, false, ◌&&◌, if◌then◌else◌, Result, Ok, Err, List, [], ◌∷◌, ◌++◌, codes, decimal, length}
use Rattle.fx_chain_run.specs.declared.report.Report.{Report}
use Rattle.fx_chain_run.specs.declared.report.RunFault.{RunFault}
use Rattle.fx_chain_run.specs.declared.report.RunFault.TheVariants as RunFaults
use Rattle.fx_chain_run.specs.Report.{report_at}
use Rattle.fx_plan.specs.declared.line.LineFault.{LineFault}
use Rattle.fx_plan.specs.declared.line.LineFault.TheVariants as LineFaults
use Rattle.fx_plan.specs.Line.{Said}
use Rattle.fx_plan_words.specs.declared.fault.PlanCause.{PlanCause}
use Rattle.fx_plan_words.specs.declared.fault.PlanCause.TheVariants as causes
use Rattle.fx_plan.specs.declared.fault.PlanFault.{PlanFault}
use Rattle.fx_plan.specs.CommandLines.{effect_words, effects_in}
use Rattle.fx_plan_words.specs.Faults.{Word}
use Rattle.fx_sound.specs.declared.head.HeadFault.{HeadFault}
use Rattle.fx_sound.specs.declared.head.HeadFault.TheVariants as HeadFaults
use Rattle.soxchain.specs.declared.preparing.Refusal.{Refusal}
use Rattle.soxchain.specs.declared.preparing.Refusal.TheVariants as refusals
use Rattle.soxchain.specs.Stops.{Stop, Refused, Run}

-- the end of a line
abbrev pub line_feed : List ℕ
line_feed = 10 ∷ []

-- a command line that is refused, with the fault's number and name
abbrev pub line_message : List ℕ → List ℕ
line_message fault = codes "soxchain: command line: " ++ fault ++ line_feed

-- a fault of an effect: its number and name, the fault's number and name, and the word
abbrev pub effect_message : ℕ → List ℕ → List ℕ → List ℕ → List ℕ
effect_message number name fault word =
    (codes "soxchain: effect " ++ decimal number ++ codes " " ++ name ++ codes ": ") ++ fault ++ (codes ": " ++ word ++ line_feed)

-- a fault of all effects together
abbrev pub effects_message : List ℕ → List ℕ
effects_message fault = codes "soxchain: effects: " ++ fault ++ line_feed

-- a head that is refused
abbrev pub input_message : List ℕ → List ℕ
input_message fault = codes "soxchain: input: " ++ fault ++ line_feed

-- a run that stopped, with the number of frames that were read
abbrev pub run_message : List ℕ → ℕ → List ℕ
run_message fault frames = codes "soxchain: run: " ++ fault ++ codes " after frames " ++ decimal frames ++ line_feed

-- how often something was counted; no line where it was not
abbrev pub warning : List ℕ → ℕ → List ℕ
warning counted zero = []
warning counted (suc n) = codes "soxchain: warning: " ++ counted ++ codes " " ++ decimal (suc n) ++ line_feed

-- number and name of why a command line is refused
abbrev pub line_label : LineFault → List ℕ
line_label LineFaults.MissingFile = codes "1 MissingFile"
line_label LineFaults.BadOption = codes "2 BadOption"
line_label LineFaults.NoOutputType = codes "3 NoOutputType"
line_label LineFaults.BadBits = codes "4 BadBits"
line_label LineFaults.Memory = codes "5 Memory"

-- a chain for which no memory was found
abbrev pub chain_message : List ℕ
chain_message = codes "soxchain: chain: " ++ codes "no memory" ++ line_feed

-- number and name of why a plan is refused
abbrev pub plan_label : PlanCause → List ℕ
plan_label causes.UnknownEffect = codes "1 UnknownEffect"
plan_label causes.NotInProfile = codes "2 NotInProfile"
plan_label causes.NeedsWholeSound = codes "3 NeedsWholeSound"
plan_label causes.WrongCount = codes "4 WrongCount"
plan_label causes.BadArgument = codes "5 BadArgument"
plan_label causes.OutOfRange = codes "6 OutOfRange"
plan_label causes.PositionBehind = codes "7 PositionBehind"
plan_label causes.NoSuchChannel = codes "8 NoSuchChannel"
plan_label causes.TooManyChannels = codes "9 TooManyChannels"
plan_label causes.RateNotDivisible = codes "10 RateNotDivisible"
plan_label causes.RateTooLarge = codes "11 RateTooLarge"
plan_label causes.TooManyEffects = codes "12 TooManyEffects"
plan_label causes.BadCoefficients = codes "13 BadCoefficients"
plan_label causes.HoldTooLarge = codes "14 HoldTooLarge"
plan_label causes.TooLong = codes "15 TooLong"
plan_label causes.Memory = codes "16 Memory"

-- a fault that belongs to no single effect
abbrev pub is_of_all : PlanCause → Bool
is_of_all causes.HoldTooLarge = true
is_of_all causes.TooLong = true
is_of_all causes.Memory = true
is_of_all cause = false

-- a word of an effect, both counted from 1; no bytes where there is none
abbrev pub reported_word : List (List Word) → ℕ → ℕ → Word
reported_word effects number place =
    if nat_lt 0 number && nat_lt 0 place then unwrap_or (slice_get (effect_words number effects) (place - 1)) [] else []

-- the message on effects that are refused
abbrev pub plan_message : List (List Word) → PlanFault → List ℕ
plan_message effects f =
    if is_of_all f.cause
    then effects_message (plan_label f.cause)
    else effect_message f.effect (reported_word effects f.effect 1) (plan_label f.cause) (reported_word effects f.effect f.word)

-- number and name of what is wrong with a head
abbrev pub head_label : HeadFault → List ℕ
head_label HeadFaults.ReadFailed = codes "1 ReadFailed"
head_label HeadFaults.UnknownType = codes "2 UnknownType"
head_label HeadFaults.Truncated = codes "3 Truncated"
head_label HeadFaults.BadHeader = codes "4 BadHeader"
head_label HeadFaults.NotInProfile = codes "5 NotInProfile"
head_label HeadFaults.TooManyChannels = codes "6 TooManyChannels"
head_label HeadFaults.HeadTooLong = codes "7 HeadTooLong"

-- number and name of why a run stopped
abbrev pub run_label : RunFault → List ℕ
run_label (RunFaults.ReadFailed r) = codes "1 ReadFailed"
run_label (RunFaults.WriteFailed r) = codes "2 WriteFailed"
run_label (RunFaults.TooLong r) = codes "3 TooLong"

-- how many samples an effect clipped; no line where it clipped none
abbrev pub effect_warning : ℕ → List ℕ → ℕ → List ℕ
effect_warning number name zero = []
effect_warning number name (suc n) =
    (codes "soxchain: warning: effect " ++ decimal number ++ codes " " ++ name ++ codes ": clipped samples ")
    ++ (decimal (suc n) ++ line_feed)

-- the warnings of the first effects, this number of them
abbrev pub effect_warnings : List (List Word) → List ℕ → ℕ → List ℕ
effect_warnings effects clips zero = []
effect_warnings effects clips (suc n) = effect_warnings effects clips n ++ effect_warning (n + 1) (reported_word effects (n + 1) 1) (slice_index_or clips n 0)

-- the warnings of a run, a line each, in this order
abbrev pub warnings : Said → Report → List ℕ
warnings line r =
    warning (codes "input: missing bytes") r.missing
    ++ warning (codes "input: stray bytes") r.stray
    ++ effect_warnings (effects_in line) r.clips (min (length (effects_in line)) 32)
    ++ warning (codes "output: clipped samples") r.out_clips

-- the message on what is refused before the run
abbrev pub refusal_message : Said → Refusal → List ℕ
refusal_message line (refusals.Head f) = input_message (head_label f)
refusal_message line (refusals.Plan f) = plan_message (effects_in line) f
refusal_message line refusals.Chain = chain_message

-- the messages on a conversion whose command line was accepted
abbrev pub outcome_messages : Said → Result Report Stop → List ℕ
outcome_messages line (Ok r) = warnings line r
outcome_messages line (Err (Refused r)) = refusal_message line r
outcome_messages line (Err (Run f)) = warnings line (report_at f) ++ run_message (run_label f) (report_at f).frames_in
