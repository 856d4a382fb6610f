-- The head of IN as it is read (this project's profile).
use Rattle.std.specs.Prelude.{◌≡◌, ◌≢◌, ℕ, ◌+◌, List, Option, Result, Ok, Err, MatchBool}
use Rattle.fx_sound.specs.Head.{head_of}
use Rattle.fx_sound.specs.HeadFields.{is_read_failure}
use Rattle.fx_sound.specs.Known.{IfKnown}
use Rattle.fx_sound.specs.declared.head.Head.{Head}
use Rattle.fx_sound.specs.declared.head.HeadFault.{HeadFault}
use Rattle.fx_sound.specs.declared.head.HeadFault.TheVariants.{ReadFailed}
use Rattle.fx_sound.specs.declared.head.Kind.{Kind}
use Rattle.fx_sound.specs.Reads.{CutOff}
use Rattle.fx_sound.specs.Source.{Held}
use Rattle.fx_frame_base.specs.Io.{ByteReader, saturated}
use Rattle.soxchain.specs.Convert.{Begins, unread_source}
use Rattle.soxchain_common.specs.Consoles.{IsNewReader}
use Rattle.soxchain_plan.specs.Formats.{IsFormatOf}
use Rattle.soxchain_plan.specs.Trailing.{IsEndOf}
use Rattle.soxchain_plan.specs.declared.reading.HeadRead.{HeadRead}

-- the bytes begin with this head, or else have this fault unless a read failed
abbrev pub IsHeadOf : Option Kind → List ℕ → Result Head HeadFault → Type 0
IsHeadOf expected bytes (Ok head) = (offset : ℕ) × Begins expected bytes head offset
IsHeadOf expected bytes (Err fault) = fault ≢ ReadFailed → head_of expected bytes ≡ Err fault

-- This is read from a reader, which ends in this state, with what is held of it. A failed read is reported only where one
-- failed, and only one; what had come before did not decide the result.
pub record HeadIsRead {R : Type 0} (reads : ByteReader R) (expected : Option Kind) (reader : R) (head : Result Head HeadFault) : Type 0 where
  pub ended : Held R
  pub is_head : IfKnown (reads.rest reader) (λ bytes. IsHeadOf expected bytes head)
  pub failures : MatchBool (is_read_failure head) (reads.failures ended.reader ≡ saturated (reads.failures reader + 1)) (reads.failures ended.reader ≡ reads.failures reader)
  pub cut : head ≡ Err ReadFailed → CutOff reads.rest reads.delivered (head_of expected) (unread_source reader) ended

-- standard input was requested, and this is read from it
pub record IsHeadFrom {I : Type 0} (is_input : I → Type 0) (reads : ByteReader I) (expected : Option Kind) (found : HeadRead) : Type 0 where
  pub reader : I
  pub is_reader : is_input reader
  pub fresh : IsNewReader reads reader
  pub read : HeadIsRead reads expected reader found.head
  pub format : IsFormatOf (reads.rest reader) found.format
  pub end : IsEndOf (reads.rest reader) found.end

-- the file of this name was opened, and this is read from it
pub record IsHeadIn {R : Type 0} (opened : List ℕ → R → Type 0) (reads : ByteReader R) (name : List ℕ) (expected : Option Kind) (found : HeadRead) : Type 0 where
  pub reader : R
  pub is_opened : opened name reader
  pub fresh : IsNewReader reads reader
  pub read : HeadIsRead reads expected reader found.head
  pub format : IsFormatOf (reads.rest reader) found.format
  pub end : IsEndOf (reads.rest reader) found.end
