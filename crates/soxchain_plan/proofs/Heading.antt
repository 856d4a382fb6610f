-- What is read of a head, from a reader of which nothing was read yet.
use Rattle.std.proofs.Common.{◌≡◌, ℕ, ◌+◌, ◌-◌, ◌^◌, ◌<◌, List, ◌++◌, length, take, Option, Some, None, Result, Ok, Err, IfErr, IfOk, MatchBool, refl, sym, arith}
use Rattle.std.proofs.Math.Seq.{take-append_seam}
use Rattle.std.proofs.lemmas.Bool.Decides.{nat_tests}
use Rattle.std.proofs.lemmas.List.{length-take}
use Rattle.std.specs.Io.KnownBytes.{prepend_known}
use Rattle.fx_frame_base.specs.Io.{ByteReader, saturated}
use Rattle.fx_sound.specs.Head.{ReadsHead, head_of}
use Rattle.fx_sound.specs.HeadFields.{is_read_failure}
use Rattle.fx_sound.specs.Known.{IfKnown}
use Rattle.fx_sound.specs.Reads.{CutOff, Fails, Refuses}
use Rattle.fx_sound.specs.Source.{Held, Stays, Takes, to_come}
use Rattle.fx_sound.specs.declared.head.Head.{Head}
use Rattle.fx_sound.specs.declared.head.HeadFault.{HeadFault}
use Rattle.fx_sound.specs.declared.head.HeadFault.TheVariants.{ReadFailed, Truncated}
use Rattle.fx_sound.specs.declared.head.Kind.{Kind}
use Rattle.soxchain.specs.Convert.{unread_source}
use Rattle.soxchain.proofs.Converting.{to_come-start}
use Rattle.soxchain_plan.specs.Heads.{HeadIsRead, IsHeadOf}

-- the head, or its fault, is that of the bytes
pub known-head : {R : Type 0} (reads : ByteReader R) (expected : Option Kind) (old new : Held R) (bytes : List ℕ) (result : Result Head HeadFault) → to_come reads.rest old ≡ Some bytes
    → IfOk result (λ h. IfKnown (to_come reads.rest old) (λ bs. ReadsHead reads.rest reads.delivered expected bs old new h)) → IfErr result (Refuses reads.rest (head_of expected) old) → IsHeadOf expected bytes result
known-head reads expected old new bytes (Ok h) e head fault = let read = head bytes e in (read.offset, record { spelt = read.spelt; there = read.there; near = read.near })
known-head reads expected old new bytes (Err f) e head fault = λ other. fault other bytes e

-- where a read failed, the bytes that had come decided nothing
pub cut-head : {R : Type 0} (reads : ByteReader R) (expected : Option Kind) (old new : Held R) (result : Result Head HeadFault) → result ≡ Err ReadFailed
    → IfErr result (Fails reads.rest reads.delivered (head_of expected) old new) → CutOff reads.rest reads.delivered (head_of expected) old new
cut-head reads expected old new (Ok h) e fails = absurd (cc)
cut-head reads expected old new (Err f) e fails = let same : f ≡ ReadFailed = cc in fails same

-- what is held is the first of what is to come
front-of : (held : List ℕ) (rest : Option (List ℕ)) (bytes : List ℕ) → prepend_known held rest ≡ Some bytes → held ≡ take (length held) bytes
front-of held None bytes e = absurd cc
front-of held (Some more) bytes e = let same : held ++ more ≡ bytes = cc in rw (sym same) (sym (take-append_seam held more))

-- what decided nothing of what is held decided nothing of the reader
cut-start : {R : Type 0} (reads : ByteReader R) (expected : Option Kind) (reader : R) (held new : Held R)
    → Stays reads.rest (unread_source reader) held → Takes reads.delivered (unread_source reader) held 0
    → CutOff reads.rest reads.delivered (head_of expected) held new → CutOff reads.rest reads.delivered (head_of expected) (unread_source reader) new
cut-start reads expected reader held new stays takes cut = record {
  came = cut.came;
  tells = record {
    enough = omega arith;
    counted = λ below.
        let came = cut.tells.counted below in
        let earlier : reads.delivered held.reader < 2 ^ 64 - 1 = omega (arith, came, cut.tells.enough, below) in
        omega (arith, came, takes.counted earlier);
  };
  undecided = λ bytes known. cut.undecided bytes (stays bytes known);
}

-- fewer than four bytes decide nothing
short-head : (expected : Option Kind) (bytes : List ℕ) → length bytes < 4 → head_of expected bytes ≡ Err Truncated
unfolding head_of
short-head expected bytes h = grind (arith, nat_tests)

-- where fewer than four bytes came before a read failed, that is what is wrong
pub head-unread : {R : Type 0} (reads : ByteReader R) (expected : Option Kind) (reader : R) (new : Held R)
    → Takes reads.delivered (unread_source reader) new 0 → length new.bytes < 4 → reads.failures new.reader ≡ saturated (reads.failures reader + 1)
    → HeadIsRead reads expected reader (Err ReadFailed)
head-unread reads expected reader new takes bound failed = record {
  ended = new;
  is_head = λ bytes known other. absurd (other refl);
  failures = failed;
  cut = λ e. record { came = 0 + length new.bytes; tells = takes; undecided = λ bytes known. short-head expected (take (0 + length new.bytes) bytes) (omega (arith, length-take (0 + length new.bytes) bytes, bound)) };
}

-- what `read_head` promises of a source that holds bytes of its reader is what is said of that reader
pub head-read : {R : Type 0} (reads : ByteReader R) (expected : Option Kind) (reader : R) (held new : Held R) (result : Result Head HeadFault)
    → Stays reads.rest (unread_source reader) held
    → Takes reads.delivered (unread_source reader) held 0
    → reads.failures held.reader ≡ reads.failures reader
    → IfOk result (λ h. IfKnown (to_come reads.rest held) (λ bs. ReadsHead reads.rest reads.delivered expected bs held new h))
    → IfErr result (Refuses reads.rest (head_of expected) held)
    → IfErr result (Fails reads.rest reads.delivered (head_of expected) held new)
    → MatchBool (is_read_failure result) (reads.failures new.reader ≡ saturated (reads.failures held.reader + 1)) (reads.failures new.reader ≡ reads.failures held.reader)
    → HeadIsRead reads expected reader result
head-read reads expected reader held new result stays takes unfailed head fault fails failures = record {
  ended = new;
  is_head = λ bytes known. known-head reads expected held new bytes result (stays bytes (to_come-start reads.rest (unread_source reader) reader bytes refl refl known)) head fault;
  failures = rw unfailed at failures;
  cut = λ e. cut-start reads expected reader held new stays takes (cut-head reads expected held new result e fails);
}

-- the bytes that are held are the first of the reader
pub held-front : {R : Type 0} (reads : ByteReader R) (reader : R) (held : Held R) → Stays reads.rest (unread_source reader) held
    → IfKnown (reads.rest reader) (λ bytes. held.bytes ≡ take (length held.bytes) bytes)
held-front reads reader held stays bytes known = front-of held.bytes (reads.rest held.reader) bytes (stays bytes (to_come-start reads.rest (unread_source reader) reader bytes refl refl known))
