-- Messages that were told into memory.
use Rattle.std.proofs.Common.{◌≡◌, ℕ, ◌<◌, ◌≤◌, Bool, true, false, List, [], length, Some, inl, inr, arith}
use Rattle.std.proofs.lemmas.List.{length-take}
use Rattle.soxchain.specs.MessageWriter.{Delivered, TellsBytes}
use Rattle.soxchain_c.specs.Messages.{ReportedBytes}

-- a writer that fails only after its first 4,096 bytes has all of a text, or these at least
delivered-as : (has_failed : Bool) (failures : ℕ) (messages text : List ℕ) → (0 < failures → 4096 ≤ length messages) → Delivered has_failed (Some []) (Some messages) 0 failures text → ReportedBytes messages text
delivered-as false failures messages text long t = inl t.took
delivered-as true failures messages text long t =
    let rose : failures ≡ 1 = t.failed in
    let minimum : 4096 ≤ length messages = long (omega (arith, rose)) in
    inr (record { count = t.count; at_least = omega (arith, rw t.took at minimum, length-take t.count text); part = t.part; delivered = t.took })

pub delivered-bytes : (failures : ℕ) (messages text : List ℕ) → (0 < failures → 4096 ≤ length messages) → TellsBytes (Some []) (Some messages) 0 failures text → ReportedBytes messages text
delivered-bytes failures messages text long t = delivered-as t.has_failed failures messages text long t.delivered
