-- What stays true while texts go to a writer of messages.
use Rattle.std.proofs.Common.{◌≡◌, ℕ, zero, suc, refl, ◌<◌, ◌+◌, ◌-◌, ◌≤◌, Bool, true, false, not, List, [], ◌++◌, length, take, drop, sym, ap, ◌∙◌, arith, Option, MatchBool, codes, decimal, slice_index_or}
use Rattle.std.proofs.lemmas.List.{append_assoc, length-drop, length-append, take-append-le, take_all}
use Rattle.std.proofs.Math.Seq.{take-add, take-append-add}
use Rattle.std.proofs.KnownBytes.{Appends-nil, Appends-trans}
use Rattle.std.specs.Io.KnownBytes.{Appends}
use Rattle.fx_frame_base.specs.Io.{ByteWriter}
use Rattle.fx_plan_words.specs.Faults.{Word}
use Rattle.soxchain.specs.Messages.{effect_warning, effect_warnings, line_feed, reported_word, warning}
use Rattle.std.specs.Borrow.{MutBor}
use Rattle.soxchain.specs.declared.message_writer.MessageWriter.{MessageWriter}
use Rattle.soxchain.specs.Saying.{BeginsMessage, Says}
use Rattle.soxchain.specs.MessageWriter.{Delivered, ReportedFront, ReportedAll, WritesMessage}

-- a front is one of more bytes too
pub ReportedFront-longer : (first now : Option (List ℕ)) (failures new : ℕ) (all text : List ℕ) → ReportedFront first now failures new all → ReportedFront first now failures new (all ++ text)
ReportedFront-longer first now failures new all text t = record {
  count = t.count;
  part = omega (arith, t.part, length-append all text);
  took = rw (take-append-le t.count all text t.part) t.took;
  failed = t.failed;
}

-- a whole text after all that was told
pub ReportedAll-more : (first now new : Option (List ℕ)) (failures before after : ℕ) (all text : List ℕ) → ReportedAll first now failures before all → Appends now new text → after ≡ before → ReportedAll first new failures after (all ++ text)
ReportedAll-more first now new failures before after all text t a e = record {
  took = Appends-trans first now new all text t.took a;
  unfailed = e ∙ t.unfailed;
}

-- a front of a text after all that was told
pub ReportedFront-more : (first now new : Option (List ℕ)) (failures before after : ℕ) (all text : List ℕ) → ReportedAll first now failures before all → ReportedFront now new before after text → ReportedFront first new failures after (all ++ text)
ReportedFront-more first now new failures before after all text t f = record {
  count = length all + f.count;
  part = omega (arith, f.part, length-append all text);
  took = rw (take-append-add all text f.count) (Appends-trans first now new all (take f.count text) t.took f.took);
  failed = rw t.unfailed at f.failed;
}

-- a text after all that was told, wherever the writer failed
pub Delivered-text : (whole : Bool) (first now new : Option (List ℕ)) (failures before after : ℕ) (all text : List ℕ) → ReportedAll first now failures before all
    → MatchBool whole (Appends now new text × (after ≡ before)) (ReportedFront now new before after text) → Delivered (not whole) first new failures after (all ++ text)
Delivered-text true first now new failures before after all text t h = ReportedAll-more first now new failures before after all text t h.0 h.1
Delivered-text false first now new failures before after all text t h = ReportedFront-more first now new failures before after all text t h

-- what is left of a text, as a slice of it
left-all : (delivered : ℕ) (text : List ℕ) → take (length text - delivered) (drop delivered text) ≡ drop delivered text
left-all delivered text = take_all (length text - delivered) (drop delivered text) (omega (arith, length-drop delivered text))

-- n more bytes of a text
pub Appends-part : (first now new : Option (List ℕ)) (delivered n : ℕ) (text : List ℕ) → Appends first now (take delivered text)
    → Appends now new (take n (take (length text - delivered) (drop delivered text))) → Appends first new (take (delivered + n) text)
Appends-part first now new delivered n text a b =
    rw (take-add delivered n text) (Appends-trans first now new _ _ a (rw (left-all delivered text) at b))

pub part-within : (delivered n : ℕ) (text : List ℕ) → delivered ≤ length text → n ≤ length (take (length text - delivered) (drop delivered text)) → delivered + n ≤ length text
part-within delivered n text h k = omega (arith, length-drop delivered text, rw (left-all delivered text) at k)

-- what was counted has its line
pub warning-counted : (counted : List ℕ) (n : ℕ) → 0 < n → warning counted n ≡ codes "soxchain: warning: " ++ counted ++ codes " " ++ decimal n ++ line_feed
warning-counted counted zero h = absurd (omega arith)
warning-counted counted (suc n) h = refl

-- two texts, one after the other
pub Says-then : {M : Type 0} (writes : ByteWriter M) (a b c : MessageWriter M) (s t : List ℕ) → Says writes a b s → Says writes b c t → Says writes a c (s ++ t)
Says-then writes a b c s t first second = record {
  same = second.same ∙ first.same;
  more = λ start count all delivered. rw (sym (append_assoc all s t)) (second.more start count (all ++ s) (first.more start count all delivered));
}

-- three texts, one after the other
pub Says-three : {M : Type 0} (writes : ByteWriter M) (a b c d : MessageWriter M) (s t u : List ℕ) → Says writes a b s → Says writes b c t → Says writes c d u → Says writes a d (s ++ t ++ u)
Says-three writes a b c d s t u first second third = Says-then writes a c d (s ++ t) u (Says-then writes a b c s t first second) third

-- a text before which nothing was told
pub Tells-said : {M : Type 0} (writes : ByteWriter M) (messages : MutBor M) (from to : MessageWriter M) (last : M) (text : List ℕ) → BeginsMessage messages from → last ≡ to.messages.now → Says writes from to text → WritesMessage writes messages.now last text
Tells-said writes messages from to last text begun ended said = record {
  has_failed = to.has_failed;
  delivered = rw (ended, sym begun.undelivered) (said.more (writes.taken from.messages.now) (writes.failures from.messages.now) [] (rw (begun.unfailed) (record { took = Appends-nil (writes.taken from.messages.now); unfailed = refl })));
}

-- what an effect clipped has its line
pub effect_warning-counted : (number : ℕ) (name : List ℕ) (n : ℕ) → 0 < n
    → effect_warning number name n ≡ (codes "soxchain: warning: effect " ++ decimal number ++ codes " " ++ name ++ codes ": clipped samples ") ++ (decimal n ++ line_feed)
effect_warning-counted number name zero h = absurd (omega arith)
effect_warning-counted number name (suc n) h = refl

-- the warnings of one more effect
pub effect_warnings-more : (effects : List (List Word)) (clips : List ℕ) (n : ℕ) → effect_warnings effects clips (n + 1) ≡ effect_warnings effects clips n ++ effect_warning (n + 1) (reported_word effects (n + 1) 1) (slice_index_or clips n 0)
effect_warnings-more effects clips n =
    let next : n + 1 ≡ suc n = omega arith in
    ap (effect_warnings effects clips) next
