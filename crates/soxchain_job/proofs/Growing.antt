-- What a crash leaves while the part grows.
use Rattle.std.proofs.Common.{◌≡◌, inl, inr, ⊎_elim, ℕ, ◌+◌, ◌<◌, ◌≤◌, ◌^◌, List, [], ◌++◌, Option, Some, None, length, slice_range, take, drop, refl, sym, ◌∙◌, ap, subst, arith, append_assoc, length-append}
use Rattle.std.proofs.lemmas.List.{take_all, take-append-le, take_at, length-take-le}
use Rattle.std.proofs.lemmas.List.Folds.{drop_split}
use Rattle.std.proofs.lemmas.Nat.{from_le_bytes-to_le_bytes_8}
use Rattle.std.specs.Int.{from_le_bytes, to_le_bytes, w64}
use Rattle.soxchain_job.specs.Checkpoint.{in_progress_bytes}
use Rattle.soxchain_job.specs.Disk.{Appended, Truncated}
use Rattle.soxchain_job.specs.Image.{Image, contents_of}
use Rattle.soxchain_job.specs.Job.{IsConsistent, IsGrowing, IsLive, Job, NoneOrConsistent, Saved, whole_output}
use Rattle.soxchain_job.specs.Conversion.{ConversionModel, ConvertsPiece}
use Rattle.soxchain_job.specs.declared.disk.FileName.TheVariants.{Part}

-- the bytes of a checkpoint say what it is
pub record SameCheckpoint (taken written : ℕ) (frozen : List ℕ) (taken' written' : ℕ) (frozen' : List ℕ) : Type 0 where
  pub taken_same : taken ≡ taken'
  pub written_same : written ≡ written'
  pub frozen_same : frozen ≡ frozen'

word_back : (a b : ℕ) → a < 2 ^ 64 → b < 2 ^ 64 → to_le_bytes w64 a ≡ to_le_bytes w64 b → a ≡ b
word_back a b fa fb e = sym (from_le_bytes-to_le_bytes_8 a fa) ∙ ap (from_le_bytes w64) e ∙ from_le_bytes-to_le_bytes_8 b fb

pub same_checkpoint : (taken written : ℕ) (frozen : List ℕ) (taken' written' : ℕ) (frozen' : List ℕ) → taken < 2 ^ 64 → written < 2 ^ 64 → taken' < 2 ^ 64 → written' < 2 ^ 64
    → in_progress_bytes taken written frozen ≡ in_progress_bytes taken' written' frozen' → SameCheckpoint taken written frozen taken' written' frozen'
same_checkpoint taken written frozen taken' written' frozen' ft fw ft' fw' e = record {
  taken_same = word_back taken taken' ft ft' (ap (λ (l : List ℕ). take 8 (drop 1 l)) e);
  written_same = word_back written written' fw fw' (ap (λ (l : List ℕ). take 8 (drop 9 l)) e);
  frozen_same = ap (λ (l : List ℕ). drop 17 l) e;
}

-- a checkpoint that is there agrees
pub known : {C : Type 0} (conversions : ConversionModel C) (job : Job C) (checkpoint : Option (List ℕ)) (bytes part : List ℕ) → checkpoint ≡ Some bytes → NoneOrConsistent conversions job checkpoint part → IsConsistent conversions job bytes part
known conversions job checkpoint bytes part e h = subst (λ (s : Option (List ℕ)). NoneOrConsistent conversions job s part) e h

module _ {C : Type 0} (conversions : ConversionModel C) (job : Job C) where
  -- the tail of the part does not count
  consistent_front : (bytes part part' : List ℕ) (h : IsConsistent conversions job bytes part) → h.written ≤ length part' → take h.written part' ≡ take h.written part → IsConsistent conversions job bytes part'
  consistent_front bytes part part' h long same = record {
    taken = h.taken;
    written = h.written;
    conversion = h.conversion;
    frozen = h.frozen;
    bytes = h.bytes;
    taken_fits = h.taken_fits;
    written_fits = h.written_fits;
    freezes = h.freezes;
    same_plan = h.same_plan;
    reached = h.reached;
    within = h.within;
    present = long;
    front = h.front ∙ ap (λ (l : List ℕ). l ++ conversions.remaining h.conversion (drop h.taken job.input)) (sym same);
  }

  consistent_tail : (checkpoint : Option (List ℕ)) (part tail : List ℕ) → NoneOrConsistent conversions job checkpoint part → NoneOrConsistent conversions job checkpoint (part ++ tail)
  consistent_tail None part tail h = h
  consistent_tail (Some bytes) part tail h =
      consistent_front bytes part (part ++ tail) h (omega (arith, h.present, length-append part tail)) (take-append-le h.written part tail h.present)

  pub growing_tail : (d c : Image) → IsGrowing conversions job d → Appended Part d c → IsGrowing conversions job c
  growing_tail d c h appended =
      let out : c.out ≡ d.out = ap (λ (i : Image). i.out) appended.elsewhere in
      let checkpoint : c.checkpoint ≡ d.checkpoint = ap (λ (i : Image). i.checkpoint) appended.elsewhere in
      record {
        out = ⊎_elim (λ old. inl (out ∙ old)) (λ new. inr (out ∙ new)) h.out;
        checkpoint = subst (λ (s : Option (List ℕ)). NoneOrConsistent conversions job s (contents_of c.part)) (sym checkpoint)
            (subst (λ (p : List ℕ). NoneOrConsistent conversions job d.checkpoint p) (sym appended.bytes) (consistent_tail d.checkpoint (contents_of d.part) appended.tail h.checkpoint));
      }

  -- truncated to the bytes that the checkpoint counts
  pub truncate_keeps : (taken written : ℕ) (frozen : List ℕ) → taken < 2 ^ 64 → written < 2 ^ 64 → (d c : Image) → IsGrowing conversions job d
      → d.checkpoint ≡ Some (in_progress_bytes taken written frozen) → Truncated Part written d c → IsGrowing conversions job c
  truncate_keeps taken written frozen ft fw d c h says truncated =
      let out : c.out ≡ d.out = ap (λ (i : Image). i.out) truncated.elsewhere in
      let checkpoint : c.checkpoint ≡ d.checkpoint = ap (λ (i : Image). i.checkpoint) truncated.elsewhere in
      let was : IsConsistent conversions job (in_progress_bytes taken written frozen) (contents_of d.part) = known conversions job d.checkpoint (in_progress_bytes taken written frozen) (contents_of d.part) says h.checkpoint in
      let same = same_checkpoint taken written frozen was.taken was.written was.frozen ft fw was.taken_fits was.written_fits was.bytes in
      let size : length (take written (contents_of d.part)) ≡ written = length-take-le written (contents_of d.part) (omega (arith, was.present, same.written_same)) in
      let front : take written (contents_of c.part) ≡ take written (contents_of d.part) =
      ap (λ (l : List ℕ). take written l) truncated.bytes ∙ take_at (take written (contents_of d.part)) truncated.tail written size in
      let now : IsConsistent conversions job (in_progress_bytes taken written frozen) (contents_of c.part) =
      consistent_front (in_progress_bytes taken written frozen) (contents_of d.part) (contents_of c.part) was
      (omega (arith, same.written_same, size, ap length truncated.bytes, length-append (take written (contents_of d.part)) truncated.tail))
      (subst (λ (n : ℕ). take n (contents_of c.part) ≡ take n (contents_of d.part)) same.written_same front) in
      record {
        out = ⊎_elim (λ old. inl (out ∙ old)) (λ new. inr (out ∙ new)) h.out;
        checkpoint = subst (λ (s : Option (List ℕ)). NoneOrConsistent conversions job s (contents_of c.part)) (sym (checkpoint ∙ says)) now;
      }

  -- another checkpoint that agrees
  pub saved_growing : (bytes : List ℕ) (d c : Image) → IsGrowing conversions job d → Saved bytes d c → IsConsistent conversions job bytes (contents_of d.part) → IsGrowing conversions job c
  saved_growing bytes d c h saved so = record {
    out = ⊎_elim (λ old. inl (saved.out ∙ old)) (λ new. inr (saved.out ∙ new)) h.out;
    checkpoint = subst (λ (p : Option (List ℕ)). NoneOrConsistent conversions job c.checkpoint (contents_of p)) (sym saved.part)
        (⊎_elim
        (λ same. subst (λ (s : Option (List ℕ)). NoneOrConsistent conversions job s (contents_of d.part)) (sym same) h.checkpoint)
        (λ new. subst (λ (s : Option (List ℕ)). NoneOrConsistent conversions job s (contents_of d.part)) (sym new) so)
        saved.checkpoint);
  }

  -- the checkpoint of what is seen
  pub live_consistent : (conversion : C) (taken written : ℕ) (frozen : List ℕ) (now : Image) → IsLive conversions job conversion taken written now → conversions.frozen_as conversion frozen → taken < 2 ^ 64 → written < 2 ^ 64
      → IsConsistent conversions job (in_progress_bytes taken written frozen) (contents_of now.part)
  live_consistent conversion taken written frozen now live freezes ft fw = record {
    taken = taken;
    written = written;
    conversion = conversion;
    frozen = frozen;
    bytes = refl;
    taken_fits = ft;
    written_fits = fw;
    freezes = freezes;
    same_plan = live.same_plan;
    reached = live.reached;
    within = live.within;
    present = omega (arith, live.size);
    front = live.front ∙ ap (λ (l : List ℕ). l ++ conversions.remaining conversion (drop taken job.input)) (sym (take_all written (contents_of now.part) (omega (arith, live.size))));
  }

  -- the first checkpoint
  pub first_consistent : (frozen part : List ℕ) → job.reached ≡ 0 → conversions.frozen_as job.start frozen → IsConsistent conversions job (in_progress_bytes 0 0 frozen) part
  first_consistent frozen part unreached freezes = record {
    taken = 0;
    written = 0;
    conversion = job.start;
    frozen = frozen;
    bytes = refl;
    taken_fits = omega arith;
    written_fits = omega arith;
    freezes = freezes;
    same_plan = refl;
    reached = omega (arith, unreached);
    within = omega arith;
    present = omega arith;
    front = refl;
  }

  -- a piece more
  pub advanced : (conversion conversion' : C) (taken size written written' : ℕ) (piece buffer' : List ℕ) (old now : Image) → IsLive conversions job conversion taken written old
      → conversions.plan conversion' ≡ conversions.plan conversion → ConvertsPiece conversions.remaining conversion conversion' piece [] buffer' → piece ≡ slice_range job.input taken (taken + size) → taken + size ≤ length job.input
      → now.part ≡ Some (contents_of old.part ++ buffer') → written' ≡ written + length buffer' → IsLive conversions job conversion' (taken + size) written' now
  advanced conversion conversion' taken size written written' piece buffer' old now live same steps piece_is within part_is size_is =
      let split : drop taken job.input ≡ piece ++ drop (taken + size) job.input =
      drop_split job.input taken (taken + size) (omega arith) ∙ ap (λ (l : List ℕ). l ++ drop (taken + size) job.input) (sym piece_is) in
      let bytes : contents_of now.part ≡ contents_of old.part ++ buffer' = ap contents_of part_is in
      let gives : conversions.remaining conversion (drop taken job.input) ≡ buffer' ++ conversions.remaining conversion' (drop (taken + size) job.input) =
      ap (λ (l : List ℕ). conversions.remaining conversion l) split ∙ steps.rest (drop (taken + size) job.input) ∙ ap (λ (l : List ℕ). l ++ conversions.remaining conversion' (drop (taken + size) job.input)) (sym steps.appended) in
      record {
        same_plan = same ∙ live.same_plan;
        reached = omega (arith, live.reached);
        within = within;
        size = omega (arith, ap length bytes, length-append (contents_of old.part) buffer', live.size, size_is);
        front = live.front ∙ ap (λ (l : List ℕ). contents_of old.part ++ l) gives ∙ sym (append_assoc (contents_of old.part) buffer' (conversions.remaining conversion' (drop (taken + size) job.input)))
            ∙ ap (λ (l : List ℕ). l ++ conversions.remaining conversion' (drop (taken + size) job.input)) (sym bytes);
      }

  -- what was frozen, with the part truncated
  pub resumed : (taken written : ℕ) (frozen part : List ℕ) (now : Image) (conversion : C) (was : IsConsistent conversions job (in_progress_bytes taken written frozen) part) → taken < 2 ^ 64 → written < 2 ^ 64 → conversion ≡ was.conversion
      → now.part ≡ Some (take written part) → IsLive conversions job conversion taken written now
  resumed taken written frozen part now conversion was ft fw thawed part_is =
      let same = same_checkpoint taken written frozen was.taken was.written was.frozen ft fw was.taken_fits was.written_fits was.bytes in
      let bytes : contents_of now.part ≡ take written part = ap contents_of part_is in
      let front : whole_output conversions job ≡ take written part ++ conversions.remaining was.conversion (drop taken job.input) =
      was.front ∙ ap (λ (n : ℕ). take n part ++ conversions.remaining was.conversion (drop was.taken job.input)) (sym same.written_same) ∙ ap (λ (n : ℕ). take written part ++ conversions.remaining was.conversion (drop n job.input)) (sym same.taken_same) in
      record {
        same_plan = ap conversions.plan thawed ∙ was.same_plan;
        reached = omega (arith, was.reached, same.taken_same);
        within = omega (arith, was.within, same.taken_same);
        size = ap length bytes ∙ length-take-le written part (omega (arith, was.present, same.written_same));
        front = front ∙ ap (λ (m : C). take written part ++ conversions.remaining m (drop taken job.input)) (sym thawed) ∙ ap (λ (l : List ℕ). l ++ conversions.remaining conversion (drop taken job.input)) (sym bytes);
      }

  -- what is written already, and a piece more, is part of the whole output
  pub longer_output : (conversion conversion' : C) (taken written : ℕ) (piece buffer' : List ℕ) (old : Image) (rest : List ℕ) → IsLive conversions job conversion taken written old
      → ConvertsPiece conversions.remaining conversion conversion' piece [] buffer' → drop taken job.input ≡ piece ++ rest → written + length buffer' ≤ length (whole_output conversions job)
  longer_output conversion conversion' taken written piece buffer' old rest live steps split =
      let gives : conversions.remaining conversion (drop taken job.input) ≡ buffer' ++ conversions.remaining conversion' rest =
      ap (λ (l : List ℕ). conversions.remaining conversion l) split ∙ steps.rest rest ∙ ap (λ (l : List ℕ). l ++ conversions.remaining conversion' rest) (sym steps.appended) in
      omega (arith, ap length live.front, length-append (contents_of old.part) (conversions.remaining conversion (drop taken job.input)), ap length gives, length-append buffer' (conversions.remaining conversion' rest), live.size)
