-- One more image joins those that a disk in memory has had.
use Rattle.std.proofs.Common.{◌≡◌, ◌⊎◌, inl, inr, ⊎_elim, ℕ, zero, suc, ◌≤◌, List, [], ◌∷◌, ◌++◌, length, take, drop, take-append-drop, Option, Some, refl, sym, ◌∙◌, ap, subst, arith, length-append}
use Rattle.std.proofs.lemmas.List.{append-nil}
use Rattle.soxchain_job.specs.Disk.{Changed, Elapses, Appended, Truncated}
use Rattle.soxchain_job.specs.Image.{Image, at, bytes_at, contents_of, put}
use Rattle.soxchain_job.specs.History.{WasBefore, image_of, memory_model}
use Rattle.soxchain_job.specs.declared.disk.FileName.{FileName}
use Rattle.soxchain_job.specs.declared.disk.FileName.TheVariants.{Part, NewCheckpoint, Checkpoint, Out}
use Rattle.soxchain_job.specs.declared.files.Files.{Files}
use Rattle.soxchain_job.specs.declared.files.MemoryDisk.{MemoryDisk}

keeps : (history : List Files) (f : Files) (c : Image) → WasBefore history c → WasBefore (history ++ f ∷ []) c
keeps [] f c had = absurd had
keeps (p ∷ history) f c (inl here) = inl here
keeps (p ∷ history) f c (inr there) = inr (keeps history f c there)

adds : (history : List Files) (f : Files) (c : Image) → WasBefore (history ++ f ∷ []) c → WasBefore history c ⊎ (c ≡ image_of f)
adds [] f c (inl here) = inr here
adds [] f c (inr none) = absurd none
adds (p ∷ history) f c (inl here) = inl (inl here)
adds (p ∷ history) f c (inr there) = ⊎_elim (λ had. inl (inr had)) (λ new. inr new) (adds history f c there)

newest : (history : List Files) (f : Files) (c : Image) → c ≡ image_of f → WasBefore (history ++ f ∷ []) c
newest [] f c is = inl is
newest (p ∷ history) f c is = inr (newest history f c is)

drop_push : (t : ℕ) (history : List Files) (f : Files) → t ≤ length history → drop t (history ++ f ∷ []) ≡ drop t history ++ f ∷ []
drop_push zero history f le = refl
drop_push (suc t) [] f le = absurd (omega arith)
drop_push (suc t) (p ∷ history) f le = drop_push t history f (omega arith)

pub elapses_to : (m m' : MemoryDisk) (f : Files) → image_of f ≡ image_of m.files → m'.history.items ≡ m.history.items ++ f ∷ [] → m'.began ≡ m.began → Elapses memory_model m m'
elapses_to m m' f is more same_run = record {
  same_run = same_run;
  later = omega (arith, ap_length, length-append m.history.items (f ∷ []));
  nothing_else = λ t c le left. ⊎_elim (λ now. inr now)
      (λ had. inl (was t c (adds (drop t m.history.items) f c (subst (λ (l : List Files). WasBefore l c) (drop_push t m.history.items f le) (subst (λ (l : List Files). WasBefore (drop t l) c) more had))))) left;
  keeps = λ t c le left. inr (subst (λ (l : List Files). WasBefore (drop t l) c) (sym more) (subst (λ (l : List Files). WasBefore l c) (sym (drop_push t m.history.items f le))
      (⊎_elim (λ now. newest (drop t m.history.items) f c (now ∙ sym is)) (keeps (drop t m.history.items) f c) left)));
}
  where
    ap_length : length m'.history.items ≡ length (m.history.items ++ f ∷ [])
    ap_length = (subst (λ (l : List Files). length m'.history.items ≡ length l) more refl)

    was : (t : ℕ) (c : Image) → WasBefore (drop t m.history.items) c ⊎ (c ≡ image_of f) → memory_model.left_since m t c
    was t c (inl had) = inr had
    was t c (inr new) = inl (new ∙ is)

-- what one `put` changed
pub put_changed : (name : FileName) (v : Option (List ℕ)) (d c : Image) → c ≡ put name v d → Changed name d c
put_changed Part v d c e = e ∙ ap (λ (w : Option (List ℕ)). put Part w d) (sym (ap (λ (i : Image). i.part) e))
put_changed NewCheckpoint v d c e = e ∙ ap (λ (w : Option (List ℕ)). put NewCheckpoint w d) (sym (ap (λ (i : Image). i.new_checkpoint) e))
put_changed Checkpoint v d c e = e ∙ ap (λ (w : Option (List ℕ)). put Checkpoint w d) (sym (ap (λ (i : Image). i.checkpoint) e))
put_changed Out v d c e = e ∙ ap (λ (w : Option (List ℕ)). put Out w d) (sym (ap (λ (i : Image). i.out) e))

pub at-put : (name : FileName) (v : Option (List ℕ)) (d : Image) → at name (put name v d) ≡ v
at-put Part v d = refl
at-put NewCheckpoint v d = refl
at-put Checkpoint v d = refl
at-put Out v d = refl

pub put_same : (name : FileName) (d : Image) → d ≡ put name (at name d) d
put_same Part d = refl
put_same NewCheckpoint d = refl
put_same Checkpoint d = refl
put_same Out d = refl

pub put_appended : (name : FileName) (more : List ℕ) (d c : Image) → c ≡ put name (Some (bytes_at name d ++ more)) d → Appended name d c
put_appended name more d c e = record {
  elsewhere = put_changed name (Some (bytes_at name d ++ more)) d c e;
  tail = more;
  bytes = ap (λ (i : Image). bytes_at name i) e ∙ ap contents_of (at-put name (Some (bytes_at name d ++ more)) d);
}

pub same_appended : (name : FileName) (d : Image) → Appended name d d
same_appended name d = record { elsewhere = put_same name d; tail = []; bytes = sym (append-nil (bytes_at name d)) }

pub put_truncated : (name : FileName) (len : ℕ) (d c : Image) → c ≡ put name (Some (take len (bytes_at name d))) d → Truncated name len d c
put_truncated name len d c e = record {
  elsewhere = put_changed name (Some (take len (bytes_at name d))) d c e;
  tail = [];
  bytes = ap (λ (i : Image). bytes_at name i) e ∙ ap contents_of (at-put name (Some (take len (bytes_at name d))) d) ∙ sym (append-nil (take len (bytes_at name d)));
}

pub same_truncated : (name : FileName) (len : ℕ) (d : Image) → Truncated name len d d
same_truncated name len d = record { elsewhere = put_same name d; tail = drop len (bytes_at name d); bytes = sym (take-append-drop len (bytes_at name d)) }

-- a call that left the files as they were
pub same_follows : (step : Image → Image → Type 0) → ((d : Image) → step d d) → (d c : Image) → c ≡ d → (from : Image) × (from ≡ d) × step from c
same_follows step same d c e = (d, refl, subst (λ (i : Image). step d i) (sym e) (same d))
