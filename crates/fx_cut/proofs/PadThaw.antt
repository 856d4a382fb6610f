-- A pad that comes back from its frames and numbers.
use Rattle.std.proofs.Common.{◌≡◌, ℕ, ℤ, zero, suc, ◌+◌, ◌-◌, ◌<◌, ◌≤◌, ◌^◌, min, Bool, true, false, cond, List, [], ◌∷◌, ◌++◌, length, refl, sym, ◌∙◌, ap, arith, length-append, append-nil, inl, inr, ◌⊎◌, map, Option, Some, None, option_to_list, nat_eq, nat_lt, replicate, slice_index_or, sum_by, filter}
use Rattle.std.proofs.lemmas.Bool.{cases_lt, le-ltb}
use mathlib.Core.Path.{ap₂}
use Rattle.std.proofs.lemmas.List.{length-replicate, nil_from_length}
use Rattle.fx_fixed.specs.Extents.{largest}
use Rattle.fx_cut.specs.PadExtents.{pad_distance}
use Rattle.fx_fixed.specs.declared.positions.At.{At}
use Rattle.fx_frame_base.specs.Frame.{Samples, silence}
use Rattle.fx_frame.specs.Frozen.{IsStored}
use Rattle.fx_frame_line.specs.Line.{Frames}
use Rattle.fx_frame_base.specs.Stage.{Freezes, coming, numbers_of}
use Rattle.fx_frame_base.specs.StageCore.{pending_frames, restored_core}
use Rattle.fx_cut.specs.Pad.{IsPads, ats, lengths, pad_due, pads_from_start, placed, silent_at, RisesFrom}
use Rattle.fx_cut.specs.PadState.{PadState, IsPad, IsPadCount, all_padded, later_count, pad_acts, pad_after, pad_left, padded_from, unless_last}
use Rattle.fx_cut.proofs.PendingLemmas.{no-pending}
use Rattle.fx_cut.proofs.PadLaws.{length_from, length_padded, pad_first, same_silence, silence-bound, upto_more}
use Rattle.fx_cut.proofs.PadRest.{pad_new}
use Rattle.fx_cut.proofs.Thawing.{lined}
use Rattle.fx_frame.proofs.Counts.{flag-of}

-- ---- before the end

-- how many silent frames stand before a place
abbrev upto : List (ℕ × At) → ℕ → ℕ
upto ps m = sum_by (λ p. p.0) (filter (λ p. nat_lt p.1 m) (pads_from_start ps))

-- no pad stands before the first frame
pub no-pads : (pads : List (ℕ × ℕ)) → sum_by (λ p. p.0) (filter (λ p. nat_lt p.1 0) pads) ≡ 0
no-pads [] = refl
no-pads ((k, p) ∷ pads) = ap (λ b. sum_by (λ p. p.0) (cond b ((k, p) ∷ filter (λ p. nat_lt p.1 0) pads) (filter (λ p. nat_lt p.1 0) pads))) (le-ltb p 0 (omega arith)) ∙ no-pads pads

-- what was given and what is to be given are no more than came and the pads have
front : (channels : ℕ) (ps : List (ℕ × At)) (m : ℕ) (y : List Samples) → RisesFrom 0 (ats ps) → (m ≡ 0) ⊎ (largest (map pad_distance ps) ≤ length y)
    → m + upto ps m + length (padded_from channels (m + length y) ps m y) ≤ m + length y + lengths ps
front channels ps zero y r h =
    let none : upto ps 0 ≡ 0 = no-pads (pads_from_start ps) in
    let e : length (padded_from channels (0 + length y) ps 0 y) ≡ length (Rattle.fx_cut.specs.Pad.padded channels ps y) = ap length (sym (pad_new channels ps y)) in
    let maximum = length_padded channels ps y in
    omega arith
front channels ps (suc m) y r (inl e) = absurd (omega arith)
front channels ps (suc m) y r (inr h) =
    let before : m + upto ps m + length (padded_from channels (m + length ([] ∷ y)) ps m ([] ∷ y)) ≤ m + length ([] ∷ y) + lengths ps = front channels ps m ([] ∷ y) r (inr (omega arith)) in
    let len : ℕ = m + length ([] ∷ y) in
    let silent_frames : List Samples = replicate (silent_at (placed len ps) m) (silence channels) in
    let same : silent_at (placed len ps) m ≡ silent_at (pads_from_start ps) m = same_silence len m 0 ps (omega arith) r in
    let size : length silent_frames ≡ silent_at (placed len ps) m = length-replicate (silent_at (placed len ps) m) (silence channels) in
    let whole : length (padded_from channels len ps m ([] ∷ y)) ≡ length silent_frames + suc (length (padded_from channels len ps (m + 1) y)) =
    ap length (pad_first channels len ps m [] y) ∙ length-append silent_frames ([] ∷ padded_from channels len ps (m + 1) y) in
    let next : length (padded_from channels len ps (m + 1) y) ≡ length (padded_from channels (suc m + length y) ps (suc m) y) =
    ap (λ (p : ℕ × ℕ). length (padded_from channels (p.0) ps (p.1) y)) (let a : len ≡ suc m + length y = omega arith in let b : m + 1 ≡ suc m = omega arith in ap₂ (λ u v. (u, v)) a b) in
    let more : upto ps (suc m) ≡ upto ps m + silent_at (pads_from_start ps) m = ap (upto ps) (let b : suc m ≡ m + 1 = omega arith in b) ∙ upto_more m (pads_from_start ps) in
    omega (arith, before, same, size, whole, next, more)

left-length : (s : PadState) (z : List Samples) → length (pad_left s z) ≡ s.silent + (length (pending_frames s.core) + length (unless_last s.core.ended s.core.pending (pad_after s.recipe s.core.taken s.line.items (coming s.core.ended z))))
left-length s z =
    let later : List Samples = unless_last s.core.ended s.core.pending (pad_after s.recipe s.core.taken s.line.items (coming s.core.ended z)) in
    length-append (replicate s.silent (silence s.recipe.channels)) (pending_frames s.core ++ later)
    ∙ ap₂ ◌+◌ (length-replicate s.silent (silence s.recipe.channels)) (length-append (pending_frames s.core) later)

within-open : (s : PadState) → IsPads s.recipe.pads → length s.line.items ≡ min s.core.taken (largest (map pad_distance s.recipe.pads)) → s.core.ended ≡ false
    → s.core.given + s.silent + length (pending_frames s.core) ≡ pad_due s.recipe.pads s.core.taken → (z : List Samples) → s.core.given + length (pad_left s z) ≤ s.core.taken + length z + lengths s.recipe.pads
within-open s pads full running counted z =
    let items : List Samples = s.line.items in
    let m : ℕ = s.core.taken - largest (map pad_distance s.recipe.pads) in
    let place : s.core.taken - length items ≡ m = omega arith in
    let long : length (items ++ z) ≡ length items + length z = length-append items z in
    let near : (m ≡ 0) ⊎ (largest (map pad_distance s.recipe.pads) ≤ length (items ++ z)) = go (cases_lt (largest (map pad_distance s.recipe.pads)) s.core.taken) in
    let maximum = front s.recipe.channels s.recipe.pads m (items ++ z) pads.rising near in
    let later : unless_last s.core.ended s.core.pending (pad_after s.recipe s.core.taken items (coming s.core.ended z)) ≡ padded_from s.recipe.channels (m + length (items ++ z)) s.recipe.pads m (items ++ z) =
    unchanged s.core.ended s.core.pending running ∙ ap (λ n. padded_from s.recipe.channels (n + length (items ++ z)) s.recipe.pads n (items ++ z)) place in
    let l = left-length s z in
    let k : length (unless_last s.core.ended s.core.pending (pad_after s.recipe s.core.taken items (coming s.core.ended z))) ≡ length (padded_from s.recipe.channels (m + length (items ++ z)) s.recipe.pads m (items ++ z)) = ap length later in
    omega (arith, l, k, maximum, counted, long)
  where
    go : (largest (map pad_distance s.recipe.pads) < s.core.taken) ⊎ (s.core.taken ≤ largest (map pad_distance s.recipe.pads)) → (s.core.taken - largest (map pad_distance s.recipe.pads) ≡ 0) ⊎ (largest (map pad_distance s.recipe.pads) ≤ length (s.line.items ++ z))
    go (inl l) = inr (omega (arith, length-append s.line.items z))
    go (inr g) = inl (omega arith)

    unchanged : (ended : Bool) (pending : Option Samples) → ended ≡ false → unless_last ended pending (pad_after s.recipe s.core.taken s.line.items (coming ended z)) ≡ pad_after s.recipe s.core.taken s.line.items z
    unchanged false pending e = refl
    unchanged true pending e = absurd (cc)

-- ---- after the end

later-length : (s : PadState) (z : List Samples) → s.core.ended ≡ true → length s.line.items ≤ s.core.taken
    → length (unless_last s.core.ended s.core.pending (pad_after s.recipe s.core.taken s.line.items (coming s.core.ended z))) ≡ later_count s.recipe.pads s.core.taken (length s.line.items) (length (pending_frames s.core))
later-length s z over h = go s.core.ended s.core.pending over
  where
    go : (ended : Bool) (pending : Option Samples) → ended ≡ true → length (unless_last ended pending (pad_after s.recipe s.core.taken s.line.items (coming ended z))) ≡ later_count s.recipe.pads s.core.taken (length s.line.items) (length (option_to_list pending))
    go false pending e = absurd (cc)
    go true None e = refl
    go true (Some x) e =
        let items : List Samples = s.line.items in
        let n : ℕ = s.core.taken - length items in
        let nil : items ++ [] ≡ items = append-nil items in
        let whole : n + length items ≡ s.core.taken = omega arith in
        ap (λ l. length (padded_from s.recipe.channels (n + length l) s.recipe.pads n l)) nil
        ∙ ap (λ t. length (padded_from s.recipe.channels t s.recipe.pads n items)) whole
        ∙ length_from s.recipe.channels s.core.taken s.recipe.pads n items whole

-- ---- the counts

count-of : (s : PadState) → IsPad s → IsPadCount s.recipe.pads s.core.taken s.core.given s.silent (length s.line.items) (length (pending_frames s.core)) s.core.ended
count-of s is =
    let w = is.held in
    record {
      full = λ e. let f = is.full e in let c = is.capacity in omega arith;
      counted = is.counted;
      over = λ e none. ap length (is.over e (no-pending s.core.pending none));
      gone = λ e.
          let m : s.core.given + length (pad_left s []) ≡ all_padded s.recipe.pads s.core.taken = is.gone e in
          omega (arith, m, left-length s [], later-length s [] e (omega arith));
    }

pub frozen-count : (s : PadState) (ps : List (ℕ × At)) (numbers : List ℕ) → IsPad s → s.recipe.pads ≡ ps → numbers ≡ numbers_of pad_acts s
    → IsPadCount ps (slice_index_or numbers 0 0) (slice_index_or numbers 1 0) (slice_index_or numbers 5 0) (slice_index_or numbers 4 0 - slice_index_or numbers 6 0) (slice_index_or numbers 6 0) (nat_eq (slice_index_or numbers 2 0) 1)
frozen-count s ps numbers is e f =
    let l = lined s.line.items (pending_frames s.core) in
    rw (f, flag-of s.core.ended, l, ← e) (count-of s is)

-- what it stores
pub stored-of : (s : PadState) (channels : ℕ) (ps : List (ℕ × At)) (frames : List Samples) (numbers : List ℕ) → IsPad s → s.recipe ≡ record { channels = channels; pads = ps } → Freezes pad_acts s frames numbers
    → IsStored channels (largest (map pad_distance ps)) (slice_index_or numbers 6 0) frames s.line s.core.pending
stored-of s channels ps frames numbers is e f = record {
  lined = is.line;
  channels_are = is.channels ∙ ap (λ r. r.channels) e;
  capacity_is = is.capacity ∙ ap (λ r. largest (map pad_distance r.pads)) e;
  held = rw (ap (λ r. r.channels) e) at is.core.fits;
  pending_count_is = sym (ap (λ l. slice_index_or l 6 0) f.counted);
  stored = f.stored;
}

-- the stage that counted these, and stores these frames
abbrev pub thawed : ℕ → ℕ → ℕ → ℕ → Bool → List (ℕ × At) → Frames ℤ → Option Samples → PadState
thawed channels taken given silent ended ps line pending =
    record { core = restored_core pending 0 (record { taken = taken; given = given; clips = 0; ended = ended }); recipe = record { channels = channels; pads = ps }; silent = silent; line = line }

-- it is a pad where the counts are those of one
pub IsPad-thawed : (channels capacity taken given silent held pending_count : ℕ) (ended : Bool) (ps : List (ℕ × At)) (frames : List Samples) (line : Frames ℤ) (pending : Option Samples)
    → IsStored channels capacity pending_count frames line pending → capacity ≡ largest (map pad_distance ps) → IsPads ps → taken ≤ 2 ^ 56 → held ≤ taken → held ≡ length frames
    → IsPadCount ps taken given silent (held - pending_count) pending_count ended
    → IsPad (thawed channels taken given silent ended ps line pending)
IsPad-thawed channels capacity taken given silent held pending_count ended ps frames line pending st cap pads bound high same count =
    let h : length (option_to_list pending) ≡ pending_count = st.pending_count_is in
    let all : length frames ≡ length line.items + length (option_to_list pending) = ap length st.stored ∙ length-append line.items (option_to_list pending) in
    let items : held - pending_count ≡ length line.items = omega arith in
    let c : line.capacity ≡ largest (map pad_distance ps) = st.capacity_is ∙ cap in
    let full : ended ≡ false → length line.items ≡ min taken (largest (map pad_distance ps)) = λ e. let k = count.full e in omega arith in
    let counted : ended ≡ false → given + silent + length (option_to_list pending) ≡ pad_due ps taken = λ e. let k = count.counted e in omega (arith, k) in
    record {
      core = record { bound = bound; no_clips = refl; no_pending_clips = refl; fits = st.held };
      line = st.lined;
      channels = st.channels_are;
      capacity = c;
      pads = pads;
      held = omega arith;
      within = λ z. go z ended refl full counted;
      full = λ e. let k = count.full e in omega arith;
      counted = counted;
      over = λ e none. let z : pending_count ≡ 0 = sym h ∙ ap (λ o. length (option_to_list o)) none in let k = count.over e z in nil_from_length line.items (omega arith);
      gone = λ e. delivered [] e;
    }
  where
    state : PadState
    state = thawed channels taken given silent ended ps line pending

    delivered : (z : List Samples) → ended ≡ true → given + length (pad_left state z) ≡ all_padded ps taken
    delivered z e =
        let h : length (option_to_list pending) ≡ pending_count = st.pending_count_is in
        let all : length frames ≡ length line.items + length (option_to_list pending) = ap length st.stored ∙ length-append line.items (option_to_list pending) in
        let items : held - pending_count ≡ length line.items = omega arith in
        let w : given + silent + length (option_to_list pending) + later_count ps taken (length line.items) (length (option_to_list pending)) ≡ all_padded ps taken = rw (items, ← h) at (count.gone e) in
        omega (arith, w, left-length state z, later-length state z e (omega arith))

    go : (z : List Samples) (b : Bool) → ended ≡ b → (ended ≡ false → length line.items ≡ min taken (largest (map pad_distance ps))) → (ended ≡ false → given + silent + length (option_to_list pending) ≡ pad_due ps taken)
        → given + length (pad_left state z) ≤ taken + length z + lengths ps
    go z false e full counted = within-open state pads (full e) e (counted e) z
    go z true e full counted = omega (arith, delivered z e, silence-bound taken ps)

-- the same stage
pub same-pad : (s : PadState) (channels : ℕ) (ps : List (ℕ × At)) (numbers : List ℕ) (line : Frames ℤ) (pending : Option Samples) → IsPad s → s.recipe ≡ record { channels = channels; pads = ps } → numbers ≡ numbers_of pad_acts s → line ≡ s.line → pending ≡ s.core.pending
    → thawed channels (slice_index_or numbers 0 0) (slice_index_or numbers 1 0) (slice_index_or numbers 5 0) (nat_eq (slice_index_or numbers 2 0) 1) ps line pending ≡ s
same-pad s channels ps numbers line pending is r n l h = rw (n, l, h, ← r, flag-of s.core.ended) (ap₂ (λ (m k : ℕ). record s { core = record s.core { pending_clips = m; clips = k } }) (sym is.core.no_pending_clips) (sym is.core.no_clips))
