-- A stage that selects frames comes back from its frames and numbers.
use Rattle.std.proofs.Common.{◌≡◌, ℕ, ℤ, ◌+◌, ◌-◌, ◌≤◌, ◌^◌, Bool, List, length, refl, sym, ◌∙◌, ap, arith, length-append, Option, option_to_list, nat_eq, slice_index_or}
use Rattle.std.proofs.lemmas.List.{nil_from_length}
use Rattle.fx_frame_base.specs.Frame.{Samples}
use Rattle.fx_frame.specs.Frozen.{IsStored}
use Rattle.fx_frame_line.specs.Line.{Frames}
use Rattle.fx_frame_base.specs.Stage.{numbers_of}
use Rattle.fx_frame_base.specs.StageCore.{pending_frames}
use Rattle.fx_cut.specs.Selected.{IsSelectCount, IsSelectedState, Selects, SelectedState, selected_acts}
use Rattle.fx_cut.proofs.PendingLemmas.{no-pending}
use Rattle.fx_cut.proofs.Thawing.{lined}
use Rattle.fx_frame.proofs.Counts.{flag-of}

module _ {M : Type 0} (selects : Selects M) where
  count-of : (s : SelectedState M) → IsSelectedState selects s → IsSelectCount selects s.arguments s.core.taken s.core.given (length s.line.items) (length (pending_frames s.core)) s.core.ended
  count-of s is = record {
    full = λ e. let f = is.full e in let c = is.capacity in omega arith;
    counted = is.counted;
    over = λ e none. ap length (is.over e (no-pending s.core.pending none));
    gone = is.gone;
  }

  -- the numbers of a stage count so
  pub frozen-count : (s : SelectedState M) (m : M) (numbers : List ℕ) → IsSelectedState selects s → s.arguments ≡ m → numbers ≡ numbers_of (selected_acts selects) s
      → IsSelectCount selects m (slice_index_or numbers 0 0) (slice_index_or numbers 1 0) (slice_index_or numbers 4 0 - slice_index_or numbers 5 0) (slice_index_or numbers 5 0) (nat_eq (slice_index_or numbers 2 0) 1)
  frozen-count s m numbers is e f =
      let l = lined s.line.items (pending_frames s.core) in
      rw (f, flag-of s.core.ended, l, ← e) (count-of s is)

  -- a stage of such counts that stores these frames
  pub IsSelect-thawed : (m : M) (capacity taken given held pending_count : ℕ) (ended : Bool) (frames : List Samples) (line : Frames ℤ) (pending : Option Samples)
      → IsStored (selects.channels m) capacity pending_count frames line pending → capacity ≡ selects.reach m → taken ≤ 2 ^ 56 → given ≤ taken → held ≤ taken - given → held ≡ length frames
      → IsSelectCount selects m taken given (held - pending_count) pending_count ended
      → IsSelectedState selects (record { core = record { pending = pending; pending_clips = 0; taken = taken; given = given; clips = 0; ended = ended }; line = line; arguments = m })
  IsSelect-thawed m capacity taken given held pending_count ended frames line pending st cap bound low high same count =
      let h : length (option_to_list pending) ≡ pending_count = st.pending_count_is in
      let all : length frames ≡ length line.items + length (option_to_list pending) = ap length st.stored ∙ length-append line.items (option_to_list pending) in
      let items : held - pending_count ≡ length line.items = omega arith in
      let c : line.capacity ≡ selects.reach m = st.capacity_is ∙ cap in
      record {
        core = record { bound = bound; no_clips = refl; no_pending_clips = refl; fits = st.held };
        line = st.lined;
        channels = st.channels_are;
        capacity = c;
        within = omega arith;
        full = λ e. let f = count.full e in omega arith;
        counted = λ e. let k = count.counted e in omega (arith, k);
        over = λ e none. let z : pending_count ≡ 0 = sym h ∙ ap (λ o. length (option_to_list o)) none in let k = count.over e z in nil_from_length line.items (omega arith);
        gone = λ e. rw (h, ← items) (count.gone e);
      }
