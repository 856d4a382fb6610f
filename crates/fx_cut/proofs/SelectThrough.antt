-- Frames that are selected many at a time, where each lets a given one fall out of a full line.
use Rattle.std.proofs.Common.{◌≡◌, ◌+◌, ◌-◌, ◌*◌, ◌<◌, ◌≤◌, ◌^◌, ℕ, ℤ, Bool, true, false, cond, inl, inr, List, [], ◌∷◌, ◌++◌, map, length, take, refl, sym, ap, ◌∙◌, arith, FitsSigned, None, Some}
use Rattle.std.specs.Int.{w32}
use Rattle.std.specs.List.{All}
use Rattle.std.proofs.lemmas.Bool.{cases_lt}
use Rattle.std.proofs.lemmas.List.Elements.{All-head, All-tail}
use Rattle.fx_frame_base.specs.Frame.{Samples}
use Rattle.fx_frame_base.specs.Given.{plain}
use Rattle.fx_frame_base.specs.Pipeline.{EachThrough}
use Rattle.fx_frame_base.specs.Stage.{is_enough}
use Rattle.fx_frame_line.specs.Line.{Frames, IsSamples, pushed_all}
use Rattle.fx_frame_line.proofs.ManyFrames.{frames-samples}
use Rattle.fx_frame_base.specs.Lists.{pieces}
use Rattle.fx_frame_base.proofs.Pieces.{length-pieces}
use Rattle.fx_cut.specs.Selected.{AreDetermined, IsSelectedState, Selects, SelectedState, made_along, determined_in, selected_acts}
use Rattle.fx_cut.proofs.Fallen.{fallen}
use Rattle.fx_cut.proofs.Onto.{gone, onto, onto-long, onto-none, out-more, out_of, same-line}
use Rattle.fx_cut.proofs.SelectMany.{Alike, alike-next, cleared, given-through, later, later-more, later-none, no-frames, out, passed, same-state}
use Rattle.fx_cut.proofs.SelectPassing.{determined-select}
use Rattle.fx_cut.proofs.SelectSteps.{due-early, due-next}

one-true : (b : Bool) → ◌≡◌ {A = ℕ} (cond b 1 0) 1 → b ≡ true
one-true true e = refl
one-true false e = absurd (omega arith)

module _ {M : Type 0} (selects : Selects M) (ok : AreDetermined selects) where
  -- where one more is due for each of so many frames, each lets a given one fall out of a full line
  one_to_one-one : (m : M) (t n i : ℕ) → ((k : ℕ) → k ≤ n → selects.due m (t + k) ≡ selects.due m t + k) → i < n → (selects.reach m ≤ t + i) × (selects.gives m (determined_in selects m (t + i - selects.reach m)) (t + i - selects.reach m) ≡ true)
  one_to_one-one m t n i even lt =
      let now = even i (omega arith) in
      let next = even (i + 1) (omega arith) in
      let place : t + (i + 1) ≡ t + i + 1 = omega arith in
      let more : selects.due m (t + i + 1) ≡ selects.due m (t + i) + 1 = sym (ap (selects.due m) place) ∙ omega (arith, now, next) in
      elim (cases_lt (t + i) (selects.reach m)) [
        | inl less ↦ absurd (omega (arith, more, due-early selects ok m (t + i) less))
        | inr late ↦ (late, one-true _ (omega (arith, more, due-next selects ok m (t + i) late)))
      ]

  module _ (s : SelectedState M) (n : ℕ) (is : IsSelectedState selects s) (running : s.core.ended ≡ false) (even : (k : ℕ) → k ≤ n → selects.due s.arguments (s.core.taken + k) ≡ selects.due s.arguments s.core.taken + k) where
    pub one_to_one-full : 1 ≤ n → length s.line.items ≡ s.line.capacity
    one_to_one-full some =
        let late = (one_to_one-one s.arguments s.core.taken n 0 even some).0 in
        let full = is.full running in
        let cap = is.capacity in
        omega arith

    pub one_to_one-alike : s.core.pending ≡ None → ((i : ℕ) → i < n → is_enough (selects.enough s.arguments) (s.core.taken + i) ≡ false) → s.core.taken + n ≤ 2 ^ 56 → Alike selects true s n
    one_to_one-alike empty wanted bound =
        let within = is.line.within in
        let cap = is.capacity in
        record {
          is = is;
          empty = empty;
          running = running;
          gives = λ i h.
              let some : 1 ≤ n = omega arith in
              let full = one_to_one-full some in
              let place : s.core.taken + i - selects.reach s.arguments ≡ s.core.taken - length s.line.items + i = let late = (one_to_one-one s.arguments s.core.taken n 0 even some).0 in omega arith in
              let here = (one_to_one-one s.arguments s.core.taken n i even (omega arith)).1 in
              rw place at here;
          wanted = wanted;
          bound = bound;
        }

  -- what frames lead to that come to a full line, where these are given for those that fall out
  abbrev Passes : List Samples → Type 0
  Passes xs = (gs : List Samples) (s : SelectedState M) → Alike selects true s (length xs) → (1 ≤ length xs → length s.line.items ≡ s.line.capacity) → All (IsSamples w32 s.line.channels) xs
      → map plain gs ≡ made_along selects s.arguments (s.core.taken - length s.line.items) (out_of s.line xs) → All (IsSamples w32 s.line.channels) gs
      → EachThrough (selected_acts selects) xs gs s (later selects true s xs) × IsSelectedState selects (later selects true s xs)

  none-passes : Passes []
  none-passes gs s a full samples made fit =
      let none = (onto-none s.line a.is.line.within).1 in
      let empty : gs ≡ [] = no-frames gs _ made (ap (made_along selects s.arguments (s.core.taken - length s.line.items)) none) in
      rw (later-none selects true s a.is a.empty, empty) (refl, a.is)

  module _ (x : Samples) (xs : List Samples) (rest : Passes xs) (s : SelectedState M) (a : Alike selects true s (length (x ∷ xs))) (full : length s.line.items ≡ s.line.capacity) (samples : All (IsSamples w32 s.line.channels) (x ∷ xs)) where
    sample : IsSamples w32 s.line.channels x
    sample = All-head (IsSamples w32 s.line.channels) x xs samples

    no-free : s.line.capacity ≤ length s.line.items
    no-free = let h = full in omega arith

    oldest : (o : Samples) × (Some o ≡ fallen s.line.capacity s.line.items x) × (out_of s.line (x ∷ []) ≡ o ∷ [])
    oldest = out selects ok true s (length xs) x a sample no-free

    outs : out_of s.line (x ∷ xs) ≡ oldest.0 ∷ out_of (onto s.line (x ∷ [])) xs
    outs = sym (out-more s.line x xs a.is.line.within) ∙ ap (λ os. os ++ out_of (onto s.line (x ∷ [])) xs) oldest.2

    place : s.core.taken - length s.line.items + 1 ≡ s.core.taken + 1 - length (onto s.line (x ∷ [])).items
    place =
        let low = a.is.within in
        let h = full in
        let long = onto-long s.line (x ∷ []) in
        omega arith

    more-passes : (gs : List Samples) → map plain gs ≡ made_along selects s.arguments (s.core.taken - length s.line.items) (oldest.0 ∷ out_of (onto s.line (x ∷ [])) xs) → All (IsSamples w32 s.line.channels) gs
        → EachThrough (selected_acts selects) (x ∷ xs) gs s (later selects true s (x ∷ xs)) × IsSelectedState selects (later selects true s (x ∷ xs))
    unfolding oldest
    more-passes [] m fit = absurd (cc (m))
    more-passes (g ∷ hs) m fit =
        let first : plain g ≡ selects.made s.arguments (determined_in selects s.arguments (s.core.taken - length s.line.items)) (s.core.taken - length s.line.items) oldest.0 = cc (m) in
        let rest_unchanged : map plain hs ≡ made_along selects s.arguments (s.core.taken - length s.line.items + 1) (out_of (onto s.line (x ∷ [])) xs) = cc (m) in
        let one = given-through selects ok true s (length xs) x a sample no-free g refl first (All-head (IsSamples w32 s.line.channels) g hs fit) in
        let next : SelectedState M = later selects true s (x ∷ []) in
        let made = rest_unchanged ∙ ap (λ n. made_along selects s.arguments n (out_of (onto s.line (x ∷ [])) xs)) place in
        let long = onto-long s.line (x ∷ []) in
        let unchanged : length next.line.items ≡ next.line.capacity = let h = full in omega arith in
        let all = rest hs next (alike-next selects ok true s (length xs) x a sample one.1) (λ some. unchanged) (All-tail (IsSamples w32 s.line.channels) x xs samples) made (All-tail (IsSamples w32 s.line.channels) g hs fit) in
        let last = later-more selects true s x xs a.is.line.within in
        rw (← last) ((next, one.0, determined-select selects next one.1 a.running refl, all.0), all.1)

  each-passes : (xs : List Samples) → Passes xs
  each-passes [] = none-passes
  each-passes (x ∷ xs) = λ gs s a full samples made fit.
      let whole = full (omega arith) in
      more-passes x xs (each-passes xs) s a whole samples gs (made ∙ ap (made_along selects s.arguments (s.core.taken - length s.line.items)) (outs x xs (each-passes xs) s a whole samples)) fit

  -- so many frames came to a full line, and those that fell out are given in their places
  pub group-passed : (s : SelectedState M) (n : ℕ) (line : Frames ℤ) (input fell made : List ℤ) → Alike selects true s n → (1 ≤ n → length s.line.items ≡ s.line.capacity) → length input ≡ n * selects.channels s.arguments → All (FitsSigned w32) input
      → line.items ≡ pushed_all s.line (pieces s.line.channels n input) → line.capacity ≡ s.line.capacity → line.channels ≡ s.line.channels
      → pieces s.line.channels n fell ≡ take n (s.line.items ++ pieces s.line.channels n input)
      → map plain (pieces (selects.channels s.arguments) n made) ≡ made_along selects s.arguments (s.core.taken - length s.line.items) (pieces (selects.channels s.arguments) n fell)
      → All (FitsSigned w32) made → length made ≡ n * selects.channels s.arguments
      → EachThrough (selected_acts selects) (pieces (selects.channels s.arguments) n input) (pieces (selects.channels s.arguments) n made) s (passed selects s line n n) × IsSelectedState selects (passed selects s line n n)
  group-passed s n line input fell made a full came fit items capacity channels is gave fits long =
      let w : ℕ = selects.channels s.arguments in
      let same = a.is.channels in
      let xs : List Samples = pieces s.line.channels n input in
      let gs : List Samples = pieces w n made in
      let many : length xs ≡ n = length-pieces s.line.channels n input in
      let within = a.is.line.within in
      let count : gone s.line n ≡ n = all-gone n full in
      let front : xs ≡ pieces w n input = ap (λ c. pieces c n input) same in
      let out-is : pieces w n fell ≡ out_of s.line xs = ap (λ c. pieces c n fell) (sym same) ∙ is ∙ ap (λ k. take k (s.line.items ++ xs)) (sym (ap (gone s.line) many ∙ count)) in
      let all-made = gave ∙ ap (made_along selects s.arguments (s.core.taken - length s.line.items)) out-is in
      let wide : length input ≡ n * s.line.channels = came ∙ ap (λ c. n * c) (sym same) in
      let samples : All (IsSamples w32 s.line.channels) xs = frames-samples w32 s.line.channels n input wide fit in
      let fit-made : All (IsSamples w32 s.line.channels) gs = rw same (frames-samples w32 w n made long fits) in
      let all = each-passes xs gs s (rw many a) (λ some. full (omega (arith, some, many))) samples all-made fit-made in
      let onto-is : line ≡ onto s.line xs = same-line line (onto s.line xs) items capacity channels in
      let empty : passed selects s line n n ≡ cleared selects s line (s.core.taken + n) (s.core.given + n) = rw (a.empty, a.is.core.no_pending_clips) refl in
      let gave-is : s.core.given + n ≡ s.core.given + gone s.line (length xs) = ap (λ k. s.core.given + k) (sym (ap (gone s.line) many ∙ count)) in
      let last : passed selects s line n n ≡ later selects true s xs = empty ∙ same-state selects s line (onto s.line xs) (s.core.taken + n) (s.core.taken + length xs) (s.core.given + n) (s.core.given + gone s.line (length xs)) onto-is (ap (λ m. s.core.taken + m) (sym many)) gave-is in
      rw (← front, last) all
    where
      all-gone : (k : ℕ) → (1 ≤ k → length s.line.items ≡ s.line.capacity) → gone s.line k ≡ k
      all-gone k h = elim (cases_lt 0 k) [
        | inl some ↦ let e = h some in omega arith
        | inr none ↦ let within = a.is.line.within in omega arith
      ]
