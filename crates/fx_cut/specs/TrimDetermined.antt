-- What `trim` gives of a frame is determined as many frames later as the greatest distance of a position from the end.
use Rattle.std.proofs.Common.{◌≡◌, ℕ, ◌+◌, ◌-◌, ◌<◌, ◌≤◌, ◌%◌, Bool, true, false, cond, eqb, ◌&&◌, List, [], ◌∷◌, map, length, refl, sym, ◌∙◌, ap, arith}
use Rattle.std.specs.Prelude.{Some, None, filter, slice_index_or}
use Rattle.std.specs.List.{list_all, range_with_len}
use Rattle.std.proofs.lemmas.Bool.{and_parts, eqb-true, false≢true}
use mathlib.Core.List.{map-map}
use Rattle.fx_fixed.specs.Extents.{end_distance, largest}
use Rattle.fx_fixed.specs.Positions.{places_of}
use Rattle.fx_fixed.specs.declared.positions.At.{At}
use Rattle.fx_frame_base.specs.Frame.{Samples}
use Rattle.fx_frame_base.specs.Given.{plain}
use Rattle.fx_cut.specs.Selected.{AreDetermined, made_along, determined_in, selected_from}
use Rattle.fx_cut.specs.Trim.{TrimArguments, keeps, starts, is_start, last_start, trim_enough, trim_meaning}
use Rattle.fx_cut.specs.TrimState.{trim_selects}
use Rattle.fx_cut.specs.Picked.{picked}
use Rattle.fx_cut.specs.Ranges.{count_same}
use Rattle.fx_cut.specs.TrimLaws.{kept-early, none-late}

-- it is kept, or not, by the positions before the first one from the end
pub kept-determined : (r : TrimArguments) (n : ℕ) → keeps (places_of (determined_in trim_selects r n) r.positions) n ≡ keeps (places_of 0 (starts r.positions)) n
kept-determined r n = kept-early (determined_in trim_selects r n) n r.positions (omega arith)

gives-determined : (r : TrimArguments) (frames n : ℕ) → n + largest (map end_distance r.positions) < frames → keeps (places_of frames r.positions) n ≡ keeps (places_of (determined_in trim_selects r n) r.positions) n
gives-determined r frames n h = kept-early frames n r.positions h ∙ sym (kept-determined r n)

enough_parts : (b : Bool) (m maximum : ℕ) → cond b (Some m) None ≡ Some maximum → (b ≡ true) × (m ≡ maximum)
enough_parts true m maximum e = (refl, cc (e))
enough_parts false m maximum e = absurd (cc (e))

no_ends : (ps : List At) → list_all is_start ps ≡ true → largest (map end_distance ps) ≡ 0
no_ends [] h = refl
no_ends (At.Start p ∷ ps) h = omega (arith, no_ends ps h)
no_ends (At.End b ∷ ps) h = absurd (false≢true h)

enough-determined : (r : TrimArguments) (maximum : ℕ) → trim_enough r.positions ≡ Some maximum
    → (largest (map end_distance r.positions) ≡ 0) × ((frames n : ℕ) → maximum ≤ n → keeps (places_of frames r.positions) n ≡ false)
enough-determined r maximum e =
    let ps : List At = r.positions in
    let t = enough_parts (list_all is_start ps && eqb (length ps % 2) 0) (last_start ps) maximum e in
    let a = and_parts (list_all is_start ps) (eqb (length ps % 2) 0) t.0 in
    (no_ends ps a.0, λ frames n h. none-late frames n ps a.0 (eqb-true (length ps % 2) 0 a.1) (rw t.1 h))

trim-whole : (r : TrimArguments) (x : List Samples) → trim_meaning r x ≡ selected_from trim_selects r (length x) 0 x
trim-whole r x =
    map-map plain (λ n. slice_index_or x n []) (filter (keeps (places_of (length x) r.positions)) (range_with_len 0 (length x)))
    ∙ picked (λ n. plain) (keeps (places_of (length x) r.positions)) x

-- frames that are kept are given unchanged
pub plain-along : (r : TrimArguments) (n : ℕ) (frames : List Samples) → map plain frames ≡ made_along trim_selects r n frames
plain-along r n [] = refl
plain-along r n (f ∷ frames) = ap (λ l. plain f ∷ l) (plain-along r (n + 1) frames)

pub trim-determined : AreDetermined trim_selects
trim-determined = record {
  gives = gives-determined;
  made = λ r frames n frame h. refl;
  due = λ r taken. count_same (keeps (places_of 0 (starts r.positions))) (λ n. keeps (places_of (determined_in trim_selects r n) r.positions) n) 0 (taken - largest (map end_distance r.positions)) (λ i low high. sym (kept-determined r i));
  enough = enough-determined;
  whole = trim-whole;
}
