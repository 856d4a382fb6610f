-- How many frames `pad` makes of so many.
use Rattle.std.proofs.Common.{◌≡◌, ℕ, ◌+◌, ◌-◌, max, true, cond, List, [], ◌∷◌, map, length, filter, sum_by, zip, refl, sym, ap, ◌∙◌, arith, zero-add, not, nat_le}
use Rattle.std.proofs.lemmas.List.Sums.{sum_by-cons}
use Rattle.std.proofs.lemmas.Bool.{le-leb}
use Rattle.fx_frame_base.specs.Frame.{Samples}
use Rattle.fx_cut.specs.PadExtents.{pad_length}
use Rattle.fx_fixed.specs.Positions.{place_of, places_after}
use Rattle.fx_fixed.specs.declared.positions.At.{At}
use Rattle.fx_cut.specs.Pad.{is_inside, padded, placed, placed_after}
use Rattle.fx_cut.specs.PadState.{silence_from}
use Rattle.fx_cut.proofs.PadLaws.{length_from}
use Rattle.fx_cut.proofs.PadRest.{pad_new}

-- the lengths of the pads that are not past the end, whatever their places
silence-placed : (len m : ℕ) (ps : List (ℕ × At)) → silence_from (placed_after len m ps) 0 ≡ sum_by pad_length (filter (is_inside len) ps)
silence-placed len m ps = go m (filter (is_inside len) ps)
  where
    go : (m : ℕ) (qs : List (ℕ × At)) → silence_from (zip (map (λ p. p.0) qs) (places_after len m (map (λ p. p.1) qs))) 0 ≡ sum_by pad_length qs
    go m [] = refl
    go m ((k, p) ∷ qs) =
        let q : ℕ = max m (place_of len p) in
        let rest : List (ℕ × ℕ) = zip (map (λ p. p.0) qs) (places_after len q (map (λ p. p.1) qs)) in
        let all : nat_le 0 q ≡ true = le-leb 0 q (omega arith) in
        ap (λ b. sum_by (λ p. p.0) (cond b ((k, q) ∷ filter (λ p. nat_le 0 p.1) rest) (filter (λ p. nat_le 0 p.1) rest))) all
        ∙ sum_by-cons (λ p. p.0) (k, q) (filter (λ p. nat_le 0 p.1) rest)
        ∙ ap (λ n. k + n) (go q qs)
        ∙ sym (sum_by-cons pad_length (k, p) qs)

pub padded-length : (channels : ℕ) (ps : List (ℕ × At)) (x : List Samples) → length (padded channels ps x) ≡ length x + sum_by pad_length (filter (is_inside (length x)) ps)
padded-length channels ps x =
    ap length (pad_new channels ps x) ∙ length_from channels (0 + length x) ps 0 x refl ∙ ap (λ n. length x + silence_from (placed n ps) 0) (zero-add (length x)) ∙ ap (λ n. length x + n) (silence-placed (length x) 0 ps)
