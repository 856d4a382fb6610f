-- Groups of frames that pass three effects, one after the other.
use Rattle.std.proofs.Common.{◌≡◌, ◌+◌, ◌*◌, ◌≤◌, ℕ, List, ◌++◌, length, take, drop, sym, refl, ap, ◌∙◌, arith, ℤ}
use Rattle.std.proofs.lemmas.List.{length-drop, map-append}
use Rattle.std.proofs.lemmas.List.Elements.{All-append}
use Rattle.std.proofs.Math.Nat.{add-mul}
use Rattle.fx_frame_base.specs.Frame.{Samples}
use Rattle.fx_frame_base.specs.Lists.{pieces}
use Rattle.fx_frame_base.specs.Stage.{Given}
use Rattle.fx_frame_base.proofs.FedLaws.{total-append}
use Rattle.fx_frame_base.proofs.Puts.{pieces-split, pieces-take}
use Rattle.fx_frame_line.proofs.ManyFrames.{pieces-put_many}
use Rattle.fx_frame.specs.Made.{made_of}
use Rattle.fx_tap_pointwise.specs.Around.{IsMadeByThree}

-- the frames made so far, and those of one more group
pub group-more : (a b e : Samples → Given) (ins outs done n : ℕ) (input out made new : List ℤ) (first middle last first-more middle-more last-more : ℕ)
    → (done + n) * ins ≤ length input → length made ≡ n * outs → done * outs + n * outs ≤ length out
    → new ≡ take (done * outs) out ++ made ++ drop (done * outs + length made) out
    → IsMadeByThree a b e ins outs done input out first middle last
    → IsMadeByThree a b e ins outs n (take (n * ins) (drop (done * ins) input)) made first-more middle-more last-more
    → IsMadeByThree a b e ins outs (done + n) input new (first + first-more) (middle + middle-more) (last + last-more)
group-more a b e ins outs done n input out made new first middle last first-more middle-more last-more inside sides fits put old next =
    let rest : List ℤ = drop (done * ins) input in
    let xs : List Samples = pieces ins done input in
    let ys : List Samples = made_of a xs in
    let zs : List Samples = made_of b ys in
    let us : List Samples = pieces ins n (take (n * ins) rest) in
    let vs : List Samples = made_of a us in
    let ws : List Samples = made_of b vs in
    let read : n * ins ≤ length rest = omega (arith, add-mul done n ins, inside, length-drop (done * ins) input) in
    let more : pieces ins (done + n) input ≡ xs ++ us = pieces-split ins done n input ∙ ap (λ ps. xs ++ ps) (sym (pieces-take ins n rest read)) in
    let more-ys : made_of a (pieces ins (done + n) input) ≡ ys ++ vs = ap (made_of a) more ∙ map-append (λ x. (a x).samples) xs us in
    let more-zs : made_of b (made_of a (pieces ins (done + n) input)) ≡ zs ++ ws = ap (made_of b) more-ys ∙ map-append (λ y. (b y).samples) ys vs in
    record {
      made =
          pieces-put_many outs done n (done * outs) out made new refl sides fits put ∙ ap (λ ps. ps ++ pieces outs n made) old.made
          ∙ ap (λ ps. made_of e zs ++ ps) next.made ∙ sym (ap (made_of e) more-zs ∙ map-append (λ z. (e z).samples) zs ws);
      first_counted = rw more (omega (arith, total-append (λ x. (a x).clips) xs us, old.first_counted, next.first_counted));
      middle_counted = rw more-ys (omega (arith, total-append (λ y. (b y).clips) ys vs, old.middle_counted, next.middle_counted));
      last_counted = rw more-zs (omega (arith, total-append (λ z. (e z).clips) zs ws, old.last_counted, next.last_counted));
      before_sides = rw more-ys (All-append (λ (s : Samples). length s ≡ ins) ys vs old.before_sides next.before_sides);
      after_sides = rw more-zs (All-append (λ (s : Samples). length s ≡ outs) zs ws old.after_sides next.after_sides);
      first_bound = omega (arith, old.first_bound, next.first_bound);
      middle_bound = omega (arith, old.middle_bound, next.middle_bound);
      last_bound = omega (arith, old.last_bound, next.last_bound);
    }
