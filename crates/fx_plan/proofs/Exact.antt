-- What `==` says of the arguments of effects: it is exact.
use Rattle.std.proofs.Common.{◌≡◌, ℕ, ℤ, Bool, true, pos, ◌&&◌, List, [], ◌∷◌, map, Option, Some, None, refl, sym, ap, true≢false}
use Rattle.std.specs.Bool.{Decides}
use Rattle.std.specs.Option.{option_eq}
use Rattle.std.specs.Cmp.{unsigned_Decides, signed_Decides}
use Rattle.std.proofs.lemmas.Bool.Decides.{Decides-and, Decides-like}
use Rattle.std.specs.Cmp.Lexicographic.{pointwise, pointwise_decides}
use mathlib.Core.List.{head-eq_of_cons-eq, tail-eq_of_cons-eq}
use Rattle.fx_fixed.specs.declared.positions.At.{At}
use Rattle.fx_fixed.specs.declared.positions.At.TheVariants.{Start, End}
use Rattle.fx_fixed.specs.contracts.positions.At as at
use Rattle.fx_fixed.specs.contracts.positions.AtPartialEq.TheImpl as at_eq
use Rattle.fx_tap_pointwise.specs.declared.out_spec.Weight.{Weight}
use Rattle.fx_tap_pointwise.specs.declared.out_spec.Weight.TheVariants.{Given, Share, One}
use Rattle.fx_tap_pointwise.specs.contracts.out_spec.Weight as weight
use Rattle.fx_tap_pointwise.specs.contracts.out_spec.WeightPartialEq.TheImpl as weight_eq
use Rattle.fx_cut.specs.declared.fade.words.Fading.{Fading}
use Rattle.fx_cut.specs.contracts.fade.words.FadingPartialEq.TheImpl as fading_eq
use Rattle.fx_tap_delays.specs.declared.echo.words.Echoing.{Echoing}
use Rattle.fx_tap_delays.specs.contracts.echo.words.EchoingPartialEq.TheImpl as echoing_eq
use Rattle.fx_tap_delays.specs.EchoWords.{echo_value}
use Rattle.fx_plan.proofs.Alike.{◌&◌, exact_values, place}

pub option_exact : {A : Type 0} (E : A → A → Bool) → ((x y : A) → Decides (E x y) (x ≡ y)) → (p q : Option A) → Decides (option_eq E p q) (p ≡ q)
option_exact E each None None = (λ e. refl, λ e. refl)
option_exact E each None (Some y) = (λ e. absurd (true≢false (sym e)), λ e. cc)
option_exact E each (Some x) None = (λ e. absurd (true≢false (sym e)), λ e. cc)
option_exact E each (Some x) (Some y) = Decides-like _ (ap Some) (λ e. cc) (each x y)

abbrev frames_in : At → ℕ
frames_in (Start frames) = frames
frames_in (End frames) = frames

pub at_exact : (a b : At) → Decides ((at_eq.ghosts).eq a b) (a ≡ b)
at_exact = exact_values at.enum _ (
    (λ x y. Decides-like _ (ap Start) (ap frames_in) (unsigned_Decides x.0 y.0)) &
    (λ x y. Decides-like _ (ap End) (ap frames_in) (unsigned_Decides x.0 y.0)) &
    tt
    )

pub always : {A : Type 0} (x : A) → Decides true (x ≡ x)
always x = (λ e. refl, λ e. refl)

abbrev gain_in : Weight → ℤ
gain_in (Given gain) = gain
gain_in _ = pos 0

pub weight_exact : (a b : Weight) → Decides ((weight_eq.ghosts).eq a b) (a ≡ b)
weight_exact = exact_values weight.enum _ (
    (λ x y. Decides-like _ (ap Given) (ap gain_in) (signed_Decides x.0 y.0)) &
    (λ x y. always Share) &
    (λ x y. always One) &
    tt
    )

pub fading_exact : (a b : Fading) → Decides ((fading_eq.ghosts).eq a b) (a ≡ b)
fading_exact a b =
    Decides-like _ (λ e i. record { fade_in = e.0 i; stop = e.1.0 i; fade_out = e.1.1 i }) (λ e. (ap (λ f. f.fade_in) e, (ap (λ f. f.stop) e, ap (λ f. f.fade_out) e)))
    (Decides-and _ _ (unsigned_Decides a.fade_in b.fade_in) (Decides-and _ _ (option_exact _ at_exact a.stop b.stop) (unsigned_Decides a.fade_out b.fade_out)))

pub pair_exact : {A B : Type 0} {E : A → A → Bool} {F : B → B → Bool} → ((x y : A) → Decides (E x y) (x ≡ y)) → ((x y : B) → Decides (F x y) (x ≡ y)) → (p q : A × B) → Decides (E p.0 q.0 && F p.1 q.1) (p ≡ q)
pair_exact first second p q = Decides-like _ (λ e i. (e.0 i, e.1 i)) (λ e. (ap (λ p. p.0) e, ap (λ p. p.1) e)) (Decides-and _ _ (first p.0 q.0) (second p.1 q.1))

-- lists of which each place tells the same
pub mapped_exact : {A B : Type 0} {E : A → A → Bool} (f : A → B) → ((x y : A) → Decides (E x y) (f x ≡ f y)) → (xs ys : List A) → Decides (pointwise E xs ys) (map f xs ≡ map f ys)
mapped_exact f each [] [] = (λ e. refl, λ e. refl)
mapped_exact f each [] (y ∷ ys) = (λ e. absurd (true≢false (sym e)), λ e. cc)
mapped_exact f each (x ∷ xs) [] = (λ e. absurd (true≢false (sym e)), λ e. cc)
mapped_exact f each (x ∷ xs) (y ∷ ys) = Decides-like _ (λ e i. e.0 i ∷ e.1 i) (λ e. (head-eq_of_cons-eq e, tail-eq_of_cons-eq e)) (Decides-and _ _ (each x y) (mapped_exact f each xs ys))

pub echoing_exact : (a b : Echoing) → Decides ((echoing_eq.ghosts).eq a b) (echo_value a ≡ echo_value b)
echoing_exact a b =
    Decides-like _ (λ e i. record { gain_in = e.0 i; gain_out = e.1.0 i; taps = e.1.1 i }) (λ e. (ap (λ f. f.gain_in) e, (ap (λ f. f.gain_out) e, ap (λ f. f.taps) e)))
    (Decides-and _ _ (signed_Decides a.gain_in b.gain_in) (Decides-and _ _ (signed_Decides a.gain_out b.gain_out) (pointwise_decides (pair_exact unsigned_Decides signed_Decides) a.taps.items b.taps.items)))
