-- What `==` says of the parts of a plan: it is exact.
use Rattle.std.proofs.Common.{◌≡◌, ◌<◌, ◌≤◌, ap}
use Rattle.std.proofs.Props.{props}
use Rattle.std.specs.Bool.{Decides, IsTrue}
use Rattle.std.specs.Cmp.{booleans_Decides, unsigned_Decides}
use Rattle.std.proofs.lemmas.Bool.Decides.{Decides-and, Decides-like}
use denote.Enum.Bare.{Bare, sameb, same_true, true_same}
use denote.Enum.Declared.{Declared, declared}
use mathlib.Core.HLevel.{is_prop→PathP}
use Rattle.fx_sound.specs.Kind.{is_coding_of}
use Rattle.fx_frame_base.specs.declared.coding.Coding.{Coding}
use Rattle.fx_frame_base.specs.contracts.coding.Coding as coding
use Rattle.fx_frame_base.specs.contracts.coding.CodingPartialEq.TheImpl as coding_eq
use Rattle.fx_sound.specs.declared.head.Kind.{Kind}
use Rattle.fx_sound.specs.contracts.head.Kind as kind
use Rattle.fx_sound.specs.contracts.head.KindPartialEq.TheImpl as kind_eq
use Rattle.fx_sound.specs.declared.head.Head.{Head}
use Rattle.fx_sound.specs.contracts.head.HeadPartialEq.TheImpl as head_eq
use Rattle.fx_plan_effects.specs.declared.effect.Layout.{Layout}
use Rattle.fx_plan_effects.specs.contracts.effect.LayoutPartialEq.TheImpl as layout_eq
use Rattle.fx_plan_effects.specs.Effects.{act}
use Rattle.fx_plan.specs.declared.accepted.Plan.{Plan}
use Rattle.fx_plan.specs.Equality.{same_parts}
use Rattle.fx_plan.specs.Planning.{planning}
use Rattle.fx_plan.proofs.Exact.{always, mapped_exact, option_exact}
use Rattle.fx_plan.proofs.Registered.{effect_exact}

-- an enum without fields
bare_exact : (D : Declared) → Bare D.parts → (a b : D.D) → Decides (sameb D a b) (a ≡ b)
bare_exact D bare a b = (same_true D bare a b, true_same D a b)

pub kind_exact : (a b : Kind) → Decides ((kind_eq.ghosts).eq a b) (a ≡ b)
kind_exact = bare_exact (declared kind.enum) tt

pub coding_exact : (a b : Coding) → Decides ((coding_eq.ghosts).eq a b) (a ≡ b)
coding_exact = bare_exact (declared coding.enum) tt

same_head : (a b : Head) → (a.kind ≡ b.kind) × ((a.rate ≡ b.rate) × ((a.channels ≡ b.channels) × ((a.coding ≡ b.coding) × (a.announced ≡ b.announced)))) → a ≡ b
same_head a b (kind, (rate, (channels, (coding, announced)))) = λ i. record {
  kind = kind i;
  rate = rate i;
  channels = channels i;
  coding = coding i;
  announced = announced i;
  rated = is_prop→PathP (λ j. 0 < rate j) (λ j. hlevel props) a.rated b.rated i;
  some = is_prop→PathP (λ j. 0 < channels j) (λ j. hlevel props) a.some b.some i;
  maximum = is_prop→PathP (λ j. channels j ≤ 16) (λ j. hlevel props) a.maximum b.maximum i;
  coded = is_prop→PathP (λ j. IsTrue (is_coding_of (kind j) (coding j))) (λ j. hlevel props) a.coded b.coded i;
}

pub head_exact : (a b : Head) → Decides ((head_eq.ghosts).eq a b) (a ≡ b)
head_exact a b =
    Decides-like _ (same_head a b) (λ e. (ap (λ f. f.kind) e, (ap (λ f. f.rate) e, (ap (λ f. f.channels) e, (ap (λ f. f.coding) e, ap (λ f. f.announced) e)))))
    (Decides-and _ _ (kind_exact a.kind b.kind) (Decides-and _ _ (unsigned_Decides a.rate b.rate) (Decides-and _ _ (unsigned_Decides a.channels b.channels) (Decides-and _ _ (coding_exact a.coding b.coding) (option_exact _ unsigned_Decides a.announced b.announced)))))

pub layout_exact : (a b : Layout) → Decides ((layout_eq.ghosts).eq a b) (a ≡ b)
layout_exact a b =
    Decides-like _ (λ e i. record { rate = e.0 i; channels = e.1 i }) (λ e. (ap (λ l. l.rate) e, ap (λ l. l.channels) e))
    (Decides-and _ _ (unsigned_Decides a.rate b.rate) (unsigned_Decides a.channels b.channels))

-- two plans
pub plan_exact : (a b : Plan) → Decides (same_parts a b) (planning a ≡ planning b)
plan_exact a b =
    Decides-like _ (λ e i. record { head = e.0 i; kind = e.1.0 i; coding = e.1.1.0 i; is_named = e.1.1.1.0 i; acts = e.1.1.1.1.0 i; layout = e.1.1.1.1.1 i })
    (λ e. (ap (λ p. p.head) e, (ap (λ p. p.kind) e, (ap (λ p. p.coding) e, (ap (λ p. p.is_named) e, (ap (λ p. p.acts) e, ap (λ p. p.layout) e))))))
    (Decides-and _ _ (head_exact a.head b.head) (Decides-and _ _ (kind_exact a.kind b.kind) (Decides-and _ _ (coding_exact a.coding b.coding)
    (Decides-and _ _ (booleans_Decides a.is_named b.is_named) (Decides-and _ _ (mapped_exact act effect_exact a.effects.items b.effects.items) (layout_exact a.layout b.layout))))))
