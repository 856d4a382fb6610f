use Rattle.std.proofs.Common.{◌≡◌, ◌+◌, ◌*◌, ◌-◌, ◌≤◌, ◌∙◌, ◌++◌, ℕ, List, length, take, drop, refl, arith, add-one, length-drop, ℤ}
use Rattle.std.proofs.lemmas.List.{length-take-le}
use Rattle.std.proofs.Math.Nat.{mul-le-mul_right, suc-mul}
use Rattle.fx_frame_base.specs.Stage.{kind}
use Rattle.fx_frame_base.proofs.Evenly.{Evenly-next, put-between, put-long}
use Rattle.fx_frame_base.proofs.feed.Feeds.pass_frames.Goals as goal

pub frames-preserved : goal.frames-preserved
frames-preserved g c =
    let acts = g.Self.Stage.acts in
    let ch : ℕ = c.in_channels-channels.result in
    let at : ℕ = c.frames.turn * ch in
    let is : ch ≡ (kind acts c.args.self.now).inputs = c.in_channels-channels.ensures in
    let size : at + ch - at ≡ ch = omega arith in
    let turns : (c.frames.turn + 1) * ch ≤ c.args.count * ch = mul-le-mul_right ch (omega (arith, c.frames-test.true)) in
    let one : (c.frames.turn + 1) * ch ≡ at + ch = rw add-one (omega (arith, suc-mul c.frames.turn ch)) in
    let all : length c.frames.samples ≡ c.args.count * ch = rw is (c.frames.invariant.even.long ∙ c.requires.samples) in
    let free : at + ch ≤ length c.frames.samples = omega (arith, turns, one, all) in
    let passed = rw size at c.pass_samples-passing.ensures in
    let long : length (take ch (drop at c.frames.samples)) ≡ ch = length-take-le ch (drop at c.frames.samples) (omega (arith, length-drop at c.frames.samples, free)) in
    let sides : length c.pass_samples-passing.new.samples ≡ ch = passed.channels ∙ long in
    let y : List ℤ = c.pass_samples-passing.new.samples in
    let out : List ℤ = take at c.frames.samples ++ (y ++ drop (at + ch - at) (drop at c.frames.samples)) in
    let put : out ≡ take at c.frames.samples ++ y ++ drop (at + length y) c.frames.samples = put-between at ch c.frames.samples y out sides (rw size refl) in
    let same : length out ≡ length c.frames.samples = rw size (put-long at ch c.frames.samples y sides free) in
    let next = Evenly-next acts c.args.self.now c.args.count c.args.samples.now c.requires.one_to_one c.pass_samples-passing.result c.frames.self c.pass_samples-passing.new.self (take ch (drop at c.frames.samples)) y c.frames.samples out c.frames.turn c.frames.invariant.even c.frames-test.true passed.passed
    (λ e. c.is_dry-determined.ensures.dry (c.is_dry-determined.ensures.value ∙ e)) (λ e. c.is_dry-determined.ensures.wet (c.is_dry-determined.ensures.value ∙ e)) (rw (← is) refl) (rw (← is) sides) (rw (← is) free) (rw (← is) put) same in
    record { even = next; lined = c.is_dry-determined.ensures.lined (c.is_dry-determined.ensures.value ∙ next.dry) }
