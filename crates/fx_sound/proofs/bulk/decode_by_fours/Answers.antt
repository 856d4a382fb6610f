use Rattle.std.proofs.Common.{◌≡◌, ◌+◌, ◌-◌, ◌*◌, ◌/◌, ◌≤◌, ℕ, List, length, take, drop, ap, ◌∙◌, arith, length-drop, length-take}
use Rattle.fx_frame_base.specs.Coding.{width_of}
use Rattle.fx_frame_base.specs.Frame.{Samples}
use Rattle.fx_sound.specs.FrameCoding.{coded_samples}
use Rattle.fx_sound.proofs.ManyBytes.{samples_of-piece, samples_of-rest}
use Rattle.fx_sound.proofs.bulk.decode_by_fours.Goals as goal

pub fours-preserved : goal.fours-preserved
fours-preserved c =
    let coding = c.args.coding in
    let bytes : List ℕ = c.args.bytes.now in
    let k : ℕ = c.fours.k in
    let next : 4 * (k + 1) ≡ 4 * k + 4 = omega arith in
    let at : 12 * k ≡ 4 * k * width_of coding = rw c.requires.width (omega arith) in
    let size : 12 * k + 12 - 12 * k ≡ 4 * width_of coding = rw c.requires.width (omega arith) in
    let all : length bytes ≡ length c.args.samples.now * 3 = c.requires.bytes ∙ ap (λ w. length c.args.samples.now * w) c.requires.width in
    let within : (4 * k + 4) * width_of coding ≤ length bytes = rw c.requires.width (omega (arith, all)) in
    let made = c.read_four.ensures ∙ ap (λ m. coded_samples coding 4 (take m (drop (12 * k) bytes))) size ∙ ap (λ m. coded_samples coding 4 (take (4 * width_of coding) (drop m bytes))) at in
    rw next record { front = samples_of-piece coding bytes c.fours.samples c.read_four.new.samples (4 * k) 4 within (omega arith) c.fours.invariant.front made (4 * k + 4 - 4 * k) }

pub returns : goal.returns
returns c =
    let coding = c.args.coding in
    let bytes : List ℕ = c.args.bytes.now in
    let xs : Samples = c.fours.samples in
    let done : ℕ = 4 * (length c.args.samples.now / 4) in
    let left : ℕ = length xs - done in
    let end : 4 * c.fours.k ≡ done = omega arith in
    let whole : done + left ≡ length c.args.samples.now = omega arith in
    let all : length bytes ≡ length c.args.samples.now * 3 = c.requires.bytes ∙ ap (λ w. length c.args.samples.now * w) c.requires.width in
    let at : 3 * done ≡ done * width_of coding = rw c.requires.width (omega arith) in
    let size : length bytes - 3 * done ≡ left * width_of coding = rw c.requires.width (omega (arith, all)) in
    let within : (done + left) * width_of coding ≤ length bytes = rw c.requires.width (omega (arith, all)) in
    let front : take done xs ≡ coded_samples coding done bytes = rw end at c.fours.invariant.front in
    let many : length (take left (drop done xs)) ≡ left = omega (arith, length-take left (drop done xs), length-drop done xs) in
    let made = c.decode_as.ensures ∙ ap (λ m. coded_samples coding m (take (length bytes - 3 * done) (drop (3 * done) bytes))) many ∙ ap (λ m. coded_samples coding left (take m (drop (3 * done) bytes))) size ∙ ap (λ m. coded_samples coding left (take (left * width_of coding) (drop m bytes))) at in
    samples_of-rest coding bytes xs c.decode_as.new.samples done left within (omega arith) front made left (omega arith) ∙ ap (λ m. coded_samples coding m bytes) whole
