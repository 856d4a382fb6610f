-- Frames that went through stages a few at a time, as a run of their flow.
use Rattle.std.proofs.Common.{ℕ, ◌+◌, ◌-◌, ◌*◌, ◌≤◌, ◌≡◌, ◌∙◌, List, [], ◌++◌, length, map, take, drop, refl, sym, ap, arith, ℤ, FitsSigned}
use Rattle.std.specs.Int.{w32}
use Rattle.std.specs.List.{All}
use Rattle.std.proofs.lemmas.List.{drop-take, drop_at, length-append, length-drop, length-take-le, take-take, take_at}
use Rattle.std.proofs.lemmas.List.Elements.{All-drop, All-take}
use Rattle.std.proofs.Math.Nat.{add-mul, mul-le-mul_right}
use Rattle.fx_frame_base.specs.Frame.{Samples}
use Rattle.fx_frame_base.specs.Holds.{kinds}
use Rattle.fx_frame_base.specs.Lists.{pieces}
use Rattle.fx_frame_base.specs.Pipeline.{AreReady, PipelineThrough}
use Rattle.fx_frame_base.specs.Stage.{Acts}
use Rattle.fx_frame_base.proofs.Evenly.{put-between, put-long}
use Rattle.fx_frame_base.proofs.Puts.{pieces-split, drop-put, pieces-same, pieces-take}
use Rattle.fx_frame_base.proofs.Pieces.{length-pieces, pieces-front}
use Rattle.std.proofs.lemmas.Bool.{cases_lt}
use mathlib.Core.Logic.{inl, inr}
use Rattle.fx_chain_flow.specs.Feed.{untouched}
use Rattle.fx_chain_flow.specs.Parts.{AllDetermined}
use Rattle.fx_chain_flow.specs.Pipeline.{AllLined}
use Rattle.fx_chain_flow.specs.Runs.{AllAhead, AllKeep, AllOneToOne, MayRun, RanOn, flow_of}
use Rattle.fx_chain_flow.specs.Sound.{max_frames}
use Rattle.fx_chain_flow.specs.StageCall.{StageCall}
use Rattle.fx_chain_flow.specs.Order.{InOrder, begun}
use Rattle.fx_chain_flow.proofs.Feeding.{FlowFed-then, FlowGave-none, FlowGave-then, GaveLast-then}
use Rattle.fx_chain_flow.proofs.Orders.{InOrder-then}
use Rattle.fx_chain_flow.proofs.PieceLaws.{ahead-pipeline, kinds-pipeline, determined-pipeline, one_to_one-pipeline}
use Rattle.fx_chain_flow.proofs.PipelineRuns.{AreReady-run, RanOn-pipeline}
use Rattle.fx_chain_flow.proofs.Pipelines.{AllHeld-lined}

module _ {S R : Type 0} (acts : Acts S R) where
  -- one run after another
  RanOn-then : (channels left : ℕ) (xs gs ys hs : List Samples) (first mid new : List S) → length gs ≡ length xs → length hs ≡ length ys → 1 ≤ length hs → RanOn acts channels xs gs first mid left → RanOn acts channels ys hs mid new (left + length xs) → RanOn acts channels (xs ++ ys) (gs ++ hs) first new left
  RanOn-then channels left xs gs ys hs first mid new even also some one two =
      let n : left + length (xs ++ ys) ≡ left + length xs + length ys = omega (arith, length-append xs ys) in
      record {
        fed = rw n (FlowFed-then acts (flow_of acts channels first left) (flow_of acts channels mid (left + length xs)) (flow_of acts channels new (left + length xs + length ys)) xs gs ys hs one.fed two.fed);
        gave = rw n (FlowGave-then acts (flow_of acts channels first left) (flow_of acts channels mid (left + length xs)) (flow_of acts channels new (left + length xs + length ys)) xs gs ys hs one.gave refl two.gave);
        sound = rw n two.sound;
        moves = rw n (omega (arith, one.moves, two.moves));
        each = λ m bound. elim (cases_lt m (length xs)) [
          | inl less ↦ one.each m less
          | inr more ↦
              let later = two.each (m - length xs) (omega (arith, bound, more, length-append xs ys)) in
              let count : left + length xs + (m - length xs) ≡ left + m = omega (arith, more) in
              let same : kinds acts mid ≡ kinds acts first = ap (map acts.kind_of) one.gave.recipes_stay in
              omega (arith, rw (count, same) at later, one.gave.given, even, more)
        ];
        last = λ all one_out. rw n (GaveLast-then acts (flow_of acts channels first left) (flow_of acts channels mid (left + length xs)) (flow_of acts channels new (left + length xs + length ys)) xs gs ys hs one.fed (two.last also some));
      }

  module _ (handed : List S → StageCall → List S → Type 0) (passed_while : List Samples → List Samples → List Samples → S → S → Type 0) (rises : (r : R) (m n : ℕ) → m ≤ n → (acts.kind_of r).maximum m ≤ (acts.kind_of r).maximum n) (channels count : ℕ) (first : List S) (input start : List ℤ) where
    -- how far the frames have gone
    pub record OneToOneRun (stages : List S) (out : List ℤ) (done : ℕ) : Type 0 where
      pub within : done ≤ count
      pub ran : (left : ℕ) → MayRun acts channels count first left → RanOn acts channels (pieces channels done input) (pieces channels done out) first stages left
      pub order : (left : ℕ) → InOrder acts handed passed_while (flow_of acts channels first left) (pieces channels done input) (pieces channels done out) [] 0 (flow_of acts channels stages (left + done))
      pub determined : AllDetermined acts stages
      pub lined : AllLined acts stages
      pub ahead : (m : ℕ) → done + m ≡ count → AllAhead acts m stages
      pub one_to_one : (m : ℕ) → done + m ≡ count → AllOneToOne acts m stages
      pub keep : AllKeep channels (kinds acts stages)
      pub rest_unchanged : drop (done * channels) out ≡ drop (done * channels) start
      pub long : length out ≡ length start

    pub OneToOneRun-none : AllDetermined acts first → AllLined acts first → AllAhead acts count first → AllOneToOne acts count first → AllKeep channels (kinds acts first) → OneToOneRun first start 0
    OneToOneRun-none determined lined ahead one_to_one keep =
        record {
          within = omega arith;
          ran = λ left may. ran-none left may;
          order = λ left. let e : left + 0 ≡ left = omega arith in rw e begun;
          determined = determined;
          lined = lined;
          ahead = λ m all. let same : m ≡ count = omega (arith, all) in rw same ahead;
          one_to_one = λ m all. let same : m ≡ count = omega (arith, all) in rw same one_to_one;
          keep = keep;
          rest_unchanged = refl;
          long = refl;
        }
      where
        ran-none : (left : ℕ) → MayRun acts channels count first left → RanOn acts channels [] [] first first left
        ran-none left may =
            let e : left + 0 ≡ left = omega arith in
            record { fed = rw e untouched; gave = rw e (FlowGave-none acts (flow_of acts channels first left)); sound = rw e may.sound; moves = rw e (omega arith); each = λ n bound. absurd (omega (arith, bound)); last = λ even one_out. absurd (omega (arith, one_out)) }

    -- so many frames more may come
    later-may : (stages : List S) (out : List ℤ) (done m left : ℕ) → OneToOneRun stages out done → done + m ≡ count → MayRun acts channels count first left → MayRun acts channels m stages (left + done)
    later-may stages out done m left run_so_far all may =
        let ran = run_so_far.ran left may in
        let many : length (pieces channels done input) ≡ done = length-pieces channels done input in
        record { sound = rw many at ran.sound; bound = omega (arith, may.bound, all) }

    -- a few more may be passed
    pub OneToOneRun-ready : (stages : List S) (out : List ℤ) (done bound left : ℕ) → OneToOneRun stages out done → done + bound ≤ count → 1 ≤ bound → MayRun acts channels count first left → (left + done + bound ≤ max_frames) × AreReady acts channels (left + done) max_frames stages
    OneToOneRun-ready stages out done bound left run_so_far within some may =
        let all : done + (count - done) ≡ count = omega (arith, within) in
        let next = later-may stages out done (count - done) left run_so_far all may in
        (omega (arith, may.bound, within), AreReady-run acts channels (count - done) (left + done) stages next (omega (arith, within, some)) run_so_far.determined (run_so_far.ahead (count - done) all))

    -- a few went through
    pub OneToOneRun-next : (stages stages' : List S) (out out' y : List ℤ) (done bound : ℕ) → OneToOneRun stages out done → 1 ≤ channels → channels ≤ 16 → done + bound ≤ count → 1 ≤ bound → count * channels ≤ length input → count * channels ≤ length start → All (FitsSigned w32) (take (count * channels) input)
        → length y ≡ bound * channels → PipelineThrough acts (pieces channels bound (take (bound * channels) (drop (done * channels) input))) (pieces channels bound y) stages stages' → AllLined acts stages'
        → ((left : ℕ) → InOrder acts handed passed_while (flow_of acts channels stages left) (pieces channels bound (take (bound * channels) (drop (done * channels) input))) (pieces channels bound y) [] 0 (flow_of acts channels stages' (left + bound)))
        → out' ≡ take (done * channels) out ++ (y ++ drop (bound * channels) (drop (done * channels) out)) → OneToOneRun stages' out' (done + bound)
    OneToOneRun-next stages stages' out out' y done bound run_so_far one sixteen within some reach free fits sides pipeline lined order put =
        record {
          within = within;
          ran = λ left may. went left may;
          order = λ left.
              let more : left + (done + bound) ≡ left + done + bound = omega arith in
              rw (pieces-split channels done bound input, outs, more) (InOrder-then acts handed passed_while (flow_of acts channels first left) (flow_of acts channels stages (left + done)) (flow_of acts channels stages' (left + done + bound)) (pieces channels done input) (pieces channels done out) xs ys [] 0 (run_so_far.order left) (order' (left + done)));
          determined = determined-pipeline acts xs ys stages stages' pipeline' run_so_far.determined;
          lined = lined;
          ahead = λ m all. ahead-pipeline acts xs ys m stages stages' pipeline' (rw many (run_so_far.ahead (bound + m) (omega (arith, all))));
          one_to_one = λ m all. one_to_one-pipeline acts xs ys m stages stages' pipeline' (rw many (run_so_far.one_to_one (bound + m) (omega (arith, all))));
          keep = rw (kinds-pipeline acts xs ys stages stages' pipeline') run_so_far.keep;
          rest_unchanged = rw place (drop-put at (bound * channels) start out y out' sides fits_out put' run_so_far.rest_unchanged);
          long = ap length put ∙ put-long at (bound * channels) out y sides fits_out ∙ run_so_far.long;
        }
      where
        at : ℕ
        at = done * channels

        xs : List Samples
        xs = pieces channels bound (drop at input)

        ys : List Samples
        ys = pieces channels bound y

        given : length ys ≡ bound
        given = length-pieces channels bound y

        place : (done + bound) * channels ≡ at + bound * channels
        place = add-mul done bound channels

        turns : (done + bound) * channels ≤ count * channels
        turns = mul-le-mul_right channels within

        reached : bound * channels ≤ length (drop at input)
        reached = omega (arith, length-drop at input, place, turns, reach)

        fits_out : at + bound * channels ≤ length out
        fits_out = omega (arith, place, turns, free, run_so_far.long)

        pipeline' : PipelineThrough acts xs ys stages stages'
        pipeline' = rw (pieces-take channels bound (drop at input) reached) at pipeline

        order' : (left : ℕ) → InOrder acts handed passed_while (flow_of acts channels stages left) xs ys [] 0 (flow_of acts channels stages' (left + bound))
        order' left = rw (pieces-take channels bound (drop at input) reached) at (order left)

        many : length xs ≡ bound
        many = length-pieces channels bound (drop at input)

        put' : out' ≡ take at out ++ y ++ drop (at + length y) out
        put' = put-between at (bound * channels) out y out' sides put

        rest : (count - done) * channels ≤ length (drop at input)
        rest =
            let all : (done + (count - done)) * channels ≡ at + (count - done) * channels = add-mul done (count - done) channels in
            let same : done + (count - done) ≡ count = omega (arith, within) in
            omega (arith, rw same at all, length-drop at input, reach)

        fitting : All (FitsSigned w32) (take (bound * channels) (drop at input))
        fitting =
            let fewer : bound * channels ≤ count * channels - at = omega (arith, place, turns) in
            let total : at + (count * channels - at) ≡ count * channels = omega (arith, place, turns) in
            let later : drop at (take (count * channels) input) ≡ take (count * channels - at) (drop at input) = ap (λ n. drop at (take n input)) (sym total) ∙ drop-take at (count * channels - at) input in
            let fits' = rw later at (All-drop (FitsSigned w32) at (take (count * channels) input) fits) in
            rw (take-take (bound * channels) (count * channels - at) (drop at input) fewer) at (All-take (FitsSigned w32) (bound * channels) (take (count * channels - at) (drop at input)) fits')

        front : length (take at out) ≡ at
        front = length-take-le at out (omega (arith, fits_out))

        outs : pieces channels (done + bound) out' ≡ pieces channels done out ++ ys
        outs =
            let tail : List ℤ = drop (bound * channels) (drop at out) in
            let before : take at out' ≡ take at out = ap (take at) put ∙ take_at (take at out) (y ++ tail) at front in
            let rest_unchanged' : drop at out' ≡ y ++ tail = ap (drop at) put ∙ drop_at (take at out) (y ++ tail) at front in
            let lengths : length out' ≡ length out = ap length put ∙ put-long at (bound * channels) out y sides fits_out in
            pieces-split channels done bound out' ∙ ap (λ l. l ++ pieces channels bound (drop at out')) (pieces-same channels done out' out (omega (arith, lengths, fits_out)) (omega (arith, fits_out)) before)
            ∙ ap (λ l. pieces channels done out ++ l) (ap (pieces channels bound) rest_unchanged' ∙ pieces-front channels bound y tail sides)

        went : (left : ℕ) → MayRun acts channels count first left → RanOn acts channels (pieces channels (done + bound) input) (pieces channels (done + bound) out') first stages' left
        went left may =
            let all : done + (count - done) ≡ count = omega (arith, within) in
            let next = later-may stages out done (count - done) left run_so_far all may in
            let two : RanOn acts channels xs ys stages stages' (left + done) =
            RanOn-pipeline acts rises channels (count - done) bound (left + done) stages stages' (drop at input) ys one sixteen (omega (arith, within)) rest fitting next run_so_far.determined (AllHeld-lined acts stages run_so_far.lined) (run_so_far.ahead (count - done) all) pipeline' in
            let before : length (pieces channels done input) ≡ done = length-pieces channels done input in
            rw (pieces-split channels done bound input, outs) (RanOn-then channels left (pieces channels done input) (pieces channels done out) xs ys first stages stages' (length-pieces channels done out ∙ sym before) (given ∙ sym many) (omega (arith, given, some)) (run_so_far.ran left may) (rw before two))
