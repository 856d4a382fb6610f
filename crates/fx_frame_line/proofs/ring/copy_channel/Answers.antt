use Rattle.std.proofs.Common.{rules, ◌≡◌, ◌+◌, ◌*◌, ◌-◌, ◌++◌, ◌≤◌, ◌<◌, ℕ, List, length, get_or, sym, ap, ◌∙◌, arith, length-append}
use Rattle.std.proofs.lemmas.Grind.{div_ceil_times}
use Rattle.std.proofs.lemmas.List.{get_or_append_left}
use Rattle.std.proofs.Math.Nat.{add-mul, mul-le-mul_right}
use Rattle.fx_frame_base.proofs.ChannelPlaces.{others-joined, put-joined}
use Rattle.fx_frame_line.proofs.Parts.{IsSplit, split-found, split-left, split-beyond}
use Rattle.fx_frame_line.proofs.ring.copy_channel.Goals as goal

pub overflow_mul-in_front : goal.overflow_mul-in_front
overflow_mul-in_front g c =
    let bounds = div_ceil_times (length c.args.front.now - c.args.from) c.args.step c.requires.step.0 in
    let bound : c.min-in_front.result * c.args.step ≤ c.div_ceil.result * c.args.step = mul-le-mul_right c.args.step (omega arith) in
    let steps : c.div_ceil.result * c.args.step < (length c.args.front.now - c.args.from) + c.args.step = rw (c.div_ceil.ensures, c.saturating_sub.ensures) bounds.1 in
    omega (arith, bound, steps, c.requires.step.1, c.requires.small, length-append c.args.front.now c.args.back.now)

pub overflow_add-from : goal.overflow_add-from
overflow_add-from g c =
    let bounds = div_ceil_times (length c.args.front.now - c.args.from) c.args.step c.requires.step.0 in
    let bound : c.min-in_front.result * c.args.step ≤ c.div_ceil.result * c.args.step = mul-le-mul_right c.args.step (omega arith) in
    let steps : c.div_ceil.result * c.args.step < (length c.args.front.now - c.args.from) + c.args.step = rw (c.div_ceil.ensures, c.saturating_sub.ensures) bounds.1 in
    omega (arith, bound, steps, c.requires.step.1, c.requires.small, length-append c.args.front.now c.args.back.now)

pub overflow_mul-in_front-2 : goal.overflow_mul-in_front-2
overflow_mul-in_front-2 g c =
    let bound : c.min-in_front.result * c.args.apart ≤ c.args.count * c.args.apart = mul-le-mul_right c.args.apart (omega arith) in
    let inside : c.min-in_front.result * c.args.apart ≤ length c.args.out.now = omega (arith, bound, c.requires.free) in
    search rules

pub split_at_mut-near-requires : goal.split_at_mut-near-requires
split_at_mut-near-requires g c =
    let bound : c.min-in_front.result * c.args.apart ≤ c.args.count * c.args.apart = mul-le-mul_right c.args.apart (omega arith) in
    omega (arith, bound, c.requires.free)

pub copy_every-requires : goal.copy_every-requires
copy_every-requires g c =
    let s : IsSplit (length c.args.front.now) c.args.from c.args.step c.args.count c.min-in_front.result c.saturating_sub-beyond.result = split-found _ _ _ _ _ _ _ _ c.requires.step.0 c.saturating_sub.ensures c.div_ceil.ensures c.min-in_front.ensures c.saturating_sub-beyond.ensures in
    record { source = s.before; at = c.requires.at; free = omega (arith, c.split_at_mut-near.ensures.front_len) }

pub copy_every-requires-2 : goal.copy_every-requires-2
copy_every-requires-2 g c =
    let s : IsSplit (length c.args.front.now) c.args.from c.args.step c.args.count c.min-in_front.result c.saturating_sub-beyond.result = split-found _ _ _ _ _ _ _ _ c.requires.step.0 c.saturating_sub.ensures c.div_ceil.ensures c.min-in_front.ensures c.saturating_sub-beyond.ensures in
    let first : ℕ = c.min-in_front.result in
    let whole : first + (c.args.count - first) ≡ c.args.count = omega (arith, s.within) in
    let parts : first * c.args.apart + (c.args.count - first) * c.args.apart ≡ c.args.count * c.args.apart = sym (add-mul first (c.args.count - first) c.args.apart) ∙ ap (λ n. n * c.args.apart) whole in
    record {
      source = split-left _ _ _ _ _ _ _ s c.requires.within;
      at = c.requires.at;
      free = omega (arith, parts, c.requires.free, c.split_at_mut-near.ensures.back_len);
    }

pub returns : goal.returns
returns g c =
    let s : IsSplit (length c.args.front.now) c.args.from c.args.step c.args.count c.min-in_front.result c.saturating_sub-beyond.result = split-found _ _ _ _ _ _ _ _ c.requires.step.0 c.saturating_sub.ensures c.div_ceil.ensures c.min-in_front.ensures c.saturating_sub-beyond.ensures in
    let first : ℕ = c.min-in_front.result in
    let all : List g.row.T.Denot = c.args.front.now ++ c.args.back.now in
    let long : length c.copy_every.new.out ≡ first * c.args.apart = c.copy_every.auto.out ∙ c.split_at_mut-near.ensures.front_len in
    record {
      put = λ k h d. put-joined d (λ k. get_or all (c.args.from + k * c.args.step) d) c.copy_every.new.out c.copy_every-2.new.out c.args.apart c.args.at first c.args.count c.requires.at long
          (λ k l. c.copy_every.ensures.put k l d ∙ sym (get_or_append_left c.args.front.now c.args.back.now d (c.args.from + k * c.args.step) (s.before k l)))
          (λ k l. c.copy_every-2.ensures.put k l d ∙ split-beyond _ _ _ _ _ _ _ _ d s l) k h;
      others = λ k other d. others-joined d c.split_at_mut-near.result.0.now c.split_at_mut-near.result.1.now c.copy_every.new.out c.copy_every-2.new.out c.args.apart c.args.at first c.args.count s.within c.split_at_mut-near.ensures.front_len long
          (λ k other. c.copy_every.ensures.others k other d) (λ k other. c.copy_every-2.ensures.others k other d) k other
          ∙ ap (λ xs. get_or xs k d) (sym c.split_at_mut-near.ensures.value);
    }
