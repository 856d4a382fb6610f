use Rattle.std.proofs.Common.{refl, ◌∙◌, slice_index_or}
use Rattle.std.proofs.lemmas.List.{length-map}
use Rattle.fx_tap_sums.proofs.Vectors.{both_lanes, four_of_both, lane_of, lane_of_both, short_product}
use Rattle.fx_tap_sums.proofs.transforms.vectors.multiply_wide.Goals as goal

pub overflow_mul-result : goal.overflow_mul-result
overflow_mul-result c =
    both_lanes _ _ _ (length-map c.args.x _ ∙ c.requires.x.four) (length-map c.args.y _ ∙ c.requires.y.four)
    (λ k l. rw (lane_of _ c.args.x k c.requires.x.four l, lane_of _ c.args.y k c.requires.y.four l) (record { fits = short_product (slice_index_or c.args.x k 0) (slice_index_or c.args.y k 0) (c.requires.x.less k l) (c.requires.y.less k l) }))

pub returns-clause-four : goal.returns-clause-four
returns-clause-four c = four_of_both _ _ _ (length-map c.args.x _ ∙ c.requires.x.four) (length-map c.args.y _ ∙ c.requires.y.four)

pub returns-clause-value : goal.returns-clause-value
returns-clause-value c = λ k l. rw (lane_of_both _ _ _ k (length-map c.args.x _ ∙ c.requires.x.four) (length-map c.args.y _ ∙ c.requires.y.four) l, lane_of _ c.args.x k c.requires.x.four l, lane_of _ c.args.y k c.requires.y.four l) refl
