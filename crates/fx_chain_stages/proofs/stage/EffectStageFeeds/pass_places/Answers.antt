use Rattle.std.proofs.Common.{refl}
use Rattle.fx_chain_stages.proofs.Joining.{passed}
use Rattle.fx_chain_stages.proofs.Registered.{is-member, remix-joins}
use Rattle.fx_chain_stages.proofs.stage.EffectStageFeeds.pass_places.Goals as goal

pub pass_samples-requires-clause-same_channels : goal.pass_samples-requires-clause-same_channels
pass_samples-requires-clause-same_channels c = (is-member c.args.self.now).keeps c.in_default.not-Remix

pub returns-in-Remix-clause-passed : goal.returns-in-Remix-clause-passed
returns-in-Remix-clause-passed c = passed remix-joins c.pass_places.result _ _ _ _ _ _ c.in-Remix.is refl c.pass_places.ensures.passed
