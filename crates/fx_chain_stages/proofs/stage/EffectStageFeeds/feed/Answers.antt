-- Written by scripts/effects from effects/*.toml. Do not edit.
-- What the stage of an effect did when it was fed, the stage of any effect did.
use Rattle.std.proofs.Common.{refl}
use Rattle.fx_chain_stages.proofs.Joining.{fed}
use Rattle.fx_chain_stages.proofs.Registered.{trim-joins, delay-joins, echo-joins, fade-joins, vol-joins, dcshift-joins, remix-joins}
use Rattle.fx_chain_stages.proofs.stage.EffectStageFeeds.feed.Goals as goal

pub returns-in-Trim-clause-fed : goal.returns-in-Trim-clause-fed
returns-in-Trim-clause-fed c = rw c.in-Trim.is (fed trim-joins _ _ _ _ _ _ refl refl c.feed.ensures.fed)

pub returns-in-Delay-clause-fed : goal.returns-in-Delay-clause-fed
returns-in-Delay-clause-fed c = rw c.in-Delay.is (fed delay-joins _ _ _ _ _ _ refl refl c.feed-in-Delay.ensures.fed)

pub returns-in-Echo-clause-fed : goal.returns-in-Echo-clause-fed
returns-in-Echo-clause-fed c = rw c.in-Echo.is (fed echo-joins _ _ _ _ _ _ refl refl c.feed-in-Echo.ensures.fed)

pub returns-in-Fade-clause-fed : goal.returns-in-Fade-clause-fed
returns-in-Fade-clause-fed c = rw c.in-Fade.is (fed fade-joins _ _ _ _ _ _ refl refl c.feed-in-Fade.ensures.fed)

pub returns-in-Vol-clause-fed : goal.returns-in-Vol-clause-fed
returns-in-Vol-clause-fed c = rw c.in-Vol.is (fed vol-joins _ _ _ _ _ _ refl refl c.feed-in-Vol.ensures.fed)

pub returns-in-DcShift-clause-fed : goal.returns-in-DcShift-clause-fed
returns-in-DcShift-clause-fed c = rw c.in-DcShift.is (fed dcshift-joins _ _ _ _ _ _ refl refl c.feed-in-DcShift.ensures.fed)

pub returns-in-Remix-clause-fed : goal.returns-in-Remix-clause-fed
returns-in-Remix-clause-fed c = rw c.in-Remix.is (fed remix-joins _ _ _ _ _ _ refl refl c.feed-in-Remix.ensures.fed)
