use Rattle.ct_walk.proofs.Followed.{follows_leads}
use Rattle.ct_walk.proofs.laws.followed_steps_lead.Goals as goal

pub returns : goal.returns
returns c = record { leads = follows_leads }
