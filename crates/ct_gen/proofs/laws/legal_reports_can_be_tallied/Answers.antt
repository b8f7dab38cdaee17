use Rattle.ct_gen.proofs.LegalReports.{can_be_tallied}
use Rattle.ct_gen.proofs.laws.legal_reports_can_be_tallied.Goals as goal

pub returns : goal.returns
returns c = λ i inst limit walks levels script is report legal. can_be_tallied i inst limit walks levels script report is legal
