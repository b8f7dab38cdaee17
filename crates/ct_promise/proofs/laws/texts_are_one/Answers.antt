use Rattle.ct_promise.proofs.Beside.{one_certificate, one_summary}
use Rattle.ct_promise.proofs.laws.texts_are_one.Goals as goal

pub returns : goal.returns
returns c = record { certificate = one_certificate; summary = one_summary }
