use Rattle.ct_promise.proofs.Promise.{promise_kept, batch_promise_kept, plain_promise_kept}
use Rattle.ct_promise.proofs.laws.done_keeps_the_promise.Goals as goal

pub returns : goal.returns
returns c = record { run = promise_kept; batch = batch_promise_kept; plain = plain_promise_kept }
