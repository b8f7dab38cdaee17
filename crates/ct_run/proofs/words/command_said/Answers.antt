use Rattle.std.proofs.Common.{map, sym, rules}
use Rattle.ct_words.specs.Said.{place_seen}
use Rattle.ct_run.proofs.Within.{grade-within, count-within}
use Rattle.ct_run.proofs.words.command_said.Goals as goal

pub returns-in_ok-instance-in-Certify-clause-within : goal.returns-in_ok-instance-in-Certify-clause-within
returns-in_ok-instance-in-Certify-clause-within c =
    (grade-within c.args.said.now.command (map place_seen c.args.said.now.places.items) c.in_ok-instance-in-Certify.instance.now c.in_ok-instance-in-Certify.grade (search rules) c.requires.places (sym (search rules)), c.limit_of-moves.ensures.within)

pub returns-in_ok-instance-in-Best-clause-within : goal.returns-in_ok-instance-in-Best-clause-within
returns-in_ok-instance-in-Best-clause-within c =
    (count-within c.args.said.now.command (map place_seen c.args.said.now.places.items) c.in_ok-instance-in-Best.instance.now c.in_ok-instance-in-Best.sessions.now c.in_ok-instance-in-Best.count (search rules) c.requires.places (sym (search rules)), c.limit_of-moves.ensures.within)
