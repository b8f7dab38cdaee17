use Rattle.std.proofs.Common.{map, codes, arith, sym, refl}
use Rattle.ct_words.specs.Role.{given_seen}
use Rattle.ct_run.proofs.Within.{value-within}
use Rattle.ct_run.proofs.words.limit_of.Goals as goal

pub overflow_cast-result : goal.overflow_cast-result
overflow_cast-result c =
    let within = (value-within (codes "moves") (map given_seen c.args.said.now.given.items) c.in-Some.moves c.requires.given (sym c.in-Some.ensures)).0 refl in
    omega (arith, within.1)

pub returns-in-Some-clause-within : goal.returns-in-Some-clause-within
returns-in-Some-clause-within c = (value-within (codes "moves") (map given_seen c.args.said.now.given.items) c.in-Some.moves c.requires.given (sym c.in-Some.ensures)).0 refl
