use Rattle.std.proofs.Common.{map}
use Rattle.clap.specs.Matches.{ids_left}
use Rattle.ct_words.specs.Table.{option_seen}
use Rattle.ct_words.specs.Role.{given_seen}
use Rattle.ct_words.specs.Reading.{given_in, rows_found}
use Rattle.ct_words.proofs.Found.{Given}
use Rattle.ct_words.proofs.parts.given_in.Given as goal

abbrev pub invariant-loop-id : goal.invariant-loop-id
invariant-loop-id l = record {
  next : (goal.iterator-loop-id).can_next l.id-iterator;
  finite : (goal.iterator-loop-id).is_finite l.id-iterator;
  found : Given (map option_seen l.rows) (rows_found l.matches) (given_in (map option_seen l.rows) (rows_found l.matches) (map (λ row. row.id) (rows_found l.matches)))
      (map given_seen l.given.items) (ids_left l.id-iterator);
}
