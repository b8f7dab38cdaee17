-- The rules on worked words, by computation.
use Rattle.std.proofs.Common.{◌≡◌, [], ◌∷◌, Option, Some, None, refl, codes}
use Rattle.ct_text.specs.Numbers.{natural_of}
use Rattle.ct_words.specs.Table.{commands}
use Rattle.ct_words.specs.Role.{numbered, worded}
use Rattle.ct_words.specs.Parts.{parts_of}
use Rattle.ct_words.specs.Said.{WordsSaid, said_of, places_of, text, number}
use Rattle.ct_words.specs.declared.table.CommandName.TheVariants.{Answer, Certify, Make, Serve}

abbrev two_moves : Option WordsSaid
two_moves = Some (record { command = Answer; places = text (codes "K") ∷ text (codes "S") ∷ []; given = record { name = codes "moves"; value = numbered 2 } ∷ [] })

value_behind_the_sign : said_of commands (codes "answer" ∷ codes "--moves=2" ∷ codes "--" ∷ codes "K" ∷ codes "S" ∷ []) ≡ two_moves
unfolding parts_of places_of natural_of
value_behind_the_sign = refl

value_in_the_next_word : said_of commands (codes "answer" ∷ codes "K" ∷ codes "S" ∷ codes "--moves" ∷ codes "2" ∷ []) ≡ two_moves
unfolding parts_of places_of natural_of
value_in_the_next_word = refl

names_with_a_dash : said_of commands (codes "certify" ∷ codes "--" ∷ codes "-w" ∷ codes "12" ∷ []) ≡ Some (record { command = Certify; places = text (codes "-w") ∷ number 12 ∷ []; given = [] })
unfolding parts_of places_of natural_of
names_with_a_dash = refl

flag_twice : said_of commands (codes "answer" ∷ codes "K" ∷ codes "S" ∷ codes "--walks" ∷ codes "--walks" ∷ []) ≡ None
unfolding parts_of places_of natural_of
flag_twice = refl

no_value : said_of commands (codes "answer" ∷ codes "--moves" ∷ codes "--" ∷ codes "K" ∷ codes "S" ∷ []) ≡ None
unfolding parts_of places_of natural_of
no_value = refl

value_of_a_flag : said_of commands (codes "answer" ∷ codes "K" ∷ codes "S" ∷ codes "--walks=" ∷ []) ≡ None
unfolding parts_of places_of natural_of
value_of_a_flag = refl

another_dash : said_of commands (codes "answer" ∷ codes "K" ∷ codes "S" ∷ codes "-w" ∷ []) ≡ None
unfolding parts_of places_of natural_of
another_dash = refl

too_few : said_of commands (codes "check" ∷ codes "K" ∷ []) ≡ None
unfolding parts_of places_of natural_of
too_few = refl

another_commands_option : said_of commands (codes "check" ∷ codes "K" ∷ codes "L" ∷ codes "--moves=2" ∷ []) ≡ None
unfolding parts_of places_of natural_of
another_commands_option = refl

leading_zero : said_of commands (codes "answer" ∷ codes "K" ∷ codes "S" ∷ codes "--moves=02" ∷ []) ≡ None
unfolding parts_of places_of natural_of
leading_zero = refl

over_the_limit : said_of commands (codes "certify" ∷ codes "K" ∷ codes "16000000000001" ∷ []) ≡ None
unfolding parts_of places_of natural_of
over_the_limit = refl

greatest_number : said_of commands (codes "make" ∷ codes "18446744073709551615" ∷ []) ≡ Some (record { command = Make; places = number 18446744073709551615 ∷ []; given = [] })
unfolding parts_of places_of natural_of
greatest_number = refl

over_64_bits : said_of commands (codes "make" ∷ codes "18446744073709551616" ∷ []) ≡ None
unfolding parts_of places_of natural_of
over_64_bits = refl

workers_of_serve : said_of commands (codes "serve" ∷ codes "K" ∷ codes "S" ∷ codes "--workers" ∷ codes "2" ∷ []) ≡ Some (record { command = Serve; places = text (codes "K") ∷ text (codes "S") ∷ []; given = record { name = codes "workers"; value = numbered 2 } ∷ [] })
unfolding parts_of places_of natural_of
workers_of_serve = refl

workers_of_answer : said_of commands (codes "answer" ∷ codes "K" ∷ codes "S" ∷ codes "--workers" ∷ codes "2" ∷ []) ≡ None
unfolding parts_of places_of natural_of
workers_of_answer = refl

abbrev from_ledger : Option WordsSaid
from_ledger = Some (record { command = Serve; places = text (codes "K") ∷ text (codes "S") ∷ []; given = record { name = codes "resume"; value = worded (codes "L") } ∷ [] })

name_in_the_next_word : said_of commands (codes "serve" ∷ codes "K" ∷ codes "S" ∷ codes "--resume" ∷ codes "L" ∷ []) ≡ from_ledger
unfolding parts_of places_of natural_of
name_in_the_next_word = refl

name_behind_the_sign : said_of commands (codes "serve" ∷ codes "K" ∷ codes "S" ∷ codes "--resume=L" ∷ []) ≡ from_ledger
unfolding parts_of places_of natural_of
name_behind_the_sign = refl

empty_name : said_of commands (codes "serve" ∷ codes "K" ∷ codes "S" ∷ codes "--resume=" ∷ []) ≡ None
unfolding parts_of places_of natural_of
empty_name = refl

name_with_a_dash : said_of commands (codes "serve" ∷ codes "K" ∷ codes "S" ∷ codes "--resume" ∷ codes "-x" ∷ []) ≡ None
unfolding parts_of places_of natural_of
name_with_a_dash = refl

dash_for_a_name : said_of commands (codes "serve" ∷ codes "K" ∷ codes "S" ∷ codes "--resume" ∷ codes "-" ∷ []) ≡ None
unfolding parts_of places_of natural_of
dash_for_a_name = refl

dash_behind_the_sign : said_of commands (codes "serve" ∷ codes "K" ∷ codes "S" ∷ codes "--resume=-" ∷ []) ≡ None
unfolding parts_of places_of natural_of
dash_behind_the_sign = refl

no_name : said_of commands (codes "serve" ∷ codes "K" ∷ codes "S" ∷ codes "--resume" ∷ []) ≡ None
unfolding parts_of places_of natural_of
no_name = refl

name_twice : said_of commands (codes "serve" ∷ codes "K" ∷ codes "S" ∷ codes "--resume" ∷ codes "A" ∷ codes "--resume" ∷ codes "B" ∷ []) ≡ None
unfolding parts_of places_of natural_of
name_twice = refl

name_to_answer : said_of commands (codes "answer" ∷ codes "K" ∷ codes "S" ∷ codes "--resume" ∷ codes "L" ∷ []) ≡ None
unfolding parts_of places_of natural_of
name_to_answer = refl
