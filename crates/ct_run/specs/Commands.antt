-- What the program's commands stand for.
use Rattle.std.specs.Prelude.{option_map}
use Rattle.ct_run.specs.declared.words.Work.{Work as RustWork}
use Rattle.ct_run.specs.declared.words.Work.TheVariants.{Answer, Best, Box, Certify, Check}
use Rattle.ct_run.specs.declared.words.Command.{Command as Rust}
use Rattle.ct_run.specs.declared.words.Command.TheVariants.{On, Make, Serve}
use Rattle.ct_run.specs.Words.{Work, answer, best, box, certify, check, Command, on, make, serve}

abbrev pub work_seen : RustWork → Work
work_seen (Answer sessions walks levels batch moves) = answer sessions.now walks levels batch moves
work_seen (Best sessions count moves) = best sessions.now count moves
work_seen (Box sessions walks moves) = box sessions.now walks moves
work_seen (Certify grade moves) = certify grade moves
work_seen (Check ledger batch) = check ledger.now batch

abbrev pub seen : Rust → Command
seen (On instance work) = on instance.now (work_seen work)
seen (Make number) = make number
seen (Serve instance sessions resume workers walks levels moves) = serve instance.now sessions.now (option_map (λ ledger. ledger.now) resume) workers walks levels moves
