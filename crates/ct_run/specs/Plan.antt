-- What a command does: it asks for files by their names, one after another, and comes to an outcome.
use Rattle.std.specs.Prelude.{ℕ, ◌*◌, nat_lt, cond, length, Bool, false, List, Option, Some, None, Result, Ok, Err, map, string_bytes, String}
use Rattle.std.specs.declared.alloc.Global.{Global}
use Rattle.ct_input.specs.declared.fault.Fault.{Fault}
use Rattle.ct_input.specs.declared.script.Script.{Script}
use Rattle.ct_run.specs.Forms.{form_file, session_file}
use Rattle.ct_instance.specs.Instance.{Problem}
use Rattle.ct_instance.specs.Reach.{full_grade_up_to}
use Rattle.ct_legal.specs.Cases.{Case}
use Rattle.ct_form.specs.Forms.{Form}
use Rattle.ct_form.specs.EqualityForms.{equal_of}
use Rattle.ct_form_report.specs.FormCases.{form_case}
use Rattle.ct_best_report.specs.BestReport.{rights_in}
use Rattle.ct_answer.specs.declared.options.Options.{Options}
use Rattle.ct_run.specs.Words.{Work, answer, best, box, certify, check, Command, on, make, serve, command_of}
use Rattle.ct_run.specs.Outcome.{RunOutcome, usage, bad_instance, bad_sessions, answered, listed, too_many, boxed, certified, full, checked, made, served, resumed}

-- it ends with an outcome, or asks for the file of a name and goes on with its bytes
pub data Plan : Type 0 where
  ends : RunOutcome → Plan
  asks : List ℕ → (List ℕ → Plan) → Plan

-- goes on with the value of a file, or ends with what its fault is
abbrev pub by_value : {A : Type 0} → (Fault → RunOutcome) → (A → Plan) → Result A Fault → Plan
by_value refused go (Ok x) = go x
by_value refused go (Err fault) = ends (refused fault)

-- asks for a file that stands for a value or has a fault
abbrev pub reads : {A : Type 0} → List ℕ → (List ℕ → Result A Fault) → (Fault → RunOutcome) → (A → Plan) → Plan
reads name value_of refused go = asks name (λ bytes. by_value refused go (value_of bytes))

-- goes on with the script of a session file, for a form with m rows
abbrev pub script_plan : List ℕ → ℕ → (Script → Plan) → Plan
script_plan name m go = reads name (session_file m) bad_sessions go

-- the case of a form with the options of `answer`
abbrev pub case_of : Options → Form → Case
case_of o f = form_case f o.limit o.walks o.levels 0

-- answers the requests of a session file
abbrev pub sessions_plan : List ℕ → Options → Form → Plan
sessions_plan sessions o f = script_plan sessions f.rows (λ script. ends (answered (case_of o f) script))

-- answers them by sessions and workers, with the moves of a ledger to begin with where one is named
abbrev pub served_plan : Option (List ℕ) → Case → Script → Plan
served_plan None c script = ends (served c script)
served_plan (Some ledger) c script = asks ledger (λ bytes. ends (resumed c script bytes))

abbrev pub serve_plan : List ℕ → Option (List ℕ) → Options → Form → Plan
serve_plan sessions resume o f = script_plan sessions f.rows (served_plan resume (case_of o f))

-- the least solutions of each request, where as many requests times the count are at most 10,000
abbrev pub listed_or_too_many : Case → ℕ → ℕ → Script → RunOutcome
listed_or_too_many c n count script =
    cond (nat_lt 10000 (length (rights_in script) * count)) (too_many (length (rights_in script))) (listed c n count script)

abbrev pub best_plan : List ℕ → ℕ → Options → Form → Plan
best_plan sessions count o f = script_plan sessions f.rows (λ script. ends (listed_or_too_many (case_of o f) (length f.columns) count script))

-- answers the requests of a session file by a box
abbrev pub box_plan : List ℕ → ℕ → Bool → Form → Plan
box_plan sessions limit walks f = script_plan sessions f.rows (λ script. ends (boxed f limit walks script))

-- the ledger of a grade, or the full grade where that is at most the grade
abbrev pub ledger_or_full : Problem → ℕ → Option ℕ → RunOutcome
ledger_or_full i grade None = certified i grade
ledger_or_full i grade (Some first) = full first

abbrev pub certify_plan : ℕ → ℕ → Problem → Plan
certify_plan grade limit i = ends (ledger_or_full i grade (full_grade_up_to i limit grade))

-- checks a ledger file
abbrev pub check_plan : List ℕ → Problem → Plan
check_plan ledger i = asks ledger (λ bytes. ends (checked i bytes))

-- what is done with the form, in however many threads; a ledger is that of its equality form
abbrev pub work_plan : Work → Form → Plan
work_plan (answer sessions walks levels batch moves) f = sessions_plan sessions (record { limit = moves; walks = walks; levels = levels }) f
work_plan (best sessions count moves) f = best_plan sessions count (record { limit = moves; walks = false; levels = false }) f
work_plan (box sessions walks moves) f = box_plan sessions moves walks f
work_plan (certify grade moves) f = certify_plan grade moves (equal_of f)
work_plan (check ledger batch) f = check_plan ledger (equal_of f)

-- goes on with the form of an instance file
abbrev pub instance_plan : List ℕ → (Form → Plan) → Plan
instance_plan name go = reads name form_file bad_instance go

abbrev pub command_plan : Command → Plan
command_plan (on instance work) = instance_plan instance (work_plan work)
command_plan (make number) = ends (made number)
command_plan (serve instance sessions resume workers walks levels moves) =
    instance_plan instance (serve_plan sessions resume (record { limit = moves; walks = walks; levels = levels }))

abbrev pub plan_of : Option Command → Plan
plan_of None = ends usage
plan_of (Some command) = command_plan command

-- whether several threads may do the work
abbrev pub is_batch : Work → Bool
is_batch (answer sessions walks levels batch moves) = batch
is_batch (check ledger batch) = batch
is_batch work = false

-- the commands whose threads never wait: all but `serve`
abbrev pub batch_of : Option Command → Option Command
batch_of None = None
batch_of (Some (on instance work)) = Some (on instance work)
batch_of (Some (make number)) = Some (make number)
batch_of (Some (serve instance sessions resume workers walks levels moves)) = None

-- the commands of one thread: of those, all that aren't told to take several
abbrev pub plain_of : Option Command → Option Command
plain_of None = None
plain_of (Some (on instance work)) = cond (is_batch work) None (Some (on instance work))
plain_of (Some (make number)) = Some (make number)
plain_of (Some (serve instance sessions resume workers walks levels moves)) = None

-- the plan of the words after the program's name
abbrev pub plan_in : List (String Global) → Plan
plan_in words = plan_of (command_of (map string_bytes words))

-- the same, but the words of `serve` are taken as none of a command
abbrev pub batch_plan_in : List (String Global) → Plan
batch_plan_in words = plan_of (batch_of (command_of (map string_bytes words)))

-- and those with `--batch` too
abbrev pub plain_plan_in : List (String Global) → Plan
plain_plan_in words = plan_of (plain_of (command_of (map string_bytes words)))
