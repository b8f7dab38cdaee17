-- What the parts of a phase and the main part come to.
use Rattle.std.specs.Prelude.{ℕ, ◌+◌, ◌-◌, ◌≤◌, ◌<◌, ◌≡◌, Bool, List, [], ◌∷◌, length, get_or, All, IfOk}
use Rattle.std.specs.List.{flat_map}
use Rattle.std.specs.Arc.{arc_value}
use Rattle.ct_vectors.specs.declared.limits.TheConstants.{GRADE_LIMIT}
use Rattle.ct_instance.specs.Reach.{reach_of}
use Rattle.ct_input.specs.declared.script.Request.{Request}
use Rattle.ct_input.specs.declared.script.Phase.{Phase}
use Rattle.ct_input.specs.Script.{IsRequest, IsPhase}
use Rattle.ct_version.specs.Editions.{level_seen}
use Rattle.ct_version.specs.Desks.{Place, IsOfPlace, IsHelp, IsFullMark}
use Rattle.ct_book.specs.Benches.{desk_place}
use Rattle.ct_session.specs.declared.lines.Line.{Line}
use Rattle.ct_session.specs.Shown.{HasReached, AreShown}
use Rattle.ct_host.specs.Hosts.{HostSeen, PassSeen, IsOfHost}
use Rattle.ct_legal.specs.Cases.{Case}
use Rattle.ct_answer.specs.declared.options.Options.{Options}
use Rattle.ct_answer.specs.Told.{case_at, AreEach}
use Rattle.ct_serve.specs.declared.reaching.Held.{Held}
use Rattle.ct_serve.specs.declared.parts.Job.{Job}
use Rattle.ct_serve.specs.declared.parts.Job.TheVariants.{Idle, Work, Run}
use Rattle.ct_serve.specs.declared.parts.Part.{Part}
use Rattle.ct_serve.specs.declared.parts.End.{End}
use Rattle.ct_serve.specs.declared.parts.End.TheVariants.{Rested, Reached, Stopped, Told}
use Rattle.ct_serve.specs.declared.parts.Kept.{Kept}
use Rattle.ct_serve.specs.declared.parts.Done.{Done}

-- ---- the main part

-- the case of a place that was opened at a grade
abbrev pub case_from : Place → Options → ℕ → Case
case_from p o opened = record (case_at p o) { opened = opened }

-- a version of the place that has reached the grade, with how far a completion for that grade comes
pub record IsHeld (p : Place) (g : ℕ) (h : Held) : Type 0 where
  pub version : IsOfPlace p (arc_value h.version)
  pub reached : HasReached p g (arc_value h.version).number
  pub level : level_seen h.level ≡ reach_of p.instance p.limit g

-- ---- parts

-- a grade within the limit, or requests of so many rows
abbrev pub IsJob : ℕ → Job → Type 0
IsJob rows (Work target) = target ≤ GRADE_LIMIT
IsJob rows (Run requests) = All (IsRequest rows) requests.now
IsJob rows Idle = Unit {0}

pub record IsPart (host : HostSeen) (part : Part) : Type 0 where
  pub own : IsOfHost host part.pass
  pub job : IsJob ((host.place).instance).rows part.job

-- the requests of the sessions, in order
abbrev pub scripts_of : Job → List (List Request)
scripts_of (Work target) = []
scripts_of (Run requests) = requests.now ∷ []
scripts_of Idle = []

abbrev pub scripts_dealt : List Part → List (List Request)
scripts_dealt parts = flat_map (λ part. scripts_of part.job) parts

abbrev pub scripts_done : List Done → List (List Request)
scripts_done dones = flat_map (λ done. scripts_of done.job) dones

-- the job of the part with this index: first come the workers, then the sessions in order
abbrev pub IsJobAt : Phase → ℕ → ℕ → Job → Type 0
IsJobAt phase workers index (Work target) = (index < workers) × (target ≡ phase.target)
IsJobAt phase workers index (Run requests) =
    (workers ≤ index) × (index - workers < length phase.sessions) × (requests.now ≡ get_or phase.sessions (index - workers) requests.now)
IsJobAt phase workers index Idle = workers + length phase.sessions ≤ index

-- the part with this index has the job of the index, and one more than the index as its number at the gate
pub record IsPartAt (phase : Phase) (workers index : ℕ) (part : Part) : Type 0 where
  pub number : part.who ≡ index + 1
  pub job : IsJobAt phase workers index part.job

-- where the phase is within its limits, the job is
abbrev pub IsJobIn : Phase → Job → Type 0
IsJobIn phase job = (rows : ℕ) → IsPhase rows phase → IsJob rows job

-- ---- what they come to

-- what a session shows from the version with this number on
pub record IsTold (p : Place) (walks : Bool) (from : ℕ) (requests : List Request) (lines : List Line) : Type 0 where
  pub before : ℕ
  pub after : ℕ
  pub words : List ℕ
  pub to : ℕ
  pub shown : AreShown p walks before after from requests lines words to

-- the requests are told so
abbrev pub HasTold : Place → Bool → ℕ → List Request → End → Type 0
HasTold p walks from requests (Told lines) = IsTold p walks from requests lines
HasTold p walks from requests (Reached helped) = ⊥
HasTold p walks from requests (Stopped mark) = ⊥
HasTold p walks from requests Rested = ⊥

-- the grade is reached, or the limit on the number of moves stands before it
abbrev pub HasWorked : Place → ℕ → End → Type 0
HasWorked p target (Reached helped) = IsHelp p target helped
HasWorked p target (Stopped mark) = IsFullMark p target mark
HasWorked p target (Told lines) = ⊥
HasWorked p target Rested = ⊥

abbrev pub IsEnded : Place → Bool → ℕ → Job → End → Type 0
IsEnded p walks from (Run requests) end = HasTold p walks from requests.now end
IsEnded p walks from (Work target) end = HasWorked p target end
IsEnded p walks from Idle end = end ≡ Rested

pub record IsKept (host : HostSeen) (walks : Bool) (from : ℕ) (job : Job) (kept : Kept) : Type 0 where
  pub own : IsOfHost host kept.pass
  pub ended : IsEnded (desk_place host.place) walks from job kept.end

abbrev pub IsDone : HostSeen → Bool → ℕ → Done → Type 0
IsDone host walks from done = IfOk done.outcome (IsKept host walks from done.job)

-- the lines of a session, and of no other part
abbrev pub lines_in : End → List (List Line)
lines_in (Told lines) = lines ∷ []
lines_in (Reached helped) = []
lines_in (Stopped mark) = []
lines_in Rested = []

-- the passes of the parts, and the lines of the sessions in order
abbrev pub AreCollected : List Done → List PassSeen → List (List Line) → Type 0
AreCollected dones passes told =
    (host : HostSeen) (walks : Bool) (from : ℕ) → All (IsDone host walks from) dones →
    All (IsOfHost host) passes × AreEach (IsTold (desk_place host.place) walks from) (scripts_done dones) told
