-- What parts need, and what a phase comes to.
use Rattle.std.proofs.Common.{ℕ, ◌≡◌, Bool, List, [], ◌∷◌, map, All, ap, subst, ◌∙◌}
use Rattle.std.proofs.lemmas.List.Elements.{All-nil, All-cons, All-head, All-tail}
use Rattle.ct_input.specs.declared.script.Request.{Request}
use Rattle.ct_input.specs.declared.script.Phase.{Phase}
use Rattle.ct_input.specs.Script.{IsPhase}
use Rattle.ct_version.specs.Desks.{Place}
use Rattle.ct_book.specs.Benches.{desk_place}
use Rattle.ct_session.specs.declared.lines.Line.{Line}
use Rattle.ct_session.specs.Shown.{AreShown}
use Rattle.ct_host.specs.Hosts.{HostSeen, PassSeen, HomeSeen, OwnDeskSeen, IsOfHost, home_of}
use Rattle.ct_answer.specs.Told.{AreEach}
use Rattle.ct_serve.specs.declared.parts.Part.{Part}
use Rattle.ct_serve.specs.declared.parts.Done.{Done}
use Rattle.ct_serve.specs.Served.{IsJobIn, IsPart, scripts_dealt, scripts_done, IsTold, IsDone, AreCollected}

pub told_from : (p q : Place) (walks : Bool) (before after from first : ℕ) (requests : List Request) (lines : List Line) (words : List ℕ) (to : ℕ) → q ≡ p → from ≡ first →
    AreShown q walks before after from requests lines words to → IsTold p walks first requests lines
told_from p q walks before after from first requests lines words to same is shown =
    record {
      before = before;
      after = after;
      words = words;
      to = to;
      shown = subst (λ (n : ℕ). AreShown p walks before after n requests lines words to) is
          (subst (λ (x : Place). AreShown x walks before after from requests lines words to) same shown);
    }

-- the pass that a session gives back is of the host at which it began
pub pass_back : (host : HostSeen) (made opened ran closed : OwnDeskSeen) (pass : PassSeen) → made.host ≡ host → opened ≡ made →
    home_of ran.host ran.pass ≡ home_of opened.host opened.pass → closed ≡ ran → IsOfHost closed.host pass → IsOfHost host pass
pass_back host made opened ran closed pass is opening home closing own =
    subst (λ (h : HostSeen). IsOfHost h pass)
    (ap (λ (d : OwnDeskSeen). d.host) closing ∙ ap (λ (h : HomeSeen). h.host) home ∙ ap (λ (d : OwnDeskSeen). d.host) opening ∙ is) own

-- parts whose passes are of the host, and whose jobs are of a phase within its limits
pub parts_are : (host : HostSeen) (phase : Phase) (parts : List Part) → All (IsOfHost host) (map (λ part. part.pass) parts) →
    IsPhase ((host.place).instance).rows phase → All (λ part. IsJobIn phase part.job) parts → All (IsPart host) parts
parts_are host phase [] own is jobs = All-nil (IsPart host)
parts_are host phase (p ∷ parts) own is jobs =
    All-cons (IsPart host) p parts
    (record {
      own = All-head (IsOfHost host) p.pass (map (λ part. part.pass) parts) own;
      job = All-head (λ part. IsJobIn phase part.job) p parts jobs ((host.place).instance).rows is;
    })
    (parts_are host phase parts (All-tail (IsOfHost host) p.pass (map (λ part. part.pass) parts) own) is (All-tail (λ part. IsJobIn phase part.job) p parts jobs))

pub phase_told : (host : HostSeen) (walks : Bool) (from : ℕ) (sessions : List (List Request)) (parts : List Part) (dones : List Done) (passes : List PassSeen) (told : List (List Line)) →
    scripts_dealt parts ≡ sessions → scripts_done dones ≡ scripts_dealt parts → All (IsDone host walks from) dones → AreCollected dones passes told →
    All (IsOfHost host) passes × AreEach (IsTold (desk_place host.place) walks from) sessions told
phase_told host walks from sessions parts dones passes told dealt same all collected =
    let r = collected host walks from all in
    (r.0, subst (λ rs. AreEach (IsTold (desk_place host.place) walks from) rs told) (same ∙ dealt) r.1)
