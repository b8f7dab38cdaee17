-- What one part more keeps, and what parts that were run come to.
use Rattle.std.proofs.Common.{ℕ, ◌<◌, ◌≡◌, Bool, suc, List, [], ◌∷◌, ◌++◌, length, get_or, All, Result, Ok, IfOk, refl, sym, ap, ap₂, subst, ◌∙◌, arith}
use Rattle.std.specs.declared.alloc.AllocError.{AllocError}
use Rattle.std.proofs.lemmas.List.{append-nil}
use Rattle.std.proofs.lemmas.List.Concat.{flat_map-append}
use Rattle.std.proofs.lemmas.List.Elements.{All-nil, All-cons, All-head, All-tail, All-push}
use Rattle.ct_input.specs.declared.script.Request.{Request}
use Rattle.ct_version.specs.Desks.{Place}
use Rattle.ct_book.specs.Benches.{desk_place}
use Rattle.ct_session.specs.declared.lines.Line.{Line}
use Rattle.ct_host.specs.Hosts.{HostSeen, PassSeen, IsOfHost}
use Rattle.ct_answer.specs.Told.{AreEach}
use Rattle.ct_answer.proofs.Pairing.{each_pushed}
use Rattle.ct_serve.specs.declared.parts.Job.{Job}
use Rattle.ct_serve.specs.declared.parts.Job.TheVariants.{Idle, Work, Run}
use Rattle.ct_serve.specs.declared.parts.Part.{Part}
use Rattle.ct_serve.specs.declared.parts.End.{End}
use Rattle.ct_serve.specs.declared.parts.End.TheVariants.{Rested, Reached, Stopped, Told}
use Rattle.ct_serve.specs.declared.parts.Kept.{Kept}
use Rattle.ct_serve.specs.declared.parts.Done.{Done}
use Rattle.ct_serve.specs.Served.{scripts_of, scripts_dealt, scripts_done, IsTold, IsEnded, IsKept, IsDone, lines_in, AreCollected}

-- ---- collecting

all_front : {X : Type 0} (P : X → Type 0) (xs : List X) (x : X) → All P (xs ++ x ∷ []) → All P xs × P x
all_front P [] x all = (All-nil P, All-head P x [] all)
all_front P (y ∷ xs) x all =
    let rest = all_front P xs x (All-tail P y (xs ++ x ∷ []) all) in
    (All-cons P y xs (All-head P y (xs ++ x ∷ []) all) rest.0, rest.1)

none_more : (p : Place) (walks : Bool) (from : ℕ) (scripts : List (List Request)) (told : List (List Line)) → AreEach (IsTold p walks from) scripts told →
    AreEach (IsTold p walks from) (scripts ++ []) (told ++ [])
none_more p walks from scripts told each =
    subst (λ rs. AreEach (IsTold p walks from) rs (told ++ [])) (sym (append-nil scripts))
    (subst (λ ls. AreEach (IsTold p walks from) scripts ls) (sym (append-nil told)) each)

told_more : (p : Place) (walks : Bool) (from : ℕ) (scripts : List (List Request)) (told : List (List Line)) (job : Job) (end : End) →
    AreEach (IsTold p walks from) scripts told → IsEnded p walks from job end → AreEach (IsTold p walks from) (scripts ++ scripts_of job) (told ++ lines_in end)
told_more p walks from scripts told (Run requests) (Told lines) each here = each_pushed (IsTold p walks from) scripts told requests.now lines each here
told_more p walks from scripts told (Run requests) (Reached helped) each here = absurd here
told_more p walks from scripts told (Run requests) (Stopped mark) each here = absurd here
told_more p walks from scripts told (Run requests) Rested each here = absurd here
told_more p walks from scripts told (Work target) (Told lines) each here = absurd here
told_more p walks from scripts told (Work target) (Reached helped) each here = none_more p walks from scripts told each
told_more p walks from scripts told (Work target) (Stopped mark) each here = none_more p walks from scripts told each
told_more p walks from scripts told (Work target) Rested each here = absurd here
told_more p walks from scripts told Idle end each here =
    subst (λ e. AreEach (IsTold p walks from) (scripts ++ []) (told ++ lines_in e)) (sym here) (none_more p walks from scripts told each)

pub none_collected : AreCollected [] [] []
none_collected = λ host walks from all. (All-nil (IsOfHost host), tt)

pub collected_more : (dones : List Done) (passes more : List PassSeen) (told others : List (List Line)) (done : Done) (kept : Kept) → done.outcome ≡ Ok kept →
    AreCollected dones passes told → more ≡ passes ++ kept.pass ∷ [] → others ≡ told ++ lines_in kept.end → AreCollected (dones ++ done ∷ []) more others
collected_more dones passes more told others done kept is collected pushed noted = λ host walks from all.
    let front = all_front (IsDone host walks from) dones done all in
    let here : IsKept host walks from done.job kept = subst (λ (o : Result Kept AllocError). IfOk o (IsKept host walks from done.job)) is front.1 in
    let so_far = collected host walks from front.0 in (
      subst (All (IsOfHost host)) (sym pushed) (All-push (IsOfHost host) passes kept.pass so_far.0 here.own),
      subst (λ rs. AreEach (IsTold (desk_place host.place) walks from) rs others)
          (sym (flat_map-append (λ (d : Done). scripts_of d.job) dones (done ∷ []) ∙ ap (λ rs. scripts_done dones ++ rs) (append-nil (scripts_of done.job))))
          (subst (λ ls. AreEach (IsTold (desk_place host.place) walks from) (scripts_done dones ++ scripts_of done.job) ls) (sym noted)
          (told_more (desk_place host.place) walks from (scripts_done dones) told done.job kept.end so_far.1 here.ended)),
    )

-- ---- parts that were run

-- each of as many items is related to the one at its place
pub each_at : {J X : Type 0} (R : J → X → Type 0) (js : List J) (xs : List X) → length xs ≡ length js →
    ((i : ℕ) (x : X) → i < length js → (j : J) × (j ≡ get_or js i j) × R j (get_or xs i x)) → AreEach R js xs
each_at R [] [] count at = tt
each_at R [] (x ∷ xs) count at = absurd (omega (arith, count))
each_at R (j ∷ js) [] count at = absurd (omega (arith, count))
each_at R (j ∷ js) (x ∷ xs) count at =
    let first = at 0 x (omega arith) in
    let here : first.0 ≡ j = first.1 in
    (subst (λ y. R y x) here first.2, each_at R js xs (omega (arith, count)) (λ i y inside. at (suc i) y (omega (arith, inside))))

pub record IsRun (host : HostSeen) (walks : Bool) (from : ℕ) (part : Part) (done : Done) : Type 0 where
  pub job : done.job ≡ part.job
  pub done_is : IsDone host walks from done

pub run_scripts : (host : HostSeen) (walks : Bool) (from : ℕ) (parts : List Part) (dones : List Done) → AreEach (IsRun host walks from) parts dones →
    scripts_done dones ≡ scripts_dealt parts
run_scripts host walks from [] [] each = refl
run_scripts host walks from [] (d ∷ dones) each = absurd each
run_scripts host walks from (p ∷ parts) [] each = absurd each
run_scripts host walks from (p ∷ parts) (d ∷ dones) each =
    ap₂ (λ rs ss. rs ++ ss) (ap scripts_of (each.0).job) (run_scripts host walks from parts dones each.1)

pub run_done : (host : HostSeen) (walks : Bool) (from : ℕ) (parts : List Part) (dones : List Done) → AreEach (IsRun host walks from) parts dones →
    All (IsDone host walks from) dones
run_done host walks from [] [] each = All-nil (IsDone host walks from)
run_done host walks from [] (d ∷ dones) each = absurd each
run_done host walks from (p ∷ parts) [] each = absurd each
run_done host walks from (p ∷ parts) (d ∷ dones) each =
    All-cons (IsDone host walks from) d dones (each.0).done_is (run_done host walks from parts dones each.1)
