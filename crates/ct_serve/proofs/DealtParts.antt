-- One part more is dealt.
use Rattle.std.proofs.Common.{ℕ, suc, ◌+◌, ◌-◌, ◌≤◌, ◌<◌, ◌≡◌, List, [], ◌∷◌, ◌++◌, length, map, take, All, refl, sym, ap, subst, ◌∙◌, arith}
use Rattle.std.proofs.lemmas.List.{map_push, append-nil, take_all, length-append, length-map}
use Rattle.std.proofs.lemmas.List.Concat.{flat_map-append}
use Rattle.std.proofs.lemmas.List.Elements.{All-push}
use Rattle.ct_vectors.specs.declared.limits.TheConstants.{GRADE_LIMIT}
use Rattle.ct_input.specs.declared.script.Phase.{Phase}
use Rattle.ct_input.specs.Script.{IsRequest}
use Rattle.ct_host.specs.Hosts.{PassSeen}
use Rattle.ct_instance.specs.Made.{indices}
use Rattle.ct_answer.specs.Told.{AreEach}
use Rattle.ct_answer.proofs.Pairing.{one_more, at_item, each_pushed}
use Rattle.ct_serve.specs.declared.parts.Job.{Job}
use Rattle.ct_serve.specs.declared.parts.Job.TheVariants.{Idle, Work, Run}
use Rattle.ct_serve.specs.declared.parts.Part.{Part}
use Rattle.ct_serve.specs.Served.{IsJobAt, IsPartAt, IsJobIn, scripts_of, scripts_dealt}

scripts_more : (phase : Phase) (workers index : ℕ) (job : Job) → IsJobAt phase workers index job →
    take (index - workers) phase.sessions ++ scripts_of job ≡ take (index + 1 - workers) phase.sessions
scripts_more phase workers index (Work target) at =
    let below : index < workers = at.0 in
    let same : index - workers ≡ index + 1 - workers = omega (arith, below) in
    append-nil (take (index - workers) phase.sessions) ∙ ap (λ n. take n phase.sessions) same
scripts_more phase workers index (Run requests) at =
    let above : workers ≤ index = at.0 in
    let same : index - workers + 1 ≡ index + 1 - workers = omega (arith, above) in
    one_more phase.sessions (index - workers) requests.now at.1 at.2 ∙ ap (λ n. take n phase.sessions) same
scripts_more phase workers index Idle at =
    let most : workers + length phase.sessions ≤ index = at in
    append-nil (take (index - workers) phase.sessions)
    ∙ take_all (index - workers) phase.sessions (omega (arith, most))
    ∙ sym (take_all (index + 1 - workers) phase.sessions (omega (arith, most)))

job_within : (phase : Phase) (workers index : ℕ) (job : Job) → IsJobAt phase workers index job → IsJobIn phase job
job_within phase workers index (Work target) at rows is = subst (λ (t : ℕ). t ≤ GRADE_LIMIT) (sym at.1) is.target
job_within phase workers index (Run requests) at rows is =
    at_item (λ rs. All (IsRequest rows) rs) phase.sessions (index - workers) requests.now at.1 at.2 is.sessions
job_within phase workers index Idle at rows is = tt

pub record AreDealt (phase : Phase) (workers : ℕ) (passes : List PassSeen) (parts : List Part) : Type 0 where
  pub passes_are : map (λ part. part.pass) parts ≡ passes
  pub scripts : scripts_dealt parts ≡ take (length parts - workers) phase.sessions
  pub jobs : All (λ part. IsJobIn phase part.job) parts

pub none_dealt : (phase : Phase) (workers : ℕ) → AreDealt phase workers [] []
none_dealt phase workers =
    let none : 0 - workers ≡ 0 = omega arith in
    record { passes_are = refl; scripts = ap (λ n. take n phase.sessions) (sym none); jobs = λ k d inside. absurd (omega (arith, inside)) }

pub dealt_more : (phase : Phase) (workers : ℕ) (passes : List PassSeen) (parts more : List Part) (part : Part) → AreDealt phase workers passes parts →
    IsJobAt phase workers (length parts) part.job → more ≡ parts ++ part ∷ [] → AreDealt phase workers (passes ++ part.pass ∷ []) more
dealt_more phase workers passes parts more part dealt at pushed =
    subst (AreDealt phase workers (passes ++ part.pass ∷ [])) (sym pushed)
    (record {
      passes_are = map_push (λ (p : Part). p.pass) parts part ∙ ap (λ ps. ps ++ part.pass ∷ []) dealt.passes_are;
      scripts = flat_map-append (λ (p : Part). scripts_of p.job) parts (part ∷ [])
          ∙ ap (λ rs. scripts_dealt parts ++ rs) (append-nil (scripts_of part.job))
          ∙ ap (λ rs. rs ++ scripts_of part.job) dealt.scripts
          ∙ scripts_more phase workers (length parts) part.job at
          ∙ ap (λ n. take (n - workers) phase.sessions) (sym (length-append parts (part ∷ [])));
      jobs = All-push (λ (p : Part). IsJobIn phase p.job) parts part dealt.jobs (job_within phase workers (length parts) part.job at);
    })

-- all sessions are dealt where there are passes enough
pub dealt_scripts : (phase : Phase) (workers : ℕ) (passes : List PassSeen) (parts : List Part) → AreDealt phase workers passes parts →
    workers + length phase.sessions ≤ length passes → scripts_dealt parts ≡ phase.sessions
dealt_scripts phase workers passes parts dealt enough =
    let count : length parts ≡ length passes = sym (length-map parts (λ (p : Part). p.pass)) ∙ ap length dealt.passes_are in
    dealt.scripts ∙ take_all (length parts - workers) phase.sessions (omega (arith, count, enough))

-- the parts so far are in order, and the last of them has this number
pub record AreInOrder (phase : Phase) (workers last : ℕ) (parts : List Part) : Type 0 where
  pub last_is : last ≡ length parts
  pub each : AreEach (IsPartAt phase workers) (indices (length parts)) parts

pub none_in_order : (phase : Phase) (workers : ℕ) → AreInOrder phase workers 0 []
none_in_order phase workers = record { last_is = refl; each = tt }

pub more_in_order : (phase : Phase) (workers last : ℕ) (parts more : List Part) (part : Part) → AreInOrder phase workers last parts →
    IsJobAt phase workers (length parts) part.job → part.who ≡ last + 1 → more ≡ parts ++ part ∷ [] → AreInOrder phase workers part.who more
more_in_order phase workers last parts more part so_far at number pushed =
    let here : part.who ≡ length parts + 1 = omega (arith, number, so_far.last_is) in
    let longer : suc (length parts) ≡ length (parts ++ part ∷ []) = omega (arith, length-append parts (part ∷ [])) in
    subst (AreInOrder phase workers part.who) (sym pushed)
    (record {
      last_is = omega (arith, here, longer);
      each = subst (λ n. AreEach (IsPartAt phase workers) (indices n) (parts ++ part ∷ [])) longer
          (each_pushed (IsPartAt phase workers) (indices (length parts)) parts (length parts) part so_far.each (record { number = here; job = at }));
    })
