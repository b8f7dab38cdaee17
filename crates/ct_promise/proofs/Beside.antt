-- What an accepted ledger file decides, and that what `certify` and `make` write is one text.
use Rattle.std.proofs.Common.{◌≡◌, ℕ, suc, zero, ◌<◌, ◌≤◌, ◌⊎◌, inl, inr, List, [], ◌∷◌, length, map, All, refl, sym, ap, ◌∙◌, subst, arith}
use Rattle.std.proofs.lemmas.Bool.{cases_lt}
use Rattle.std.proofs.lemmas.List.Elements.{All-head, All-tail}
use Rattle.ct_instance.specs.declared.jobs.Job.{Job}
use Rattle.ct_instance.specs.Instance.{Problem, IsInstance}
use Rattle.ct_instance.specs.TestSet.{Binomial, test_list}
use Rattle.ct_instance.specs.Jobs.{first_end_of, second_end_of, IsCoprime}
use Rattle.ct_instance.specs.Versions.{Level, upto, everything, level_of, version_list, IsVersion}
use Rattle.ct_walk.proofs.WalkFacts.{walk_one}
use Rattle.ct_levels.proofs.Full.{list_at_level}
use Rattle.ct_levels.proofs.Levels.{version_before}
use Rattle.ct_version.specs.declared.finished.Finished.{Finished}
use Rattle.ct_report.specs.declared.reports.Report.{Report}
use Rattle.ct_legal.proofs.OneReport.{one_report, same_finished}
use Rattle.ct_ledger.specs.declared.entries.LedgerEntry.{LedgerEntry}
use Rattle.ct_ledger.specs.declared.entries.LedgerEntry.TheVariants.{Coprime, Walks}
use Rattle.ct_ledger.specs.Parts.{LedgerParts}
use Rattle.ct_ledger.specs.LedgerText.{ledger_text}
use Rattle.ct_checker.specs.Accepted.{job_of, IsAccepted}
use Rattle.ct_checker.specs.Certified.{pair_of, IsWalkOf, IsCertifiedEntry}
use Rattle.ct_checker.specs.Checking.{as_move, verdict_of}
use Rattle.ct_checker.specs.declared.verdicts.Verdict.{Verdict}
use Rattle.ct_checker.specs.declared.verdicts.Verdict.TheVariants.{Accepted, Refused}
use Rattle.ct_checker.proofs.Accepted.{ledger_decides}
use Rattle.ct_gen.specs.Made.{made_instance, made_script}
use Rattle.ct_gen.specs.Tallies.{lines_of, tally_of, summary_of}
use Rattle.ct_gen.specs.SummaryText.{summary_text}
use Rattle.ct_gen.proofs.MadeInputs.{made_is_instance}
use Rattle.ct_run.specs.declared.status.Status.TheVariants.{Done, BadLedger, LedgerRefused}
use Rattle.ct_run.specs.Checked.{IsVerdictEnding, over, faulty, bad, weighed}
use Rattle.ct_run.specs.Summarised.{made_case}
use Rattle.ct_promise.specs.Beside.{CheckedDecides, OneCertificate, OneSummary}

-- ---- check

accepted_of : (i : Problem) (l : LedgerParts) (verdict : Verdict) (text : List ℕ) → IsVerdictEnding i l verdict Done text → IsAccepted i l
accepted_of i l (Accepted grade moves) text ending = ending.0
accepted_of i l (Refused line reason) text ending = let e : Done ≡ LedgerRefused = (ending.1).0 in absurd (cc)

pub checked_decides : CheckedDecides
checked_decides i inst bytes text (bad (over long status written)) = let e : Done ≡ BadLedger = status in absurd (cc)
checked_decides i inst bytes text (bad (faulty line short fault status written)) = let e : Done ≡ BadLedger = status in absurd (cc)
checked_decides i inst bytes text (weighed l file ending) =
    record { ledger = l; text = file.text; decides = ledger_decides i inst l file.ledger (accepted_of i l (verdict_of i l) text ending) }

-- ---- certify

pairs_back : (moves : List (List ℕ × List ℕ)) → map pair_of (map as_move moves) ≡ moves
pairs_back [] = refl
pairs_back (m ∷ moves) = ap (λ ms. m ∷ ms) (pairs_back moves)

same_moves : (moves others : List (List ℕ × List ℕ)) → map as_move moves ≡ map as_move others → moves ≡ others
same_moves moves others same = sym (pairs_back moves) ∙ ap (map pair_of) same ∙ pairs_back others

same_walks : (j k : Job) (s t u v : List (ℕ × ℕ)) → j ≡ k → s ≡ t → u ≡ v → Walks j s u ≡ Walks k t v
same_walks j k s t u v same first second = cc

same_cons : {X : Type 0} (x y : X) (xs ys : List X) → x ≡ y → xs ≡ ys → (x ∷ xs) ≡ (y ∷ ys)
same_cons x y xs ys e f = cc

module _ (i : Problem) (ms : List Binomial) where
  one_walk : (p : List ℕ) (steps others : List (ℕ × ℕ)) → IsWalkOf ms p steps → IsWalkOf ms p others → steps ≡ others
  one_walk p steps others walk other = (walk_one ms p walk.0 other.0 steps others walk.1 other.1).0

  same_entry : (e f : LedgerEntry) → job_of e ≡ job_of f → IsCertifiedEntry i ms e → IsCertifiedEntry i ms f → e ≡ f
  same_entry (Coprime j) (Coprime k) same x y = ap (λ h. Coprime h) same
  same_entry (Coprime j) (Walks k t v) same x y = absurd (y.0 (subst (λ h. IsCoprime ms h) same x))
  same_entry (Walks j s u) (Coprime k) same x y = absurd (x.0 (subst (λ h. IsCoprime ms h) (sym same) y))
  same_entry (Walks j s u) (Walks k t v) same x y =
      same_walks j k s t u v same
      (one_walk (first_end_of i ms j) s t x.1 (subst (λ h. IsWalkOf ms (first_end_of i ms h) t) (sym same) y.1))
      (one_walk (second_end_of i ms j) u v x.2 (subst (λ h. IsWalkOf ms (second_end_of i ms h) v) (sym same) y.2))

  same_entries : (es fs : List LedgerEntry) → map job_of es ≡ map job_of fs → All (IsCertifiedEntry i ms) es → All (IsCertifiedEntry i ms) fs → es ≡ fs
  same_entries [] [] same x y = refl
  same_entries [] (f ∷ fs) same x y = absurd (cc)
  same_entries (e ∷ es) [] same x y = absurd (cc)
  same_entries (e ∷ es) (f ∷ fs) same x y =
      let here : job_of e ≡ job_of f = cc in
      let later : map job_of es ≡ map job_of fs = cc in
      same_cons e f es fs
      (same_entry e f here (All-head (IsCertifiedEntry i ms) e es x) (All-head (IsCertifiedEntry i ms) f fs y))
      (same_entries es fs later (All-tail (IsCertifiedEntry i ms) e es x) (All-tail (IsCertifiedEntry i ms) f fs y))

same_ledger : (k l : LedgerParts) → k.rows ≡ l.rows → k.columns ≡ l.columns → k.grade ≡ l.grade → k.moves ≡ l.moves → k.entries ≡ l.entries → k ≡ l
same_ledger k l rows columns grade moves entries j = record { rows = rows j; columns = columns j; grade = grade j; moves = moves j; entries = entries j }

pub one_certificate : OneCertificate
one_certificate i g text other a b =
    let k = a.certified in
    let l = b.certified in
    let same : a.ledger ≡ b.ledger = same_ledger a.ledger b.ledger
    (k.rows ∙ sym l.rows) (k.columns ∙ sym l.columns) (k.grade ∙ sym l.grade)
    (same_moves (a.ledger).moves (b.ledger).moves (k.moves ∙ sym l.moves))
    (same_entries i (test_list i g) (a.ledger).entries (b.ledger).entries (k.jobs ∙ sym l.jobs) k.entries l.entries) in
    a.written ∙ ap ledger_text same ∙ sym b.written

-- ---- make

-- a version before another has a next grade to open
earlier_level : (i : Problem) (l k : ℕ) → k < l → IsVersion i l → (g : ℕ) × (level_of i k ≡ upto g)
earlier_level i zero k less version = absurd (omega arith)
earlier_level i (suc l) k less version =
    elim (cases_lt k l) [
      | inl before ↦ earlier_level i l k before (version_before i l version)
      | inr most ↦ let same : l ≡ k = omega arith in subst (λ n. (g : ℕ) × (level_of i n ≡ upto g)) same version
    ]

-- versions of one level have one list
one_list : (i : Problem) → IsInstance i → (k l : ℕ) (level : Level) → IsVersion i k → IsVersion i l → level_of i k ≡ level → level_of i l ≡ level → version_list i k ≡ version_list i l
one_list i inst k l (upto g) first second at also = list_at_level i inst k g first at ∙ sym (list_at_level i inst l g second also)
one_list i inst k l everything first second at also = ap (version_list i) (same_number (cases_lt k l) (cases_lt l k))
  where
    never : (n : ℕ) → level_of i n ≡ everything → (g : ℕ) × (level_of i n ≡ upto g) → ⊥
    never n all some = let e : upto some.0 ≡ everything = sym some.1 ∙ all in cc

    same_number : (k < l) ⊎ (l ≤ k) → (l < k) ⊎ (k ≤ l) → k ≡ l
    same_number (inl less) order = absurd (never k at (earlier_level i l k less second))
    same_number (inr most) (inl less) = absurd (never l also (earlier_level i k l less first))
    same_number (inr most) (inr few) = omega arith

same_summary : (number : ℕ) (r q : Report) (m n : ℕ) (x y : Finished) → r ≡ q → m ≡ n → x ≡ y →
    summary_text (summary_of number (tally_of (lines_of r)) m x) ≡ summary_text (summary_of number (tally_of (lines_of q)) n y)
same_summary number r q m n x y reports moves levels j = summary_text (summary_of number (tally_of (lines_of (reports j))) (moves j) (levels j))

pub one_summary : OneSummary
one_summary number text other a b =
    let i = made_instance number in
    let reports : a.report ≡ b.report = one_report (made_case number) (made_script number) a.report b.report a.legal b.legal in
    let levels : (a.reached).level ≡ (b.reached).level = same_finished (a.reached).level (b.reached).level ((a.extent).level ∙ sym (b.extent).level) in
    let lists = one_list i (made_is_instance number) (a.extent).number (b.extent).number _ (a.extent).version (b.extent).version
    ((a.extent).same ∙ (a.extent).level) ((b.extent).same ∙ (b.extent).level) in
    let moves : (a.reached).moves ≡ (b.reached).moves = (a.extent).moves ∙ ap length lists ∙ sym (b.extent).moves in
    a.written ∙ same_summary number a.report b.report (a.reached).moves (b.reached).moves (a.reached).level (b.reached).level reports moves levels ∙ sym b.written
