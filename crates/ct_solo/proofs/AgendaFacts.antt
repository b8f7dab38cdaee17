-- What an agenda keeps as jobs are taken in and a grade is opened, and what it tells.
use Rattle.std.proofs.Common.{◌≡◌, ℕ, ◌≤◌, ◌<◌, ◌⊎◌, inl, inr, ⊎_elim, Bool, true, false, Option, Some, None, List, [], ◌∷◌, ◌++◌, map, Contains, sym, ap, subst, ◌∙◌, refl, arith}
use Rattle.std.specs.Option.{unwrap_or}
use Rattle.std.proofs.lemmas.Bool.{cases_eq, cases_lt}
use Rattle.std.proofs.lemmas.Option.{same_Some}
use Rattle.std.proofs.lemmas.List.Elements.{Contains-append_left, Contains-append_cases, Contains-push, Contains-push_cases}
use Rattle.ct_instance.specs.declared.jobs.Job.{Job}
use Rattle.ct_instance.specs.TestSet.{Binomial}
use Rattle.ct_instance.specs.Jobs.{IsCoprime}
use Rattle.ct_instance.proofs.Lists.{Contains-nil, Contains-cons_cases, Contains-map, map_gives}
use Rattle.ct_instance.proofs.Above.{least_above_some, least_above_none}
use Rattle.ct_jobs.specs.declared.graded.GradedJob.{GradedJob}
use Rattle.ct_jobs.specs.GradedJobs.{next_grade}
use Rattle.ct_solo.specs.declared.agenda.Agenda.{Agenda}
use Rattle.ct_solo.specs.Agendas.{graded, look, jobs_of, unless, IsEntry, IsAgenda, IsPut, IsLesserOf}

-- all but the grades stays the same
pub record IsBeside (a b : Agenda) : Type 0 where
  pub opened : b.opened ≡ a.opened
  pub top : b.top ≡ a.top
  pub beyond : b.beyond ≡ a.beyond

-- an entry with one job more in the list
grown : (js : List GradedJob) (x : GradedJob) (a b : Agenda) (g : ℕ) (kept : List Job) → b.opened ≡ a.opened → b.top ≡ a.top → IsEntry js a g kept → IsEntry (js ++ x ∷ []) b g kept
grown js x a b g kept o t e = record {
  above = omega (arith, o, e.above);
  within = omega (arith, t, e.within);
  some = ((e.some).0, Contains-append_left js (x ∷ []) (e.some).0 (e.some).1, (e.some).2);
  jobs = λ j c. Contains-append_left js (x ∷ []) (graded g j) (e.jobs j c);
}

lesser_most : (o : Option ℕ) (x n l : ℕ) → IsLesserOf o x n → o ≡ Some l → n ≤ l
lesser_most None x n l i e = absurd (cc)
lesser_most (Some k) x n l i e = let s : k ≡ l = same_Some k l e in omega (arith, i.0, s)

lesser_from : (o : Option ℕ) (x n : ℕ) → IsLesserOf o x n → (o ≡ Some n) ⊎ (n ≡ x)
lesser_from None x n i = inr i
lesser_from (Some k) x n i = ⊎_elim (λ e. inl (ap Some (sym e))) (λ e. inr e) i.1

abbrev pub with_beyond : Agenda → ℕ → Agenda
with_beyond a n = record { alloc = a.alloc; opened = a.opened; top = a.top; grades = a.grades; beyond = Some n }

module _ (ms : List Binomial) (js : List GradedJob) (a : Agenda) (h : IsAgenda ms js a) where
  -- ---- a job past the greatest grade

  pub taken_beyond : (x : GradedJob) (n : ℕ) → a.top < x.grade → n ≤ x.grade → IsLesserOf a.beyond x.grade n → IsAgenda ms (js ++ x ∷ []) (with_beyond a n)
  taken_beyond x n over most l = record {
    entries = λ g kept e. grown js x a (with_beyond a n) g kept refl refl (h.entries g kept e);
    whole = λ e c low within.
        ⊎_elim (λ old. h.whole e old low within) (λ new. absurd (let s : x.grade ≡ e.grade = ap (λ (y : GradedJob). y.grade) new in omega (arith, s, over, within)))
        (Contains-push_cases js x e c);
    beyond = λ g e.
        let s : n ≡ g = same_Some n g e in
        ⊎_elim
        (λ old. let r = h.beyond n old in (omega (arith, r.0, s), (r.1.0, Contains-append_left js (x ∷ []) r.1.0 r.1.1, r.1.2 ∙ s)))
        (λ new. (omega (arith, over, new, s), (x, Contains-push js x, sym new ∙ s)))
        (lesser_from a.beyond x.grade n l);
    past = λ e c low.
        ⊎_elim
        (λ old. let r = h.past e old low in let least : n ≤ r.0 = lesser_most a.beyond x.grade n r.0 l r.1 in (n, refl, omega (arith, least, r.2)))
        (λ new. let s : x.grade ≡ e.grade = ap (λ (y : GradedJob). y.grade) new in (n, refl, omega (arith, most, s)))
        (Contains-push_cases js x e c);
  }

  -- ---- a job of a grade that is done

  pub taken_past : (x : GradedJob) → x.grade ≤ a.opened → x.grade ≤ a.top → IsAgenda ms (js ++ x ∷ []) a
  taken_past x done within = record {
    entries = λ g kept e. grown js x a a g kept refl refl (h.entries g kept e);
    whole = λ e c low most.
        ⊎_elim (λ old. h.whole e old low most) (λ new. absurd (let s : x.grade ≡ e.grade = ap (λ (y : GradedJob). y.grade) new in omega (arith, s, done, low)))
        (Contains-push_cases js x e c);
    beyond = λ g e. let r = h.beyond g e in (r.0, (r.1.0, Contains-append_left js (x ∷ []) r.1.0 r.1.1, r.1.2));
    past = λ e c low.
        ⊎_elim (λ old. h.past e old low) (λ new. absurd (let s : x.grade ≡ e.grade = ap (λ (y : GradedJob). y.grade) new in omega (arith, s, within, low)))
        (Contains-push_cases js x e c);
  }

  -- ---- a job that is put in

  module _ (b : Agenda) (s : IsBeside a b) (g : ℕ) (j : Job) (out : Bool) (p : IsPut a g j out b) (low : a.opened < g) (within : g ≤ a.top)
      (left : out ≡ true → IsCoprime ms j) where
    old_jobs : (o : Option (List Job)) → look a g ≡ o → (k : Job) → Contains (unwrap_or o []) k → Contains js (graded g k)
    old_jobs None e k c = absurd (Contains-nil k c)
    old_jobs (Some kept) e k c = (h.entries g kept e).jobs k c

    put_job : (t : Bool) (k : Job) → Contains (unless t j) k → j ≡ k
    put_job true k c = absurd (Contains-nil k c)
    put_job false k c = ⊎_elim (λ e. e) (λ d. absurd (Contains-nil k d)) (Contains-cons_cases j [] k c)

    here : IsEntry (js ++ graded g j ∷ []) b g (jobs_of a g ++ unless out j)
    here = record {
      above = omega (arith, s.opened, low);
      within = omega (arith, s.top, within);
      some = (graded g j, Contains-push js (graded g j), refl);
      jobs = λ k c.
          ⊎_elim (λ old. Contains-append_left js (graded g j ∷ []) (graded g k) (old_jobs (look a g) refl k old))
          (λ new. subst (λ (i : Job). Contains (js ++ graded g j ∷ []) (graded g i)) (put_job out k new) (Contains-push js (graded g j)))
          (Contains-append_cases (jobs_of a g) (unless out j) k c);
    }

    now_kept : (t : Bool) → out ≡ t → IsCoprime ms j ⊎ Contains (jobs_of a g ++ unless t j) j
    now_kept true e = inl (left e)
    now_kept false e = inr (Contains-push (jobs_of a g) j)

    pub taken_put : IsAgenda ms (js ++ graded g j ∷ []) b
    taken_put = record {
      entries = λ k kept e.
          ⊎_elim
          (λ same.
          let is : jobs_of a g ++ unless out j ≡ kept = same_Some (jobs_of a g ++ unless out j) kept (sym p.here ∙ ap (look b) (sym same) ∙ e) in
          subst (λ (i : ℕ). IsEntry (js ++ graded g j ∷ []) b i kept) (sym same) (subst (IsEntry (js ++ graded g j ∷ []) b g) is here))
          (λ other. grown js (graded g j) a b k kept s.opened s.top (h.entries k kept (sym (p.others k other) ∙ e)))
          (cases_eq k g);
      whole = λ e c above most.
          ⊎_elim
          (λ old.
          let r = h.whole e old (omega (arith, above, s.opened)) (omega (arith, most, s.top)) in
          ⊎_elim
          (λ same.
          let were : jobs_of a g ≡ r.0 = ap (λ (o : Option (List Job)). unwrap_or o []) (ap (look a) (sym same) ∙ r.1) in (
            r.0 ++ unless out j,
            ap (look b) same ∙ p.here ∙ ap (λ (l : List Job). Some (l ++ unless out j)) were,
            ⊎_elim (λ y. inl y) (λ y. inr (Contains-append_left r.0 (unless out j) e.job y)) r.2,
          ))
          (λ other. (r.0, p.others e.grade other ∙ r.1, r.2))
          (cases_eq e.grade g))
          (λ new. subst (λ (y : GradedJob). (kept : List Job) × (look b y.grade ≡ Some kept) × (IsCoprime ms y.job ⊎ Contains kept y.job)) new
          (jobs_of a g ++ unless out j, p.here, now_kept out refl))
          (Contains-push_cases js (graded g j) e c);
      beyond = λ k e. let r = h.beyond k (sym s.beyond ∙ e) in (omega (arith, s.top, r.0), (r.1.0, Contains-append_left js (graded g j ∷ []) r.1.0 r.1.1, r.1.2));
      past = λ e c over.
          ⊎_elim (λ old. let r = h.past e old (omega (arith, over, s.top)) in (r.0, s.beyond ∙ r.1, r.2))
          (λ new. absurd (let t : g ≡ e.grade = ap (λ (y : GradedJob). y.grade) new in omega (arith, t, within, over, s.top)))
          (Contains-push_cases js (graded g j) e c);
    }

  -- ---- the least grade is opened

  pub closed : (b : Agenda) (d : ℕ) → b.opened ≡ d → b.top ≡ a.top → b.beyond ≡ a.beyond → a.opened ≤ d → look b d ≡ None →
      ((k : ℕ) → (k ≡ d → ⊥) → look b k ≡ look a k) → ((e : GradedJob) → Contains js e → a.opened < e.grade → d ≤ e.grade) → IsAgenda ms js b
  closed b d opened top beyond low gone others least = record {
    entries = λ k kept e.
        ⊎_elim (λ same. absurd (let n : None ≡ Some kept = sym gone ∙ ap (look b) (sym same) ∙ e in cc))
        (λ other.
        let old = h.entries k kept (sym (others k other) ∙ e) in
        let first : d ≤ k = subst (λ (n : ℕ). d ≤ n) (old.some).2 (least (old.some).0 (old.some).1 (omega (arith, old.above, (old.some).2))) in
        record {
          above = ⊎_elim (λ l. omega (arith, l, opened)) (λ l. absurd (other (omega (arith, l, first)))) (cases_lt d k);
          within = omega (arith, top, old.within);
          some = old.some;
          jobs = old.jobs;
        })
        (cases_eq k d);
    whole = λ e c above most.
        let r = h.whole e c (omega (arith, above, opened, low)) (omega (arith, most, top)) in
        (r.0, others e.grade (λ same. omega (arith, above, opened, same)) ∙ r.1, r.2);
    beyond = λ k e. let r = h.beyond k (sym beyond ∙ e) in (omega (arith, top, r.0), r.1);
    past = λ e c over. let r = h.past e c (omega (arith, over, top)) in (r.0, beyond ∙ r.1, r.2);
  }

  -- ---- the same jobs, and a longer list of moves

  pub same_agenda : (ks : List GradedJob) → ((e : GradedJob) → Contains js e → Contains ks e) → ((e : GradedJob) → Contains ks e → Contains js e) → IsAgenda ms ks a
  same_agenda ks to from = record {
    entries = λ g kept e.
        let r = h.entries g kept e in
        record { above = r.above; within = r.within; some = ((r.some).0, to (r.some).0 (r.some).1, (r.some).2); jobs = λ j c. to (graded g j) (r.jobs j c) };
    whole = λ e c low most. h.whole e (from e c) low most;
    beyond = λ g e. let r = h.beyond g e in (r.0, (r.1.0, to r.1.0 r.1.1, r.1.2));
    past = λ e c over. h.past e (from e c) over;
  }

  pub longer_agenda : (ns : List Binomial) → ((e : GradedJob) → Contains js e → IsCoprime ms e.job → IsCoprime ns e.job) → IsAgenda ns js a
  longer_agenda ns stays = record {
    entries = h.entries;
    whole = λ e c low most. let r = h.whole e c low most in (r.0, r.1, ⊎_elim (λ y. inl (stays e c y)) (λ y. inr y) r.2);
    beyond = h.beyond;
    past = h.past;
  }

  -- ---- the next grade

  least_is : (g : ℕ) (x : GradedJob) → Contains js x → x.grade ≡ g → a.opened < g → ((e : GradedJob) → Contains js e → a.opened < e.grade → g ≤ e.grade) →
      Some g ≡ next_grade a.opened js
  least_is g x c same low least = go (next_grade a.opened js) refl
    where
      listed : Contains (map (λ (j : GradedJob). j.grade) js) g
      listed = subst (Contains (map (λ (j : GradedJob). j.grade) js)) same (Contains-map (λ (j : GradedJob). j.grade) js x c)

      go : (o : Option ℕ) → next_grade a.opened js ≡ o → Some g ≡ o
      go None e = absurd (let l : g ≤ a.opened = least_above_none a.opened (map (λ (j : GradedJob). j.grade) js) e g listed in omega (arith, l, low))
      go (Some n) e =
          let r = least_above_some a.opened (map (λ (j : GradedJob). j.grade) js) n e in
          let m = map_gives (λ (j : GradedJob). j.grade) js n r.1 in
          let most : n ≤ g = r.2 g listed low in
          let at : g ≤ n = subst (λ (k : ℕ). g ≤ k) m.2 (least m.0 m.1 (subst (λ (k : ℕ). a.opened < k) (sym m.2) r.0)) in
          ap Some (let s : g ≡ n = omega (arith, most, at) in s)

  none_is : ((e : GradedJob) → Contains js e → e.grade ≤ a.opened) → None ≡ next_grade a.opened js
  none_is low = go (next_grade a.opened js) refl
    where
      go : (o : Option ℕ) → next_grade a.opened js ≡ o → None ≡ o
      go None e = refl
      go (Some n) e =
          let r = least_above_some a.opened (map (λ (j : GradedJob). j.grade) js) n e in
          let m = map_gives (λ (j : GradedJob). j.grade) js n r.1 in
          absurd (let l : (m.0).grade ≤ a.opened = low m.0 m.1 in omega (arith, l, m.2, r.0))

  -- the first grade that is kept is the next one
  pub next_is_first : (g : ℕ) (kept : List Job) → look a g ≡ Some kept → ((k : ℕ) (more : List Job) → look a k ≡ Some more → g ≤ k) → Some g ≡ next_grade a.opened js
  next_is_first g kept at first =
      let r = h.entries g kept at in
      least_is g (r.some).0 (r.some).1 (r.some).2 r.above
      (λ e c low. ⊎_elim (λ over. omega (arith, over, r.within)) (λ most. let w = h.whole e c low (omega (arith, most)) in first e.grade w.0 w.1) (cases_lt a.top e.grade))

  -- where none is kept it is the one beyond
  pub next_is_beyond : a.opened ≤ a.top → ((k : ℕ) → look a k ≡ None) → a.beyond ≡ next_grade a.opened js
  next_is_beyond below nothing = go a.beyond refl
    where
      over : (e : GradedJob) → Contains js e → a.opened < e.grade → a.top < e.grade
      over e c low = ⊎_elim (λ l. l) (λ most. absurd (let w = h.whole e c low (omega (arith, most)) in let n : None ≡ Some w.0 = sym (nothing e.grade) ∙ w.1 in cc)) (cases_lt a.top e.grade)

      go : (o : Option ℕ) → a.beyond ≡ o → o ≡ next_grade a.opened js
      go None q = none_is (λ e c. ⊎_elim (λ low. absurd (let r = h.past e c (over e c low) in let n : None ≡ Some r.0 = sym q ∙ r.1 in cc)) (λ most. omega (arith, most)) (cases_lt a.opened e.grade))
      go (Some g) q =
          let r = h.beyond g q in
          least_is g r.1.0 r.1.1 r.1.2 (omega (arith, r.0, below))
          (λ e c low. let p = h.past e c (over e c low) in let s : p.0 ≡ g = same_Some p.0 g (sym p.1 ∙ q) in omega (arith, p.2, s))
