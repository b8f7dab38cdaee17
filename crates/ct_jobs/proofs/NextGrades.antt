-- Lists of graded jobs, one after another: the next grade and the jobs of one grade.
use Rattle.std.proofs.Common.{ℕ, ◌+◌, ◌<◌, ◌≡◌, Bool, true, false, nat_lt, nat_eq, Option, Some, None, List, [], ◌∷◌, ◌++◌, map, filter, length, take, get_or, refl, sym, ap, ◌∙◌, arith, cond, eq-eqb, append_assoc, append-nil}
use Rattle.std.proofs.lemmas.Bool.{ne_eqb}
use Rattle.std.proofs.lemmas.List.{take_more, map-append}
use Rattle.std.proofs.lemmas.List.Elements.{filter-append}
use Rattle.ct_instance.specs.declared.jobs.Job.{Job}
use Rattle.ct_instance.specs.Versions.{least_above}
use Rattle.ct_instance.proofs.Above.{lesser_above, least_above-cons}
use Rattle.ct_jobs.specs.declared.graded.GradedJob.{GradedJob}
use Rattle.ct_jobs.specs.GradedJobs.{next_grade, of_grade, lesser_of}

pub lesser_of_assoc : (a b c : Option ℕ) → lesser_of (lesser_of a b) c ≡ lesser_of a (lesser_of b c)
lesser_of_assoc None b c = refl
lesser_of_assoc (Some x) None c = refl
lesser_of_assoc (Some x) (Some y) None = refl
lesser_of_assoc (Some x) (Some y) (Some z) = ap Some (omega arith)

lesser_above-of : (b : Bool) (g : ℕ) (o p : Option ℕ) → lesser_above b g (lesser_of o p) ≡ lesser_of (lesser_above b g o) p
lesser_above-of false g o p = refl
lesser_above-of true g None None = refl
lesser_above-of true g None (Some y) = refl
lesser_above-of true g (Some x) None = refl
lesser_above-of true g (Some x) (Some y) = ap Some (omega arith)

pub least_above-append : (d : ℕ) (gs hs : List ℕ) → least_above d (gs ++ hs) ≡ lesser_of (least_above d gs) (least_above d hs)
least_above-append d [] hs = refl
least_above-append d (g ∷ gs) hs =
    least_above-cons d g (gs ++ hs) ∙ ap (lesser_above (nat_lt d g) g) (least_above-append d gs hs) ∙
    lesser_above-of (nat_lt d g) g (least_above d gs) (least_above d hs) ∙
    ap (λ o. lesser_of o (least_above d hs)) (sym (least_above-cons d g gs))

pub next_grade-append : (d : ℕ) (js ks : List GradedJob) → next_grade d (js ++ ks) ≡ lesser_of (next_grade d js) (next_grade d ks)
next_grade-append d js ks =
    ap (least_above d) (map-append (λ (j : GradedJob). j.grade) js ks) ∙ least_above-append d (map (λ (j : GradedJob). j.grade) js) (map (λ (j : GradedJob). j.grade) ks)

pub of_grade-append : (g : ℕ) (js ks : List GradedJob) → of_grade g (js ++ ks) ≡ of_grade g js ++ of_grade g ks
of_grade-append g js ks =
    ap (map (λ (j : GradedJob). j.job)) (filter-append (λ (j : GradedJob). nat_eq j.grade g) js ks) ∙
    map-append (λ (j : GradedJob). j.job) (filter (λ (j : GradedJob). nat_eq j.grade g) js) (filter (λ (j : GradedJob). nat_eq j.grade g) ks)

-- a loop's step over a list of what is kept of jobs
pub next_grade-take : {X : Type 0} (f : X → GradedJob) → (d : ℕ) (xs : List X) (k : ℕ) (x : X) (least : Option ℕ) → k < length xs → least ≡ next_grade d (map f (take k xs)) →
    lesser_of least (least_above d ((f (get_or xs k x)).grade ∷ [])) ≡ next_grade d (map f (take (k + 1) xs))
next_grade-take f d xs k x least l h =
    ap (λ o. lesser_of o (least_above d ((f (get_or xs k x)).grade ∷ []))) h ∙ sym (next_grade-append d (map f (take k xs)) (f (get_or xs k x) ∷ [])) ∙
    ap (next_grade d) (sym (map-append f (take k xs) (get_or xs k x ∷ [])) ∙ ap (map f) (sym (take_more xs k x l)))

-- the same for the jobs of one grade
pub of_grade-take : {X : Type 0} (f : X → GradedJob) → (g : ℕ) (xs : List X) (k : ℕ) (x : X) → k < length xs →
    of_grade g (map f (take (k + 1) xs)) ≡ of_grade g (map f (take k xs)) ++ of_grade g (f (get_or xs k x) ∷ [])
of_grade-take f g xs k x l =
    ap (λ ys. of_grade g (map f ys)) (take_more xs k x l) ∙ ap (of_grade g) (map-append f (take k xs) (get_or xs k x ∷ [])) ∙
    of_grade-append g (map f (take k xs)) (f (get_or xs k x) ∷ [])

of_grade-here : (g : ℕ) (j : GradedJob) → j.grade ≡ g → of_grade g (j ∷ []) ≡ j.job ∷ []
of_grade-here g j e = ap (λ b. map (λ (k : GradedJob). k.job) (cond b (j ∷ []) [])) (eq-eqb j.grade g e)

of_grade-other : (g : ℕ) (j : GradedJob) → (j.grade ≡ g → ⊥) → of_grade g (j ∷ []) ≡ []
of_grade-other g j e = ap (λ b. map (λ (k : GradedJob). k.job) (cond b (j ∷ []) [])) (ne_eqb j.grade g e)

-- a loop's step that appends the jobs of one grade: the next job is of it, or isn't
pub gathered-here : {X : Type 0} (f : X → GradedJob) → (g : ℕ) (xs : List X) (k : ℕ) (x : X) (j : GradedJob) (old out : List Job) → k < length xs → j ≡ f (get_or xs k x) →
    out ≡ old ++ of_grade g (map f (take k xs)) → j.grade ≡ g → out ++ j.job ∷ [] ≡ old ++ of_grade g (map f (take (k + 1) xs))
gathered-here f g xs k x j old out l h e same =
    ap (λ l. l ++ j.job ∷ []) e ∙ append_assoc old (of_grade g (map f (take k xs))) (j.job ∷ []) ∙
    ap (λ l. old ++ l) (ap (λ l. of_grade g (map f (take k xs)) ++ l) (sym (of_grade-here g j same) ∙ ap (λ i. of_grade g (i ∷ [])) h) ∙ sym (of_grade-take f g xs k x l))

pub gathered-other : {X : Type 0} (f : X → GradedJob) → (g : ℕ) (xs : List X) (k : ℕ) (x : X) (j : GradedJob) (old out : List Job) → k < length xs → j ≡ f (get_or xs k x) →
    out ≡ old ++ of_grade g (map f (take k xs)) → (j.grade ≡ g → ⊥) → out ≡ old ++ of_grade g (map f (take (k + 1) xs))
gathered-other f g xs k x j old out l h e other =
    e ∙ ap (λ l. old ++ l)
    (sym (of_grade-take f g xs k x l ∙ ap (λ i. of_grade g (map f (take k xs)) ++ of_grade g (i ∷ [])) (sym h) ∙
    ap (λ l. of_grade g (map f (take k xs)) ++ l) (of_grade-other g j other) ∙ append-nil (of_grade g (map f (take k xs)))))
