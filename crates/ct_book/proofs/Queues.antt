-- Handing out and storing, on the slots of the jobs and the places of those that wait.
use Rattle.std.proofs.Common.{◌≡◌, ℕ, ◌+◌, ◌-◌, ◌≤◌, ◌<◌, Bool, true, false, not, ◌&&◌, nat_eq, cond, true≢false, Option, Some, None, List, [], ◌∷◌, ◌++◌, length, filter, get_or, set, replicate, All, AllPairs, Contains, sym, ap, ap₂, subst, ◌∙◌, refl, arith, eq-eqb, ⊎_elim, zero, suc, length-set, get_or-set_other}
use Rattle.std.proofs.lemmas.Bool.{ne_eqb, cases_eq, and_parts}
use Rattle.std.proofs.lemmas.Grind.{get_or-set_at}
use Rattle.std.proofs.lemmas.List.{get_or-replicate, length-replicate, length_push}
use Rattle.std.proofs.lemmas.List.Elements.{filter_agree, filter-append}
use Rattle.std.proofs.lemmas.List.Elements.{Contains-push, Contains-append_left}
use Rattle.std.proofs.lemmas.List.Quantifiers.{all_pairs_push}
use Rattle.std.proofs.lemmas.List.Kept.{AllPairs-filter}
use Rattle.ct_instance.specs.declared.jobs.Job.{Job}
use Rattle.ct_instance.specs.Made.{indices}
use Rattle.ct_instance.proofs.Lists.{Contains-filter, filter_gives, Contains-cons_cases, Contains-nil, Contains-here, Contains-there}
use Rattle.ct_instance.proofs.Entries.{length-indices, get_or-indices}
use Rattle.ct_instance.proofs.JobsList.{Contains-indices, lt-indices}
use Rattle.ct_book.specs.Queues.{QueueSeen, IsQueue, waits, waits_at, without}

abbrev pub Stored : Type 0
Stored = List (Option (Option (List ℕ × List ℕ)))

-- ---- lists

module _ {X : Type 0} where
  pub AllPairs-first : (R : X → X → Type 0) (x : X) (xs : List X) → AllPairs R (x ∷ xs) → All (R x) xs
  AllPairs-first R x xs h k d l = h 0 (suc k) d (omega arith) (omega arith)

  pub AllPairs-rest : (R : X → X → Type 0) (x : X) (xs : List X) → AllPairs R (x ∷ xs) → AllPairs R xs
  AllPairs-rest R x xs h i j d a b = h (suc i) (suc j) d (omega arith) (omega arith)

  filter_both : (p q : X → Bool) (x : X) (xs ys : List X) (b c : Bool) → p x ≡ b → q x ≡ c → xs ≡ filter p ys →
      cond (b && c) (x ∷ xs) xs ≡ filter p (cond c (x ∷ ys) ys)
  filter_both p q x xs ys true true e f same = rw e (ap (λ l. x ∷ l) same)
  filter_both p q x xs ys true false e f same = same
  filter_both p q x xs ys false true e f same = rw e same
  filter_both p q x xs ys false false e f same = same

  filter_twice : (p q : X → Bool) (xs : List X) → filter (λ x. p x && q x) xs ≡ filter p (filter q xs)
  filter_twice p q [] = refl
  filter_twice p q (x ∷ xs) = filter_both p q x (filter (λ x. p x && q x) xs) (filter q xs) (p x) (q x) refl refl (filter_twice p q xs)

abbrev pub record_of : List Job → Stored → List ℕ → QueueSeen
record_of jobs s o = record { jobs = jobs; stored = s; order = o }

-- ---- storing

pub waits_set : (s : Stored) (place p : ℕ) (r : Option (List ℕ × List ℕ)) → place < length s → waits_at (set s place (Some r)) p ≡ (not (nat_eq p place) && waits_at s p)
waits_set s place p r within = ⊎_elim same other (cases_eq p place)
  where
    same : p ≡ place → waits_at (set s place (Some r)) p ≡ (not (nat_eq p place) && waits_at s p)
    same e =
        let yes : nat_eq p place ≡ true = eq-eqb p place e in
        let at : get_or (set s place (Some r)) p (Some None) ≡ Some r = get_or-set_at s place p (Some r) (Some None) e within in
        ap waits at ∙ sym (ap (λ (b : Bool). not b && waits_at s p) yes)

    other : (p ≡ place → ⊥) → waits_at (set s place (Some r)) p ≡ (not (nat_eq p place) && waits_at s p)
    other ne =
        let not_it : nat_eq p place ≡ false = ne_eqb p place ne in
        ap waits (get_or-set_other s place p (Some r) (Some None) ne) ∙ sym (ap (λ (b : Bool). not b && waits_at s p) not_it)

pub order_set : (s : Stored) (place : ℕ) (r : Option (List ℕ × List ℕ)) (w : List ℕ) → place < length s →
    filter (waits_at (set s place (Some r))) w ≡ without place (filter (waits_at s) w)
order_set s place r w within =
    filter_agree (waits_at (set s place (Some r))) (λ p. not (nat_eq p place) && waits_at s p) (λ p. waits_set s place p r within) w ∙
    filter_twice (λ p. not (nat_eq p place)) (waits_at s) w

keeps : (place p : ℕ) → (p ≡ place → ⊥) → not (nat_eq p place) ≡ true
keeps place p ne = ap not (ne_eqb p place ne)

drops : (place p : ℕ) → p ≡ place → not (nat_eq p place) ≡ false
drops place p e = ap not (eq-eqb p place e)

without_none : (place : ℕ) (order : List ℕ) → (Contains order place → ⊥) → without place order ≡ order
without_none place [] h = refl
without_none place (x ∷ xs) h =
    let ne : x ≡ place → ⊥ = λ e. h (subst (Contains (x ∷ xs)) e (Contains-here x xs)) in
    rw (keeps place x ne) (ap (λ l. x ∷ l) (without_none place xs (λ c. h (Contains-there x xs place c))))

abbrev pub Differs : ℕ → ℕ → Type 0
Differs p r = p ≡ r → ⊥

without_here : (place x : ℕ) (xs : List ℕ) → AllPairs Differs (x ∷ xs) → x ≡ place → length (without place (x ∷ xs)) + 1 ≡ length (x ∷ xs)
without_here place x xs once e =
    let rest : Contains xs place → ⊥ = λ d. AllPairs-first Differs x xs once d.0 place d.1 (e ∙ sym d.2) in
    let same : length (without place xs) ≡ length xs = ap length (without_none place xs rest) in
    rw (drops place x e) (omega arith)

without_later : (place x : ℕ) (xs : List ℕ) → (x ≡ place → ⊥) → length (without place xs) + 1 ≡ length xs → length (without place (x ∷ xs)) + 1 ≡ length (x ∷ xs)
without_later place x xs ne rest = rw (keeps place x ne) (omega arith)

pub length-without : (place : ℕ) (order : List ℕ) → AllPairs Differs order → Contains order place → length (without place order) + 1 ≡ length order
length-without place [] once c = absurd (Contains-nil place c)
length-without place (x ∷ xs) once c =
    ⊎_elim (λ e. without_here place x xs once e)
    (λ ne. without_later place x xs ne
    (length-without place xs (AllPairs-rest Differs x xs once) (⊎_elim (λ e. absurd (ne e)) (λ d. d) (Contains-cons_cases x xs place c))))
    (cases_eq x place)

-- a place that waits has a slot
pub waiting_within : (s : Stored) (p : ℕ) → waits_at s p ≡ true → p < length s
waiting_within [] p e = absurd (true≢false (sym e))
waiting_within (x ∷ s) zero e = omega arith
waiting_within (x ∷ s) (suc p) e = let rest : p < length s = waiting_within s p e in omega arith

abbrev pub order_in : Stored → List ℕ → List ℕ
order_in s w = filter (waits_at s) w

-- a queue keeps what it is when a job that waits is resolved
pub record Resolved (jobs : List Job) (s : Stored) (w : List ℕ) (left : ℕ) : Type 0 where
  pub queue : IsQueue (record { jobs = jobs; stored = s; order = order_in s w })
  pub count : left ≡ length (order_in s w)

pub resolved_one : (jobs : List Job) (s : Stored) (w : List ℕ) (left : ℕ) (place : ℕ) (r : Option (List ℕ × List ℕ)) → Resolved jobs s w left →
    waits_at s place ≡ true → Resolved jobs (set s place (Some r)) w (left - 1) × (1 ≤ left)
resolved_one jobs s w left place r q waiting =
    let within : place < length s = waiting_within s place waiting in
    let e : order_in (set s place (Some r)) w ≡ without place (order_in s w) = order_set s place r w within in
    let inside : Contains (order_in s w) place = ((q.queue).waiting place).1 waiting in
    let fewer : length (without place (order_in s w)) + 1 ≡ length (order_in s w) = length-without place (order_in s w) (q.queue).once inside in
    let same : length (order_in (set s place (Some r)) w) ≡ length (without place (order_in s w)) = ap length e in (
      record {
        queue = record {
          slots = length-set s place (Some r) ∙ (q.queue).slots;
          waiting = λ p. (λ c. (filter_gives (waits_at (set s place (Some r))) w p c).1, λ t. back p t);
          once = subst (AllPairs Differs) (sym e) (AllPairs-filter Differs (λ p. not (nat_eq p place)) (order_in s w) (q.queue).once);
        };
        count = omega (arith, q.count);
      },
      omega (arith, q.count),
    )
  where
    back : (p : ℕ) → waits_at (set s place (Some r)) p ≡ true → Contains (order_in (set s place (Some r)) w) p
    back p t =
        let both : (not (nat_eq p place) && waits_at s p) ≡ true = sym (waits_set s place p r (waiting_within s place waiting)) ∙ t in
        let before : Contains (order_in s w) p = ((q.queue).waiting p).1 (and_parts (not (nat_eq p place)) (waits_at s p) both).1 in
        Contains-filter (waits_at (set s place (Some r))) w p (filter_gives (waits_at s) w p before).0 t

-- a queue keeps what it is when the job that waits first goes to the end
pub differs_flip : (p : ℕ) (xs : List ℕ) → AllPairs Differs (p ∷ xs) → AllPairs Differs (xs ++ p ∷ [])
differs_flip p xs once =
    all_pairs_push Differs xs p (AllPairs-rest Differs p xs once) (λ k d l e. AllPairs-first Differs p xs once k d l (sym e))

pub turned_order : (s : Stored) (p : ℕ) (rest w : List ℕ) → w ≡ rest ++ p ∷ [] → waits_at s p ≡ true → order_in s w ≡ order_in s rest ++ p ∷ []
turned_order s p rest w e waiting = ap (order_in s) e ∙ filter-append (waits_at s) rest (p ∷ []) ∙ ap (λ l. order_in s rest ++ l) (rw waiting refl)

pub front_order : (s : Stored) (p : ℕ) (rest w : List ℕ) → w ≡ p ∷ rest → waits_at s p ≡ true → order_in s w ≡ p ∷ order_in s rest
front_order s p rest w e waiting = ap (order_in s) e ∙ rw waiting refl

pub turned_one : (jobs : List Job) (s : Stored) (before rest after : List ℕ) (left p : ℕ) → Resolved jobs s before left →
    order_in s before ≡ p ∷ order_in s rest → order_in s after ≡ order_in s rest ++ p ∷ [] → Resolved jobs s after left
turned_one jobs s before rest after left p q first last =
    let once : AllPairs Differs (p ∷ order_in s rest) = subst (AllPairs Differs) first (q.queue).once in
    record {
      queue = record {
        slots = (q.queue).slots;
        waiting = λ r. (
          λ c. (filter_gives (waits_at s) after r c).1,
          λ t. subst (λ (l : List ℕ). Contains l r) (sym last) (moved r (subst (λ (l : List ℕ). Contains l r) first (((q.queue).waiting r).1 t))),
        );
        once = subst (AllPairs Differs) (sym last) (differs_flip p (order_in s rest) once);
      };
      count =
          let a : length (order_in s before) ≡ suc (length (order_in s rest)) = ap length first in
          let b : length (order_in s after) ≡ length (order_in s rest) + 1 = ap length last ∙ length_push (order_in s rest) p in
          omega (arith, q.count);
    }
  where
    moved : (r : ℕ) → Contains (p ∷ order_in s rest) r → Contains (order_in s rest ++ p ∷ []) r
    moved r c =
        ⊎_elim (λ e. subst (Contains (order_in s rest ++ p ∷ [])) e (Contains-push (order_in s rest) p))
        (λ d. Contains-append_left (order_in s rest) (p ∷ []) r d) (Contains-cons_cases p (order_in s rest) r c)

-- a new queue
filter_all : (p : ℕ → Bool) (xs : List ℕ) → ((x : ℕ) → Contains xs x → p x ≡ true) → filter p xs ≡ xs
filter_all p [] h = refl
filter_all p (x ∷ xs) h = rw (h x (Contains-here x xs)) (ap (λ l. x ∷ l) (filter_all p xs (λ y c. h y (Contains-there x xs y c))))

indices_differ : (n : ℕ) → AllPairs Differs (indices n)
indices_differ n i j d below within e =
    let last : j < n = omega (arith, length-indices n) in
    let first : i < n = omega arith in
    let same : i ≡ j = sym (get_or-indices n i d first) ∙ e ∙ get_or-indices n j d last in
    omega arith

waits_new : (n p : ℕ) → p < n → waits_at (replicate n None) p ≡ true
waits_new n p l = ap waits (get_or-replicate n p None (Some None) l)

within_new : (n p : ℕ) → waits_at (replicate n None) p ≡ true → p < n
within_new n p t =
    let within : p < length (replicate {A = Option (Option (List ℕ × List ℕ))} n None) = waiting_within (replicate n None) p t in
    omega (arith, length-replicate {A = Option (Option (List ℕ × List ℕ))} n None)

pub order_new : (n : ℕ) → order_in (replicate n None) (indices n) ≡ indices n
order_new n = filter_all (waits_at (replicate n None)) (indices n) (λ p c. waits_new n p (lt-indices n p c))

pub queue_new : (jobs : List Job) → Resolved jobs (replicate (length jobs) None) (indices (length jobs)) (length jobs)
queue_new jobs =
    let n : ℕ = length jobs in
    record {
      queue = record {
        slots = length-replicate {A = Option (Option (List ℕ × List ℕ))} n None;
        waiting = λ p. (
          λ c. (filter_gives (waits_at (replicate n None)) (indices n) p c).1,
          λ t. Contains-filter (waits_at (replicate n None)) (indices n) p (Contains-indices n p (within_new n p t)) t,
        );
        once = subst (AllPairs Differs) (sym (order_new n)) (indices_differ n);
      };
      count = sym (ap length (order_new n) ∙ length-indices n);
    }

pub new_queue : (jobs : List Job) (s : Stored) (w : List ℕ) (left : ℕ) → s ≡ replicate (length jobs) None → w ≡ indices (length jobs) → left ≡ length jobs → Resolved jobs s w left
new_queue jobs s w left same places count =
    subst (λ (n : ℕ). Resolved jobs s w n) (sym count)
    (subst (λ (v : List ℕ). Resolved jobs s v (length jobs)) (sym places)
    (subst (λ (t : Stored). Resolved jobs t (indices (length jobs)) (length jobs)) (sym same) (queue_new jobs)))

pub seen_same : (jobs : List Job) (s t : Stored) (o r : List ℕ) → s ≡ t → o ≡ r →
    record_of jobs s o ≡ record_of jobs t r
seen_same jobs s t o r e f = ap₂ (record_of jobs) e f

-- where a place stands in the order
pub record IsSplit (place : ℕ) (order : List ℕ) : Type 0 where
  pub before : List ℕ
  pub after : List ℕ
  pub whole : order ≡ before ++ place ∷ after
  pub rest : without place order ≡ before ++ after

split_here : (place x : ℕ) (xs : List ℕ) → AllPairs Differs (x ∷ xs) → x ≡ place → IsSplit place (x ∷ xs)
split_here place x xs once e =
    let none : Contains xs place → ⊥ = λ d. AllPairs-first Differs x xs once d.0 place d.1 (e ∙ sym d.2) in
    record { before = []; after = xs; whole = ap (λ y. y ∷ xs) e; rest = rw (drops place x e) (without_none place xs none) }

split_later : (place x : ℕ) (xs : List ℕ) → (x ≡ place → ⊥) → IsSplit place xs → IsSplit place (x ∷ xs)
split_later place x xs ne s = record {
  before = x ∷ s.before;
  after = s.after;
  whole = ap (λ l. x ∷ l) s.whole;
  rest = rw (keeps place x ne) (ap (λ l. x ∷ l) s.rest);
}

pub split_at : (place : ℕ) (order : List ℕ) → AllPairs Differs order → Contains order place → IsSplit place order
split_at place [] once c = absurd (Contains-nil place c)
split_at place (x ∷ xs) once c =
    ⊎_elim (λ e. split_here place x xs once e)
    (λ ne. split_later place x xs ne
    (split_at place xs (AllPairs-rest Differs x xs once) (⊎_elim (λ e. absurd (ne e)) (λ d. d) (Contains-cons_cases x xs place c))))
    (cases_eq x place)
