use Rattle.std.proofs.Common.{◌≡◌, true, false, true≢false, [], ◌∷◌, length, inr, sym, ap, ap₂, subst, ◌∙◌, refl, arith}
use Rattle.std.specs.Arc.{arc_value}
use Rattle.ct_completion.specs.declared.journals.Act.TheVariants.{Stored as ActStored}
use Rattle.ct_completion.specs.Machine.{stores, already}
use Rattle.ct_version.specs.Editions.{Edition}
use Rattle.ct_book.specs.Queues.{waits_at}
use Rattle.ct_book.specs.Tasks.{RemainderSeen, left_at}
use Rattle.ct_book.specs.Books.{BookSeen, Steps, entry_by}
use Rattle.ct_book.specs.Insides.{Insides, book_in, IsBook}
use Rattle.ct_book.proofs.Keeping.{inside_of, IsOwn, own, resolved_job, room_left, after_store, stored_kept, not_false, already_steps}
use Rattle.ct_book.proofs.books.Book.take_in.Goals as goal

pub returns-then-is_resolved-clause-answer : goal.returns-then-is_resolved-clause-answer
returns-then-is_resolved-clause-answer c =
    let x : Insides = (inside_of (arc_value c.self.inside.version) c.self.inside.limit c.self.inside.full c.self.inside.levels.items c.self.inside.buckets.jobs c.self.inside.queue c.self.inside.log) in
    let r : RemainderSeen = left_at c.args.version.now c.args.left in
    let instance : (r.version).instance ≡ (x.version).instance = c.requires.instance ∙ sym (ap (λ (b : BookSeen). b.instance) c.self.view_is) in
    let number : (r.version).number ≡ (x.version).number =
    sym c.number.ensures.number ∙ c.if-number.false ∙ c.number-number.ensures.number ∙ ap (λ (v : Edition). v.number) c.deref.ensures in
    let own_version : IsOwn x r = own x c.self.invariant r c.requires.held instance number in
    let done : waits_at (x.queue).stored r.place ≡ false = c.if-is_resolved.ensures.resolved.0 refl in (
      c.number-number.ensures.number ∙ ap (λ (v : Edition). v.number) c.deref.ensures ∙ ap (λ (b : BookSeen). (b.state).number) c.self.view_is,
      refl,
      subst (λ (b : BookSeen). Steps b (already (r.version).number r.job) [] b) c.self.view_is
          (already_steps x r (inr (resolved_job x c.self.invariant c.is_resolved.ensures.queue r own_version done))),
    )

pub append-place-requires-clause-room : goal.append-place-requires-clause-room
append-place-requires-clause-room c =
    let x : Insides = (inside_of (arc_value c.self.inside.version) c.self.inside.limit c.self.inside.full c.self.inside.levels.items c.self.inside.buckets.jobs c.self.inside.queue c.self.inside.log) in
    let r : RemainderSeen = left_at c.args.version.now c.args.left in
    let instance : (r.version).instance ≡ (x.version).instance = c.requires.instance ∙ sym (ap (λ (b : BookSeen). b.instance) c.self.view_is) in
    let number : (r.version).number ≡ (x.version).number =
    sym c.number.ensures.number ∙ c.if-number.false ∙ c.number-number.ensures.number ∙ ap (λ (v : Edition). v.number) c.deref.ensures in
    let own_version : IsOwn x r = own x c.self.invariant r c.requires.held instance number in
    let waiting : waits_at (x.queue).stored r.place ≡ true =
    not_false (waits_at (x.queue).stored r.place) (λ e. true≢false (sym (c.if-is_resolved.ensures.resolved.1 e))) in
    let room = room_left x c.self.invariant c.is_resolved.ensures.queue r.place waiting in
    omega (arith, room)

pub invariant_of-self : goal.invariant_of-self
invariant_of-self c =
    let x : Insides = (inside_of (arc_value c.self.inside.version) c.self.inside.limit c.self.inside.full c.self.inside.levels.items c.self.inside.buckets.jobs c.self.inside.queue c.self.inside.log) in
    let r : RemainderSeen = left_at c.args.version.now c.args.left in
    let instance : (r.version).instance ≡ (x.version).instance = c.requires.instance ∙ sym (ap (λ (b : BookSeen). b.instance) c.self.view_is) in
    let number : (r.version).number ≡ (x.version).number =
    sym c.number.ensures.number ∙ c.if-number.false ∙ c.number-number.ensures.number ∙ ap (λ (v : Edition). v.number) c.deref.ensures in
    let own_version : IsOwn x r = own x c.self.invariant r c.requires.held instance number in
    let waiting : waits_at (x.queue).stored r.place ≡ true =
    not_false (waits_at (x.queue).stored r.place) (λ e. true≢false (sym (c.if-is_resolved.ensures.resolved.1 e))) in
    let y : Insides = (inside_of (arc_value c.self.inside.version) c.self.inside.limit c.self.inside.full c.self.inside.levels.items c.self.inside.buckets.jobs c.store.new.self c.append-place.new.self) in
    let after : y ≡ after_store x c.args.by r.place r.job r.points =
    ap₂ (inside_of (x.version) x.limit x.full x.levels x.jobs) c.store.ensures c.append-place.ensures.entries in
    let done = stored_kept x c.self.invariant c.is_resolved.ensures.queue r c.requires.held own_version waiting c.args.by in
    subst IsBook (sym after) done.0

pub returns-clause-answer : goal.returns-clause-answer
returns-clause-answer c =
    let x : Insides = (inside_of (arc_value c.self.inside.version) c.self.inside.limit c.self.inside.full c.self.inside.levels.items c.self.inside.buckets.jobs c.self.inside.queue c.self.inside.log) in
    let r : RemainderSeen = left_at c.args.version.now c.args.left in
    let instance : (r.version).instance ≡ (x.version).instance = c.requires.instance ∙ sym (ap (λ (b : BookSeen). b.instance) c.self.view_is) in
    let number : (r.version).number ≡ (x.version).number =
    sym c.number.ensures.number ∙ c.if-number.false ∙ c.number-number.ensures.number ∙ ap (λ (v : Edition). v.number) c.deref.ensures in
    let own_version : IsOwn x r = own x c.self.invariant r c.requires.held instance number in
    let waiting : waits_at (x.queue).stored r.place ≡ true =
    not_false (waits_at (x.queue).stored r.place) (λ e. true≢false (sym (c.if-is_resolved.ensures.resolved.1 e))) in
    let y : Insides = (inside_of (arc_value c.self.inside.version) c.self.inside.limit c.self.inside.full c.self.inside.levels.items c.self.inside.buckets.jobs c.store.new.self c.append-place.new.self) in
    let after : y ≡ after_store x c.args.by r.place r.job r.points =
    ap₂ (inside_of (x.version) x.limit x.full x.levels x.jobs) c.store.ensures c.append-place.ensures.entries in
    let done = stored_kept x c.self.invariant c.is_resolved.ensures.queue r c.requires.held own_version waiting c.args.by in (
      c.append-place.ensures.place ∙ ap (λ (b : BookSeen). length b.journal) c.self.view_is,
      number ∙ ap (λ (b : BookSeen). (b.state).number) c.self.view_is,
      subst (λ (b : BookSeen). Steps b (stores r.job) (entry_by b c.args.by (ActStored r.job) ∷ []) (book_in y)) c.self.view_is
          (subst (λ (z : Insides). Steps (book_in x) (stores r.job) (entry_by (book_in x) c.args.by (ActStored r.job) ∷ []) (book_in z)) (sym after) done.1),
    )
