use Rattle.std.proofs.Common.{◌≡◌, ℕ, ◌+◌, ◌≤◌, ◌<◌, true, Some, List, [], ◌∷◌, ◌++◌, length, All, AllPairs, Contains, ◌↔◌, sym, ap, subst, ◌∙◌, arith, suc}
use Rattle.std.specs.Arc.{arc_value}
use Rattle.std.proofs.lemmas.Option.{same_Some}
use Rattle.ct_vectors.specs.declared.limits.TheConstants.{GRADE_LIMIT}
use Rattle.ct_instance.specs.Instance.{Problem}
use Rattle.ct_instance.specs.TestSet.{ComesBefore, test_list}
use Rattle.ct_instance.specs.Versions.{level_of, version_list}
use Rattle.ct_instance.specs.Reach.{opened_grade}
use Rattle.ct_completion.specs.declared.journals.Act.TheVariants.{Published as ActPublished, MarkedFull}
use Rattle.ct_completion.specs.Machine.{publishes, marks_full, opened_jobs}
use Rattle.ct_completion.specs.Remainders.{points_of, IsGroupMove}
use Rattle.ct_groups.specs.Groups.{IsSmallPoint}
use Rattle.ct_jobs.specs.GradedJobs.{AreJobsOf}
use Rattle.ct_completion.specs.declared.journals.Act.{Act}
use Rattle.ct_completion.specs.declared.journals.Entry.{Entry}
use Rattle.ct_completion.specs.Journal.{entries_of}
use Rattle.ct_version.specs.declared.finished.Finished.{Finished}
use Rattle.ct_version.specs.Editions.{Edition, IsEdition, level_seen}
use Rattle.ct_book.specs.Logs.{LogSeen}
use Rattle.ct_book.specs.Books.{BookSeen, IsReadyBook, Steps, entry_by, edition_of}
use Rattle.ct_book.specs.Insides.{Insides, book_in, fresh}
use Rattle.ct_book.specs.Openings.{left_in}
use Rattle.ct_book.proofs.Keeping.{inside_of}
use Rattle.ct_book.proofs.ReadyBooks.{IsDone, done_from, small_points, grade_within, next_moves, next_length, marked_kept, published_kept, roomier, taken_in}
use Rattle.ct_book.proofs.books.Book.publish.Goals as goal

abbrev following_of : Edition → Edition
following_of w = record { instance = w.instance; number = suc w.number }

abbrev with_entry : List Entry → ℕ → Act → List Entry
with_entry es by act = es ++ record { pass = by; serial = entries_of by es; act = act } ∷ []

pub moves_left-requires : goal.moves_left-requires
moves_left-requires c =
    let x : Insides = (inside_of (arc_value c.self.inside.version) c.self.inside.limit c.self.inside.full c.self.inside.levels.items c.self.inside.buckets.jobs c.self.inside.queue c.self.inside.log) in
    let ready = subst IsReadyBook (sym c.self.view_is) c.requires.ready in
    let r : IsDone x ready.0 = done_from x ready.0 ready.1 in
    let inst : c.deref-2.result.now ≡ (x.version).instance =
    c.deref-2.ensures ∙ c.instance.ensures.instance ∙ c.moves.ensures.instance ∙ ap (λ (v : Edition). v.instance) c.deref.ensures in
    subst (λ (i : Problem). All (IsSmallPoint i) (points_of (left_in (x.queue).stored))) (sym inst)
    (small_points x c.self.invariant c.left-left.ensures.queue ready.0 r)

pub marked-requires : goal.marked-requires
marked-requires c =
    let x : Insides = (inside_of (arc_value c.self.inside.version) c.self.inside.limit c.self.inside.full c.self.inside.levels.items c.self.inside.buckets.jobs c.self.inside.queue c.self.inside.log) in
    let ready = subst IsReadyBook (sym c.self.view_is) c.requires.ready in
    let r : IsDone x ready.0 = done_from x ready.0 ready.1 in
    let within : ready.0 ≤ GRADE_LIMIT = grade_within x c.self.invariant c.left-left.ensures.queue ready.0 r in
    (ready.0, (r.ready).opened, omega (arith, within))

pub invariant_of-self : goal.invariant_of-self
invariant_of-self c =
    let x : Insides = (inside_of (arc_value c.self.inside.version) c.self.inside.limit c.self.inside.full c.self.inside.levels.items c.self.inside.buckets.jobs c.self.inside.queue c.self.inside.log) in
    let ready = subst IsReadyBook (sym c.self.view_is) c.requires.ready in
    let r : IsDone x ready.0 = done_from x ready.0 ready.1 in
    let inst : c.deref-2.result.now ≡ (x.version).instance =
    c.deref-2.ensures ∙ c.instance.ensures.instance ∙ c.moves.ensures.instance ∙ ap (λ (v : Edition). v.instance) c.deref.ensures in
    let list : version_list (x.version).instance (x.version).number ++ c.in_ok-new.new.items ≡ version_list (x.version).instance (suc (x.version).number) =
    next_moves x c.self.invariant c.left-left.ensures.queue ready.0 r c.in_ok-new.new.items
    (λ m. subst (λ (i : Problem). Contains c.in_ok-new.new.items m ↔ IsGroupMove i (points_of (left_in (x.queue).stored)) m) inst (c.in_ok-new.ensures.exact m))
    (subst (λ (i : Problem). AllPairs (λ m n. ComesBefore i m.head n.head) c.in_ok-new.new.items) inst c.in_ok-new.ensures.ordered) in
    let count : c.len.result ≡ length (version_list (x.version).instance (x.version).number) =
    c.len.ensures.count ∙ ap length c.moves-2.ensures.list ∙ ap (λ (v : Edition). length (version_list v.instance v.number)) c.deref-3.ensures in
    let brought : c.len-2.result ≡ length c.in_ok-new.new.items = c.len-2.ensures ∙ c.in_ok-new.new.ok.0 in
    let more : x.limit < length (test_list (x.version).instance ready.0) =
    omega (arith, next_length x c.self.invariant c.left-left.ensures.queue ready.0 r c.in_ok-new.new.items list, count, brought, c.if-len-self.true) in
    let grade : c.in_ok-mark.mark.grade ≡ ready.0 =
    same_Some c.in_ok-mark.mark.grade ready.0 (sym c.in_ok-mark.ensures.grade ∙ (r.ready).opened) in
    let written : (c.append.new.self).entries ≡ (x.log).entries ++ entry_by (book_in x) c.args.by (MarkedFull ready.0) ∷ [] =
    ap (λ (g : LogSeen). g.entries) c.append.ensures.entries ∙ ap (λ (g : ℕ). (x.log).entries ++ entry_by (book_in x) c.args.by (MarkedFull g) ∷ []) grade in
    let passes : (c.append.new.self).passes ≡ (x.log).passes = ap (λ (g : LogSeen). g.passes) c.append.ensures.entries in
    let done = marked_kept x c.self.invariant c.left-left.ensures.queue ready.0 r c.args.by c.append.new.self written passes more in
    done.0

pub returns-then-len-self-clause-answer : goal.returns-then-len-self-clause-answer
returns-then-len-self-clause-answer c =
    let x : Insides = (inside_of (arc_value c.self.inside.version) c.self.inside.limit c.self.inside.full c.self.inside.levels.items c.self.inside.buckets.jobs c.self.inside.queue c.self.inside.log) in
    let ready = subst IsReadyBook (sym c.self.view_is) c.requires.ready in
    let r : IsDone x ready.0 = done_from x ready.0 ready.1 in
    let inst : c.deref-2.result.now ≡ (x.version).instance =
    c.deref-2.ensures ∙ c.instance.ensures.instance ∙ c.moves.ensures.instance ∙ ap (λ (v : Edition). v.instance) c.deref.ensures in
    let list : version_list (x.version).instance (x.version).number ++ c.in_ok-new.new.items ≡ version_list (x.version).instance (suc (x.version).number) =
    next_moves x c.self.invariant c.left-left.ensures.queue ready.0 r c.in_ok-new.new.items
    (λ m. subst (λ (i : Problem). Contains c.in_ok-new.new.items m ↔ IsGroupMove i (points_of (left_in (x.queue).stored)) m) inst (c.in_ok-new.ensures.exact m))
    (subst (λ (i : Problem). AllPairs (λ m n. ComesBefore i m.head n.head) c.in_ok-new.new.items) inst c.in_ok-new.ensures.ordered) in
    let count : c.len.result ≡ length (version_list (x.version).instance (x.version).number) =
    c.len.ensures.count ∙ ap length c.moves-2.ensures.list ∙ ap (λ (v : Edition). length (version_list v.instance v.number)) c.deref-3.ensures in
    let brought : c.len-2.result ≡ length c.in_ok-new.new.items = c.len-2.ensures ∙ c.in_ok-new.new.ok.0 in
    let more : x.limit < length (test_list (x.version).instance ready.0) =
    omega (arith, next_length x c.self.invariant c.left-left.ensures.queue ready.0 r c.in_ok-new.new.items list, count, brought, c.if-len-self.true) in
    let grade : c.in_ok-mark.mark.grade ≡ ready.0 =
    same_Some c.in_ok-mark.mark.grade ready.0 (sym c.in_ok-mark.ensures.grade ∙ (r.ready).opened) in
    let written : (c.append.new.self).entries ≡ (x.log).entries ++ entry_by (book_in x) c.args.by (MarkedFull ready.0) ∷ [] =
    ap (λ (g : LogSeen). g.entries) c.append.ensures.entries ∙ ap (λ (g : ℕ). (x.log).entries ++ entry_by (book_in x) c.args.by (MarkedFull g) ∷ []) grade in
    let passes : (c.append.new.self).passes ≡ (x.log).passes = ap (λ (g : LogSeen). g.passes) c.append.ensures.entries in
    let done = marked_kept x c.self.invariant c.left-left.ensures.queue ready.0 r c.args.by c.append.new.self written passes more in
    let y : Insides = inside_of x.version x.limit true x.levels x.jobs x.queue c.append.new.self in (
      c.in_ok-mark.ensures.version ∙ ap edition_of c.self.view_is,
      subst (λ (b : BookSeen). opened_grade b.instance (b.state).number ≡ Some c.in_ok-mark.mark.grade) c.self.view_is c.in_ok-mark.ensures.grade,
      subst (λ (b : BookSeen). Steps b marks_full (entry_by b c.args.by (MarkedFull c.in_ok-mark.mark.grade) ∷ []) (book_in y)) c.self.view_is
          (subst (λ (g : ℕ). Steps (book_in x) marks_full (entry_by (book_in x) c.args.by (MarkedFull g) ∷ []) (book_in y)) (sym grade) done.1),
    )

pub next_version-requires-clause-opens : goal.next_version-requires-clause-opens
next_version-requires-clause-opens c =
    let x : Insides = (inside_of (arc_value c.self.inside.version) c.self.inside.limit c.self.inside.full c.self.inside.levels.items c.self.inside.buckets.jobs c.self.inside.queue c.self.inside.log) in
    let ready = subst IsReadyBook (sym c.self.view_is) c.requires.ready in
    let r : IsDone x ready.0 = done_from x ready.0 ready.1 in
    let within : ready.0 ≤ GRADE_LIMIT = grade_within x c.self.invariant c.left-left.ensures.queue ready.0 r in
    (r.level, ap (λ (v : Edition). level_of v.instance v.number) c.deref-4.ensures ∙ r.same, omega (arith, within, r.above))

pub next_version-requires-clause-list : goal.next_version-requires-clause-list
next_version-requires-clause-list c =
    let x : Insides = (inside_of (arc_value c.self.inside.version) c.self.inside.limit c.self.inside.full c.self.inside.levels.items c.self.inside.buckets.jobs c.self.inside.queue c.self.inside.log) in
    let ready = subst IsReadyBook (sym c.self.view_is) c.requires.ready in
    let r : IsDone x ready.0 = done_from x ready.0 ready.1 in
    let inst : c.deref-2.result.now ≡ (x.version).instance =
    c.deref-2.ensures ∙ c.instance.ensures.instance ∙ c.moves.ensures.instance ∙ ap (λ (v : Edition). v.instance) c.deref.ensures in
    let list : version_list (x.version).instance (x.version).number ++ c.in_ok-new.new.items ≡ version_list (x.version).instance (suc (x.version).number) =
    next_moves x c.self.invariant c.left-left.ensures.queue ready.0 r c.in_ok-new.new.items
    (λ m. subst (λ (i : Problem). Contains c.in_ok-new.new.items m ↔ IsGroupMove i (points_of (left_in (x.queue).stored)) m) inst (c.in_ok-new.ensures.exact m))
    (subst (λ (i : Problem). AllPairs (λ m n. ComesBefore i m.head n.head) c.in_ok-new.new.items) inst c.in_ok-new.ensures.ordered) in
    let count : c.len.result ≡ length (version_list (x.version).instance (x.version).number) =
    c.len.ensures.count ∙ ap length c.moves-2.ensures.list ∙ ap (λ (v : Edition). length (version_list v.instance v.number)) c.deref-3.ensures in
    let brought : c.len-2.result ≡ length c.in_ok-new.new.items = c.len-2.ensures ∙ c.in_ok-new.new.ok.0 in
    subst (λ (v : Edition). version_list v.instance v.number ++ c.in_ok-new.new.items ≡ version_list v.instance (suc v.number)) (sym c.deref-4.ensures) list

pub invariant_of-self-in_err-make_room : goal.invariant_of-self-in_err-make_room
invariant_of-self-in_err-make_room c =
    roomier (inside_of (arc_value c.self.inside.version) c.self.inside.limit c.self.inside.full c.self.inside.levels.items c.self.inside.buckets.jobs c.self.inside.queue c.self.inside.log) c.self.invariant c.make_room.new.levels.items c.make_room.ensures.levels (c.make_room.new.buckets).jobs c.make_room.ensures.jobs
    c.make_room.new.log c.make_room.ensures.entries c.make_room.ensures.room

pub invariant_of-self-2 : goal.invariant_of-self-2
invariant_of-self-2 c =
    let x : Insides = (inside_of (arc_value c.self.inside.version) c.self.inside.limit c.self.inside.full c.self.inside.levels.items c.self.inside.buckets.jobs c.self.inside.queue c.self.inside.log) in
    let ready = subst IsReadyBook (sym c.self.view_is) c.requires.ready in
    let r : IsDone x ready.0 = done_from x ready.0 ready.1 in
    let inst : c.deref-2.result.now ≡ (x.version).instance =
    c.deref-2.ensures ∙ c.instance.ensures.instance ∙ c.moves.ensures.instance ∙ ap (λ (v : Edition). v.instance) c.deref.ensures in
    let list : version_list (x.version).instance (x.version).number ++ c.in_ok-new.new.items ≡ version_list (x.version).instance (suc (x.version).number) =
    next_moves x c.self.invariant c.left-left.ensures.queue ready.0 r c.in_ok-new.new.items
    (λ m. subst (λ (i : Problem). Contains c.in_ok-new.new.items m ↔ IsGroupMove i (points_of (left_in (x.queue).stored)) m) inst (c.in_ok-new.ensures.exact m))
    (subst (λ (i : Problem). AllPairs (λ m n. ComesBefore i m.head n.head) c.in_ok-new.new.items) inst c.in_ok-new.ensures.ordered) in
    let count : c.len.result ≡ length (version_list (x.version).instance (x.version).number) =
    c.len.ensures.count ∙ ap length c.moves-2.ensures.list ∙ ap (λ (v : Edition). length (version_list v.instance v.number)) c.deref-3.ensures in
    let brought : c.len-2.result ≡ length c.in_ok-new.new.items = c.len-2.ensures ∙ c.in_ok-new.new.ok.0 in
    let v : Edition = arc_value c.in_ok-next.next.version in
    let is : v ≡ following_of x.version = c.in_ok-next.ensures.version ∙ ap following_of c.deref-4.ensures in
    let longer : c.push_reserved.new.self.items ≡ x.levels ++ c.finished.result ∷ [] =
    c.push_reserved.ensures.items ∙ ap (λ (ls : List Finished). ls ++ c.finished.result ∷ []) c.make_room.ensures.levels in
    let level : level_seen c.finished.result ≡ level_of v.instance v.number = c.finished.ensures ∙ ap (λ (w : Edition). level_of w.instance w.number) c.deref-5.ensures in
    let brings : AreJobsOf (x.version).instance (version_list (x.version).instance (suc (x.version).number)) (x.jobs ++ c.in_ok-next.next.more) =
    subst (λ (w : Edition). AreJobsOf w.instance (version_list w.instance (suc w.number)) (x.jobs ++ c.in_ok-next.next.more)) c.deref-4.ensures c.in_ok-next.ensures.more in
    let are : AreJobsOf (x.version).instance (version_list (x.version).instance (suc (x.version).number)) (c.absorb.new.self).jobs =
    taken_in (x.version).instance (version_list (x.version).instance (suc (x.version).number)) x.jobs c.in_ok-next.next.more (c.make_room.new.buckets).jobs (c.absorb.new.self).jobs
    brings c.make_room.ensures.jobs c.absorb.ensures in
    let queue : c.in_ok-next.next.queue ≡ fresh (opened_jobs (x.version).instance (suc (x.version).number)) =
    c.in_ok-next.ensures.queue ∙ ap (λ (w : Edition). fresh (opened_jobs w.instance (suc w.number))) c.deref-4.ensures in
    let number : c.number.result ≡ suc (x.version).number =
    c.number.ensures.number ∙ ap (λ (w : Edition). w.number) c.deref-6.ensures ∙ ap (λ (w : Edition). w.number) is in
    let written : (c.append-2.new.self).entries ≡ (x.log).entries ++ entry_by (book_in x) c.args.by (ActPublished (suc (x.version).number)) ∷ [] =
    ap (λ (g : LogSeen). g.entries) c.append-2.ensures.entries ∙ ap (λ (es : List Entry). with_entry es c.args.by (ActPublished c.number.result)) c.make_room.ensures.entries ∙
    ap (λ (n : ℕ). with_entry (x.log).entries c.args.by (ActPublished n)) number in
    let passes : (c.append-2.new.self).passes ≡ (x.log).passes = ap (λ (g : LogSeen). g.passes) c.append-2.ensures.entries ∙ c.make_room.ensures.passes in
    let same_room : (c.append-2.new.self).room ≡ (c.make_room.new.log).room = ap (λ (g : LogSeen). g.room) c.append-2.ensures.entries in
    let room : length (x.log).entries + (length c.in_ok-next.next.queue.jobs + 2) ≤ (c.append-2.new.self).room =
    omega (arith, c.in_ok-make_room.ensures.entry_room, ap length c.make_room.ensures.entries, c.len-3.ensures.count, same_room) in
    let within : length (version_list (x.version).instance (x.version).number) + length c.in_ok-new.new.items ≤ x.limit = omega (arith, count, brought, c.if-len-self.false) in
    let done = published_kept x c.self.invariant c.left-left.ensures.queue ready.0 r c.args.by c.in_ok-new.new.items list within v is
    (subst IsEdition c.deref-6.ensures c.number.ensures.version) c.push_reserved.new.self.items c.finished.result longer level (c.absorb.new.self).jobs are
    c.in_ok-next.next.queue queue c.append-2.new.self written passes room in
    done.0

pub returns-clause-answer : goal.returns-clause-answer
returns-clause-answer c =
    let x : Insides = (inside_of (arc_value c.self.inside.version) c.self.inside.limit c.self.inside.full c.self.inside.levels.items c.self.inside.buckets.jobs c.self.inside.queue c.self.inside.log) in
    let ready = subst IsReadyBook (sym c.self.view_is) c.requires.ready in
    let r : IsDone x ready.0 = done_from x ready.0 ready.1 in
    let inst : c.deref-2.result.now ≡ (x.version).instance =
    c.deref-2.ensures ∙ c.instance.ensures.instance ∙ c.moves.ensures.instance ∙ ap (λ (v : Edition). v.instance) c.deref.ensures in
    let list : version_list (x.version).instance (x.version).number ++ c.in_ok-new.new.items ≡ version_list (x.version).instance (suc (x.version).number) =
    next_moves x c.self.invariant c.left-left.ensures.queue ready.0 r c.in_ok-new.new.items
    (λ m. subst (λ (i : Problem). Contains c.in_ok-new.new.items m ↔ IsGroupMove i (points_of (left_in (x.queue).stored)) m) inst (c.in_ok-new.ensures.exact m))
    (subst (λ (i : Problem). AllPairs (λ m n. ComesBefore i m.head n.head) c.in_ok-new.new.items) inst c.in_ok-new.ensures.ordered) in
    let count : c.len.result ≡ length (version_list (x.version).instance (x.version).number) =
    c.len.ensures.count ∙ ap length c.moves-2.ensures.list ∙ ap (λ (v : Edition). length (version_list v.instance v.number)) c.deref-3.ensures in
    let brought : c.len-2.result ≡ length c.in_ok-new.new.items = c.len-2.ensures ∙ c.in_ok-new.new.ok.0 in
    let v : Edition = arc_value c.in_ok-next.next.version in
    let is : v ≡ following_of x.version = c.in_ok-next.ensures.version ∙ ap following_of c.deref-4.ensures in
    let longer : c.push_reserved.new.self.items ≡ x.levels ++ c.finished.result ∷ [] =
    c.push_reserved.ensures.items ∙ ap (λ (ls : List Finished). ls ++ c.finished.result ∷ []) c.make_room.ensures.levels in
    let level : level_seen c.finished.result ≡ level_of v.instance v.number = c.finished.ensures ∙ ap (λ (w : Edition). level_of w.instance w.number) c.deref-5.ensures in
    let brings : AreJobsOf (x.version).instance (version_list (x.version).instance (suc (x.version).number)) (x.jobs ++ c.in_ok-next.next.more) =
    subst (λ (w : Edition). AreJobsOf w.instance (version_list w.instance (suc w.number)) (x.jobs ++ c.in_ok-next.next.more)) c.deref-4.ensures c.in_ok-next.ensures.more in
    let are : AreJobsOf (x.version).instance (version_list (x.version).instance (suc (x.version).number)) (c.absorb.new.self).jobs =
    taken_in (x.version).instance (version_list (x.version).instance (suc (x.version).number)) x.jobs c.in_ok-next.next.more (c.make_room.new.buckets).jobs (c.absorb.new.self).jobs
    brings c.make_room.ensures.jobs c.absorb.ensures in
    let queue : c.in_ok-next.next.queue ≡ fresh (opened_jobs (x.version).instance (suc (x.version).number)) =
    c.in_ok-next.ensures.queue ∙ ap (λ (w : Edition). fresh (opened_jobs w.instance (suc w.number))) c.deref-4.ensures in
    let number : c.number.result ≡ suc (x.version).number =
    c.number.ensures.number ∙ ap (λ (w : Edition). w.number) c.deref-6.ensures ∙ ap (λ (w : Edition). w.number) is in
    let written : (c.append-2.new.self).entries ≡ (x.log).entries ++ entry_by (book_in x) c.args.by (ActPublished (suc (x.version).number)) ∷ [] =
    ap (λ (g : LogSeen). g.entries) c.append-2.ensures.entries ∙ ap (λ (es : List Entry). with_entry es c.args.by (ActPublished c.number.result)) c.make_room.ensures.entries ∙
    ap (λ (n : ℕ). with_entry (x.log).entries c.args.by (ActPublished n)) number in
    let passes : (c.append-2.new.self).passes ≡ (x.log).passes = ap (λ (g : LogSeen). g.passes) c.append-2.ensures.entries ∙ c.make_room.ensures.passes in
    let same_room : (c.append-2.new.self).room ≡ (c.make_room.new.log).room = ap (λ (g : LogSeen). g.room) c.append-2.ensures.entries in
    let room : length (x.log).entries + (length c.in_ok-next.next.queue.jobs + 2) ≤ (c.append-2.new.self).room =
    omega (arith, c.in_ok-make_room.ensures.entry_room, ap length c.make_room.ensures.entries, c.len-3.ensures.count, same_room) in
    let within : length (version_list (x.version).instance (x.version).number) + length c.in_ok-new.new.items ≤ x.limit = omega (arith, count, brought, c.if-len-self.false) in
    let done = published_kept x c.self.invariant c.left-left.ensures.queue ready.0 r c.args.by c.in_ok-new.new.items list within v is
    (subst IsEdition c.deref-6.ensures c.number.ensures.version) c.push_reserved.new.self.items c.finished.result longer level (c.absorb.new.self).jobs are
    c.in_ok-next.next.queue queue c.append-2.new.self written passes room in
    let y : Insides = inside_of v x.limit x.full c.push_reserved.new.self.items (c.absorb.new.self).jobs c.in_ok-next.next.queue c.append-2.new.self in (
      c.in_ok-version.ensures ∙ is ∙ ap (λ (b : BookSeen). following_of (edition_of b)) c.self.view_is,
      subst (λ (b : BookSeen). Steps b publishes (entry_by b c.args.by (ActPublished (suc (b.state).number)) ∷ []) (book_in y)) c.self.view_is done.1,
    )
