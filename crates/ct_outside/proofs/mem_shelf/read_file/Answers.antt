use Rattle.std.proofs.Common.{◌≡◌, ◌+◌, ap, sym, ◌∙◌, arith, rules, length, take, length-take}
use Rattle.std.proofs.lemmas.Bool.{le-leb, lt-leb}
use Rattle.ct_outside.specs.MemFiles.{files_of}
use Rattle.ct_outside.specs.MemShelf.{told_of}
use Rattle.ct_outside.specs.Shelf.{absent, holds}
use Rattle.ct_outside.proofs.FilesTold.{told_by, told_of-files_of}
use Rattle.ct_outside.proofs.mem_shelf.read_file.Goals as goal

pub returns-in_default-clause-answer : goal.returns-in_default-clause-answer
returns-in_default-clause-answer c =
    let told : told_of (files_of c.args.files.now) c.args.name.now ≡ absent = told_of-files_of c.args.files.now c.args.name.now ∙ ap told_by (sym c.in_default.ensures.value) in
    rw (c.if-is_due.false, told)

pub returns-then-len-limit-clause-leaves : goal.returns-then-len-limit-clause-leaves
returns-then-len-limit-clause-leaves c =
    let told : told_of (files_of c.args.files.now) c.args.name.now ≡ holds c.in-Some.bytes.now.items = told_of-files_of c.args.files.now c.args.name.now ∙ ap told_by (sym c.in-Some.ensures.value) in
    let got : c.extend_from_slice.new.self.items ≡ c.in-Some.bytes.now.items = search rules in
    rw told (omega (arith, c.in-Some.bytes.now.ok.0, ap length got), got)

pub returns-then-len-limit-clause-answer : goal.returns-then-len-limit-clause-answer
returns-then-len-limit-clause-answer c =
    let told : told_of (files_of c.args.files.now) c.args.name.now ≡ holds c.in-Some.bytes.now.items = told_of-files_of c.args.files.now c.args.name.now ∙ ap told_by (sym c.in-Some.ensures.value) in
    rw (c.if-is_due.false, told, le-leb (length c.in-Some.bytes.now.items) c.args.limit (omega (arith, c.in-Some.bytes.now.ok.0)))

pub returns-clause-leaves : goal.returns-clause-leaves
returns-clause-leaves c =
    let told : told_of (files_of c.args.files.now) c.args.name.now ≡ holds c.in-Some.bytes.now.items = told_of-files_of c.args.files.now c.args.name.now ∙ ap told_by (sym c.in-Some.ensures.value) in
    let got : c.extend_from_slice-2.new.self.items ≡ take (c.args.limit + 1) c.in-Some.bytes.now.items = search rules in
    rw told (omega (arith, c.in-Some.bytes.now.ok.0, simp length-take at (ap length got)), got)

pub returns-clause-answer : goal.returns-clause-answer
returns-clause-answer c =
    let told : told_of (files_of c.args.files.now) c.args.name.now ≡ holds c.in-Some.bytes.now.items = told_of-files_of c.args.files.now c.args.name.now ∙ ap told_by (sym c.in-Some.ensures.value) in
    rw (c.if-is_due.false, told, lt-leb (length c.in-Some.bytes.now.items) c.args.limit (omega (arith, c.in-Some.bytes.now.ok.0)))
