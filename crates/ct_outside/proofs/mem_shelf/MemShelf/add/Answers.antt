use Rattle.std.proofs.Common.{◌≡◌, ap, sym, ◌∙◌, string_bytes}
use Rattle.std.specs.BTreeMap.{get_by_text}
use Rattle.std.proofs.lemmas.Map.Text.{btree_map_updates_text}
use Rattle.std.proofs.lemmas.Result.{IfOk-at_ok}
use Rattle.ct_outside.specs.Shelf.{holds}
use Rattle.ct_outside.proofs.FilesTold.{told_by, told_of-files_of, update_same, update_other}
use Rattle.ct_outside.proofs.mem_shelf.MemShelf.add.Goals as goal

pub returns-clause-holds : goal.returns-clause-holds
returns-clause-holds c =
    let key_is_name = IfOk-at_ok (λ s. string_bytes s ≡ c.args.name.now) c.in_ok-name.was c.from_str.ensures.ok in
    let sets = rw key_is_name at (btree_map_updates_text (string_bytes c.in_ok-name.name) c.self.inside.files c.insert.new.self _ c.in_ok-insert.ensures.updates) in
    told_of-files_of c.insert.new.self c.args.name.now ∙ ap told_by (sets c.args.name.now ∙ update_same (get_by_text c.self.inside.files) c.args.name.now _) ∙ ap holds c.in_ok-bytes.ensures.items

pub returns-clause-others : goal.returns-clause-others
returns-clause-others c = λ other differs.
    let key_is_name = IfOk-at_ok (λ s. string_bytes s ≡ c.args.name.now) c.in_ok-name.was c.from_str.ensures.ok in
    let sets = rw key_is_name at (btree_map_updates_text (string_bytes c.in_ok-name.name) c.self.inside.files c.insert.new.self _ c.in_ok-insert.ensures.updates) in
    rw (← c.self.view_is) (told_of-files_of c.insert.new.self other ∙ ap told_by (sets other ∙ update_other (get_by_text c.self.inside.files) c.args.name.now other _ differs) ∙ sym (told_of-files_of c.self.inside.files other))
