use Rattle.std.proofs.Common.{rules, ◌≡◌, ap, sym, subst, ◌∙◌}
use Rattle.std.specs.Arc.{arc_value}
use Rattle.ct_book.specs.Benches.{desk_place}
use Rattle.ct_version.specs.Editions.{Edition}
use Rattle.ct_host.specs.Hosts.{OwnDeskSeen}
use Rattle.ct_serve.specs.Served.{IsTold}
use Rattle.ct_serve.proofs.PartFacts.{told_from, pass_back}
use Rattle.ct_serve.proofs.running.told.Goals as goal

pub returns-clause-own : goal.returns-clause-own
returns-clause-own g c =
    pass_back c.args.shared.now.host.now c.new-desk.result c.in_ok-session.session.desk c.run_script.new.self.desk c.close-desk.result.0 c.into_pass.result
    (ap (λ (d : OwnDeskSeen). d.host) c.new-desk.ensures) (c.in_ok-session.ensures.desk ∙ c.desk.view_is) c.run_script.ensures.home c.close-desk.ensures.desk c.into_pass.ensures.own

pub returns-clause-end : goal.returns-clause-end
returns-clause-end g c =
    let cloned : arc_value c.in_ok-try_clone.field-0 ≡ arc_value c.args.first.now = search rules in
    let told : IsTold (desk_place c.args.shared.now.host.now.place) c.args.shared.now.options.walks (arc_value c.args.first.now).number c.args.requests.now c.in_ok-lines.lines.items =
    told_from (desk_place c.args.shared.now.host.now.place) (desk_place ((c.in_ok-session.session.desk).host).place) c.args.shared.now.options.walks _ _ _ _ _ _ _ _
    (ap (λ (d : OwnDeskSeen). desk_place (d.host).place) (c.in_ok-session.ensures.desk ∙ c.desk.view_is ∙ c.new-desk.ensures))
    (ap (λ (v : Edition). v.number) (c.in_ok-session.ensures.pinned ∙ cloned))
    c.in_ok-lines.ensures.shown in
    subst (λ ls. IsTold (desk_place c.args.shared.now.host.now.place) c.args.shared.now.options.walks (arc_value c.args.first.now).number c.args.requests.now ls) (sym c.from_vec.ensures) told
