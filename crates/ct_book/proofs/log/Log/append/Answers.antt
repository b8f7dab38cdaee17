use Rattle.std.proofs.Common.{◌≡◌, ◌≤◌, ◌<◌, ◌+◌, ℕ, List, length, get_or, set, subst, sym, ap, ◌∙◌, arith, refl, length-set}
use Rattle.std.proofs.lemmas.List.{get_or_default, length_push}
use Rattle.ct_completion.specs.declared.journals.Entry.{Entry}
use Rattle.ct_book.specs.Logs.{LogSeen, IsLog}
use Rattle.ct_book.proofs.Logs.{count-le, log_grows}
use Rattle.ct_book.proofs.log.Log.append.Goals as goal

pub overflow_add-serial : goal.overflow_add-serial
overflow_add-serial c =
    let within : c.args.by < length c.self.inside.counts.items = subst (λ (l : LogSeen). c.args.by < l.passes) (sym c.self.view_is) c.requires.pass in
    let room : length c.self.inside.entries.items < c.self.inside.entries.cap = subst (λ (l : LogSeen). length l.entries < l.room) (sym c.self.view_is) c.requires.room in
    let most : get_or c.self.inside.counts.items c.args.by 0 ≤ length c.self.inside.entries.items = count-le c.self.inside.entries.items c.self.inside.counts.items c.self.invariant.0 c.args.by within in
    let same : c.index-serial.result.now ≡ get_or c.self.inside.counts.items c.args.by 0 =
    c.index-serial.ensures ∙ get_or_default c.self.inside.counts.items c.args.by c.index-serial.result.now 0 within in
    omega (arith, c.self.inside.entries.small)

pub invariant_of-self : goal.invariant_of-self
invariant_of-self c =
    let within : c.args.by < length c.self.inside.counts.items = subst (λ (l : LogSeen). c.args.by < l.passes) (sym c.self.view_is) c.requires.pass in
    let same : c.index-serial.result.now ≡ get_or c.self.inside.counts.items c.args.by 0 =
    c.index-serial.ensures ∙ get_or_default c.self.inside.counts.items c.args.by c.index-serial.result.now 0 within in
    let grown = log_grows c.self.inside.entries.items c.self.inside.counts.items c.self.invariant.0 c.args.by c.index-serial.result.now (c.index-serial.result.now + 1) c.args.act within same refl in (
      subst (λ (es : List Entry). IsLog es (set c.self.inside.counts.items c.args.by (c.index-serial.result.now + 1))) (sym c.push_reserved.ensures.items) grown,
      c.push_reserved.ensures.len ∙ ap (λ (n : ℕ). n + 1) c.self.invariant.1 ∙ sym (length_push c.self.inside.entries.items _) ∙ ap length (sym c.push_reserved.ensures.items),
      c.self.invariant.2 ∙ sym (length-set c.self.inside.counts.items c.args.by (c.index-serial.result.now + 1)),
    )
