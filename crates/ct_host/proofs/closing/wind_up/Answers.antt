use Rattle.std.proofs.Common.{◌≡◌, ◌<◌, All, List, length, sym, ap, subst, ◌∙◌}
use Rattle.count_lock.specs.Pairs.{Agree, HasEach}
use Rattle.ct_completion.specs.declared.journals.Entry.{Entry}
use Rattle.ct_completion.specs.Journal.{entries_of, AreSerials, Replays}
use Rattle.ct_book.specs.Books.{BookSeen, counts_of}
use Rattle.ct_book.specs.Benches.{BenchPlace}
use Rattle.ct_host.specs.Values.{bench_place}
use Rattle.ct_host.specs.Hosts.{HostKey, HostSeen, PassSeen}
use Rattle.ct_host.specs.Closing.{pairs_of}
use Rattle.ct_host.proofs.Joining.{are_of_lock, has_each, counted}
use Rattle.ct_host.proofs.closing.wind_up.Goals as goal

pub joined-pass-requires-clause-own : goal.joined-pass-requires-clause-own
joined-pass-requires-clause-own c =
    let key : c.args.host.key ≡ _ = ap (λ (h : HostSeen). h.key) (sym c.host.view_is) in
    are_of_lock c.host.inside.lock c.args.host.key 0 c.args.passes.items (ap (λ (k : HostKey). k.lock) key) (ap (λ (k : HostKey). k.book) key) c.requires.all.numbered

pub close-requires-clause-every_pair : goal.close-requires-clause-every_pair
close-requires-clause-every_pair c =
    let long : length c.args.passes.items ≡ c.host.inside.lock.passes = c.requires.all.all ∙ (ap (λ (h : HostSeen). (h.place).passes) (sym c.host.view_is) ∙ sym c.host.invariant.passes) in
    subst (HasEach c.host.inside.lock.passes) (sym c.joined-pass.ensures.pairs) (has_each c.args.host.key c.args.passes.items c.host.inside.lock.passes c.requires.all.numbered long)

pub returns : goal.returns
returns c =
    let ps = c.args.passes.items in
    let b = c.into_book.result in
    let journal : c.from_vec.result ≡ b.journal = c.from_vec.ensures ∙ c.into_journal-journal.ensures.entries in
    let agree : Agree (counts_of b) (pairs_of ps) = subst (Agree (counts_of b)) c.joined-pass.ensures.pairs (subst (λ (x : BookSeen). Agree (counts_of x) c.joined-pass.result.0.pairs) (sym c.into_book.ensures) c.close.ensures.counts) in
    let long : length ps ≡ b.passes =
    c.requires.all.all ∙ (ap (λ (h : HostSeen). (h.place).passes) (sym c.host.view_is) ∙ (ap (λ (p : BenchPlace). p.passes) (sym c.close.ensures.name) ∙ ap (λ (x : BookSeen). x.passes) (sym c.into_book.ensures))) in
    let place : bench_place b ≡ (c.args.host).place = ap bench_place c.into_book.ensures ∙ (c.close.ensures.name ∙ ap (λ (h : HostSeen). h.place) c.host.view_is) in
    let replay = c.into_journal-journal.ensures.replay in
    record {
      closed =
          record {
            steps = c.from_vec-2.ensures ∙ c.joined-pass.ensures.steps;
            counts = subst (λ j. All (λ (p : PassSeen). entries_of p.number j ≡ p.steps) ps) (sym journal) (counted b c.args.host.key ps agree c.requires.all.numbered long);
            serials = subst AreSerials (sym journal) c.into_journal-journal.ensures.serials;
          };
      journal =
          record {
            passes =
                subst (λ (p : BenchPlace). All (λ (e : Entry). e.pass < p.passes) c.from_vec.result) place
                (subst (λ (j : List Entry). All (λ (e : Entry). e.pass < b.passes) j) (sym journal) c.into_journal-journal.ensures.passes);
            state = replay.replayed;
            replays =
                subst (λ (p : BenchPlace). Replays p.instance p.limit c.from_vec.result replay.replayed) place
                (subst (λ (j : List Entry). Replays b.instance b.limit j replay.replayed) (sym journal) replay.replays);
          };
    }
