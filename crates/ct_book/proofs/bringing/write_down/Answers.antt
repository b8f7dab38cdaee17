use Rattle.std.proofs.Common.{◌≡◌, ◌+◌, ◌<◌, List, length, map, take, sym, subst, ap, ◌∙◌, arith}
use Rattle.std.proofs.Math.Seq.{take-length}
use Rattle.std.proofs.lemmas.List.{length_push}
use Rattle.ct_instance.specs.declared.jobs.Job.{Job}
use Rattle.ct_completion.specs.declared.journals.Act.{Act}
use Rattle.ct_completion.specs.declared.journals.Act.TheVariants.{Stored, Published}
use Rattle.ct_book.proofs.WholeLists.{IsWritten, written_more, stored_more}
use Rattle.ct_book.proofs.bringing.write_down.Goals as goal

pub loop-place-preserved : goal.loop-place-preserved
loop-place-preserved c =
    let within : c.loop-place.place < length c.args.queue.now.jobs = omega (arith, c.len-place-end.ensures.count, c.loop-place-test.true) in
    let longer : length c.append.new.self.entries ≡ length c.loop-place.log.entries + 1 = ap (λ l. length l.entries) c.append.ensures.entries ∙ length_push c.loop-place.log.entries _ in
    record {
      written = subst (λ (acts : List Act). IsWritten c.args.log.now.entries acts c.append.new.self.entries)
          (sym (stored_more c.args.queue.now.jobs c.loop-place.place c.job.result c.job.ensures within))
          (written_more c.args.log.now.entries (map Stored (take c.loop-place.place c.args.queue.now.jobs)) c.loop-place.log.entries (Stored c.job.result) c.append.new.self.entries
          c.loop-place.invariant.written (ap (λ l. l.entries) c.append.ensures.entries));
      passes = ap (λ l. l.passes) c.append.ensures.entries ∙ c.loop-place.invariant.passes;
      room = omega (arith, longer, within, c.loop-place.invariant.room, ap (λ l. l.room) c.append.ensures.entries);
    }

pub returns-clause-entries : goal.returns-clause-entries
returns-clause-entries c =
    let whole : take c.loop-place.place c.args.queue.now.jobs ≡ c.args.queue.now.jobs =
    ap (λ n. take n c.args.queue.now.jobs) (let e : c.loop-place.place ≡ length c.args.queue.now.jobs = omega (arith, c.len-place-end.ensures.count, c.loop-place-test.false, c.loop-place.invariant.room) in e) ∙ take-length c.args.queue.now.jobs in
    written_more c.args.log.now.entries (map Stored c.args.queue.now.jobs) c.loop-place.log.entries (Published c.args.number) c.append-2.new.self.entries
    (subst (λ (js : List Job). IsWritten c.args.log.now.entries (map Stored js) c.loop-place.log.entries) whole c.loop-place.invariant.written) (ap (λ l. l.entries) c.append-2.ensures.entries)
