-- The passes of a host that is opened.
use Rattle.std.proofs.Common.{ℕ, ◌≡◌, List, length, map, All, refl, sym, ap, subst, ◌∙◌}
use Rattle.std.proofs.lemmas.List.{length-map}
use Rattle.std.proofs.lemmas.List.Elements.{All-map}
use Rattle.ct_instance.specs.Made.{indices}
use Rattle.ct_instance.proofs.Entries.{length-indices}
use Rattle.ct_completion.specs.declared.journals.Entry.{Entry}
use Rattle.ct_host.specs.Hosts.{HostSeen, PassSeen, IsOfHost, opened_pass}

-- they are its own, whatever version and journal it begins with
pub opened_are : (host : HostSeen) (number : ℕ) (journal : List Entry) (n : ℕ) (passes : List PassSeen) → passes ≡ map (opened_pass host.key number journal) (indices n) →
    All (IsOfHost host) passes × (length passes ≡ n)
opened_are host number journal n passes are = (
  subst (All (IsOfHost host)) (sym are) (All-map (IsOfHost host) (opened_pass host.key number journal) (indices n) (λ k d inside. refl)),
  ap length are ∙ length-map (indices n) (opened_pass host.key number journal) ∙ length-indices n,
)
