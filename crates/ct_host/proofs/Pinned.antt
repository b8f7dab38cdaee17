-- A pass after its one take of the cell.
use Rattle.std.proofs.Common.{◌≡◌, ℕ, ◌*◌, ◌/◌, None, Some, sym, ap, ◌∙◌, arith}
use Rattle.turn_cell.specs.Sight.{CellSight, after_take}
use Rattle.count_lock.specs.Sight.{LockSight}
use Rattle.ct_vectors.specs.Words.{latest}
use Rattle.ct_book.specs.Books.{BookSeen}
use Rattle.ct_host.specs.Values.{PlacedVersion}
use Rattle.ct_host.specs.Hosts.{PassSeen, pass_in, after_pin}
use Rattle.ct_vectors.proofs.Words.{latest_snoc}

pub word_found : (cell after : CellSight PlacedVersion) (word : ℕ) → after ≡ after_take cell word → latest after.words ≡ word
word_found cell after word is = ap (λ (c : CellSight PlacedVersion). latest c.words) is ∙ latest_snoc cell.words word

pub pass_after : (cell after : CellSight PlacedVersion) (lock : LockSight BookSeen) (pass : PassSeen) (word : ℕ) → pass_in cell lock ≡ pass → after ≡ after_take cell word → pass_in after lock ≡ after_pin pass (latest after.words)
pass_after cell after lock pass word view is =
    ap (λ (c : CellSight PlacedVersion). pass_in c lock) is ∙ (λ i. after_pin (view i) (sym (word_found cell after word is) i))

-- the turn was won with the number n, and given back
pub gave_back : (cell mid after : CellSight PlacedVersion) (n : ℕ) → cell.held ≡ None → mid ≡ record (after_take cell (2 * n)) { held = Some n } → after ≡ record mid { seen = n; held = None } → after ≡ after_take cell (2 * n)
gave_back cell mid after n idle won given =
    given ∙ (ap (λ (c : CellSight PlacedVersion). record c { seen = n; held = None }) won ∙
    (λ i. record (after_take cell (2 * n)) { seen = (let e : n ≡ 2 * n / 2 = omega arith in e) i; held = sym idle i }))
