-- The order of records, and when their data are the same.
use Rattle.std.proofs.Common.{◌≡◌, ◌↔◌, ℕ, Bool, true, List, refl, sym, ap, ◌∙◌, true≢false, nat_eq}
use Rattle.std.proofs.lemmas.Cmp.{nat_cmp_total, nat_list_cmp_total, on_total, then_total, tied_itself}
use Rattle.std.proofs.lemmas.Map.Lookups.{exact_bytes, exact_unsigned}
use Rattle.std.specs.Cmp.{IsTotalOrder, unsigned_ties}
use Rattle.std.specs.Cmp.Lexicographic.{lists_ties, pointwise}
use Rattle.std.specs.Ordering.{is_eq, is_gt, is_lt, nat_cmp, ordering_then}
use Rattle.std.specs.declared.cmp.Ordering.{Ordering}
use Rattle.std.specs.declared.cmp.Ordering.TheVariants.{Less, Equal, Greater}
use Rattle.dn_rdata.specs.declared.record.Record.{Record}
use Rattle.dn_rdata.specs.Record.{bytes_cmp, data_order, folded}
use Rattle.dn_rdata.specs.Rows.{field_order, row_order}

then_equal : (first second : Ordering) → first ≡ Equal → second ≡ Equal → ordering_then first second ≡ Equal
then_equal first second e h = rw e h

pub self_equal : (row : Record) → data_order row row ≡ Equal
self_equal row =
    then_equal (nat_cmp row.rtype row.rtype) (bytes_cmp (folded row.rtype row.rdata) (folded row.rtype row.rdata))
    (tied_itself nat_cmp_total row.rtype)
    (tied_itself nat_list_cmp_total (folded row.rtype row.rdata))

-- ---- the same data

is_equal : (order : Ordering) → is_eq order ≡ true → order ≡ Equal
is_equal Less is = absurd (true≢false (sym is))
is_equal Equal is = refl
is_equal Greater is = absurd (true≢false (sym is))

module _ (left right : List ℕ) (order : Ordering) (result : Bool) (tested : result ≡ is_eq order) (compared : order ≡ bytes_cmp left right) where
  pub same_tested : result ≡ pointwise nat_eq left right
  same_tested = tested ∙ ap is_eq compared ∙ sym (lists_ties nat_cmp unsigned_ties left right)

  pub same_means : (result ≡ true) ↔ (left ≡ right)
  same_means = (
    λ yes. exact_bytes left right (sym compared ∙ is_equal order (sym tested ∙ yes)),
    λ same. tested ∙ ap is_eq (compared ∙ ap (bytes_cmp left) (sym same) ∙ tied_itself nat_list_cmp_total left),
  )

-- ---- the order of whole records

data_total : IsTotalOrder data_order
data_total = then_total (on_total (λ row. row.rtype) nat_cmp_total) (on_total (λ row. folded row.rtype row.rdata) nat_list_cmp_total)

field_total : IsTotalOrder field_order
field_total =
    then_total (on_total (λ row. row.rank) nat_cmp_total)
    (then_total (on_total (λ row. row.flags) nat_cmp_total)
    (then_total (on_total (λ row. row.serial) nat_cmp_total)
    (then_total (on_total (λ row. row.ttl) nat_cmp_total)
    (then_total (on_total (λ row. row.reserved) nat_cmp_total) (on_total (λ row. row.hour) nat_cmp_total)))))

pub row_total : IsTotalOrder row_order
row_total = then_total data_total (then_total field_total (on_total (λ row. row.rdata) nat_list_cmp_total))

both_equal : (first second : Ordering) → ordering_then first second ≡ Equal → (first ≡ Equal) × (second ≡ Equal)
both_equal Less second tie = absurd (true≢false (ap is_lt tie))
both_equal Equal second tie = (refl, tie)
both_equal Greater second tie = absurd (true≢false (ap is_gt tie))

-- records that the order doesn't tell apart are one record
pub row_exact : (left right : Record) → row_order left right ≡ Equal → left ≡ right
row_exact left right tie =
    let outer = both_equal (data_order left right) _ tie in
    let kind = both_equal (nat_cmp left.rtype right.rtype) _ outer.0 in
    let inner = both_equal (field_order left right) (bytes_cmp left.rdata right.rdata) outer.1 in
    let ranks = both_equal (nat_cmp left.rank right.rank) _ inner.0 in
    let marks = both_equal (nat_cmp left.flags right.flags) _ ranks.1 in
    let writes = both_equal (nat_cmp left.serial right.serial) _ marks.1 in
    let lives = both_equal (nat_cmp left.ttl right.ttl) _ writes.1 in
    let times = both_equal (nat_cmp left.reserved right.reserved) (nat_cmp left.hour right.hour) lives.1 in
    let rtype = exact_unsigned left.rtype right.rtype kind.0 in
    let rank = exact_unsigned left.rank right.rank ranks.0 in
    let flags = exact_unsigned left.flags right.flags marks.0 in
    let serial = exact_unsigned left.serial right.serial writes.0 in
    let ttl = exact_unsigned left.ttl right.ttl lives.0 in
    let reserved = exact_unsigned left.reserved right.reserved times.0 in
    let hour = exact_unsigned left.hour right.hour times.1 in
    let rdata = exact_bytes left.rdata right.rdata inner.1 in
    λ i. record { rtype = rtype i; rank = rank i; flags = flags i; serial = serial i; ttl = ttl i; reserved = reserved i; hour = hour i; rdata = rdata i }

pub row_stays : (row : Record) → row_order row row ≡ Equal
row_stays row = tied_itself row_total row
