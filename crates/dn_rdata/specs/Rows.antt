-- When the data of two records are the same, and the order of whole records (RFC 2136 1.1.1, RFC 4343).
use Rattle.std.specs.Prelude.{◌≡◌, ℕ, Bool, List, nat_eq}
use Rattle.std.specs.Cmp.{IsTotalOrder}
use Rattle.std.specs.Cmp.Lexicographic.{pointwise}
use Rattle.std.specs.Ordering.{nat_cmp, ordering_then}
use Rattle.std.specs.declared.cmp.Ordering.{Ordering}
use Rattle.std.specs.declared.cmp.Ordering.TheVariants.{Equal}
use Rattle.dn_rdata.specs.Record.{bytes_cmp, data_order, folded}
use Rattle.dn_rdata.specs.declared.record.Record.{Record}

-- data of a type are the same: equal bytes once the names in them are in lower case
abbrev pub is_same_data : ℕ → List ℕ → List ℕ → Bool
is_same_data rtype left right = pointwise nat_eq (folded rtype left) (folded rtype right)

-- by the numbers beside type and data, in the order of the fields: rank, flags, serial, time to live, reserved field, hour
abbrev pub field_order : Record → Record → Ordering
field_order left right =
    ordering_then (nat_cmp left.rank right.rank)
    (ordering_then (nat_cmp left.flags right.flags)
    (ordering_then (nat_cmp left.serial right.serial)
    (ordering_then (nat_cmp left.ttl right.ttl)
    (ordering_then (nat_cmp left.reserved right.reserved) (nat_cmp left.hour right.hour)))))

-- by type and folded data, then by the other numbers, and at last by the bytes of the data as they are
abbrev pub row_order : Record → Record → Ordering
row_order left right = ordering_then (data_order left right) (ordering_then (field_order left right) (bytes_cmp left.rdata right.rdata))

-- The order of rows is one: it turns round with its records, what is less than what is less than a third is less than that,
-- and records of one place have the same neighbours.
abbrev pub RowsAreOrdered : Type 0
RowsAreOrdered = IsTotalOrder row_order

-- records of one place in the order are one record
abbrev pub RowsDiffer : Type 0
RowsDiffer = (left right : Record) → row_order left right ≡ Equal → left ≡ right

-- each record has the place of itself
abbrev pub RowsStay : Type 0
RowsStay = (row : Record) → row_order row row ≡ Equal
