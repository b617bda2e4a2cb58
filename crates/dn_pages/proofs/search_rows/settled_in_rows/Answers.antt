use Rattle.std.proofs.Common.{◌≡◌, ◌∙◌, ◌+◌, [], arith, length, sym}
use Rattle.std.proofs.lemmas.List.{get_or_read}
use Rattle.dn_pages.specs.Pages.{count_before, joined, row_at, spot_of}
use Rattle.dn_pages.proofs.RowSearchLemmas.{last_row, next_row, row_ended, row_starts}
use Rattle.dn_pages.proofs.search_rows.settled_in_rows.Goals as goal

pub returns-then-place-rows-clause-same : goal.returns-then-place-rows-clause-same
returns-then-place-rows-clause-same g c =
    next_row c.args.rows.now c.args.place c.requires.within
    (row_ended c.args.rows.now c.args.place c.as_slice.result.now c.spot.result c.item_in.result c.requires.inside
    (c.as_slice.ensures ∙ get_or_read c.args.rows.now c.args.place.row c.index-rows-place.result c.requires.within c.index-rows-place.is []) c.spot.ensures c.item_in.ensures
    (sym c.is_some.ensures ∙ c.if-is_some.false))

pub returns-then-place-rows-clause-settled : goal.returns-then-place-rows-clause-settled
returns-then-place-rows-clause-settled g c less = row_starts c.args.rows.now (c.args.place.row + 1) c.requires.sized c.if-place-rows.true

pub returns-clause-settled : goal.returns-clause-settled
returns-clause-settled g c less =
    let ended : count_before (row_at c.args.rows.now c.args.place.row) (spot_of c.args.place) ≡ length (joined (row_at c.args.rows.now c.args.place.row)) =
    row_ended c.args.rows.now c.args.place c.as_slice.result.now c.spot.result c.item_in.result c.requires.inside
    (c.as_slice.ensures ∙ get_or_read c.args.rows.now c.args.place.row c.index-rows-place.result c.requires.within c.index-rows-place.is []) c.spot.ensures c.item_in.ensures
    (sym c.is_some.ensures ∙ c.if-is_some.false) in
    let whole = last_row c.args.rows.now c.args.place (omega (arith, c.requires.within, c.if-place-rows.false)) ended in
    absurd (omega (arith, whole, less))
