use Rattle.std.proofs.Common.{◌∷◌, ◌++◌, ◌∙◌, [], ap, sym}
use Rattle.std.specs.Prelude.{is_some, option_map, slice_get}
use Rattle.dn_pages.specs.Pages.{items, rank}
use Rattle.dn_store.specs.declared.unit.Unit as units
use Rattle.dn_store.specs.Numbers.{without_at}
use Rattle.dn_store.specs.Places.{picked, place_among}
use Rattle.dn_store.specs.Table.{placed}
use Rattle.dn_store.proofs.NumberingLemmas.{kept_placed, rising_kept}
use Rattle.dn_store.proofs.PlaceLemmas.{found_at, place_of_cut, some_number}
use Rattle.dn_store.proofs.writing.take_unit.Goals as goal

pub renumber-requires : goal.renumber-requires
renumber-requires c = rising_kept (items c.args.drafts.units) (items c.args.drafts.changes) c.args.top c.requires.kept

pub put_at-requires-clause-at : goal.put_at-requires-clause-at
put_at-requires-clause-at c =
    place_of_cut c.args.unit.key (items c.args.drafts.units) (rank c.args.drafts.units c.place_of-place.result) c.requires.kept.ordered c.place_of-place.ensures.cut
    ∙ ap (λ (one : units.Unit). place_among one.key (items c.args.drafts.units)) (sym c.in_ok-held.ensures)

pub put_at-requires-clause-there : goal.put_at-requires-clause-there
put_at-requires-clause-there c =
    c.is_some.ensures ∙ ap is_some c.number_with-old.ensures ∙ some_number (picked c.args.unit.key _) ∙ ap (λ found. is_some (picked c.args.unit.key found)) c.item_at.ensures
    ∙ ap (λ (one : units.Unit). is_some (picked one.key (slice_get (items c.args.drafts.units) (rank c.args.drafts.units c.place_of-place.result)))) (sym c.in_ok-held.ensures)

pub returns-clause-placed : goal.returns-clause-placed
returns-clause-placed c = c.in_ok-units.ensures ∙ ap (λ (one : units.Unit). placed one (items c.args.drafts.units)) c.in_ok-held.ensures

pub returns-clause-kept : goal.returns-clause-kept
returns-clause-kept c =
    kept_placed c.args.unit (items c.args.drafts.units) (items c.in_ok-units.units) (items c.args.drafts.changes) (items c.in_ok-changes.changes) c.args.top c.requires.next
    (c.in_ok-units.ensures ∙ ap (λ (one : units.Unit). placed one (items c.args.drafts.units)) c.in_ok-held.ensures)
    (c.in_ok-changes.ensures ∙ ap (λ (one : units.Unit). without_at c.number_with-old.result (items c.args.drafts.changes) ++ one ∷ []) (c.in_ok-again.ensures ∙ c.in_ok-held.ensures)
    ∙ ap (λ old. without_at old (items c.args.drafts.changes) ++ c.args.unit ∷ [])
    (c.number_with-old.ensures ∙ ap (λ found. option_map (λ (unit : units.Unit). unit.usn) (picked c.args.unit.key found)) c.item_at.ensures
    ∙ ap (option_map (λ (unit : units.Unit). unit.usn))
    (found_at c.args.unit.key (items c.args.drafts.units) (rank c.args.drafts.units c.place_of-place.result) c.requires.kept.ordered c.place_of-place.ensures.cut)))
    c.requires.kept
