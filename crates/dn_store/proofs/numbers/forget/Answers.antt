use Rattle.std.proofs.Common.{true, false, ◌≡◌, refl}
use Rattle.std.proofs.lemmas.Result.{IfOk-weaker}
use Rattle.std.specs.List.{remove}
use Rattle.dn_pages.specs.Pages.{items, rank}
use Rattle.dn_store.specs.Numbers.{without}
use Rattle.dn_store.proofs.NumberingLemmas.{taken_out}
use Rattle.dn_store.proofs.numbers.forget.Goals as goal

pub returns-then-is_numbered : goal.returns-then-is_numbered
returns-then-is_numbered c =
    IfOk-weaker c.remove.result (λ rest. items rest ≡ remove (items c.args.changes) (rank c.args.changes c.place_of-place.result)) (λ rest. items rest ≡ without c.args.usn (items c.args.changes))
    (λ rest. taken_out c.args.usn (items c.args.changes) (items rest) (rank c.args.changes c.place_of-place.result) _ c.is_numbered.result true c.requires c.place_of-place.ensures.cut c.item_at.ensures c.is_numbered.ensures c.if-is_numbered.true)
    c.remove.ensures

pub returns-else-is_numbered : goal.returns-else-is_numbered
returns-else-is_numbered c =
    taken_out c.args.usn (items c.args.changes) (items c.args.changes) (rank c.args.changes c.place_of-place.result) _ c.is_numbered.result false c.requires c.place_of-place.ensures.cut c.item_at.ensures c.is_numbered.ensures c.if-is_numbered.false refl
