use Rattle.std.proofs.Common.{sym, ◌∙◌, ap, Some}
use Rattle.dn_name.proofs.LabelWalkLemmas.{behind, whole, read_again}
use Rattle.dn_name.proofs.name.Name.parent.Goals as goal

pub from_wire-requires : goal.from_wire-requires
from_wire-requires c =
    let left = behind c.args.self.now _ _ c.wire.ensures.name (c.in_ok-rest.ensures.name c.args.self.now c.wire.ensures.name.0 c.wire.ensures.wire) in
    whole left.labels left.is _ left.wire

pub returns : goal.returns
returns c =
    let left = behind c.args.self.now _ _ c.wire.ensures.name (c.in_ok-rest.ensures.name c.args.self.now c.wire.ensures.name.0 c.wire.ensures.wire) in
    ap Some (c.from_wire.ensures ∙ read_again left.labels left.is _ left.wire) ∙ sym left.parent
