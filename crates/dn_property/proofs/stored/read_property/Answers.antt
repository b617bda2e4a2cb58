use Rattle.std.proofs.Common.{sym, subst}
use Rattle.dn_property.specs.declared.property.Property.{Property}
use Rattle.dn_property.specs.Reading.{IsFound}
use Rattle.dn_property.proofs.OnceLemmas.{property_found}
use Rattle.dn_property.proofs.stored.read_property.Goals as goal

pub returns : goal.returns
returns c =
    record {
      exact = subst (λ (property : Property). IsFound c.args.bytes.now property) (sym c.in_ok-joined.ensures)
          (property_found c.args.bytes.now c.in_ok-head.head c.in_ok-head.content.now c.in_ok-head.tail.now c.in_ok-head.ensures.parts);
    }
