use Rattle.std.proofs.Common.{rules, ap, sym, ◌∙◌, None, Some}
use Rattle.std.specs.Option.{option_map_or}
use Rattle.dn_text.proofs.TableLemmas.{id_of_row, mapped}
use Rattle.dn_text.proofs.property_table.id_named.Goals as goal

pub returns : goal.returns
returns c =
    mapped c.with_name.result c.map.result (λ row. row.id) _ (λ row given is. search rules) c.map.ensures.cases
    ∙ ap (λ found. option_map_or (λ row. Some row.id) found None) c.with_name.ensures
    ∙ sym (id_of_row c.known_properties.result.now c.args.word.now c.known_properties.ensures)
