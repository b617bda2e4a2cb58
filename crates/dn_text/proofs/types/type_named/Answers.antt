use Rattle.std.proofs.Common.{rules, ap, sym, ◌∙◌, None, Some}
use Rattle.std.specs.Option.{option_map_or}
use Rattle.dn_text.proofs.TableLemmas.{number_of_row, mapped}
use Rattle.dn_text.proofs.types.type_named.Goals as goal

pub returns : goal.returns
returns c =
    mapped c.with_name.result c.map.result (λ row. row.number) _ (λ row given is. search rules) c.map.ensures.cases
    ∙ ap (λ found. option_map_or (λ row. Some row.number) found None) c.with_name.ensures
    ∙ sym (number_of_row c.known_types.result.now c.args.word.now c.known_types.ensures)
