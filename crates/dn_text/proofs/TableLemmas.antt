-- What a search of the rows of a table finds is what the definition's recursion finds.
use Rattle.std.proofs.Common.{◌≡◌, ℕ, Bool, true, false, nat_eq, if◌then◌else◌, List, [], ◌∷◌, decimal, Option, None, Some, map, refl, sym, ap, ◌∙◌, Bor}
use Rattle.std.specs.Prelude.{find, option_copied, MatchOption, IsSomeAnd}
use Rattle.std.specs.Option.{option_map_or}
use Rattle.dn_word.specs.Words.{is_word}
use Rattle.dn_text.specs.PropertyTable.{Named, properties, property_name_in, id_in, id_text, id_named}
use Rattle.dn_text.specs.declared.property_table.Named.{Named as PropertyRow}
use Rattle.dn_text.specs.Shapes.{property, shape, type_entry}
use Rattle.dn_text.specs.Table.{Known, types, name_in, form_in, number_in, type_text, form_of, type_named}
use Rattle.dn_text.specs.declared.table.Known.{Known as TypeRow}

-- any recursion that takes the first entry that passes a test
module _ {Row Entry Answer : Type 0} (entry_of : Row → Entry) (test : Entry → Bool) (search_in : List Entry → Answer) (answer : Entry → Answer)
    (ends : Answer) (at_end : search_in [] ≡ ends)
    (step : (entry : Entry) (entries : List Entry) → search_in (entry ∷ entries) ≡ if test entry then answer entry else search_in entries) where
  abbrev found_of : Option Row → Answer
  found_of found = option_map_or (λ row. answer (entry_of row)) found ends

  one_more : (row : Row) (rows : List Row) (here : Bool) → test (entry_of row) ≡ here
      → search_in (map entry_of rows) ≡ found_of (find (λ row. test (entry_of row)) rows)
      → search_in (map entry_of (row ∷ rows)) ≡ found_of (find (λ row. test (entry_of row)) (row ∷ rows))
  one_more row rows true here rest = rw (step (entry_of row) (map entry_of rows), here) refl
  one_more row rows false here rest = rw (step (entry_of row) (map entry_of rows), here) rest

  searched : (rows : List Row) → search_in (map entry_of rows) ≡ found_of (find (λ row. test (entry_of row)) rows)
  searched [] = at_end
  searched (row ∷ rows) = one_more row rows (test (entry_of row)) refl (searched rows)

-- the name that the row of this id has
row_with_id : (rows : List PropertyRow) (id : ℕ) → map property rows ≡ properties
    → id_text id ≡ option_map_or (λ row. row.name.now) (find (λ row. nat_eq id row.id) rows) (decimal id)
unfolding id_text
row_with_id rows id table =
    sym (ap (λ (all : List Named). property_name_in all id) table)
    ∙ searched property (λ entry. nat_eq id entry.id) (λ all. property_name_in all id) (λ entry. entry.name) (decimal id) refl (λ entry entries. refl) rows

pub has_no_name : (rows : List PropertyRow) (id : ℕ) → map property rows ≡ properties → None ≡ find (λ row. nat_eq id row.id) rows → id_text id ≡ decimal id
has_no_name rows id table none = row_with_id rows id table ∙ ap (λ found. option_map_or (λ (row : PropertyRow). row.name.now) found (decimal id)) (sym none)

pub has_name : (rows : List PropertyRow) (id : ℕ) (row : PropertyRow) → map property rows ≡ properties → Some row ≡ find (λ row. nat_eq id row.id) rows → id_text id ≡ row.name.now
has_name rows id row table is = row_with_id rows id table ∙ ap (λ found. option_map_or (λ (row : PropertyRow). row.name.now) found (decimal id)) (sym is)

-- what `map` gives of what was found
pub mapped : {Row Answer : Type 0} (found : Option (Bor Row)) (result : Option Answer) (answer : Row → Answer) (Gives : Bor Row → Answer → Type 0)
    → ((row : Bor Row) (given : Answer) → Gives row given → given ≡ answer row.now)
    → MatchOption found (result ≡ None) (λ row. IsSomeAnd result (Gives row)) → result ≡ option_map_or (λ row. Some (answer row)) (option_copied found) None
mapped None result answer Gives gives none = none
mapped (Some row) None answer Gives gives given = absurd given
mapped (Some row) (Some answer_given) answer Gives gives given = ap Some (gives row answer_given given)

-- the id that the row of this name has
pub id_of_row : (rows : List PropertyRow) (word : List ℕ) → map property rows ≡ properties
    → id_named word ≡ option_map_or (λ row. Some row.id) (find (λ row. is_word word row.name.now) rows) None
unfolding id_named
id_of_row rows word table =
    sym (ap (λ (all : List Named). id_in all word) table)
    ∙ searched property (λ entry. is_word word entry.name) (λ all. id_in all word) (λ entry. Some entry.id) None refl (λ entry entries. refl) rows

-- the name, the form and the number that the row of a type has
type_text_of_row : (rows : List TypeRow) (rtype : ℕ) → map type_entry rows ≡ types
    → type_text rtype ≡ option_map_or (λ row. row.name.now) (find (λ row. nat_eq rtype row.number) rows) (name_in [] rtype)
unfolding type_text
type_text_of_row rows rtype table =
    sym (ap (λ (all : List Known). name_in all rtype) table)
    ∙ searched type_entry (λ entry. nat_eq rtype entry.number) (λ all. name_in all rtype) (λ entry. entry.name) (name_in [] rtype) refl (λ entry entries. refl) rows

pub type_has_no_name : (rows : List TypeRow) (rtype : ℕ) → map type_entry rows ≡ types → None ≡ find (λ row. nat_eq rtype row.number) rows → type_text rtype ≡ name_in [] rtype
type_has_no_name rows rtype table none =
    type_text_of_row rows rtype table ∙ ap (λ found. option_map_or (λ (row : TypeRow). row.name.now) found (name_in [] rtype)) (sym none)

pub type_has_name : (rows : List TypeRow) (rtype : ℕ) (row : TypeRow) → map type_entry rows ≡ types → Some row ≡ find (λ row. nat_eq rtype row.number) rows → type_text rtype ≡ row.name.now
type_has_name rows rtype row table is =
    type_text_of_row rows rtype table ∙ ap (λ found. option_map_or (λ (row : TypeRow). row.name.now) found (name_in [] rtype)) (sym is)

form_of_row : (rows : List TypeRow) (rtype : ℕ) → map type_entry rows ≡ types
    → form_of rtype ≡ option_map_or (λ row. shape row.form) (find (λ row. nat_eq rtype row.number) rows) (form_in [] rtype)
unfolding form_of
form_of_row rows rtype table =
    sym (ap (λ (all : List Known). form_in all rtype) table)
    ∙ searched type_entry (λ entry. nat_eq rtype entry.number) (λ all. form_in all rtype) (λ entry. entry.form) (form_in [] rtype) refl (λ entry entries. refl) rows

pub has_no_form : (rows : List TypeRow) (rtype : ℕ) → map type_entry rows ≡ types → None ≡ find (λ row. nat_eq rtype row.number) rows → form_of rtype ≡ form_in [] rtype
has_no_form rows rtype table none =
    form_of_row rows rtype table ∙ ap (λ found. option_map_or (λ (row : TypeRow). shape row.form) found (form_in [] rtype)) (sym none)

pub has_form : (rows : List TypeRow) (rtype : ℕ) (row : TypeRow) → map type_entry rows ≡ types → Some row ≡ find (λ row. nat_eq rtype row.number) rows → form_of rtype ≡ shape row.form
has_form rows rtype row table is =
    form_of_row rows rtype table ∙ ap (λ found. option_map_or (λ (row : TypeRow). shape row.form) found (form_in [] rtype)) (sym is)

pub number_of_row : (rows : List TypeRow) (word : List ℕ) → map type_entry rows ≡ types
    → type_named word ≡ option_map_or (λ row. Some row.number) (find (λ row. is_word word row.name.now) rows) None
unfolding type_named
number_of_row rows word table =
    sym (ap (λ (all : List Known). number_in all word) table)
    ∙ searched type_entry (λ entry. is_word word entry.name) (λ all. number_in all word) (λ entry. Some entry.number) None refl (λ entry entries. refl) rows
