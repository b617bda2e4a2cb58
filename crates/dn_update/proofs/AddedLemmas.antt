-- What a record that is added makes of the records of a node, case by case.
use Rattle.std.proofs.Common.{◌≡◌, Bool, true, false, cond, not, ◌&&◌, List, [], ◌∷◌, None, Some, refl, sym, ap, subst, ◌∙◌}
use Rattle.std.proofs.lemmas.Bool.{and_parts}
use Rattle.std.specs.List.{list_any}
use Rattle.dn_rdata.specs.declared.record.Record.{Record}
use Rattle.dn_update.specs.Node.{bars, has_data_of, is_alias, is_same_set, is_there_as, placed_row, with_added, without_aliases}
use Rattle.dn_update.specs.Node.Added.{AddsRow}
use Rattle.dn_update.proofs.RecordSetLemmas.{alone_differs, no_others, placed_differs, same_set_self}

abbrev pub has_other_data : Record → List Record → Bool
has_other_data row rows = list_any (λ other. not (has_data_of row other)) rows

same_rows : (row : Record) (rows : List Record) → with_added row rows ≡ rows → AddsRow None row rows
same_rows row rows e = ap (is_same_set rows) e ∙ same_set_self rows

first_case : (a b c : Bool) (w x y z : List Record) → a ≡ true → cond a w (cond b x (cond c y z)) ≡ w
first_case true b c w x y z e = refl
first_case false b c w x y z e = cc

second_case : (a b c : Bool) (w x y z : List Record) → a ≡ false → b ≡ true → cond a w (cond b x (cond c y z)) ≡ x
second_case false true c w x y z e h = refl
second_case false false c w x y z e h = cc
second_case true b c w x y z e h = cc

last_cases : (a b c : Bool) (w x y z : List Record) → a ≡ false → b ≡ false → cond a w (cond b x (cond c y z)) ≡ cond c y z
last_cases false false c w x y z e h = refl
last_cases false true c w x y z e h = cc
last_cases true b c w x y z e h = cc

pub adds_barred : (row : Record) (rows : List Record) → list_any (bars row) rows ≡ true → AddsRow None row rows
unfolding with_added
adds_barred row rows e =
    same_rows row rows
    (first_case (list_any (bars row) rows) (is_alias row && has_other_data row rows) (list_any (is_there_as row) rows)
    rows (placed_row row (without_aliases rows)) rows (placed_row row rows) e)

placed_alone : (row : Record) → placed_row row [] ≡ row ∷ []
unfolding placed_row
placed_alone row = refl

pub adds_alias : (row : Record) (rows after : List Record) → list_any (bars row) rows ≡ false → (is_alias row && has_other_data row rows) ≡ true → after ≡ placed_row row [] → AddsRow (Some after) row rows
unfolding with_added
adds_alias row rows after e h placed =
    let parts = and_parts (is_alias row) (has_other_data row rows) h in
    let P : List Record → Type 0 = λ list. is_same_set rows list ≡ false in (
      placed
          ∙ ap (placed_row row) (sym (no_others row rows parts.0 e))
          ∙ sym (second_case (list_any (bars row) rows) (is_alias row && has_other_data row rows) (list_any (is_there_as row) rows)
          rows (placed_row row (without_aliases rows)) rows (placed_row row rows) e h),
      subst P (sym (placed ∙ placed_alone row)) (alone_differs row rows parts.1),
    )

pub adds_there : (row : Record) (rows : List Record) → list_any (bars row) rows ≡ false → (is_alias row && has_other_data row rows) ≡ false → list_any (is_there_as row) rows ≡ true → AddsRow None row rows
unfolding with_added
adds_there row rows e h there =
    same_rows row rows
    (last_cases (list_any (bars row) rows) (is_alias row && has_other_data row rows) (list_any (is_there_as row) rows)
    rows (placed_row row (without_aliases rows)) rows (placed_row row rows) e h
    ∙ ap (λ found. cond found rows (placed_row row rows)) there)

pub adds_placed : (row : Record) (rows after : List Record) → list_any (bars row) rows ≡ false → (is_alias row && has_other_data row rows) ≡ false → list_any (is_there_as row) rows ≡ false → after ≡ placed_row row rows → AddsRow (Some after) row rows
unfolding with_added
adds_placed row rows after e h there placed =
    let P : List Record → Type 0 = λ list. is_same_set rows list ≡ false in (
      placed
          ∙ sym (last_cases (list_any (bars row) rows) (is_alias row && has_other_data row rows) (list_any (is_there_as row) rows)
          rows (placed_row row (without_aliases rows)) rows (placed_row row rows) e h
          ∙ ap (λ found. cond found rows (placed_row row rows)) there),
      subst P (sym placed) (placed_differs row rows there),
    )
