-- A text has as many words as there are fields, or no data.
use Rattle.std.proofs.Common.{◌≡◌, ℕ, ◌<◌, List, [], ◌∷◌, length, Option, None, sym, arith}
use Rattle.dn_text.specs.Fields.{fields_from}
use Rattle.dn_text.specs.declared.table.Field.{Field}

-- without a field for a word there are no data
pub no_field : (done : List ℕ) (left : List Field) (words : List (List ℕ)) (whole : Option (List ℕ)) → length left ≡ 0 → 0 < length words → fields_from done left words ≡ whole → whole ≡ None
unfolding fields_from
no_field done [] [] whole none some is = absurd (omega arith)
no_field done [] (word ∷ words) whole none some is = sym is
no_field done (field ∷ left) words whole none some is = absurd (omega arith)

-- without a word for a field there are no data
pub no_word : (done : List ℕ) (left : List Field) (words : List (List ℕ)) (whole : Option (List ℕ)) → 0 < length left → length words ≡ 0 → fields_from done left words ≡ whole → whole ≡ None
unfolding fields_from
no_word done [] words whole some none is = absurd (omega arith)
no_word done (field ∷ left) [] whole some none is = sym is
no_word done (field ∷ left) (word ∷ words) whole some none is = absurd (omega arith)
