-- A record in its place: the rows before it, the record, the rows behind it.
use Rattle.std.proofs.Common.{◌≡◌, ℕ, suc, ◌+◌, ◌≤◌, Bool, true, false, cond, not, ltb, length, Option, None, Some, arith, append_assoc, List, [], ◌∷◌, ◌++◌, take, drop, refl, ap, ◌∙◌}
use Rattle.std.proofs.lemmas.Bool.{ltb-false}
use Rattle.std.proofs.lemmas.List.Sums.{prefix_len-le-length}
use Rattle.std.specs.List.{position_or_len}
use Rattle.std.specs.Option.{unwrap_or}
use Rattle.std.specs.Ordering.{is_eq, is_gt, match_ordering}
use Rattle.std.specs.declared.cmp.Ordering.{Ordering}
use Rattle.std.specs.declared.cmp.Ordering.TheVariants.{Less, Equal, Greater}
use Rattle.dn_rdata.specs.declared.record.Record.{Record}
use Rattle.dn_rdata.specs.Record.{data_order}
use Rattle.dn_update.specs.Node.{placed_row}
use Rattle.dn_update.specs.Node.Places.{behind_place, place_of}

step : (order : Ordering) (row next : Record) (rows rest : List Record) (n : ℕ) → data_order row next ≡ order → take n rows ++ row ∷ behind_place row (drop n rows) ≡ rest → take (cond (not (not (is_gt order))) (1 + n) 0) (next ∷ rows) ++ row ∷ behind_place row (drop (cond (not (not (is_gt order))) (1 + n) 0) (next ∷ rows)) ≡ match_ordering order (row ∷ next ∷ rows) (row ∷ rows) (next ∷ rest)
step Less row next rows rest n e h = ap (λ order. row ∷ cond (is_eq order) rows (next ∷ rows)) e
step Equal row next rows rest n e h = ap (λ order. row ∷ cond (is_eq order) rows (next ∷ rows)) e
step Greater row next rows rest n e h =
    let one_more : 1 + n ≡ suc n = omega arith in
    ap (λ at. take at (next ∷ rows) ++ row ∷ behind_place row (drop at (next ∷ rows))) one_more ∙ ap (λ list. next ∷ list) h

pub placed_is : (row : Record) (rows : List Record) → take (place_of row rows) rows ++ row ∷ behind_place row (drop (place_of row rows) rows) ≡ placed_row row rows
unfolding placed_row
placed_is row [] = refl
placed_is row (next ∷ rows) =
    step (data_order row next) row next rows (placed_row row rows) (place_of row rows) refl (placed_is row rows)

pub placed_parts : (row : Record) (rows before rest behind empty first second third : List Record) (at : ℕ) → at ≡ place_of row rows → before ≡ take at rows → rest ≡ drop at rows → behind ≡ behind_place row rest → empty ≡ [] → first ≡ empty ++ before → second ≡ first ++ row ∷ [] → third ≡ second ++ behind → third ≡ placed_row row rows
placed_parts row rows before rest behind empty first second third at place front back left none one two three =
    three
    ∙ ap (λ list. list ++ behind) (two ∙ ap (λ list. list ++ row ∷ []) (one ∙ ap (λ list. list ++ before) none ∙ front))
    ∙ append_assoc (take at rows) (row ∷ []) behind
    ∙ ap (λ list. take at rows ++ row ∷ list) (left ∙ ap (behind_place row) back)
    ∙ ap (λ n. take n rows ++ row ∷ behind_place row (drop n rows)) place
    ∙ placed_is row rows

or_all : (b : Bool) (n all : ℕ) → (b ≡ false → all ≡ n) → unwrap_or (cond b (Some n) None) all ≡ n
or_all true n all f = refl
or_all false n all f = f refl

-- the first place, or the end
pub first_or_end : (test : Record → Bool) (rows : List Record) (found : Option ℕ) → found ≡ cond (ltb (position_or_len test rows) (length rows)) (Some (position_or_len test rows)) None → unwrap_or found (length rows) ≡ position_or_len test rows
first_or_end test rows found e =
    let n = position_or_len test rows in
    let least : n ≤ length rows = prefix_len-le-length (λ it. not (test it)) rows in
    ap (λ answer. unwrap_or answer (length rows)) e
    ∙ or_all (ltb n (length rows)) n (length rows) (λ past. let most = ltb-false n (length rows) past in omega arith)
