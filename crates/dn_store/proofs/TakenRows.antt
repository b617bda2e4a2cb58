-- The records of a key after writes.
use Rattle.std.proofs.Common.{◌≡◌, ℕ, ◌+◌, Bool, true, false, if◌then◌else◌, List, [], ◌∷◌, refl, ap, ◌∙◌}
use Rattle.std.specs.List.{AllByRecursion}
use Rattle.std.specs.Ordering.{is_eq}
use Rattle.dn_rdata.specs.declared.record.Record.{Record}
use Rattle.dn_store.specs.declared.unit.Unit as units
use Rattle.dn_store.specs.declared.unit.UnitKey.{UnitKey}
use Rattle.dn_store.specs.declared.unit.Write.{Write}
use Rattle.dn_store.specs.Contents.{rows_at, rows_in, rows_of_unit}
use Rattle.dn_store.specs.Table.{numbered, placed, units_after}
use Rattle.dn_store.specs.Value.{key_order}
use Rattle.dn_store.proofs.FoundLemmas.{other_placed, put_found}

-- the write, if it has the key, brings these records
abbrev pub Brings : UnitKey → List Record → Write → Type 0
Brings key rows write = is_eq (key_order write.key key) ≡ true → rows_in write.value ≡ rows

-- the records are those that a write brings, or those from before
abbrev IsEither : List Record → List Record → List Record → Type 0
IsEither new old now = (taken : Bool) × (now ≡ (if taken then new else old))

rows_placed : (key : UnitKey) (rows : List Record) (unit : units.Unit) (list : List units.Unit) (b : Bool) → is_eq (key_order unit.key key) ≡ b
    → (is_eq (key_order unit.key key) ≡ true → rows_in unit.value ≡ rows) → IsEither rows (rows_at key list) (rows_at key (placed unit list))
unfolding rows_at
rows_placed key rows unit list true is brings = (true, ap rows_of_unit (put_found key unit list is) ∙ brings is)
rows_placed key rows unit list false is brings = (false, ap rows_of_unit (other_placed key unit list is))

either_then : (rows before between now : List Record) (b c : Bool) → between ≡ (if b then rows else before) → now ≡ (if c then rows else between) → IsEither rows before now
either_then rows before between now b true first second = (true, second)
either_then rows before between now b false first second = (b, second ∙ first)

pub rows_taken : (key : UnitKey) (rows : List Record) (list : List units.Unit) (top : ℕ) (batch : List Write) → AllByRecursion (Brings key rows) batch
    → IsEither rows (rows_at key list) (rows_at key (units_after list top batch))
rows_taken key rows list top [] all = (false, refl)
rows_taken key rows list top (write ∷ batch) all =
    let unit : units.Unit = numbered (top + 1) write in
    let first : IsEither rows (rows_at key list) (rows_at key (placed unit list)) = rows_placed key rows unit list (is_eq (key_order write.key key)) refl all.0 in
    let second : IsEither rows (rows_at key (placed unit list)) (rows_at key (units_after (placed unit list) (top + 1) batch)) = rows_taken key rows (placed unit list) (top + 1) batch all.1 in
    either_then rows (rows_at key list) (rows_at key (placed unit list)) (rows_at key (units_after (placed unit list) (top + 1) batch)) first.0 second.0 first.1 second.1
