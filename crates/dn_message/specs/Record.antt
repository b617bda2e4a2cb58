-- Records of a message (RFC 1035 4.1.3), whose names are spelled in the whole message.
use Rattle.std.specs.Prelude.{◌≡◌, ℕ, ◌+◌, ◌&&◌, not, nat_eq, if◌then◌else◌, List, [], ◌∷◌, ◌++◌}
use Rattle.dn_name.specs.Spelled.{Spelled}
use Rattle.dn_rdata.specs.Laid.{Laid, Stands}
use Rattle.dn_rdata.specs.Layout.{parts_of}
use Rattle.dn_rdata.specs.Types.{IN}
use Rattle.dn_rdata.specs.declared.parts.Part.{Part}
use Rattle.dn_rdata.specs.declared.parts.Part.TheVariants.{Rest}
use Rattle.dn_message.specs.declared.rr.Rr.{Rr}
use Rattle.dn_message.specs.Fields.{four_bytes, two_bytes}

-- the ten bytes between a record's name and its data: type, class, time to live, and how many bytes the data have
abbrev pub fields : ℕ → ℕ → ℕ → ℕ → List ℕ
fields rtype rclass ttl len = two_bytes rtype ++ (two_bytes rclass ++ (four_bytes ttl ++ two_bytes len))

-- Of which parts a record's data consist, by its type and its class. Which it is depends on the section.
abbrev pub Form : Type 0
Form = ℕ → ℕ → List Part

-- any bytes
abbrev pub any_data : Form
any_data rtype rclass = Rest ∷ []

-- those of its type where the class is IN, any bytes else; a tombstone's type 0 has no form in a message
abbrev pub typed_data : Form
typed_data rtype rclass = if nat_eq rclass IN && not (nat_eq rtype 0) then parts_of rtype else Rest ∷ []

-- The record stands at a place of the message, and `next` is the place behind it: its name, the fields, and as many bytes
-- of data as these say, whose parts are of the form.
pub record IsRr (form : Form) (message : List ℕ) (at : ℕ) (row : Rr) (next : ℕ) : Type 0 where
  pub behind : ℕ
  pub len : ℕ
  pub name_spelled : Spelled message at row.name behind
  pub fields_stand : Stands message behind (fields row.rtype row.rclass row.ttl len) (behind + 10)
  pub data_laid : Laid message (behind + 10) next (form row.rtype row.rclass) row.rdata
  pub next_is : next ≡ behind + 10 + len

-- entries one behind the other, from a place up to another, each of which `Is` there
abbrev pub Follow : {Entry : Type 0} → (ℕ → Entry → ℕ → Type 0) → ℕ → List Entry → ℕ → Type 0
Follow Is at [] next = next ≡ at
Follow Is at (entry ∷ entries) next = (behind : ℕ) × Is at entry behind × Follow Is behind entries next

-- records one behind the other
abbrev pub AreRrs : Form → List ℕ → ℕ → List Rr → ℕ → Type 0
AreRrs form message = Follow (IsRr form message)
