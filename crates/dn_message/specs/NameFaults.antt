-- What is wrong with a message where the fault is a name's.
use Rattle.std.specs.Prelude.{◌≡◌, ℕ, List}
use Rattle.dn_name.specs.FirstFault.{IsFirstFault}
use Rattle.dn_name.specs.Name.{Labels}
use Rattle.dn_name.specs.Spelled.{Spelled}
use Rattle.dn_name.specs.declared.error.NameFault.{NameFault}
use Rattle.dn_message.specs.declared.error.FormError.{FormError}
use Rattle.dn_message.specs.declared.error.FormFault.TheVariants.{Name}
use Rattle.dn_message.specs.Header.{IsHeader}

-- no name is spelled at the place
abbrev pub HasNoName : List ℕ → ℕ → Type 0
HasNoName message at = (found : Labels × ℕ) → Spelled message at found.0 found.1 → ⊥

-- the error is what is wrong first with the name at the place
abbrev pub IsFaultOfName : List ℕ → ℕ → FormError → Type 0
IsFaultOfName message at error = (kind : NameFault) × (error.kind ≡ Name kind) × IsFirstFault message at kind error.place

-- the header is one of a query: one question, no answer and no authority record
abbrev pub HasQueryHeader : List ℕ → Type 0
HasQueryHeader message = (number flags additional : ℕ) × IsHeader message number flags 1 0 0 additional
