-- How the data of a record stand in a stored record (MS-DNSP 2.2.2.2.4), beside their form on the wire: each name in them is
-- a counted name, and what stands behind the names on the wire, an SOA's five numbers, stands before them.
use Rattle.std.specs.Prelude.{◌≡◌, ℕ, ◌+◌, ◌*◌, ◌≤◌, ◌⊎◌, List, [], ◌∷◌, ◌++◌, length}
use Rattle.std.specs.List.{AllByRecursion}
use Rattle.dn_name.specs.Counted.{counted_of}
use Rattle.dn_name.specs.Name.{Labels, IsName, wire_of}
use Rattle.dn_rdata.specs.Layout.{IsData}
use Rattle.dn_rdata.specs.Record.{bytes_before_names, bytes_behind_names, names_in}

-- names on the wire, one behind another
abbrev pub wires_of : List Labels → List ℕ
wires_of [] = []
wires_of (name ∷ names) = wire_of name ++ wires_of names

-- counted names, one behind another
abbrev pub counteds_of : List Labels → List ℕ
counteds_of [] = []
counteds_of (name ∷ names) = counted_of name ++ counteds_of names

-- Data of a type with names, by the table: one name of NS, CNAME and PTR; of an MX behind its preference, of an SRV behind its
-- priority, weight and port; two of an SOA, before its five numbers on the wire and behind them as stored.
pub record HasNames (rtype : ℕ) (stored rdata : List ℕ) : Type 0 where
  pub before : List ℕ
  pub behind : List ℕ
  pub names : List Labels
  pub before_len : length before ≡ bytes_before_names rtype
  pub behind_len : length behind ≡ bytes_behind_names rtype
  pub count : length names ≡ names_in rtype
  pub named : AllByRecursion IsName names
  pub wire_is : rdata ≡ before ++ (wires_of names ++ behind)
  pub stored_is : stored ≡ before ++ (behind ++ counteds_of names)

-- the stored form of a type's data: without names the same bytes, which are data of the type
abbrev pub IsStored : ℕ → List ℕ → List ℕ → Type 0
IsStored rtype stored rdata =
    ((names_in rtype ≡ 0) × (stored ≡ rdata) × IsData rtype rdata) ⊎ ((1 ≤ names_in rtype) × HasNames rtype stored rdata)

-- stored data are the form of one rdata at most
abbrev pub StoredIsReadOnce : Type 0
StoredIsReadOnce = (rtype : ℕ) (stored rdata other : List ℕ) → IsStored rtype stored rdata → IsStored rtype stored other → rdata ≡ other

-- data have one stored form at most
abbrev pub StoredIsWrittenOnce : Type 0
StoredIsWrittenOnce = (rtype : ℕ) (stored other rdata : List ℕ) → IsStored rtype stored rdata → IsStored rtype other rdata → stored ≡ other

-- data that have a stored form are valid for their type
abbrev pub StoredIsData : Type 0
StoredIsData = (rtype : ℕ) (stored rdata : List ℕ) → IsStored rtype stored rdata → IsData rtype rdata

-- valid data have a stored form
abbrev pub DataAreStored : Type 0
DataAreStored = (rtype : ℕ) (rdata : List ℕ) → IsData rtype rdata → (stored : List ℕ) × IsStored rtype stored rdata

-- the stored form has two bytes more for each name
abbrev pub StoredIsSized : Type 0
StoredIsSized = (rtype : ℕ) (stored rdata : List ℕ) → IsStored rtype stored rdata → length stored ≡ length rdata + 2 * names_in rtype
