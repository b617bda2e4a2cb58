-- The grammar of a query (RFC 1035 4.1, RFC 6891 6.1).
use Rattle.std.specs.Prelude.{◌≡◌, ℕ, ◌+◌, ◌/◌, ◌%◌, Bool, nat_eq, List, [], ◌∷◌, ◌++◌, length, Option, None, Some}
use Rattle.std.specs.List.{filter, list_any}
use Rattle.dn_name.specs.Spelled.{Spelled}
use Rattle.dn_rdata.specs.Laid.{Stands}
use Rattle.dn_message.specs.declared.query.Opt.{Opt}
use Rattle.dn_message.specs.declared.query.Query.{Query}
use Rattle.dn_message.specs.declared.rr.Rr.{Rr}
use Rattle.dn_message.specs.Fields.{two_bytes}
use Rattle.dn_message.specs.Header.{IsHeader, is_recursion_desired}
use Rattle.dn_message.specs.Record.{AreRrs, any_data}

-- a record of type OPT
abbrev pub is_opt : Rr → Bool
is_opt row = nat_eq row.rtype 41

-- a record of type TSIG
abbrev pub is_signature : Rr → Bool
is_signature row = nat_eq row.rtype 250

-- what an OPT record says: its class is a size, the second byte of its time to live a version
abbrev pub opt_of : Rr → Opt
opt_of row = record { size = row.rclass; version = row.ttl / 65536 % 256 }

-- there is no OPT record, or one, which says this
abbrev pub HasOpt : List Rr → Option Opt → Type 0
HasOpt opts None = opts ≡ []
HasOpt opts (Some opt) = (row : Rr) × (opts ≡ row ∷ []) × (opt ≡ opt_of row)

-- All bytes of the message are this query: the header with one question, no answer and no authority record; the question;
-- and additional records of any data, behind which nothing stands. The flags other than RD are any.
pub record IsQuery (message : List ℕ) (query : Query) : Type 0 where
  pub flags : ℕ
  pub additional : List Rr
  pub header : IsHeader message query.id flags 1 0 0 (length additional)
  pub rd_is : query.rd ≡ is_recursion_desired flags
  pub behind : ℕ
  pub name_spelled : Spelled message 12 query.name behind
  pub type_and_class : Stands message behind (two_bytes query.qtype ++ two_bytes query.qclass) (behind + 4)
  pub records : AreRrs any_data message (behind + 4) additional (length message)
  pub opt_is : HasOpt (filter is_opt additional) query.opt
  pub signed_is : query.signed ≡ list_any is_signature additional
