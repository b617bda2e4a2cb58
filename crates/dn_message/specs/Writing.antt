-- The bytes of a query, as they are written.
use Rattle.std.specs.Prelude.{◌≡◌, ℕ, ◌+◌, ◌*◌, ◌≤◌, Bool, if◌then◌else◌, List, [], ◌∷◌, ◌++◌, length, take, drop, Option, None, Some}
use Rattle.dn_name.specs.Name.{wire_of}
use Rattle.dn_message.specs.declared.query.Opt.{Opt}
use Rattle.dn_message.specs.declared.query.Query.{Query}
use Rattle.dn_message.specs.declared.rr.Rr.{Rr}
use Rattle.dn_message.specs.Fields.{two_bytes}

-- the OPT record: the root's name, no data, the version in the second byte of the time to live
abbrev pub opt_row : Opt → Rr
opt_row opt = record { name = []; rtype = 41; rclass = opt.size; ttl = 65536 * opt.version; rdata = [] }

abbrev pub opt_bytes : Opt → List ℕ
opt_bytes opt = 0 ∷ (0 ∷ (41 ∷ (two_bytes opt.size ++ (0 ∷ (opt.version ∷ (0 ∷ (0 ∷ (0 ∷ (0 ∷ [])))))))))

abbrev pub additional_of : Option Opt → List Rr
additional_of None = []
additional_of (Some opt) = opt_row opt ∷ []

abbrev pub additional_bytes : Option Opt → List ℕ
additional_bytes None = []
additional_bytes (Some opt) = opt_bytes opt

-- id, flags with RD alone, one question, no answer, no authority record
abbrev pub header_bytes : ℕ → Bool → Option Opt → List ℕ
header_bytes id rd opt = two_bytes id ++ ((if rd then 1 else 0) ∷ (0 ∷ (0 ∷ (1 ∷ (0 ∷ (0 ∷ (0 ∷ (0 ∷ (0 ∷ (length (additional_of opt) ∷ []))))))))))

abbrev pub kind_bytes : ℕ → ℕ → List ℕ
kind_bytes qtype qclass = two_bytes qtype ++ two_bytes qclass

unfoldable pub query_bytes : Query → List ℕ
query_bytes query = ((header_bytes query.id query.rd query.opt ++ wire_of query.name) ++ kind_bytes query.qtype query.qclass) ++ additional_bytes query.opt

-- behind the front of the buffer the piece was written, up to the place `next`; what stands behind is as it was
pub record Appends (at : ℕ) (old piece : List ℕ) (next : ℕ) (new : List ℕ) : Type 0 where
  pub next_is : next ≡ at + length piece
  pub within : next ≤ length new
  pub front : take next new ≡ take at old ++ piece
  pub rest : drop next new ≡ drop next old
