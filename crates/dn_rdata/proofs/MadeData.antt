-- Data that a server makes are valid: an address, the name of a server, and an SOA's two names and twenty bytes.
use Rattle.std.proofs.Common.{◌≡◌, ℕ, List, [], ◌∷◌, ◌++◌, length, refl, sym, append-nil, append_assoc}
use Rattle.dn_name.specs.Name.{IsName, Labels, wire_of}
use Rattle.dn_rdata.specs.Layout.{AreParts, IsData}
use Rattle.dn_rdata.specs.Types.{A, NS, SOA}
use Rattle.dn_rdata.specs.declared.parts.Part.TheVariants.{Bytes}

-- bytes alone
only_bytes : (count : ℕ) (bytes : List ℕ) → length bytes ≡ count → AreParts (Bytes count ∷ []) bytes
only_bytes count bytes is = ([], (bytes, sym (append-nil bytes), is), refl)

pub address_data : (rdata : List ℕ) → length rdata ≡ 4 → IsData A rdata
address_data rdata is = only_bytes 4 rdata is

pub server_data : (host : Labels) → IsName host → IsData NS (wire_of host)
server_data host named = ([], (wire_of host, sym (append-nil (wire_of host)), (host, named, refl)), refl)

pub start_data : (host mailbox : Labels) (numbers : List ℕ) → IsName host → IsName mailbox → length numbers ≡ 20 → IsData SOA (wire_of host ++ wire_of mailbox ++ numbers)
start_data host mailbox numbers named boxed is = (
  wire_of mailbox ++ numbers,
  (wire_of host, append_assoc (wire_of host) (wire_of mailbox) numbers, (host, named, refl)),
  (numbers, (wire_of mailbox, refl, (mailbox, boxed, refl)), only_bytes 20 numbers is),
)
