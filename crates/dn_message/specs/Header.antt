-- The header of a message (RFC 1035 4.1.1): six numbers of two bytes.
use Rattle.std.specs.Prelude.{ℕ, ◌/◌, ◌%◌, Bool, nat_eq, List, [], ◌∷◌, Option, slice_get}
use Rattle.dn_rdata.specs.Laid.{Stands}
use Rattle.dn_message.specs.declared.rcode.Rcode.{Rcode}
use Rattle.dn_message.specs.declared.rcode.Rcode.TheVariants.{NoError, FormErr, ServFail, NxDomain, NotImp, Refused, YxDomain, YxRrset, NxRrset, NotAuth, NotZone}
use Rattle.dn_message.specs.Fields.{two_bytes}

-- the bits of the flags: QR, the four of the opcode, AA, TC, RD, RA, three that stand for nothing here, the four of the code
abbrev pub is_reply : ℕ → Bool
is_reply flags = nat_eq (flags / 32768 % 2) 1

abbrev pub opcode : ℕ → ℕ
opcode flags = flags / 2048 % 16

abbrev pub is_authoritative : ℕ → Bool
is_authoritative flags = nat_eq (flags / 1024 % 2) 1

abbrev pub is_truncated : ℕ → Bool
is_truncated flags = nat_eq (flags / 512 % 2) 1

abbrev pub is_recursion_desired : ℕ → Bool
is_recursion_desired flags = nat_eq (flags / 256 % 2) 1

abbrev pub is_recursion_available : ℕ → Bool
is_recursion_available flags = nat_eq (flags / 128 % 2) 1

abbrev pub zero_bits : ℕ → ℕ
zero_bits flags = flags / 16 % 8

abbrev pub rcode_in : ℕ → ℕ
rcode_in flags = flags % 16

-- the number of a code (RFC 1035 4.1.1, RFC 2136 2.2)
abbrev pub number_of_rcode : Rcode → ℕ
number_of_rcode NoError = 0
number_of_rcode FormErr = 1
number_of_rcode ServFail = 2
number_of_rcode NxDomain = 3
number_of_rcode NotImp = 4
number_of_rcode Refused = 5
number_of_rcode YxDomain = 6
number_of_rcode YxRrset = 7
number_of_rcode NxRrset = 8
number_of_rcode NotAuth = 9
number_of_rcode NotZone = 10

-- the codes by their numbers
abbrev pub rcodes : List Rcode
rcodes = NoError ∷ FormErr ∷ ServFail ∷ NxDomain ∷ NotImp ∷ Refused ∷ YxDomain ∷ YxRrset ∷ NxRrset ∷ NotAuth ∷ NotZone ∷ []

abbrev pub rcode_of_number : ℕ → Option Rcode
rcode_of_number number = slice_get rcodes number

-- how many bytes a header has
abbrev pub header_len : ℕ
header_len = 12

-- the message's number, its flags, and how many entries each section has
pub record IsHeader (message : List ℕ) (number flags questions answers authorities additional : ℕ) : Type 0 where
  pub number_stands : Stands message 0 (two_bytes number) 2
  pub flags_stand : Stands message 2 (two_bytes flags) 4
  pub questions_stand : Stands message 4 (two_bytes questions) 6
  pub answers_stand : Stands message 6 (two_bytes answers) 8
  pub authorities_stand : Stands message 8 (two_bytes authorities) 10
  pub additional_stand : Stands message 10 (two_bytes additional) 12
