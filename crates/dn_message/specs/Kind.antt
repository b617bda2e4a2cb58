-- Which kind of message bytes are, by their header alone (RFC 1035 4.1.1, RFC 2136 1.3).
use Rattle.std.specs.Prelude.{ℕ, ◌+◌, ◌*◌, nat_eq, nat_lt, if◌then◌else◌, List, length, get_or}
use Rattle.dn_message.specs.declared.kind.Kind.{Kind}
use Rattle.dn_message.specs.declared.kind.Kind.TheVariants as kinds
use Rattle.dn_message.specs.Header.{is_reply, opcode}

-- the message's number, in its first two bytes
abbrev pub id_in : List ℕ → ℕ
id_in message = 256 * get_or message 0 0 + get_or message 1 0

-- the number of two bytes behind the first two
abbrev pub flags_in : List ℕ → ℕ
flags_in message = 256 * get_or message 2 0 + get_or message 3 0

abbrev pub kind_of_opcode : ℕ → Kind
kind_of_opcode number = if nat_eq number 0 then kinds.Query else if nat_eq number 5 then kinds.Update else kinds.Other number

-- a message without a whole header is passed over in silence, and so is a reply
abbrev pub kind_of : List ℕ → Kind
kind_of message =
    if nat_lt (length message) 12 then kinds.Silent
    else if is_reply (flags_in message) then kinds.Silent
    else kind_of_opcode (opcode (flags_in message))
