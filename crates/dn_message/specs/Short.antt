-- A reply of a header alone.
use Rattle.std.specs.Prelude.{ℕ, false, List, []}
use Rattle.dn_message.specs.declared.rcode.Rcode.{Rcode}
use Rattle.dn_message.specs.declared.reply.Reply.{Reply}
use Rattle.dn_message.specs.Header.{is_recursion_desired, number_of_rcode, opcode}
use Rattle.dn_message.specs.Kind.{flags_in, id_in}
use Rattle.dn_message.specs.Pieces.{header_of}

-- the reply with this code to a request: it repeats number, opcode and RD, and has no other flag and no entry
abbrev pub short_of : List ℕ → Rcode → Reply
short_of request rcode = record {
  id = id_in request;
  opcode = opcode (flags_in request);
  aa = false;
  tc = false;
  rd = is_recursion_desired (flags_in request);
  ra = false;
  z = 0;
  rcode = number_of_rcode rcode;
  questions = [];
  answer = [];
  authority = [];
  additional = [];
}

abbrev pub short_bytes : List ℕ → Rcode → List ℕ
short_bytes request rcode = header_of (short_of request rcode)
