-- The question of a line, as a client puts it.
use Rattle.std.specs.Prelude.{ℕ, false, None}
use Rattle.dn_name.specs.Name.{Labels}
use Rattle.dn_message.specs.declared.query.Query.{Query}
use Rattle.dn_rdata.specs.Types.{IN}

-- of class IN, with number 0, recursion not desired and no OPT record
abbrev pub question_of : Labels → ℕ → Query
question_of name qtype = record { id = 0; rd = false; name = name; qtype = qtype; qclass = IN; opt = None; signed = false }
