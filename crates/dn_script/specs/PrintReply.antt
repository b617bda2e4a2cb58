-- What a script prints of a reply.
use Rattle.std.specs.Prelude.{ℕ, Bool, true, false, List, ◌++◌, length, flat_map, codes}
use Rattle.dn_message.specs.declared.rcode.Rcode.{Rcode}
use Rattle.dn_message.specs.declared.rcode.Rcode.TheVariants.{NoError, FormErr, ServFail, NxDomain, NotImp, Refused, YxDomain, YxRrset, NxRrset, NotAuth, NotZone}
use Rattle.dn_message.specs.declared.rr.Rr.{Rr}
use Rattle.dn_answer.specs.declared.reply.AnswerValue.{AnswerValue}
use Rattle.dn_word.specs.Print.{as_line, count_text}
use Rattle.dn_text.specs.Rows.{row_text}

abbrev pub rcode_text : Rcode → List ℕ
rcode_text NoError = codes "NOERROR"
rcode_text FormErr = codes "FORMERR"
rcode_text ServFail = codes "SERVFAIL"
rcode_text NxDomain = codes "NXDOMAIN"
rcode_text NotImp = codes "NOTIMP"
rcode_text Refused = codes "REFUSED"
rcode_text YxDomain = codes "YXDOMAIN"
rcode_text YxRrset = codes "YXRRSET"
rcode_text NxRrset = codes "NXRRSET"
rcode_text NotAuth = codes "NOTAUTH"
rcode_text NotZone = codes "NOTZONE"

abbrev pub bit : Bool → List ℕ
bit true = codes "1"
bit false = codes "0"

-- the code and the flags of a reply
unfoldable pub flags_text : AnswerValue → List ℕ
flags_text reply = codes "status " ++ rcode_text reply.rcode ++ codes " aa " ++ bit reply.aa ++ codes " tc " ++ bit reply.tc

-- how many rows a reply has
unfoldable pub counts_text : AnswerValue → List ℕ
counts_text reply =
    count_text (codes " answer ") (length reply.answer) ++ count_text (codes " authority ") (length reply.authority)
    ++ count_text (codes " additional ") (length reply.additional)

-- the line that says what a reply is
unfoldable pub status_text : AnswerValue → List ℕ
status_text reply = flags_text reply ++ counts_text reply

-- the line of a row
unfoldable pub row_line : Rr → List ℕ
row_line row = as_line (row_text row.name row.ttl row.rtype row.rdata)

-- the lines of a reply: what it is, and then its rows
unfoldable pub reply_text : AnswerValue → List ℕ
reply_text reply =
    as_line (status_text reply) ++ flat_map row_line reply.answer ++ flat_map row_line reply.authority ++ flat_map row_line reply.additional
