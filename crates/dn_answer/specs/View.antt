-- A zone as it is seen where a question is answered.
use Rattle.std.specs.Prelude.{ℕ}
use Rattle.std.specs.List.{AllByRecursion}
use Rattle.dn_name.specs.Name.{IsName, Labels}
use Rattle.dn_rdata.specs.Layout.{IsData}
use Rattle.dn_store.specs.Contents.{rows_in}
use Rattle.dn_store.specs.Table.{TableState}
use Rattle.dn_store.specs.Valid.{IsNamedKey}
use Rattle.dn_answer.specs.declared.reply.AnswerValue.{AnswerValue}
use Rattle.dn_answer.specs.Answer.{answer_of}

-- its name, the own name of the replica that answers, and its units with the change count
pub record ZoneSeen : Type 0 where
  pub apex : Labels
  pub host : Labels
  pub table : TableState

-- the reply to a question of class IN
abbrev pub seen_reply : ZoneSeen → Labels → ℕ → AnswerValue
seen_reply zone name qtype = answer_of zone.table zone.apex zone.host name qtype

-- the host is a name, the zone's records have data of their types, and its nodes' keys are names
pub record IsServable (zone : ZoneSeen) : Type 0 where
  pub host : IsName zone.host
  pub data_valid : AllByRecursion (λ unit. AllByRecursion (λ row. IsData row.rtype row.rdata) (rows_in unit.value)) zone.table.0
  pub named : AllByRecursion (λ unit. IsNamedKey unit.key) zone.table.0
